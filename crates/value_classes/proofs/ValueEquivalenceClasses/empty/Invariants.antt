use Rattle.std.proofs.Common.{◌≡◌, length, take}
use Rattle.value_classes.specs.Parents.{each}
use Rattle.value_classes.proofs.RootLaws.{own}
use Rattle.value_classes.proofs.ValueEquivalenceClasses.empty.Given as goal

abbrev pub invariant-loop-i : goal.invariant-loop-i
invariant-loop-i l = (length l.parents ≡ 128) × (take l.i l.parents ≡ each own l.i)
