use Rattle.std.proofs.Common.{◌≡◌, length, take}
use Rattle.value_classes.specs.Parents.{root_of, each}
use Rattle.value_classes.proofs.ValueEquivalenceClasses.roots.Given as goal

abbrev pub invariant-loop-i : goal.invariant-loop-i
invariant-loop-i l = (length l.of ≡ 128) × (take l.i l.of ≡ each (root_of l.self.parents) l.i)
