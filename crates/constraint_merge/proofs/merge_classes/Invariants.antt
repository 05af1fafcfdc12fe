use Rattle.std.proofs.Common.{◌≡◌, true}
use Rattle.constraint_set.specs.Settled.{Settled}
use Rattle.constraint_merge.proofs.Merging.{classes_laid}
use Rattle.constraint_merge.proofs.merge_classes.Given as goal

abbrev pub invariant-loop-root : goal.invariant-loop-root
invariant-loop-root l = (l.s ≡ classes_laid l.members l.fn.s l.root) × (l.settled ≡ true → Settled l.s)
