use Rattle.std.proofs.Common.{◌≡◌, true}
use Rattle.constraint_spec.specs.Sets.{room_to}
use Rattle.constraint_merge.proofs.Merging.{handles_laid}
use Rattle.constraint_merge.proofs.merge_residuals.Given as goal

abbrev pub invariant-loop-handle : goal.invariant-loop-handle
invariant-loop-handle l = (l.s ≡ handles_laid l.other.residual_predicates l.fn.s l.handle-index)
    × (room_to l.fn.s l.other.residual_predicates l.handle-index ≡ true)
