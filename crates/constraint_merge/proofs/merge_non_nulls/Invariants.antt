use Rattle.std.proofs.Common.{◌≡◌}
use Rattle.constraint_merge.proofs.Merging.{nulls_laid}
use Rattle.constraint_merge.proofs.merge_non_nulls.Given as goal

abbrev pub invariant-loop-i : goal.invariant-loop-i
invariant-loop-i l = l.s ≡ nulls_laid l.others l.fn.s l.i
