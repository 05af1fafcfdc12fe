use Rattle.std.proofs.Common.{◌≡◌}
use Rattle.constraint_merge.proofs.Merging.{ranges_laid}
use Rattle.constraint_merge.proofs.merge_ranges.Given as goal

abbrev pub invariant-loop-i : goal.invariant-loop-i
invariant-loop-i l = l.s ≡ ranges_laid l.others l.fn.s l.i
