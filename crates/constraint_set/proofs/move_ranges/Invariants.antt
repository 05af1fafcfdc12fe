use Rattle.std.proofs.Common.{◌≡◌}
use Rattle.constraint_set.proofs.Loops.{ranges_after}
use Rattle.constraint_set.proofs.move_ranges.Given as goal

abbrev pub invariant-loop-i : goal.invariant-loop-i
invariant-loop-i l = l.s ≡ ranges_after l.fn.s l.i
