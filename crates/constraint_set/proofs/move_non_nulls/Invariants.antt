use Rattle.std.proofs.Common.{◌≡◌}
use Rattle.constraint_set.proofs.Loops.{nulls_after}
use Rattle.constraint_set.proofs.move_non_nulls.Given as goal

abbrev pub invariant-loop-i : goal.invariant-loop-i
invariant-loop-i l = l.s ≡ nulls_after l.fn.s l.i
