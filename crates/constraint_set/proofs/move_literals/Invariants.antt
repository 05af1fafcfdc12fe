use Rattle.std.proofs.Common.{◌≡◌}
use Rattle.constraint_set.proofs.Loops.{literals_after}
use Rattle.constraint_set.proofs.move_literals.Given as goal

abbrev pub invariant-loop-i : goal.invariant-loop-i
invariant-loop-i l = l.s ≡ literals_after l.fn.s l.i
