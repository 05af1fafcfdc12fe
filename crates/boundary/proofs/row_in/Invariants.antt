use mathlib.Core.Path.{◌≡◌}
use Rattle.boundary.specs.Replies.{cells_to}
use Rattle.boundary.proofs.row_in.Given as goal

abbrev pub invariant-loop-c : goal.invariant-loop-c
invariant-loop-c l = l.cells ≡ cells_to l.case l.code l.bits l.c
