-- handles fall on the way down, and the operands that are left fall in a run
use Prim.Native.Nat.{◌+◌, ◌*◌}
use Rattle.simplify_expr.proofs.+simplify_expr.Given as goal

abbrev pub decreases-simplify_in : goal.decreases-simplify_in
decreases-simplify_in l = l.h * 1048576

abbrev pub decreases-simplify_nary : goal.decreases-simplify_nary
decreases-simplify_nary l = l.h * 1048576 + 65536

abbrev pub decreases-simplify_operands : goal.decreases-simplify_operands
decreases-simplify_operands l = l.h * 1048576 + l.left
