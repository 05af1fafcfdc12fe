use Rattle.simplify_spec.specs.OneOperator.{held_at, each_to}
use mathlib.Core.Bool.{true}
use mathlib.Core.Path.{◌≡◌}
use Rattle.expr_simplify.proofs.each.Given as goal

abbrev pub invariant-loop-k : goal.invariant-loop-k
invariant-loop-k l = each_to l.n (held_at l.items l.held) l.fn.t l.k ≡ record { st = l.t; ok = true; ats = l.ats }
