-- A plan that keeps the rules has at most 1,024 expressions: as many as one pass over them has room for. Assumes nothing.
use mathlib.Core.Path.{◌≡◌}
use mathlib.Core.Bool.{true}
use Prim.Native.Nat.{◌≤◌}
use Rattle.laws.proofs.Bools.{and_left}
use Rattle.plan.specs.declared.Plan.{Plan}
use Rattle.plan_rules.specs.Rules.{counts_ok, plan_ok}
use Rattle.plan_rules.proofs.Parts.{exprs-within}

pub few_exprs : (p : Plan) → plan_ok p ≡ true → p.expressions.count ≤ 1024
unfolding plan_ok
few_exprs p h =
    exprs-within p.columns.count p.expressions.count p.operators.count p.items.count (and_left (counts_ok p) _ h)
