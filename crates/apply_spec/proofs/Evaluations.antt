-- What the evaluator answers of a row is what facts take for the truth of a predicate. Assumes nothing.
use Rattle.std.proofs.Common.{Ok, Err, Result}
use mathlib.Core.Path.{◌≡◌, sym, ap, ◌∙◌}
use mathlib.Core.Bool.{Bool, true, false, cond, ◌&&◌}
use mathlib.Core.Logic.{◌↔◌}
use Prim.Native.Nat.{ℕ}
use native.Mathlib.Omega.{arith}
use lib.Dec.{ltb}
use Rattle.scalar.specs.declared.ScalarValue.{ScalarValue}
use Rattle.plan.specs.declared.Plan.{Plan}
use Rattle.plan.specs.declared.Expr.{Expr}
use Rattle.plan_rules.specs.Rules.{plan_ok}
use Rattle.rows_spec.specs.Compare.{truth_of}
use Rattle.rows_spec.specs.Cells.{cell_at, row_ok}
use Rattle.rows_spec.specs.Evaluate.{value_on, typed, evaluate_of, refusal_of, value_found}
use Rattle.rows_spec.specs.declared.Row.{Row}
use Rattle.rows_spec.specs.declared.EvaluationError.{EvaluationError}
use Rattle.rows_spec.specs.declared.EvaluationError.TheVariants.{NoSuch, Untyped, BadRow}
use Rattle.apply_spec.specs.Meaning.{On}

-- an evaluated predicate is TRUE of a row exactly where the evaluator answers TRUE. Assumes nothing
pub evaluated-on : (p : Plan) (e : Expr) (row : Row) (ids : ℕ → ScalarValue) (v : ScalarValue) → evaluate_of p e row ≡ Ok v
    → On p (record { cols = cell_at row; ids = ids }) e.0 ↔ (truth_of v ≡ 2)
unfolding evaluate_of
evaluated-on p e row ids v q =
    let k = ap truth_of (go (plan_ok p && ltb e.0 p.expressions.count) (typed p e.0) (row_ok p row) q) in
    (λ o. sym k ∙ o, λ t. k ∙ t)
  where
    refused : {X : Type 0} (x : Result ScalarValue EvaluationError) → (refusal_of x ≡ 0 → ⊥) → x ≡ Ok v → X
    refused x f q = absurd (f (ap refusal_of q))

    go : (a b c : Bool) → cond a (cond b (cond c (Ok (value_on p row e.0)) (Err BadRow)) (Err Untyped)) (Err NoSuch) ≡ Ok v → value_on p row e.0 ≡ v
    go true true true q = ap value_found q
    go true true false q = refused (Err BadRow) (λ z. absurd (omega (arith, z))) q
    go true false c q = refused (Err Untyped) (λ z. absurd (omega (arith, z))) q
    go false b c q = refused (Err NoSuch) (λ z. absurd (omega (arith, z))) q
