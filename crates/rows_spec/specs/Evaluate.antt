-- What evaluating an expression of a plan on a row answers. Assumes nothing.
use Rattle.std.specs.Prelude.{Bool, cond, ◌&&◌, ℕ, ltb, Ok, Err, Result}
use Rattle.plan.specs.declared.Plan.{Plan}
use Rattle.plan.specs.declared.Expr.{Expr}
use Rattle.plan_rules.specs.Rules.{plan_ok}
use Rattle.plan_data.specs.Nodes.{node_at}
use Rattle.scalar.specs.declared.Kind.TheVariants as K
use Rattle.scalar.specs.declared.ScalarValue.{ScalarValue}
use Rattle.scalar.specs.declared.ScalarValue.TheVariants as S
use Rattle.rows_spec.specs.Values.{value_at}
use Rattle.rows_spec.specs.Typing.{boolean_at, typed_at}
use Rattle.rows_spec.specs.Cells.{cell_at, row_ok}
use Rattle.rows_spec.specs.declared.Row.{Row}
use Rattle.rows_spec.specs.declared.EvaluationError.{EvaluationError}
use Rattle.rows_spec.specs.declared.EvaluationError.TheVariants.{NoSuch, Untyped, BadRow}

-- the value of the expression h of a plan on a row
abbrev pub value_on : Plan → Row → ℕ → ScalarValue
value_on p row h = value_at (cell_at row) (node_at p) p.items.a h

-- the whole is Boolean, and it is typed
abbrev pub typed : Plan → ℕ → Bool
typed p h = boolean_at p.columns.kind (node_at p) h && typed_at p.columns.kind (node_at p) p.items.a h

-- 8, then 9, then 10
unfoldable pub evaluate_of : Plan → Expr → Row → Result ScalarValue EvaluationError
evaluate_of p e row =
    cond (plan_ok p && ltb e.0 p.expressions.count)
    (cond (typed p e.0) (cond (row_ok p row) (Ok (value_on p row e.0)) (Err BadRow)) (Err Untyped))
    (Err NoSuch)

-- the number of a refusal, 0 for none
abbrev pub refusal_of : Result ScalarValue EvaluationError → ℕ
refusal_of (Ok v) = 0
refusal_of (Err NoSuch) = 8
refusal_of (Err Untyped) = 9
refusal_of (Err BadRow) = 10

-- the value, the NULL of Boolean for none
abbrev pub value_found : Result ScalarValue EvaluationError → ScalarValue
value_found (Ok v) = v
value_found (Err NoSuch) = S.Null K.Boolean
value_found (Err Untyped) = S.Null K.Boolean
value_found (Err BadRow) = S.Null K.Boolean
