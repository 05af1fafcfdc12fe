-- What the theorems about simplifying speak of: tables of a plan that keeps the rules, tables that grew, an expression at which nothing is left to
-- simplify, and two values that are alike. Assumes nothing.
use Rattle.std.specs.Prelude.{◌≡◌, Bool, true, ℕ, ◌<◌}
use Rattle.scalar.specs.declared.Kind.{Kind}
use Rattle.scalar.specs.declared.Kind.TheVariants as K
use Rattle.scalar.specs.declared.ScalarValue.{ScalarValue}
use Rattle.scalar.specs.declared.ScalarValue.TheVariants as S
use Rattle.plan.specs.declared.Plan.{Plan}
use Rattle.plan.specs.Extends.{Extends, Sized}
use Rattle.plan_rules.proofs.RuleLaws.{Rules}
use Rattle.plan_data.specs.Nodes.{operands_of}
use Rattle.rows_spec.specs.Typing.{kind_at, boolean_at, node_typed}
use Rattle.rows_spec.specs.Evaluate.{value_on}
use Rattle.rows_spec.specs.declared.Row.{Row}
use Rattle.simplify_spec.specs.OneExpression.{node_in, kept, simplify_at}
use Rattle.simplify_spec.specs.OneOperator.{plan_with}
use Rattle.simplify_spec.specs.declared.Tables.{Tables}

-- a value, every NULL being the same
abbrev pub bare : ScalarValue → ScalarValue
bare (S.Null k) = S.Null K.Boolean
bare (S.Boolean b) = S.Boolean b
bare (S.Int32 n) = S.Int32 n
bare (S.Int64 n) = S.Int64 n
bare (S.Float64 x) = S.Float64 x
bare (S.Date32 n) = S.Date32 n

-- two values are the same, or NULLs of whatever kind
abbrev pub Alike : ScalarValue → ScalarValue → Type 0
Alike v w = bare v ≡ bare w

-- the plan with these tables keeps the rules
pub record Good (p : Plan) (st : Tables) : Type 0 where
  pub rules : Rules (plan_with p st)
  pub sized : Sized (plan_with p st)

-- it still does with the tables t, which have all that st has where st has it
pub record Grown (p : Plan) (st t : Tables) : Type 0 where
  pub extends : Extends (plan_with p st) (plan_with p t)
  pub good : Good p t

-- simplifying h gives h and appends nothing, now and in whatever the tables grow to
abbrev pub Fixed : Plan → Tables → ℕ → Type 0
Fixed p st h = (t : Tables) → Grown p st t → simplify_at h t ≡ kept t h

-- the value of the expression h on a row
abbrev pub value_in : Plan → Tables → Row → ℕ → ScalarValue
value_in p st row h = value_on (plan_with p st) row h

abbrev pub kind_in : Plan → Tables → ℕ → Kind
kind_in p st h = kind_at p.columns.kind (node_in st) h

-- the members of a set are typed: each is built from members of the set, by the rule of its node
abbrev pub TypedIn : Plan → (ℕ → Bool) → Tables → Type 0
TypedIn p S st =
    (k : ℕ) → k < st.exprs.count → S k ≡ true → node_typed S (boolean_at p.columns.kind (node_in st)) (operands_of st.items.a) (node_in st k) ≡ true
