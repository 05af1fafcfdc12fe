-- The residuals that a predicate leaves by the Rust's list, which has no bound. What is recorded otherwise hangs on the plan and the lineage, and
-- not on what was recorded before. Assumes nothing.
use Rattle.std.specs.Prelude.{ℕ, Bool, true, false, cond, ◌&&◌, ◌||◌, List, [], ◌∷◌, Some, None, Option, Float}
use Rattle.scalar.specs.Scalars.{scalar_to_f64}
use Rattle.scalar.specs.declared.ScalarValue.{ScalarValue}
use Rattle.scalar.specs.declared.ScalarValue.TheVariants as S
use Rattle.comparison.specs.Operators.{ordinary}
use Rattle.comparison.specs.declared.BinaryOp.{BinaryOp}
use Rattle.comparison.specs.declared.BinaryOp.TheVariants.{Eq, NotEq, Lt, LtEq, Gt, GtEq, IsNotDistinctFrom}
use Rattle.constraint_spec.specs.Room.{listed, pushed}
use Rattle.constraint_spec.specs.declared.ConstraintSet.{ConstraintSet}
use Rattle.plan.specs.declared.Plan.{Plan}
use Rattle.plan_data.specs.Nodes.{node_at}
use Rattle.plan_data.specs.declared.ExprData.{ExprData}
use Rattle.plan_data.specs.declared.ExprData.TheVariants.{Literal, ColumnRef, Unary, Binary, Nary}
use Rattle.apply_spec.specs.Conjuncts.{conjuncts_of}
use Rattle.apply_spec.specs.Apply.{seen_of, is_null_literal}
use Rattle.apply_spec.specs.declared.Seen.{Seen}
use Rattle.apply_spec.specs.declared.Seen.TheVariants.{Identity, Constant, Unseen}

-- a literal gives bounds
abbrev pub gives : Option Float → Bool
gives None = false
gives (Some x) = true

-- two columns with lineage: Eq and IsNotDistinctFrom join classes
abbrev pub pair_recorded : BinaryOp → Bool
pair_recorded Eq = true
pair_recorded NotEq = false
pair_recorded Lt = false
pair_recorded LtEq = false
pair_recorded Gt = false
pair_recorded GtEq = false
pair_recorded IsNotDistinctFrom = true

-- a column with lineage and a literal, on whichever side: Eq records the literal, the four that bound a literal that gives bounds
abbrev pub literal_recorded : BinaryOp → ScalarValue → Bool
literal_recorded Eq v = true
literal_recorded NotEq v = false
literal_recorded Lt v = gives (scalar_to_f64 v)
literal_recorded LtEq v = gives (scalar_to_f64 v)
literal_recorded Gt v = gives (scalar_to_f64 v)
literal_recorded GtEq v = gives (scalar_to_f64 v)
literal_recorded IsNotDistinctFrom v = false

abbrev pub operands_recorded : BinaryOp → Seen → Seen → Bool
operands_recorded op (Identity i) (Identity j) = pair_recorded op
operands_recorded op (Identity i) (Constant v) = literal_recorded op v
operands_recorded op (Identity i) Unseen = false
operands_recorded op (Constant v) (Identity j) = literal_recorded op v
operands_recorded op (Constant v) (Constant w) = false
operands_recorded op (Constant v) Unseen = false
operands_recorded op Unseen (Identity j) = false
operands_recorded op Unseen (Constant w) = false
operands_recorded op Unseen Unseen = false

-- an ordinary comparison with a Null literal sets the flag
unfoldable pub comparison_recorded : BinaryOp → Seen → Seen → Bool
comparison_recorded op l r = (ordinary op && (is_null_literal l || is_null_literal r)) || operands_recorded op l r

-- a literal: true, false and Null are no residuals
abbrev pub constant_recorded : ScalarValue → Bool
constant_recorded (S.Null k) = true
constant_recorded (S.Boolean b) = true
constant_recorded (S.Int32 n) = false
constant_recorded (S.Int64 n) = false
constant_recorded (S.Float64 x) = false
constant_recorded (S.Date32 n) = false

abbrev pub node_recorded : List ℕ → (ℕ → ExprData) → ExprData → Bool
node_recorded lineage node (Literal v) = constant_recorded v
node_recorded lineage node (ColumnRef c) = false
node_recorded lineage node (Unary op e) = false
node_recorded lineage node (Binary op l r) = comparison_recorded op (seen_of lineage (node l.0)) (seen_of lineage (node r.0))
node_recorded lineage node (Nary op r) = false

-- the conjunct h leaves no residual
unfoldable pub conjunct_recorded : List ℕ → (ℕ → ExprData) → ℕ → Bool
conjunct_recorded lineage node h = node_recorded lineage node (node h)

-- a list after conjuncts in order: what is not recorded otherwise stands in it once for each handle
unfoldable pub wanted_by : (ℕ → Bool) → List ℕ → List ℕ → List ℕ
wanted_by recorded l [] = l
wanted_by recorded l (h ∷ hs) = wanted_by recorded (cond (recorded h) l (pushed l h)) hs

-- the Rust's residuals after the predicate e
unfoldable pub predicate_wanted : Plan → List ℕ → ConstraintSet → ℕ → List ℕ
predicate_wanted p lineage s e =
    wanted_by (conjunct_recorded lineage (node_at p)) (listed s) (conjuncts_of (node_at p) p.items.a e)
