-- What a node is to the simplifier, to be held against the arms of the Rust's `match`. Assumes nothing.
use Rattle.std.specs.Prelude.{Bool, true, false, not}
use Rattle.scalar.specs.declared.ScalarValue.{ScalarValue}
use Rattle.scalar.specs.declared.ScalarValue.TheVariants as S
use Rattle.plan_data.specs.declared.Run.{Run}
use Rattle.plan.specs.declared.Expr.{Expr}
use Rattle.plan_data.specs.declared.UnaryOp.{UnaryOp}
use Rattle.plan_data.specs.declared.UnaryOp.TheVariants as U
use Rattle.plan_data.specs.declared.NaryOp.{NaryOp}
use Rattle.plan_data.specs.declared.NaryOp.TheVariants as N
use Rattle.plan_data.specs.declared.ExprData.{ExprData}
use Rattle.plan_data.specs.declared.ExprData.TheVariants.{Literal, ColumnRef, Unary, Binary, Nary}
use Rattle.simplify_spec.specs.declared.Shape.{Shape}
use Rattle.simplify_spec.specs.declared.Shape.TheVariants.{Boolean, Not, Compare, And, Or, Other}

abbrev pub literal_shape : ScalarValue → Shape
literal_shape (S.Null k) = Other
literal_shape (S.Boolean b) = Boolean b
literal_shape (S.Int32 n) = Other
literal_shape (S.Int64 n) = Other
literal_shape (S.Float64 x) = Other
literal_shape (S.Date32 n) = Other

abbrev pub unary_shape : UnaryOp → Expr → Shape
unary_shape U.Not e = Not e
unary_shape U.IsNull e = Other
unary_shape U.IsNotNull e = Other
unary_shape U.Negate e = Other

abbrev pub nary_shape : NaryOp → Run → Shape
nary_shape N.And es = And es.start es.count
nary_shape N.Or es = Or es.start es.count

abbrev pub shape_of : ExprData → Shape
shape_of (Literal v) = literal_shape v
shape_of (ColumnRef c) = Other
shape_of (Unary op e) = unary_shape op e
shape_of (Binary op l r) = Compare op l r
shape_of (Nary op es) = nary_shape op es

-- b is c
abbrev pub same_bool : Bool → Bool → Bool
same_bool true c = c
same_bool false c = not c

-- the literal Boolean(b)
abbrev pub is_literal : Bool → Shape → Bool
is_literal b (Boolean c) = same_bool b c
is_literal b (Not e) = false
is_literal b (Compare op l r) = false
is_literal b (And start count) = false
is_literal b (Or start count) = false
is_literal b Other = false

-- And is told from Or by a Bool, which is also the literal that an operand is dropped for: true for And, false for Or
abbrev pub nary_op_for : Bool → NaryOp
nary_op_for true = N.And
nary_op_for false = N.Or
