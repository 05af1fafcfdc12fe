-- The value of each expression on a row, in handle order. Assumes nothing.
use Rattle.std.specs.Prelude.{not, List, [], ◌∷◌, ℕ, suc, get_or}
use Rattle.truth.specs.Truth.{and_t, or_t, not_t, all_of, any_of}
use Rattle.scalar.specs.Kinds.{is_null}
use Rattle.scalar.specs.declared.Kind.TheVariants as K
use Rattle.scalar.specs.declared.ScalarValue.{ScalarValue}
use Rattle.scalar.specs.declared.ScalarValue.TheVariants as S
use Rattle.plan_data.specs.Nodes.{operands_of}
use Rattle.plan_data.specs.declared.Run.{Run}
use Rattle.plan_data.specs.declared.UnaryOp.{UnaryOp}
use Rattle.plan_data.specs.declared.UnaryOp.TheVariants.{Not, IsNull, IsNotNull, Negate}
use Rattle.plan_data.specs.declared.NaryOp.{NaryOp}
use Rattle.plan_data.specs.declared.NaryOp.TheVariants.{And, Or}
use Rattle.plan_data.specs.declared.ExprData.{ExprData}
use Rattle.plan_data.specs.declared.ExprData.TheVariants.{Literal, ColumnRef, Unary, Binary, Nary}
use Rattle.rows_spec.specs.InOrder.{in_order}
use Rattle.rows_spec.specs.Compare.{compare_of, truth_of, of_truth}

-- a unary operation on the value of its operand; Negate is never asked for, since nothing that has one is typed
abbrev pub unary_of : UnaryOp → ScalarValue → ScalarValue
unary_of Not v = of_truth (not_t (truth_of v))
unary_of IsNull v = S.Boolean (is_null v)
unary_of IsNotNull v = S.Boolean (not (is_null v))
unary_of Negate v = S.Null K.Boolean

-- And and Or of many truths
abbrev pub nary_of : NaryOp → List ℕ → ℕ
nary_of And l = all_of l
nary_of Or l = any_of l

-- of none, and of two
abbrev pub none_of : NaryOp → ℕ
none_of And = 2
none_of Or = 0

abbrev pub join_of : NaryOp → ℕ → ℕ → ℕ
join_of And x y = and_t x y
join_of Or x y = or_t x y

-- the truths of operands, from their values
unfoldable pub truths : (ℕ → ScalarValue) → List ℕ → List ℕ
truths value [] = []
truths value (e ∷ es) = truth_of (value e) ∷ truths value es

-- the value of a node, from the columns' values, the operands' values, and the operands of a run
abbrev pub node_value : (ℕ → ScalarValue) → (ℕ → ScalarValue) → (Run → List ℕ) → ExprData → ScalarValue
node_value cell value run (Literal v) = v
node_value cell value run (ColumnRef c) = cell c.0
node_value cell value run (Unary op e) = unary_of op (value e.0)
node_value cell value run (Binary op l r) = of_truth (compare_of op (value l.0) (value r.0))
node_value cell value run (Nary op es) = of_truth (nary_of op (truths value (run es)))

-- an entry of a list of values; past its end stands the NULL of Boolean
abbrev pub value_in : List ScalarValue → ℕ → ScalarValue
value_in vs h = get_or vs h (S.Null K.Boolean)

-- the value of the node h over those before it
abbrev pub value_next : (ℕ → ScalarValue) → (ℕ → ExprData) → List ℕ → List ScalarValue → ℕ → ScalarValue
value_next cell node items vs h = node_value cell (value_in vs) (operands_of items) (node h)

-- the values of the first n expressions
unfoldable pub values : (ℕ → ScalarValue) → (ℕ → ExprData) → List ℕ → ℕ → List ScalarValue
values cell node items n = in_order (value_next cell node items) n

-- the value of the expression h
abbrev pub value_at : (ℕ → ScalarValue) → (ℕ → ExprData) → List ℕ → ℕ → ScalarValue
value_at cell node items h = value_in (values cell node items (suc h)) h
