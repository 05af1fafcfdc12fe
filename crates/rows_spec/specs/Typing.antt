-- Typed expressions: what an operand of And, Or and Not must be, and no Negate. Assumes nothing.
use Rattle.std.specs.Prelude.{Bool, true, false, ◌&&◌, List, ℕ, suc, get_or}
use Rattle.truth.specs.Truth.{every}
use Rattle.scalar.specs.Kinds.{kind_of, kind_of_code, same_kind}
use Rattle.scalar.specs.declared.Kind.{Kind}
use Rattle.scalar.specs.declared.Kind.TheVariants as K
use Rattle.plan_data.specs.Nodes.{operands_of}
use Rattle.plan_data.specs.declared.Run.{Run}
use Rattle.plan_data.specs.declared.UnaryOp.{UnaryOp}
use Rattle.plan_data.specs.declared.UnaryOp.TheVariants.{Not, IsNull, IsNotNull, Negate}
use Rattle.plan_data.specs.declared.ExprData.{ExprData}
use Rattle.plan_data.specs.declared.ExprData.TheVariants.{Literal, ColumnRef, Unary, Binary, Nary}
use Rattle.rows_spec.specs.InOrder.{in_order}

-- a node's kind is its literal's or its column's, else Boolean; the columns' kinds are codes
abbrev pub kind_of_node : List ℕ → ExprData → Kind
kind_of_node columns (Literal v) = kind_of v
kind_of_node columns (ColumnRef c) = kind_of_code (get_or columns c.0 0)
kind_of_node columns (Unary op e) = K.Boolean
kind_of_node columns (Binary op l r) = K.Boolean
kind_of_node columns (Nary op es) = K.Boolean

abbrev pub kind_at : List ℕ → (ℕ → ExprData) → ℕ → Kind
kind_at columns node h = kind_of_node columns (node h)

abbrev pub boolean_at : List ℕ → (ℕ → ExprData) → ℕ → Bool
boolean_at columns node h = same_kind (kind_at columns node h) K.Boolean

-- of an operand that is typed or not, and Boolean or not: Not wants both, the tests for NULL only that it is typed, and Negate is nowhere
abbrev pub unary_typed : UnaryOp → Bool → Bool → Bool
unary_typed Not typed boolean = typed && boolean
unary_typed IsNull typed boolean = typed
unary_typed IsNotNull typed boolean = typed
unary_typed Negate typed boolean = false

-- what And and Or want of an operand
abbrev pub wanted : (ℕ → Bool) → (ℕ → Bool) → ℕ → Bool
wanted typed boolean e = typed e && boolean e

-- a node is typed, from what its operands are, and the operands of a run
abbrev pub node_typed : (ℕ → Bool) → (ℕ → Bool) → (Run → List ℕ) → ExprData → Bool
node_typed typed boolean run (Literal v) = true
node_typed typed boolean run (ColumnRef c) = true
node_typed typed boolean run (Unary op e) = unary_typed op (typed e.0) (boolean e.0)
node_typed typed boolean run (Binary op l r) = typed l.0 && typed r.0
node_typed typed boolean run (Nary op es) = every (wanted typed boolean) (run es)

-- an entry of a list of flags; past its end stands false
abbrev pub flagged : List Bool → ℕ → Bool
flagged l e = get_or l e false

-- the node h is typed, by the flags of those before it
abbrev pub typing_next : List ℕ → (ℕ → ExprData) → List ℕ → List Bool → ℕ → Bool
typing_next columns node items l h = node_typed (flagged l) (boolean_at columns node) (operands_of items) (node h)

-- which of the first n expressions are typed
unfoldable pub typings : List ℕ → (ℕ → ExprData) → List ℕ → ℕ → List Bool
typings columns node items n = in_order (typing_next columns node items) n

-- the expression h is typed, with all that it is made of
abbrev pub typed_at : List ℕ → (ℕ → ExprData) → List ℕ → ℕ → Bool
typed_at columns node items h = flagged (typings columns node items (suc h)) h
