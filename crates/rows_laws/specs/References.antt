-- The columns that an expression refers to. Assumes nothing.
use Rattle.std.specs.Prelude.{Bool, false, ◌||◌, List, ℕ, suc, eqb}
use Rattle.truth.specs.Truth.{some}
use Rattle.plan.specs.declared.Plan.{Plan}
use Rattle.plan_data.specs.Nodes.{node_at, operands_of}
use Rattle.plan_data.specs.declared.Run.{Run}
use Rattle.plan_data.specs.declared.ExprData.{ExprData}
use Rattle.plan_data.specs.declared.ExprData.TheVariants.{Literal, ColumnRef, Unary, Binary, Nary}
use Rattle.rows_spec.specs.InOrder.{in_order}
use Rattle.rows_spec.specs.Typing.{flagged}

-- a node refers to column c where it is a reference to c, or an operand refers to it
abbrev pub node_refers : ℕ → (ℕ → Bool) → (Run → List ℕ) → ExprData → Bool
node_refers c refers run (Literal v) = false
node_refers c refers run (ColumnRef k) = eqb k.0 c
node_refers c refers run (Unary op e) = refers e.0
node_refers c refers run (Binary op l r) = refers l.0 || refers r.0
node_refers c refers run (Nary op es) = some refers (run es)

abbrev pub refers_next : (ℕ → ExprData) → List ℕ → ℕ → List Bool → ℕ → Bool
refers_next node items c l h = node_refers c (flagged l) (operands_of items) (node h)

-- which of the first n expressions refer to column c
unfoldable pub references : (ℕ → ExprData) → List ℕ → ℕ → ℕ → List Bool
references node items c n = in_order (refers_next node items c) n

-- the expression h refers to column c
abbrev pub refers_to : (ℕ → ExprData) → List ℕ → ℕ → ℕ → Bool
refers_to node items h c = flagged (references node items c (suc h)) h

abbrev pub expr_refers_to : Plan → ℕ → ℕ → Bool
expr_refers_to p h c = refers_to (node_at p) p.items.a h c
