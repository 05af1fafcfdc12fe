-- The conjuncts of a predicate: what an And's operands say, one after the other, each And among them opened in its place. Assumes nothing.
use Rattle.std.specs.Prelude.{ℕ, zero, suc, List, [], ◌∷◌, ◌++◌, get_or}
use Rattle.plan_data.specs.Nodes.{operands_of}
use Rattle.plan_data.specs.declared.NaryOp.TheVariants as N
use Rattle.plan_data.specs.declared.ExprData.{ExprData}
use Rattle.plan_data.specs.declared.ExprData.TheVariants.{Literal, ColumnRef, Unary, Binary, Nary}

-- the conjuncts of expressions one after the other; `below` has those of each handle
unfoldable pub joined_of : List (List ℕ) → List ℕ → List ℕ
joined_of below [] = []
joined_of below (e ∷ es) = get_or below e [] ++ joined_of below es

-- an And has its operands' conjuncts; any other expression is its own
abbrev pub conjuncts_by : List (List ℕ) → List ℕ → ℕ → ExprData → List ℕ
conjuncts_by below items h (Literal v) = h ∷ []
conjuncts_by below items h (ColumnRef c) = h ∷ []
conjuncts_by below items h (Unary op e) = h ∷ []
conjuncts_by below items h (Binary op l r) = h ∷ []
conjuncts_by below items h (Nary N.And r) = joined_of below (operands_of items r)
conjuncts_by below items h (Nary N.Or r) = h ∷ []

-- in handle order, for the first n expressions; an operand that does not stand before its And has none
unfoldable pub conjuncts_to : (ℕ → ExprData) → List ℕ → ℕ → List (List ℕ)
conjuncts_to node items zero = []
conjuncts_to node items (suc n) = conjuncts_to node items n ++ (conjuncts_by (conjuncts_to node items n) items n (node n) ∷ [])

-- the conjuncts of an expression
abbrev pub conjuncts_of : (ℕ → ExprData) → List ℕ → ℕ → List ℕ
conjuncts_of node items h = get_or (conjuncts_to node items (suc h)) h []
