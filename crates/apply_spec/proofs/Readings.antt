-- The value of an expression from those of its operands, and its conjuncts from theirs, where operands stand before their node. Assumes nothing.
use mathlib.Core.Path.{◌≡◌, refl, sym, ◌∙◌}
use mathlib.Core.List.{List, [], ◌∷◌, ◌++◌}
use Prim.Native.Nat.{ℕ, suc, ◌<◌, ◌≤◌}
use native.Mathlib.Omega.{arith}
use lib.ListN.{get_or}
use Rattle.laws.proofs.Lists.{table-last, table_at, table-past}
use Rattle.scalar.specs.declared.ScalarValue.{ScalarValue}
use Rattle.plan_data.specs.Nodes.{operands_of}
use Rattle.plan_data.specs.declared.ExprData.{ExprData}
use Rattle.apply_spec.specs.Conjuncts.{conjuncts_by, conjuncts_to, conjuncts_of}
use Rattle.rows_spec.specs.Values.{node_value, value_in, values, value_at}
use Rattle.rows_spec.proofs.ValueLaws.{value-step}

module _ (cell : ℕ → ScalarValue) (node : ℕ → ExprData) (items : List ℕ) where
  -- an expression has the value of its node, over the values before it. Assumes nothing
  pub value-here : (h : ℕ) → value_at cell node items h ≡ node_value cell (value_in (values cell node items h)) (operands_of items) (node h)
  value-here h = value-step cell node items (suc h) h (omega arith)

module _ (node : ℕ → ExprData) (items : List ℕ) where
  abbrev next_conjuncts : ℕ → List ℕ
  next_conjuncts n = conjuncts_by (conjuncts_to node items n) items n (node n)

  starts : conjuncts_to node items 0 ≡ []
  unfolding conjuncts_to
  starts = refl

  grows : (n : ℕ) → conjuncts_to node items (suc n) ≡ conjuncts_to node items n ++ (next_conjuncts n ∷ [])
  unfolding conjuncts_to
  grows n = refl

  -- the conjuncts of an expression are those of its node. Assumes nothing
  pub conjuncts_here : (h : ℕ) → conjuncts_of node items h ≡ conjuncts_by (conjuncts_to node items h) items h (node h)
  conjuncts_here h = table-last [] (conjuncts_to node items) next_conjuncts starts grows h

  -- and stay those as the table grows
  pub conjuncts_at : (n e : ℕ) → e < n → get_or (conjuncts_to node items n) e [] ≡ conjuncts_by (conjuncts_to node items e) items e (node e)
  conjuncts_at n e l = table_at [] (conjuncts_to node items) next_conjuncts starts grows n e l

  -- where the lists before it have each expression's own
  pub conjuncts_before : (n e : ℕ) → e < n → get_or (conjuncts_to node items n) e [] ≡ conjuncts_of node items e
  conjuncts_before n e l = conjuncts_at n e l ∙ sym (conjuncts_here e)

  -- and past their end there are none
  pub conjuncts_past : (n e : ℕ) → n ≤ e → get_or (conjuncts_to node items n) e [] ≡ []
  conjuncts_past n e l = table-past [] (conjuncts_to node items) next_conjuncts starts grows n e l
