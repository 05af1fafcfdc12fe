-- The value of an expression goes by the columns that it refers to, and no others. Assumes nothing.
use mathlib.Core.Path.{◌≡◌, refl, sym, ap, ap₂, ◌∙◌}
use mathlib.Core.Bool.{Bool, true, false}
use mathlib.Core.List.{List, [], ◌∷◌}
use mathlib.Core.Logic.{⊎_elim}
use Prim.Native.Nat.{ℕ, zero, suc, ◌<◌}
use native.Mathlib.Omega.{arith}
use borrow.Author.Tests.{eq-eqb}
use Rattle.laws.proofs.Bools.{or_inl, or_inr}
use Rattle.lists.proofs.RangeLaws.{below_or_not}
use Rattle.truth.specs.Truth.{some}
use Rattle.scalar.specs.declared.ScalarValue.{ScalarValue}
use Rattle.plan.specs.declared.Plan.{Plan}
use Rattle.plan_data.specs.Nodes.{node_at, operands_of}
use Rattle.plan_data.specs.declared.Run.{Run}
use Rattle.plan_data.specs.declared.ExprData.{ExprData}
use Rattle.plan_data.specs.declared.ExprData.TheVariants.{Literal, ColumnRef, Unary, Binary, Nary}
use Rattle.rows_spec.specs.Compare.{compare_of, truth_of, of_truth}
use Rattle.rows_spec.specs.Values.{unary_of, nary_of, truths, node_value, value_in, values, value_at}
use Rattle.rows_spec.specs.Typing.{flagged}
use Rattle.rows_spec.specs.Cells.{cell_at}
use Rattle.rows_spec.specs.Evaluate.{value_on}
use Rattle.rows_spec.specs.declared.Row.{Row}
use Rattle.rows_spec.proofs.InOrderLaws.{in_order_at}
use Rattle.rows_spec.proofs.ValueLaws.{value-step, value-past, value_in_lem}
use Rattle.rows_laws.specs.References.{node_refers, refers_next, references, refers_to, expr_refers_to}

-- operands that have the same values have the same truths; `agrees` says which operands have
module _ (v w : ℕ → ScalarValue) (refers : ℕ → ℕ → Bool) (Same : ℕ → Type 0)
    (operand : (e : ℕ) → ((c : ℕ) → refers c e ≡ true → Same c) → v e ≡ w e) where
  truths-same : (l : List ℕ) → ((c : ℕ) → some (refers c) l ≡ true → Same c) → truths v l ≡ truths w l
  unfolding truths some
  truths-same [] h = refl
  truths-same (e ∷ l) h =
      ap₂ (λ (x : ℕ) (xs : List ℕ). x ∷ xs) (ap truth_of (operand e (λ c r. h c (or_inl (refers c e) (some (refers c) l) r))))
      (truths-same l (λ c r. h c (or_inr (refers c e) (some (refers c) l) r)))

-- a node goes by the columns that it refers to
node-same :
    (cell other v w : ℕ → ScalarValue) (refers : ℕ → ℕ → Bool) (run : Run → List ℕ)
    → ((e : ℕ) → ((c : ℕ) → refers c e ≡ true → cell c ≡ other c) → v e ≡ w e)
    → (x : ExprData) → ((c : ℕ) → node_refers c (refers c) run x ≡ true → cell c ≡ other c) → node_value cell v run x ≡ node_value other w run x
node-same cell other v w refers run operand (Literal u) h = refl
node-same cell other v w refers run operand (ColumnRef k) h = h k.0 (eq-eqb k.0 k.0 refl)
node-same cell other v w refers run operand (Unary op e) h = ap (unary_of op) (operand e.0 h)
node-same cell other v w refers run operand (Binary op l r) h =
    ap of_truth
    (ap₂ (compare_of op) (operand l.0 (λ c q. h c (or_inl (refers c l.0) (refers c r.0) q)))
    (operand r.0 (λ c q. h c (or_inr (refers c l.0) (refers c r.0) q))))
node-same cell other v w refers run operand (Nary op es) h =
    ap (λ (l : List ℕ). of_truth (nary_of op l)) (truths-same v w refers (λ (c : ℕ). cell c ≡ other c) operand (run es) h)

module _ (node : ℕ → ExprData) (items : List ℕ) where
  reference_step : (c n h : ℕ) → h < n → flagged (references node items c n) h ≡ node_refers c (flagged (references node items c h)) (operands_of
      items) (node h)
  unfolding references
  reference_step c n h lt = in_order_at (refers_next node items c) false n h lt

  reference_in : (c n h : ℕ) → h < n → flagged (references node items c n) h ≡ refers_to node items h c
  reference_in c n h lt = reference_step c n h lt ∙ sym (reference_step c (suc h) h (omega arith))

  module _ (cell other : ℕ → ScalarValue) where
    alike : (n h : ℕ) → h < n → ((c : ℕ) → refers_to node items h c ≡ true → cell c ≡ other c) → value_at cell node items h ≡ value_at other node
        items h
    alike zero h lt s = absurd (omega arith)
    alike (suc n) h lt s =
        value-step cell node items (suc h) h (omega arith)
        ∙ node-same cell other (value_in (values cell node items h)) (value_in (values other node items h)) (λ (c : ℕ). flagged (references node items
        c h))
        (operands_of items)
        (λ e r.
        ⊎_elim (λ l. value_in_lem cell node items h e l ∙ alike n e (omega arith) (λ c q. r c (reference_in c h e l ∙ q)) ∙ sym (value_in_lem other
        node items h e l))
        (λ g. value-past cell node items h e g ∙ sym (value-past other node items h e g)) (below_or_not e h))
        (node h) (λ c q. s c (reference_step c (suc h) h (omega arith) ∙ q))
        ∙ sym (value-step other node items (suc h) h (omega arith))

    -- two rows that agree on the columns that h refers to give it the same value
    pub by-references : (h : ℕ) → ((c : ℕ) → refers_to node items h c ≡ true → cell c ≡ other c) → value_at cell node items h ≡ value_at other node
        items h
    by-references h = alike (suc h) h (omega arith)

-- the same of an expression of a plan
pub value-by-references :
    (p : Plan) (row other : Row) (h : ℕ) → ((c : ℕ) → expr_refers_to p h c ≡ true → cell_at row c ≡ cell_at other c) → value_on p row h ≡ value_on p
    other h
value-by-references p row other h s = by-references (node_at p) p.items.a (cell_at row) (cell_at other) h s
