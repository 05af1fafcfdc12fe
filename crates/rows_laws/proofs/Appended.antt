-- Appending to a plan changes no expression that it had: neither its value on a row, nor whether it is typed, nor the columns that it refers to.
-- Assumes nothing.
use mathlib.Core.Path.{◌≡◌, refl, sym, ap, ap₂, fun_ext, ◌∙◌}
use mathlib.Core.Bool.{Bool, ◌&&◌}
use mathlib.Core.List.{List, [], ◌∷◌, ◌++◌}
use mathlib.Core.Logic.{⊎_elim}
use Prim.Native.Nat.{ℕ, zero, suc, ◌<◌}
use native.Mathlib.Omega.{arith}
use Rattle.laws.proofs.Lists.{take-drop-same}
use Rattle.lists.proofs.RangeLaws.{below_or_not}
use Rattle.truth.specs.Truth.{every, some}
use Rattle.scalar.specs.Kinds.{kind_of_code, same_kind}
use Rattle.scalar.specs.declared.Kind.{Kind}
use Rattle.scalar.specs.declared.Kind.TheVariants as K
use Rattle.scalar.specs.declared.ScalarValue.{ScalarValue}
use Rattle.plan_kinds.specs.declared.Record.{Record}
use Rattle.plan.specs.declared.Plan.{Plan}
use Rattle.plan.specs.Extends.{Extends, Sized}
use Rattle.plan_rules.proofs.RuleLaws.{Rules}
use Rattle.plan_rules.proofs.AppendRules.{counts-within}
use Rattle.plan_data.specs.Nodes.{expr_data, node_at, operands_of}
use Rattle.plan_data.specs.declared.UnaryOp.TheVariants.{Not, IsNull, IsNotNull, Negate}
use Rattle.plan_data.specs.declared.ExprData.{ExprData}
use Rattle.plan_data.specs.declared.ExprData.TheVariants.{Literal, ColumnRef, Unary, Binary, Nary}
use Rattle.rows_spec.specs.InOrder.{in_order}
use Rattle.rows_spec.specs.Compare.{of_truth}
use Rattle.rows_spec.specs.Values.{nary_of, truths, node_value, value_in, value_next, values, value_at}
use Rattle.rows_spec.specs.Typing.{kind_of_node, boolean_at, wanted, node_typed, flagged, typing_next, typings, typed_at}
use Rattle.rows_spec.specs.Cells.{cell_at}
use Rattle.rows_spec.specs.Evaluate.{value_on, typed}
use Rattle.rows_spec.specs.declared.Row.{Row}
use Rattle.rows_spec.proofs.TypingLaws.{typing_past}
use Rattle.rows_laws.specs.References.{node_refers, refers_next, references, refers_to, expr_refers_to}
use Rattle.rows_laws.proofs.NodeRules.{NodeOk, node_ok}

-- two lists made entry by entry are the same where each next entry is, over the entries of one of them
in_order_same : {A : Type 0} (entry other : List A → ℕ → A) (n : ℕ) → ((k : ℕ) → k < n → entry (in_order entry k) k ≡ other (in_order entry k) k) →
    in_order
    entry n ≡ in_order other n
unfolding in_order
in_order_same entry other zero h = refl
in_order_same {A} entry other (suc n) h =
    ap (λ (x : A). in_order entry n ++ (x ∷ [])) (h n (omega arith))
    ∙ ap (λ (l : List A). l ++ (other l n ∷ [])) (in_order_same entry other n (λ k lt. h k (omega arith)))

-- the operands of a node are the same in both tables of items
abbrev pub SameRun : List ℕ → List ℕ → ExprData → Type 0
SameRun items more (Literal v) = Unit {0}
SameRun items more (ColumnRef c) = Unit {0}
SameRun items more (Unary op e) = Unit {0}
SameRun items more (Binary op l r) = Unit {0}
SameRun items more (Nary op es) = operands_of more es ≡ operands_of items es

run_value : (cell value : ℕ → ScalarValue) (items more : List ℕ) (x : ExprData) → SameRun items more x → node_value cell value (operands_of items) x ≡
    node_value
    cell value (operands_of more) x
run_value cell value items more (Literal v) s = refl
run_value cell value items more (ColumnRef c) s = refl
run_value cell value items more (Unary op e) s = refl
run_value cell value items more (Binary op l r) s = refl
run_value cell value items more (Nary op es) s = ap (λ (l : List ℕ). of_truth (nary_of op (truths value l))) (sym s)

run_refers : (c : ℕ) (refers : ℕ → Bool) (items more : List ℕ) (x : ExprData) → SameRun items more x → node_refers c refers (operands_of items) x ≡
    node_refers c
    refers (operands_of more) x
run_refers c refers items more (Literal v) s = refl
run_refers c refers items more (ColumnRef k) s = refl
run_refers c refers items more (Unary op e) s = refl
run_refers c refers items more (Binary op l r) s = refl
run_refers c refers items more (Nary op es) s = ap (some refers) (sym s)

run_typed : (t b d : ℕ → Bool) → ((e : ℕ) → wanted t b e ≡ wanted t d e) → (items more : List ℕ) (x : ExprData) → SameRun items more x
    → node_typed t b (operands_of items) x ≡ node_typed t d (operands_of more) x
run_typed t b d w items more (Literal v) s = refl
run_typed t b d w items more (ColumnRef k) s = refl
run_typed t b d w items more (Unary Not e) s = w e.0
run_typed t b d w items more (Unary IsNull e) s = refl
run_typed t b d w items more (Unary IsNotNull e) s = refl
run_typed t b d w items more (Unary Negate e) s = refl
run_typed t b d w items more (Binary op l r) s = refl
run_typed t b d w items more (Nary op es) s =
    ap (λ (f : ℕ → Bool). every f (operands_of items es)) (fun_ext w) ∙ ap (every (wanted t d)) (sym s)

module _ (node other : ℕ → ExprData) (items more : List ℕ) (n : ℕ)
    (nodes : (k : ℕ) → k < n → other k ≡ node k) (runs : (k : ℕ) → k < n → SameRun items more (node k)) where
  pub value_same : (cell : ℕ → ScalarValue) (h : ℕ) → h < n → value_at cell other more h ≡ value_at cell node items h
  unfolding values
  value_same cell h lt =
      ap (λ (l : List ScalarValue). value_in l h)
      (sym
      (in_order_same (value_next cell node items) (value_next cell other more) (suc h)
      (λ k l.
      run_value cell (value_in (in_order (value_next cell node items) k)) items more (node k) (runs k (omega arith))
      ∙ ap (node_value cell (value_in (in_order (value_next cell node items) k)) (operands_of more)) (sym (nodes k (omega arith))))))

  pub refers_same : (h c : ℕ) → h < n → refers_to other more h c ≡ refers_to node items h c
  unfolding references
  refers_same h c lt =
      ap (λ (l : List Bool). flagged l h)
      (sym
      (in_order_same (refers_next node items c) (refers_next other more c) (suc h)
      (λ k l.
      run_refers c (flagged (in_order (refers_next node items c) k)) items more (node k) (runs k (omega arith))
      ∙ ap (node_refers c (flagged (in_order (refers_next node items c) k)) (operands_of more)) (sym (nodes k (omega arith))))))

  module _ (columns wider : List ℕ) (kinds : (k : ℕ) → k < n → kind_of_node wider (node k) ≡ kind_of_node columns (node k)) where
    pub boolean_same : (h : ℕ) → h < n → boolean_at wider other h ≡ boolean_at columns node h
    boolean_same h lt = ap (λ (k : Kind). same_kind k K.Boolean) (ap (kind_of_node wider) (nodes h lt) ∙ kinds h lt)

    wanted-same : (k : ℕ) → k < n → (e : ℕ)
        → wanted (flagged (typings columns node items k)) (boolean_at columns node) e ≡ wanted (flagged (typings columns node items k)) (boolean_at
        wider other) e
    wanted-same k lt e =
        ⊎_elim (λ l. ap (λ (b : Bool). flagged (typings columns node items k) e && b) (sym (boolean_same e (omega arith))))
        (λ g. rw (typing_past columns node items k e g)) (below_or_not e k)

    pub typed-same : (h : ℕ) → h < n → typed_at wider other more h ≡ typed_at columns node items h
    unfolding typings
    typed-same h lt =
        ap (λ (l : List Bool). flagged l h)
        (sym
        (in_order_same (typing_next columns node items) (typing_next wider other more) (suc h)
        (λ k l.
        run_typed (flagged (in_order (typing_next columns node items) k)) (boolean_at columns node) (boolean_at wider other) (wanted-same k (omega
        arith)) items
        more (node k) (runs k (omega arith))
        ∙ ap (node_typed (flagged (in_order (typing_next columns node items) k)) (boolean_at wider other) (operands_of more)) (sym (nodes k (omega
        arith))))))

module _ (p q : Plan) (r : Rules p) (e : Extends p q) (sp : Sized p) (sq : Sized q) where
  -- the expressions that p had are the same nodes in q
  pub node_kept : (h : ℕ) → h < p.expressions.count → node_at q h ≡ node_at p h
  node_kept h lt = ap₂ expr_data (e.expr h lt) (e.expr-start h lt)

  run-kept : (h : ℕ) → h < p.expressions.count → SameRun p.items.a q.items.a (node_at p h)
  run-kept h lt = go (node_at p h) (node_ok p r h lt)
    where
      go : (x : ExprData) → NodeOk p.columns.count p.items.a p.items.count h x → SameRun p.items.a q.items.a x
      go (Literal v) k = tt
      go (ColumnRef c) k = tt
      go (Unary op x) k = tt
      go (Binary op x y) k = tt
      go (Nary op es) k =
          take-drop-same p.items.a q.items.a es.count es.start
          (omega (arith, k.0, (counts-within p r).items, sp.item_a)) (omega (arith, k.0, (counts-within p r).items, sq.item_a))
          (λ j lo hi. ap (λ (x : Record). x.a) (e.item j (omega (arith, k.0))))

  kind-kept : (h : ℕ) → h < p.expressions.count → kind_of_node q.columns.kind (node_at p h) ≡ kind_of_node p.columns.kind (node_at p h)
  kind-kept h lt = go (node_at p h) (node_ok p r h lt)
    where
      go : (x : ExprData) → NodeOk p.columns.count p.items.a p.items.count h x → kind_of_node q.columns.kind x ≡ kind_of_node p.columns.kind x
      go (Literal v) k = refl
      go (ColumnRef c) k = ap (λ (x : Record). kind_of_code x.code) (e.column c.0 k)
      go (Unary op x) k = refl
      go (Binary op x y) k = refl
      go (Nary op es) k = refl

  -- the value of an expression that p had is the same in q
  pub value-kept : (row : Row) (h : ℕ) → h < p.expressions.count → value_on q row h ≡ value_on p row h
  value-kept row h lt = value_same (node_at p) (node_at q) p.items.a q.items.a p.expressions.count node_kept run-kept (cell_at row) h lt

  -- it is typed in q where it was in p
  pub typed-kept : (h : ℕ) → h < p.expressions.count → typed q h ≡ typed p h
  typed-kept h lt =
      ap₂ (λ (a b : Bool). a && b)
      (boolean_same (node_at p) (node_at q) p.items.a q.items.a p.expressions.count node_kept run-kept p.columns.kind q.columns.kind
      kind-kept h lt)
      (typed-same (node_at p) (node_at q) p.items.a q.items.a p.expressions.count node_kept run-kept p.columns.kind q.columns.kind kind-kept
      h lt)

  -- and refers to the same columns
  pub refers_kept : (h c : ℕ) → h < p.expressions.count → expr_refers_to q h c ≡ expr_refers_to p h c
  refers_kept h c lt = refers_same (node_at p) (node_at q) p.items.a q.items.a p.expressions.count node_kept run-kept h c lt
