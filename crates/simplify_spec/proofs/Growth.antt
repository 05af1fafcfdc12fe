-- Tables that grew: by a node, by a list, and twice. The plan keeps the rules, and old nodes and values are as they were. Assumes nothing.
use mathlib.Core.Path.{◌≡◌, refl, sym, ap, ap₂, subst, ◌∙◌}
use mathlib.Core.Bool.{Bool}
use mathlib.Core.List.{List, [], ◌∷◌}
use Prim.Native.Nat.{ℕ, zero, suc, ◌+◌, ◌<◌, ◌≤◌}
use native.Mathlib.Omega.{arith}
use native.Mathlib.Numerals.{add-one}
use lib.ListN.{length, get_or, take, drop}
use lib.Seq.{drop-cons}
use Rattle.laws.proofs.Lists.{take-drop-same}
use Rattle.comparison.specs.declared.BinaryOp.{BinaryOp}
use Rattle.plan_kinds.specs.declared.Record.{Record}
use Rattle.scalar.specs.declared.ScalarValue.{ScalarValue}
use Rattle.plan.specs.declared.Plan.{Plan}
use Rattle.plan.specs.declared.Expr.{Expr}
use Rattle.plan.proofs.AppendLaws.{extends-refl, extends_trans}
use Rattle.plan_rules.proofs.AppendRules.{counts-within}
use Rattle.plan_data.specs.Nodes.{run_of, operands_of}
use Rattle.plan_data.specs.declared.UnaryOp.{UnaryOp}
use Rattle.plan_data.specs.declared.UnaryOp.TheVariants as U
use Rattle.plan_data.specs.declared.ExprData.{ExprData}
use Rattle.plan_data.specs.declared.ExprData.TheVariants.{Literal, Unary, Binary, Nary}
use Rattle.rows_spec.specs.Cells.{cell_at}
use Rattle.rows_spec.specs.Values.{truths, node_value}
use Rattle.rows_spec.specs.Values as values
use Rattle.rows_spec.specs.Compare.{compare_of, truth_of, of_truth}
use Rattle.truth.specs.Truth.{not_t}
use Rattle.simplify_spec.proofs.Alikes.{truth_all}
use Rattle.rows_spec.specs.declared.Row.{Row}
use Rattle.rows_spec.proofs.ValueLaws.{value-step, value_in_lem}
use Rattle.rows_laws.proofs.NodeRules.{NodeOk, node_ok}
use Rattle.rows_laws.proofs.Appended.{node_kept, value-kept}
use Rattle.simplify_spec.specs.Shapes.{nary_op_for}
use Rattle.simplify_spec.specs.OneExpression.{node_in, st_of}
use Rattle.simplify_spec.specs.OneOperator.{plan_with}
use Rattle.simplify_spec.specs.Meaning.{Good, Grown, value_in}
use Rattle.simplify_spec.specs.declared.Tables.{Tables}

-- the members of a list are below h
unfoldable pub AllBelow : ℕ → List ℕ → Type 0
AllBelow h [] = Unit {0}
AllBelow h (x ∷ l) = (x < h) × AllBelow h l

pub below_more : (h k : ℕ) (l : List ℕ) → h ≤ k → AllBelow h l → AllBelow k l
unfolding AllBelow
below_more h k [] le u = tt
below_more h k (x ∷ l) le u = (omega (arith, u.0), below_more h k l le u.1)

-- a part of a list
pub part-first : (l : List ℕ) (s n : ℕ) → s < length l → take (suc n) (drop s l) ≡ get_or l s 0 ∷ take n (drop (s + 1) l)
part-first l s n lt = rw (drop-cons l s 0, add-one)

pub part-below : (h : ℕ) (l : List ℕ) (n s : ℕ) → s + n ≤ length l → ((j : ℕ) → s ≤ j → j < s + n → get_or l j 0 < h) → AllBelow h (take n (drop s l))
unfolding AllBelow
part-below h l zero s le f = tt
part-below h l (suc n) s le f =
    subst (AllBelow h) (sym (part-first l s n (omega arith)))
    (f s (omega arith) (omega arith), part-below h l n (s + 1) (omega arith) (λ j lo hi. f j (omega arith) (omega arith)))

-- ---- growing
module _ (p : Plan) where
  pub grown-self : (st : Tables) → Good p st → Grown p st st
  grown-self st g = record { extends = extends-refl (plan_with p st); good = g }

  pub grown-on : (a b c : Tables) → Grown p a b → Grown p b c → Grown p a c
  grown-on a b c v w = record { extends = extends_trans v.extends w.extends; good = w.good }

  -- `changed` is no part of a plan
  pub grown-told : (st : Tables) (c : Bool) → Good p st → Grown p st (st_of st.exprs st.items c)
  grown-told st c g = record { extends = extends-refl (plan_with p st); good = record { rules = g.rules; sized = g.sized } }

  module _ (a b : Tables) (g : Good p a) (w : Grown p a b) where
    pub old-node : (h : ℕ) → h < a.exprs.count → node_in b h ≡ node_in a h
    old-node h lt = node_kept (plan_with p a) (plan_with p b) g.rules w.extends g.sized w.good.sized h lt

    pub old_value : (row : Row) (h : ℕ) → h < a.exprs.count → value_in p b row h ≡ value_in p a row h
    old_value row h lt = value-kept (plan_with p a) (plan_with p b) g.rules w.extends g.sized w.good.sized row h lt

    -- a part within the old items
    pub old-part : (s n : ℕ) → s + n ≤ a.items.count → take n (drop s b.items.a) ≡ take n (drop s a.items.a)
    old-part s n le =
        take-drop-same a.items.a b.items.a n s
        (omega (arith, (counts-within (plan_with p a) g.rules).items, g.sized.item_a))
        (omega (arith, (counts-within (plan_with p a) g.rules).items, w.good.sized.item_a))
        (λ j lo hi. ap (λ (x : Record). x.a) (w.extends.item j (omega arith)))

  -- ---- what a node is made of
  module _ (st : Tables) (g : Good p st) (h : ℕ) (lt : h < st.exprs.count) where
    ok_at : (d : ExprData) → node_in st h ≡ d → NodeOk p.columns.count st.items.a st.items.count h d
    ok_at d e = subst (NodeOk p.columns.count st.items.a st.items.count h) e (node_ok (plan_with p st) g.rules h lt)

    pub unary_below : (op : UnaryOp) (e : Expr) → node_in st h ≡ Unary op e → e.0 < h
    unary_below op e q = ok_at (Unary op e) q

    pub compare-below : (op : BinaryOp) (l r : Expr) → node_in st h ≡ Binary op l r → (l.0 < h) × (r.0 < h)
    compare-below op l r q = ok_at (Binary op l r) q

    pub list-within : (all : Bool) (s n : ℕ) → node_in st h ≡ Nary (nary_op_for all) (run_of s n) → s + n ≤ st.items.count
    list-within all s n q = (ok_at (Nary (nary_op_for all) (run_of s n)) q).0

    pub list-below : (all : Bool) (s n : ℕ) → node_in st h ≡ Nary (nary_op_for all) (run_of s n) → AllBelow h (take n (drop s st.items.a))
    list-below all s n q =
        let k = ok_at (Nary (nary_op_for all) (run_of s n)) q in
        part-below h st.items.a n s (omega (arith, k.0, (counts-within (plan_with p st) g.rules).items, g.sized.item_a)) k.1

  -- ---- the value of a node, over the values of its operands
  truths-same : (v w : ℕ → ScalarValue) (h : ℕ) (l : List ℕ) → AllBelow h l → ((e : ℕ) → e < h → v e ≡ w e) → truths v l ≡ truths w l
  unfolding truths AllBelow
  truths-same v w h [] u f = refl
  truths-same v w h (x ∷ l) u f = ap₂ (λ (t : ScalarValue) (m : List ℕ). truth_of t ∷ m) (f x u.0) (truths-same v w h l u.1 f)

  pub all_same : (all : Bool) (v w : ℕ → ScalarValue) (h : ℕ) (l : List ℕ) → AllBelow h l → ((e : ℕ) → e < h → v e ≡ w e) → truth_all all v l ≡
      truth_all all w l
  all_same all v w h l u f = ap (values.nary_of (nary_op_for all)) (truths-same v w h l u f)

  module _ (st : Tables) (g : Good p st) (row : Row) (h : ℕ) (lt : h < st.exprs.count) where
    before : ℕ → ScalarValue
    before = values.value_in (values.values (cell_at row) (node_in st) st.items.a h)

    is-before : (e : ℕ) → e < h → values.value_in (values.values (cell_at row) (node_in st) st.items.a h) e ≡ value_in p st row e
    is-before e l = value_in_lem (cell_at row) (node_in st) st.items.a h e l

    at-node : (d : ExprData) → node_in st h ≡ d
        → value_in p st row h ≡ node_value (cell_at row) (values.value_in (values.values (cell_at row) (node_in st) st.items.a h)) (operands_of
        st.items.a) d
    at-node d e =
        value-step (cell_at row) (node_in st) st.items.a (suc h) h (omega arith)
        ∙ ap (node_value (cell_at row) (values.value_in (values.values (cell_at row) (node_in st) st.items.a h)) (operands_of st.items.a)) e

    pub value-literal : (v : ScalarValue) → node_in st h ≡ Literal v → value_in p st row h ≡ v
    value-literal v e = at-node (Literal v) e

    pub value_not : (e : Expr) → node_in st h ≡ Unary U.Not e → value_in p st row h ≡ of_truth (not_t (truth_of (value_in p st row e.0)))
    value_not e q =
        at-node (Unary U.Not e) q
        ∙ ap (λ (v : ScalarValue). of_truth (not_t (truth_of v))) (is-before e.0 (unary_below st g h lt U.Not e q))

    pub value-compare : (op : BinaryOp) (l r : Expr) → node_in st h ≡ Binary op l r → value_in p st row h ≡ of_truth
        (compare_of op (value_in p st row l.0) (value_in p st row r.0))
    value-compare op l r q =
        at-node (Binary op l r) q
        ∙ ap₂ (λ (v w : ScalarValue). of_truth (compare_of op v w)) (is-before l.0 (compare-below st g h lt op l r q).0)
        (is-before r.0 (compare-below st g h lt op l r q).1)

    pub value_nary : (all : Bool) (s n : ℕ) → node_in st h ≡ Nary (nary_op_for all) (run_of s n)
        → value_in p st row h ≡ of_truth (truth_all all (value_in p st row) (take n (drop s st.items.a)))
    value_nary all s n q =
        at-node (Nary (nary_op_for all) (run_of s n)) q
        ∙ ap of_truth
        (all_same all (values.value_in (values.values (cell_at row) (node_in st) st.items.a h)) (value_in p st row) h (take n (drop s st.items.a))
        (list-below st g h lt all s n q) is-before)
