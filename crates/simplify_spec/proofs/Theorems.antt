-- The theorems about simplifying one expression of a plan that keeps the rules. Assumes nothing.
use Rattle.std.proofs.Common.{Ok}
use mathlib.Core.Path.{◌≡◌, refl, sym, ap, ap₂, ◌∙◌}
use mathlib.Core.Bool.{Bool, true, false, cond, ◌&&◌}
use mathlib.Core.List.{List, [], ◌∷◌}
use Prim.Native.Nat.{ℕ, zero, suc, ◌<◌, ◌≤◌}
use native.Mathlib.Omega.{arith}
use lib.Dec.{ltb}
use lib.ListN.{length, take, drop}
use borrow.Author.Tests.{lt-ltb, le-ltb}
use Rattle.laws.proofs.Bools.{and_left, and_right, and_both}
use Rattle.truth.specs.Truth.{every}
use Rattle.scalar.specs.Kinds.{same_kind}
use Rattle.scalar.specs.declared.Kind.{Kind}
use Rattle.scalar.specs.declared.Kind.TheVariants as K
use Rattle.scalar.specs.declared.ScalarValue.{ScalarValue}
use Rattle.plan.specs.declared.Plan.{Plan}
use Rattle.plan.specs.declared.Expr.{Expr}
use Rattle.plan.specs.Extends.{Sized}
use Rattle.plan_rules.specs.Rules.{plan_ok}
use Rattle.plan_rules.proofs.RuleLaws.{rules, rules-of}
use Rattle.plan_rules.proofs.AppendRules.{counts-within}
use Rattle.plan_data.specs.Nodes.{node_at, operands_of}
use Rattle.plan_data.specs.declared.UnaryOp.TheVariants as U
use Rattle.plan_data.specs.declared.ExprData.{ExprData}
use Rattle.plan_data.specs.declared.ExprData.TheVariants.{Literal, ColumnRef, Unary, Binary, Nary}
use Rattle.rows_spec.specs.Compare.{truth_of}
use Rattle.rows_spec.specs.Typing.{boolean_at, wanted, node_typed, flagged, typings, typed_at}
use Rattle.rows_spec.specs.Cells.{row_ok}
use Rattle.rows_spec.specs.Evaluate.{value_on, typed, evaluate_of}
use Rattle.rows_spec.specs.declared.Row.{Row}
use Rattle.rows_spec.proofs.TypingLaws.{typing_step, typing_in}
use Rattle.rows_laws.proofs.NodeRules.{NodeOk, node_ok}
use Rattle.rows_laws.proofs.ValueKinds.{Evaluated, evaluated}
use Rattle.simplify_spec.specs.OneExpression.{node_in, st_of, handle, kept, simplify_at}
use Rattle.simplify_spec.specs.OneOperator.{plan_with, start_of}
use Rattle.simplify_spec.specs.Meaning.{Alike, Good, Grown, value_in, kind_in, TypedIn}
use Rattle.simplify_spec.specs.declared.Tables.{Tables}
use Rattle.simplify_spec.proofs.Alikes.{same_truth}
use Rattle.simplify_spec.proofs.Growth.{AllBelow, part-below, grown-told}
use Rattle.simplify_spec.proofs.Keeping.{Meant, Kept}
use Rattle.simplify_spec.proofs.Keeps.{keeps}

-- ---- an expression is typed where it is in a set of typed expressions
every-flags : (f g b : ℕ → Bool) (h : ℕ) (l : List ℕ) → AllBelow h l → ((e : ℕ) → e < h → f e ≡ g e) → every (wanted f b) l ≡ every (wanted g b) l
unfolding every AllBelow
every-flags f g b h [] u q = refl
every-flags f g b h (x ∷ l) u q = ap₂ (λ (s t : Bool). (s && b x) && t) (q x u.0) (every-flags f g b h l u.1 q)

flags-same : (f g b : ℕ → Bool) (nc used h : ℕ) (items : List ℕ) → used ≤ length items → ((e : ℕ) → e < h → f e ≡ g e)
    → (d : ExprData) → NodeOk nc items used h d → node_typed f b (operands_of items) d ≡ node_typed g b (operands_of items) d
flags-same f g b nc used h items le q (Literal v) ok = refl
flags-same f g b nc used h items le q (ColumnRef c) ok = refl
flags-same f g b nc used h items le q (Unary U.Not e) ok = ap (λ (t : Bool). t && b e.0) (q e.0 ok)
flags-same f g b nc used h items le q (Unary U.IsNull e) ok = q e.0 ok
flags-same f g b nc used h items le q (Unary U.IsNotNull e) ok = q e.0 ok
flags-same f g b nc used h items le q (Unary U.Negate e) ok = refl
flags-same f g b nc used h items le q (Binary op l r) ok = ap₂ (λ (s t : Bool). s && t) (q l.0 ok.0) (q r.0 ok.1)
flags-same f g b nc used h items le q (Nary op es) ok =
    every-flags f g b h (take es.count (drop es.start items)) (part-below h items es.count es.start (omega (arith, ok.0)) ok.1) q

every_more : (f g b : ℕ → Bool) (h : ℕ) → ((e : ℕ) → e < h → g e ≡ true → f e ≡ true) → (l : List ℕ) → AllBelow h l → every (wanted g b) l ≡ true →
    every
    (wanted f b) l ≡ true
unfolding every AllBelow
every_more f g b h q [] u t = refl
every_more f g b h q (x ∷ l) u t =
    let a = and_left (g x && b x) _ t in
    and_both _ _ (and_both _ _ (q x u.0 (and_left (g x) _ a)) (and_right (g x) _ a)) (every_more f g b h q l u.1 (and_right (g x && b x) _ t))

module _ (p : Plan) where
  abbrev pub typed_in : Tables → ℕ → Bool
  typed_in st h = typed_at p.columns.kind (node_in st) st.items.a h

  module _ (st : Tables) (g : Good p st) where
    long : st.items.count ≤ length st.items.a
    long = omega (arith, (counts-within (plan_with p st) g.rules).items, g.sized.item_a)

    typed-node : (S : ℕ → Bool) (k : ℕ) → k < st.exprs.count → ((e : ℕ) → e < k → typed_in st e ≡ S e)
        → typed_in st k ≡ node_typed S (boolean_at p.columns.kind (node_in st)) (operands_of st.items.a) (node_in st k)
    typed-node S k kl q =
        typing_step p.columns.kind (node_in st) st.items.a (suc k) k (omega arith)
        ∙ flags-same (flagged (typings p.columns.kind (node_in st) st.items.a k)) S (boolean_at p.columns.kind (node_in st)) p.columns.count
        st.items.count k st.items.a long
        (λ e el. typing_in p.columns.kind (node_in st) st.items.a k e el ∙ q e el) (node_in st k) (node_ok (plan_with p st) g.rules k kl)

    -- the typed expressions, and all that will be appended
    abbrev typed_set : ℕ → Bool
    typed_set k = cond (ltb k st.exprs.count) (typed_in st k) true

    set_in : (k : ℕ) → k < st.exprs.count → cond (ltb k st.exprs.count) (typed_in st k) true ≡ typed_in st k
    set_in k l = rw (lt-ltb k st.exprs.count l)

    set-fresh : (j : ℕ) → st.exprs.count ≤ j → cond (ltb j st.exprs.count) (typed_in st j) true ≡ true
    set-fresh j ge = rw (le-ltb j st.exprs.count ge)

    set_typed : TypedIn p typed_set st
    set_typed k kl sk = sym (typed-node typed_set k kl (λ e el. sym (set_in e (omega arith)))) ∙ sym (set_in k kl) ∙ sk

    typed-test : (S : ℕ → Bool) → TypedIn p S st → (m k : ℕ) → k < m → k < st.exprs.count → S k ≡ true → typed_in st k ≡ true
    typed-test S ty zero k lt kl sk = absurd (omega arith)
    typed-test S ty (suc m) k lt kl sk = go (λ e el es. typed-test S ty m e (omega arith) (omega arith) es)
      where
        -- where a flag of S is set, so is the other
        go : ((e : ℕ) → e < k → S e ≡ true → typed_in st e ≡ true) → typed_in st k ≡ true
        go ih =
            typed-node (typed_in st) k kl (λ e el. refl)
            ∙ more (node_in st k) (node_ok (plan_with p st) g.rules k kl) (ty k kl sk)
          where
            every_more_lem : (l : List ℕ) → AllBelow k l → every (wanted S (boolean_at p.columns.kind (node_in st))) l ≡ true → every
                (wanted (typed_in st) (boolean_at p.columns.kind (node_in st))) l ≡ true
            every_more_lem = every_more (typed_in st) S (boolean_at p.columns.kind (node_in st)) k ih

            more : (d : ExprData) → NodeOk p.columns.count st.items.a st.items.count k d
                → node_typed S (boolean_at p.columns.kind (node_in st)) (operands_of st.items.a) d ≡ true
                → node_typed (typed_in st) (boolean_at p.columns.kind (node_in st)) (operands_of st.items.a) d ≡ true
            more (Literal v) ok t = refl
            more (ColumnRef c) ok t = refl
            more (Unary U.Not e) ok t = and_both _ _ (ih e.0 ok (and_left (S e.0) _ t)) (and_right (S e.0) _ t)
            more (Unary U.IsNull e) ok t = ih e.0 ok t
            more (Unary U.IsNotNull e) ok t = ih e.0 ok t
            more (Unary U.Negate e) ok t = t
            more (Binary op l r) ok t = and_both _ _ (ih l.0 ok.0 (and_left (S l.0) _ t)) (ih r.0 ok.1 (and_right (S l.0) _ t))
            more (Nary op es) ok t =
                every_more_lem (take es.count (drop es.start st.items.a))
                (part-below k st.items.a es.count es.start (omega (arith, ok.0, long)) ok.1) t

  -- ---- tables of a plan that keeps the rules
  module _ (h : ℕ) (st : Tables) (g : Good p st) (hl : h < st.exprs.count) (ok : (simplify_at h st).ok ≡ true) where
    any : Kept p (λ (j : ℕ). true) st h (simplify_at h st)
    any = keeps p (λ (j : ℕ). true) h st g hl (λ j ge. refl) ok

    -- the plan keeps the rules, and has all that it had where it had it
    pub grows : Grown p st (simplify_at h st).st
    grows = any.grows

    -- the handle is of the new plan
    pub within : (simplify_at h st).at < (simplify_at h st).st.exprs.count
    within = any.within

    -- where `changed` is not set, nothing was appended and the handle is the same
    pub unchanged : (simplify_at h st).st.changed ≡ false → simplify_at h st ≡ kept st h
    unchanged e =
        let s = any.still e in
        λ i. record { st = s.0 i; at = s.1 i; ok = ok i }

    -- simplifying the result gives the same handle, appends nothing and changes nothing
    pub again : (c : Bool)
        → simplify_at (simplify_at h st).at (st_of (simplify_at h st).st.exprs (simplify_at h st).st.items c) ≡ kept
        (st_of (simplify_at h st).st.exprs (simplify_at h st).st.items c) (simplify_at h st).at
    again c = any.fixed (st_of (simplify_at h st).st.exprs (simplify_at h st).st.items c) (grown-told p (simplify_at h st).st c grows.good)

    module _ (ty : typed_in st h ≡ true) where
      whole : Kept p (typed_set st g) st h (simplify_at h st)
      whole = keeps p (typed_set st g) h st g hl (set-fresh st g) ok

      meant : Meant p (typed_set st g) st h (simplify_at h st)
      meant = whole.typed (set_typed st g) (set_in st g h hl ∙ ty)

      -- a typed expression keeps its kind
      pub kind-kept : kind_in p (simplify_at h st).st (simplify_at h st).at ≡ kind_in p st h
      kind-kept = meant.kind

      -- its value on every row, but for the kind of a NULL
      pub simplified-value : (row : Row) → row_ok p row ≡ true → Alike (value_in p (simplify_at h st).st row (simplify_at h st).at) (value_in p st row
          h)
      simplified-value row right = meant.value row right

      -- and so its truth
      pub truth_kept : (row : Row) → row_ok p row ≡ true → truth_of (value_in p (simplify_at h st).st row (simplify_at h st).at) ≡ truth_of (value_in
          p st row h)
      truth_kept row right = same_truth (value_in p (simplify_at h st).st row (simplify_at h st).at) (value_in p st row h) (simplified-value row
          right)

      -- and is typed again
      pub typed-again : typed_in (simplify_at h st).st (simplify_at h st).at ≡ true
      typed-again =
          typed-test (simplify_at h st).st grows.good (typed_set st g) meant.rules (suc (simplify_at h st).at) (simplify_at h st).at (omega arith)
          within
          meant.member

-- ---- from the plan that is passed in
pub plan-good : (p : Plan) → Sized p → plan_ok p ≡ true → Good p (start_of p)
plan-good p s ok = record { rules = rules p ok; sized = s }

-- an expression of a plan, simplified: what evaluating it says on a row is said again, in the plan with the appended nodes, of the new expression
module _ (p : Plan) (s : Sized p) (e : Expr) (row : Row) (v : ScalarValue) (said : evaluate_of p e row ≡ Ok v)
    (ok : (simplify_at e.0 (start_of p)).ok ≡ true) where
  E : Evaluated p e row v
  E = evaluated p e row v said

  g : Good p (start_of p)
  g = plan-good p s E.rules-kept

  abbrev new : Plan
  new = plan_with p (simplify_at e.0 (start_of p)).st

  abbrev at : ℕ
  at = (simplify_at e.0 (start_of p)).at

  flag : typed_in p (start_of p) e.0 ≡ true
  flag = and_right (boolean_at p.columns.kind (node_at p) e.0) _ E.is-typed

  typed-new : typed (plan_with p (simplify_at e.0 (start_of p)).st) (simplify_at e.0 (start_of p)).at ≡ true
  typed-new =
      and_both _ _
      (ap (λ (k : Kind). same_kind k K.Boolean) (kind-kept p e.0 (start_of p) g E.is-there ok flag)
      ∙ and_left (boolean_at p.columns.kind (node_at p) e.0) _ E.is-typed)
      (typed-again p e.0 (start_of p) g E.is-there ok flag)

  pub said-again : evaluate_of (plan_with p (simplify_at e.0 (start_of p)).st) (handle (simplify_at e.0 (start_of p)).at) row
      ≡ Ok (value_on (plan_with p (simplify_at e.0 (start_of p)).st) row (simplify_at e.0 (start_of p)).at)
  unfolding evaluate_of
  said-again =
      rw (
        rules-of (plan_with p (simplify_at e.0 (start_of p)).st) (grows p e.0 (start_of p) g E.is-there ok).good.rules,
        lt-ltb (simplify_at e.0 (start_of p)).at (simplify_at e.0 (start_of p)).st.exprs.count (within p e.0 (start_of p) g E.is-there ok),
        typed-new,
        E.row-right,
      )

  pub same-said : truth_of (value_on (plan_with p (simplify_at e.0 (start_of p)).st) row (simplify_at e.0 (start_of p)).at) ≡ truth_of v
  same-said = truth_kept p e.0 (start_of p) g E.is-there ok flag row E.row-right ∙ ap truth_of (sym E.value-is)
