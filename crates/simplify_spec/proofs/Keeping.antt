-- What simplifying keeps, at a literal, a Not and a comparison: the rules of the plan, the old nodes, the kind and the value of a typed expression on
-- every row; and that nothing is left to simplify. Assumes nothing.
use mathlib.Core.Path.{◌≡◌, refl, sym, ap, ap₂, subst, ◌∙◌}
use mathlib.Core.Bool.{Bool, true, false, not, cond, ◌&&◌, true≢false}
use mathlib.Core.List.{List, [], ◌∷◌}
use mathlib.Core.Logic.{⊎_elim}
use Prim.Native.Nat.{ℕ, ◌+◌, ◌<◌, ◌≤◌}
use native.Mathlib.Omega.{arith}
use native.Mathlib.Nat.{le_refl}
use lib.Dec.{ltb, eqb}
use lib.ListN.{length, take, drop}
use borrow.Author.Tests.{ltb-true, eqb-true, eq-eqb}
use Rattle.laws.proofs.Bools.{and_left, and_right, and_both}
use Rattle.lists.proofs.RangeLaws.{below_or_not}
use Rattle.truth.specs.Truth.{every, not_t}
use Rattle.truth.proofs.TruthLaws.{not_t-not_t, not_code}
use Rattle.comparison.specs.declared.BinaryOp.{BinaryOp}
use Rattle.scalar.specs.Kinds.{same_kind}
use Rattle.scalar.specs.declared.Kind.{Kind}
use Rattle.scalar.specs.declared.Kind.TheVariants as K
use Rattle.scalar.specs.declared.ScalarValue.{ScalarValue}
use Rattle.scalar.specs.declared.ScalarValue.TheVariants as Scalar
use Rattle.scalar.proofs.ScalarLaws.{kinds-same}
use Rattle.plan.specs.declared.Plan.{Plan}
use Rattle.plan.specs.declared.Expr.{Expr}
use Rattle.plan_rules.proofs.RuleLaws.{rules-of}
use Rattle.plan_rules.proofs.AppendRules.{counts-within}
use Rattle.plan_data.specs.Nodes.{record_of_expr, operands_of}
use Rattle.plan_data.specs.declared.UnaryOp.TheVariants as U
use Rattle.plan_data.specs.declared.ExprData.{ExprData}
use Rattle.plan_data.specs.declared.ExprData.TheVariants.{Literal, ColumnRef, Unary, Binary, Nary}
use Rattle.plan_data.proofs.NodeLaws.{ExprAt}
use Rattle.rows_spec.specs.Compare.{known, truth_of, of_truth}
use Rattle.rows_spec.specs.Typing.{kind_of_node, boolean_at, wanted, node_typed}
use Rattle.rows_spec.specs.Cells.{row_ok}
use Rattle.rows_spec.specs.declared.Row.{Row}
use Rattle.rows_spec.proofs.CompareLaws.{truth_code, truth_back}
use Rattle.rows_laws.proofs.NodeRules.{NodeOk, node_ok}
use Rattle.rows_laws.proofs.ValueKinds.{of_kind, value-kind}
use Rattle.simplify_spec.specs.Shapes.{shape_of}
use Rattle.simplify_spec.specs.OneExpression.{node_in, shape_in, st_of, handle, kept, failed, took, with_node, add_record, add_node, add_literal}
use Rattle.simplify_spec.specs.OneExpression.{not_other, not_step, not_of, compare_of, enter_of, simplify_at}
use Rattle.simplify_spec.specs.OneOperator.{plan_with}
use Rattle.simplify_spec.specs.Meaning.{bare, Alike, Good, Grown, Fixed, value_in, kind_in, TypedIn}
use Rattle.simplify_spec.specs.declared.Tables.{Tables}
use Rattle.simplify_spec.specs.Answers.{Simplified}
use Rattle.simplify_spec.specs.declared.Shape.{Shape}
use Rattle.simplify_spec.specs.declared.Shape.TheVariants.{Boolean, Not, Compare, And, Or, Other}
use Rattle.simplify_spec.proofs.StepLaws.{enter_in, simplify_at_lem}
use Rattle.simplify_spec.proofs.ShapeLaws.{boolean_of-shape, not-of-shape}
use Rattle.simplify_spec.proofs.Alikes.{same_truth, same-compare, bare_truth, boolean_bare}
use Rattle.simplify_spec.proofs.Growth.{AllBelow, part-below, grown-self, grown-on, grown-told, old-node, old_value, old-part, unary_below}
use Rattle.simplify_spec.proofs.Growth.{compare-below, value-literal, value_not, value-compare}
use Rattle.simplify_spec.proofs.Adding.{RightAt, literal-right, not_right, compare-right, new-node, node-grows}

module _ (p : Plan) where
  -- what is under a Not that is left alone
  pub record Inner (st : Tables) (d : ℕ) : Type 0 where
    pub fixed : Fixed p st d
    pub other : (e : Expr) → shape_in st d ≡ Not e → ⊥

  module _ (S : ℕ → Bool) where
    pub record Meant (st : Tables) (h : ℕ) (r : Simplified) : Type 0 where
      pub rules : TypedIn p S r.st
      pub member : S r.at ≡ true
      pub kind : kind_in p r.st r.at ≡ kind_in p st h
      pub value : (row : Row) → row_ok p row ≡ true → Alike (value_in p r.st row r.at) (value_in p st row h)

    pub record Kept (st : Tables) (h : ℕ) (r : Simplified) : Type 0 where
      pub grows : Grown p st r.st
      pub within : r.at < r.st.exprs.count
      pub fixed : Fixed p r.st r.at
      pub inner : (e : Expr) → shape_in r.st r.at ≡ Not e → Inner r.st e.0
      pub typed : TypedIn p S st → S h ≡ true → Meant st h r
      pub still : r.st.changed ≡ false → (r.st ≡ st) × (r.at ≡ h)

  pub more-exprs : (a b : Tables) → Grown p a b → a.exprs.count ≤ b.exprs.count
  more-exprs a b w = w.extends.exprs

  pub more-items : (a b : Tables) → Grown p a b → a.items.count ≤ b.items.count
  more-items a b w = w.extends.items

  module _ (a b : Tables) (g : Good p a) (w : Grown p a b) where
    pub old-shape : (h : ℕ) → h < a.exprs.count → shape_in b h ≡ shape_in a h
    old-shape h lt = ap shape_of (old-node p a b g w h lt)

    pub old-kind : (h : ℕ) → h < a.exprs.count → kind_in p b h ≡ kind_in p a h
    old-kind h lt = ap (kind_of_node p.columns.kind) (old-node p a b g w h lt)

  -- a Boolean expression has NULL or a Boolean for value
  pub bool_val : (st : Tables) → Good p st → (row : Row) → row_ok p row ≡ true → (h : ℕ) → h < st.exprs.count → kind_in p st h ≡ K.Boolean
      → of_truth (truth_of (value_in p st row h)) ≡ bare (value_in p st row h)
  bool_val st g row ok h lt e =
      boolean_bare (value_in p st row h)
      (subst (λ (k : Kind). of_kind k (value_in p st row h) ≡ true) e (value-kind (plan_with p st) row (rules-of (plan_with p st) g.rules) ok h lt))

  pub boolean_kind : (st : Tables) (h : ℕ) → boolean_at p.columns.kind (node_in st) h ≡ true → kind_in p st h ≡ K.Boolean
  boolean_kind st h e = kinds-same (kind_in p st h) K.Boolean e

  pub kind_boolean : (st : Tables) (h : ℕ) → kind_in p st h ≡ K.Boolean → boolean_at p.columns.kind (node_in st) h ≡ true
  kind_boolean st h e = ap (λ (k : Kind). same_kind k K.Boolean) e

  -- ---- typed nodes stay typed
  every-same : (f g : ℕ → Bool) (h : ℕ) (l : List ℕ) → AllBelow h l → ((e : ℕ) → e < h → f e ≡ g e) → every f l ≡ every g l
  unfolding every AllBelow
  every-same f g h [] u q = refl
  every-same f g h (x ∷ l) u q = ap₂ (λ (s t : Bool). s && t) (q x u.0) (every-same f g h l u.1 q)

  module _ (S : ℕ → Bool) (a b : Tables) (g : Good p a) (w : Grown p a b) where
    abbrev bool_a : ℕ → Bool
    bool_a = boolean_at p.columns.kind (node_in a)

    abbrev bool_b : ℕ → Bool
    bool_b = boolean_at p.columns.kind (node_in b)

    bools-same : (n : ℕ) → n ≤ a.exprs.count → (e : ℕ) → e < n → boolean_at p.columns.kind (node_in a) e ≡ boolean_at p.columns.kind (node_in b) e
    bools-same n le e lt = ap (λ (k : Kind). same_kind k K.Boolean) (sym (old-kind a b g w e (omega arith)))

    pub typed-go : (n : ℕ) → n ≤ a.exprs.count → (d : ExprData) → NodeOk p.columns.count a.items.a a.items.count n d
        → node_typed S (boolean_at p.columns.kind (node_in a)) (operands_of a.items.a) d ≡ true
        → node_typed S (boolean_at p.columns.kind (node_in b)) (operands_of b.items.a) d ≡ true
    typed-go n le (Literal v) ok t = refl
    typed-go n le (ColumnRef c) ok t = refl
    typed-go n le (Unary U.Not e) ok t = ap (λ (x : Bool). S e.0 && x) (sym (bools-same n le e.0 ok)) ∙ t
    typed-go n le (Unary U.IsNull e) ok t = t
    typed-go n le (Unary U.IsNotNull e) ok t = t
    typed-go n le (Unary U.Negate e) ok t = t
    typed-go n le (Binary op l r) ok t = t
    typed-go n le (Nary op es) ok t =
        let within : es.start + es.count ≤ a.items.count = ok.0 in
        let below : AllBelow n (take es.count (drop es.start a.items.a)) =
        part-below n a.items.a es.count es.start (omega (arith, within, sizes)) ok.1 in
        ap (every (wanted S bool_b)) (old-part p a b g w es.start es.count within)
        ∙ every-same (wanted S bool_b) (wanted S bool_a) n (take es.count (drop es.start a.items.a)) below
        (λ e lt. ap (λ (x : Bool). S e && x) (sym (bools-same n le e lt)))
        ∙ t
      where
        sizes : a.items.count ≤ length a.items.a
        sizes = omega (arith, (counts-within (plan_with p a) g.rules).items, g.sized.item_a)

    pub typed-on : TypedIn p S a
        → ((j : ℕ) → a.exprs.count ≤ j → j < b.exprs.count → node_typed S (boolean_at p.columns.kind (node_in b)) (operands_of b.items.a) (node_in b j)
        ≡ true)
        → TypedIn p S b
    typed-on ty new k kl sk = ⊎_elim old (λ ge. new k ge kl) (below_or_not k a.exprs.count)
      where
        old : k < a.exprs.count → node_typed S (boolean_at p.columns.kind (node_in b)) (operands_of b.items.a) (node_in b k) ≡ true
        old l =
            subst (λ (d : ExprData). node_typed S (boolean_at p.columns.kind (node_in b)) (operands_of b.items.a) d ≡ true) (sym (old-node p a b g w k l))
            (typed-go k (omega arith) (node_in a k) (node_ok (plan_with p a) g.rules k l) (ty k l sk))

  pub inner-on : (s t : Tables) (d : ℕ) → Good p s → Grown p s t → d < s.exprs.count → Inner s d → Inner t d
  inner-on s t d g w l i =
      record {
        fixed = λ u v. i.fixed u (grown-on p s t u w v);
        other = λ e q. i.other e (sym (old-shape s t g w d l) ∙ q);
      }

  -- an expression that is not entered
  pub kept_leaf : (S : ℕ → Bool) (st : Tables) (h : ℕ) → Good p st → h < st.exprs.count → ((t : Tables) → Grown p st t → simplify_at h t ≡ kept t h)
      → ((e : Expr) → shape_in st h ≡ Not e → ⊥) → Kept S st h (kept st h)
  kept_leaf S st h g hl f n =
      record {
        grows = grown-self p st g;
        within = hl;
        fixed = f;
        inner = λ e q. absurd (n e q);
        typed = λ ty sh. record { rules = ty; member = sh; kind = refl; value = λ row ok. refl };
        still = λ e. (refl, refl);
      }

  -- ---- appending
  module _ (S : ℕ → Bool) (st : Tables) (h : ℕ) (fresh : (j : ℕ) → st.exprs.count ≤ j → S j ≡ true) where
    -- what is to be shown of a node that is appended to s
    pub record NewMeant (s : Tables) (d : ExprData) : Type 0 where
      pub rules : TypedIn p S s
      pub rule : node_typed S (boolean_at p.columns.kind (node_in s)) (operands_of s.items.a) d ≡ true
      pub kind : kind_of_node p.columns.kind d ≡ kind_in p st h
      pub value : (row : Row) → row_ok p row ≡ true → (t : Tables) → Grown p s t → (n : ℕ) → n < t.exprs.count → node_in t n ≡ d
          → Alike (value_in p t row n) (value_in p st row h)

    module _ (s : Tables) (w : Grown p st s) (d : ExprData) (start : ℕ) (back : ExprAt start d)
        (right : RightAt s.items.a s.items.b s.items.count p.columns.count p.operators.count start s.exprs.count d)
        (fixed : (t : Tables) → Grown p s t → (n : ℕ) → s.exprs.count ≤ n → node_in t n ≡ d → n < t.exprs.count → simplify_at n t ≡ kept t n)
        (inner : (e : Expr) → shape_of d ≡ Not e → (e.0 < s.exprs.count) × Inner s e.0)
        (typed : TypedIn p S st → S h ≡ true → NewMeant s d) where
      kept_add : s.exprs.count < 1024 → Kept S st h (kept (with_node s (record_of_expr d) start) s.exprs.count)
      kept_add room =
          record {
            grows = grown-on p st s s' w v;
            within = omega arith;
            fixed = λ t u.
                fixed t (grown-on p s s' t v u) s.exprs.count (le_refl _) (old-node p s' t v.good u s.exprs.count (omega arith) ∙ is-new)
                (omega (arith, more-exprs s' t u));
            inner = λ e q.
                let i = inner e (sym (ap shape_of is-new) ∙ q) in
                inner-on s s' e.0 g v i.0 i.1;
            typed = λ ty sh.
                let m = typed ty sh in
                record {
                  rules = typed-on S s s' g v m.rules (λ j ge lt. last m.rule j (omega arith));
                  member = fresh s.exprs.count (more-exprs st s w);
                  kind = ap (kind_of_node p.columns.kind) is-new ∙ m.kind;
                  value = λ row ok. m.value row ok s' v s.exprs.count (omega arith) is-new;
                };
            still = λ e. absurd (true≢false e);
          }
        where
          g : Good p s
          g = w.good

          s' : Tables
          s' = with_node s (record_of_expr d) start

          v : Grown p s (with_node s (record_of_expr d) start)
          v = node-grows p s g room d start right back

          is-new : node_in (with_node s (record_of_expr d) start) s.exprs.count ≡ d
          is-new = new-node p s g room d start right back

          last : node_typed S (boolean_at p.columns.kind (node_in s)) (operands_of s.items.a) d ≡ true
              → (j : ℕ) → j ≡ s.exprs.count
              → node_typed S (boolean_at p.columns.kind (node_in (with_node s (record_of_expr d) start))) (operands_of s.items.a)
              (node_in (with_node s (record_of_expr d) start) j) ≡ true
          last r j e =
              subst (λ (x : ExprData). node_typed S (boolean_at p.columns.kind (node_in (with_node s (record_of_expr d) start))) (operands_of s.items.a) x
              ≡ true)
              (sym (ap (node_in (with_node s (record_of_expr d) start)) e ∙ is-new))
              (typed-go S s (with_node s (record_of_expr d) start) g v s.exprs.count (le_refl _) d
              (subst (NodeOk p.columns.count s.items.a s.items.count s.exprs.count) is-new
              (node_ok (plan_with p (with_node s (record_of_expr d) start)) v.good.rules s.exprs.count (omega arith))) r)

      pub fine_add : (add_record s (record_of_expr d) start).ok ≡ true → Kept S st h (add_record s (record_of_expr d) start)
      fine_add = go (ltb s.exprs.count 1024) refl
        where
          go : (t : Bool) → ltb s.exprs.count 1024 ≡ t
              → (cond t (kept (with_node s (record_of_expr d) start) s.exprs.count) (failed s)).ok ≡ true
              → Kept S st h (cond t (kept (with_node s (record_of_expr d) start) s.exprs.count) (failed s))
          go true e q = kept_add (ltb-true s.exprs.count 1024 e)
          go false e q = absurd (true≢false (sym q))

    -- a literal that is appended
    pub fine_literal : (s : Tables) → Grown p st s → (b : Bool)
        → (TypedIn p S st → S h ≡ true → (TypedIn p S s) × (kind_in p st h ≡ K.Boolean)
        × ((row : Row) → row_ok p row ≡ true → Scalar.Boolean b ≡ bare (value_in p st row h)))
        → (add_literal s b).ok ≡ true → Kept S st h (add_literal s b)
    fine_literal s w b m =
        fine_add s w (Literal (Scalar.Boolean b)) s.items.count tt
        (literal-right s.items.a s.items.b s.items.count p.columns.count p.operators.count s.items.count s.exprs.count (le_refl _)
        b)
        (λ t v n ge e lt. simplify_at_lem n t (Boolean b) (ap shape_of e))
        (λ e q. absurd (let z : ◌≡◌ {A = ℕ} 0 1 = cc in omega arith))
        (λ ty sh.
        record {
          rules = (m ty sh).0;
          rule = refl;
          kind = sym (m ty sh).1;
          value = λ row ok t v n lt e. ap bare (value-literal p t v.good row n lt (Scalar.Boolean b) e) ∙ (m ty sh).2 row ok;
        })

    -- an expression that was there
    pub kept-took : (s : Tables) → Grown p st s → (d : ℕ) → d < s.exprs.count → Fixed p s d → ((e : Expr) → shape_in s d ≡ Not e → Inner s e.0)
        → (TypedIn p S st → S h ≡ true → Meant S st h (kept s d))
        → Kept S st h (took s d)
    kept-took s w d dl f i m =
        let s' : Tables = st_of s.exprs s.items true in
        let v : Grown p s s' = grown-told p s true w.good in
        record {
          grows = grown-on p st s s' w v;
          within = dl;
          fixed = λ t u. f t (grown-on p s s' t v u);
          inner = λ e q.
              let lt : e.0 < d = unary_below p s w.good d dl U.Not e (not-of-shape (node_in s d) e q) in
              inner-on s s' e.0 w.good v (omega arith) (i e q);
          typed = λ ty sh.
              let n = m ty sh in
              record { rules = n.rules; member = n.member; kind = n.kind; value = n.value };
          still = λ e. absurd (true≢false e);
        }

    -- ---- Not
    module _ (g : Good p st) (hl : h < st.exprs.count) (a : Expr) (is : node_in st h ≡ Unary U.Not a)
        (s : Tables) (i : ℕ) (N : Kept S st a.0 (record { st = s; at = i; ok = true })) where
      kind_h : kind_in p st h ≡ K.Boolean
      kind_h = ap (kind_of_node p.columns.kind) is

      hs : h < s.exprs.count
      hs = omega (arith, more-exprs st s N.grows)

      rule_h : TypedIn p S st → S h ≡ true → (S a.0 && boolean_at p.columns.kind (node_in st) a.0) ≡ true
      rule_h ty sh = subst (λ (d : ExprData). node_typed S (boolean_at p.columns.kind (node_in st)) (operands_of st.items.a) d ≡ true) is (ty h hl sh)

      operand : TypedIn p S st → S h ≡ true → Meant S st a.0 (record { st = s; at = i; ok = true })
      operand ty sh = N.typed ty (and_left (S a.0) _ (rule_h ty sh))

      operand_boolean : TypedIn p S st → S h ≡ true → kind_in p s i ≡ K.Boolean
      operand_boolean ty sh = (operand ty sh).kind ∙ boolean_kind st a.0 (and_right (S a.0) _ (rule_h ty sh))

      value-old : (row : Row) → row_ok p row ≡ true → TypedIn p S st → S h ≡ true → of_truth (not_t (truth_of (value_in p s row i))) ≡ value_in p st row h
      value-old row ok ty sh =
          ap (λ (t : ℕ). of_truth (not_t t)) (same_truth (value_in p s row i) (value_in p st row a.0) ((operand ty sh).value row ok))
          ∙ sym (value_not p st g row h hl a is)

      not-literal : (b : Bool) → shape_in s i ≡ Boolean b → (add_literal s (not b)).ok ≡ true → Kept S st h (add_literal s (not b))
      not-literal b e =
          fine_literal s N.grows (not b)
          (λ ty sh. (
            (operand ty sh).rules,
            kind_h,
            λ row ok.
                turn b ∙ sym (bare_truth (not_t (known b)))
                ∙ ap (λ (v : ScalarValue). bare (of_truth (not_t (truth_of v))))
                (sym (value-literal p s N.grows.good row i N.within (Scalar.Boolean b) (boolean_of-shape (node_in s i) b e)))
                ∙ ap bare (value-old row ok ty sh),
          ))
        where
          turn : (c : Bool) → Scalar.Boolean (not c) ≡ of_truth (not_t (known c))
          turn true = refl
          turn false = refl

      not-again : (e : Expr) → shape_in s i ≡ Not e → Kept S st h (took s e.0)
      not-again e q =
          kept-took s N.grows e.0 es (N.inner e q).fixed (λ d r. absurd ((N.inner e q).other d r)) meant
        where
          node_i : node_in s i ≡ Unary U.Not e
          node_i = not-of-shape (node_in s i) e q

          below : e.0 < i
          below = unary_below p s N.grows.good i N.within U.Not e node_i

          es : e.0 < s.exprs.count
          es = omega (arith, below, N.within)

          meant : TypedIn p S st → S h ≡ true → Meant S st h (kept s e.0)
          meant ty sh =
              let n = operand ty sh in
              let r : (S e.0 && boolean_at p.columns.kind (node_in s) e.0) ≡ true =
              subst (λ (d : ExprData). node_typed S (boolean_at p.columns.kind (node_in s)) (operands_of s.items.a) d ≡ true) node_i
              (n.rules i N.within n.member) in
              let k : kind_in p s e.0 ≡ K.Boolean = boolean_kind s e.0 (and_right (S e.0) _ r) in
              record {
                rules = n.rules;
                member = and_left (S e.0) _ r;
                kind = k ∙ sym kind_h;
                value = λ row ok.
                    let v = value_in p s row e.0 in
                    sym (bool_val s N.grows.good row ok e.0 es k)
                    ∙ ap of_truth
                    (sym (not_t-not_t (truth_of (value_in p s row e.0)) (truth_code (value_in p s row e.0)))
                    ∙ ap not_t (sym (truth_back (not_t (truth_of (value_in p s row e.0))) (not_code (truth_of (value_in p s row e.0)))))
                    ∙ ap (λ (x : ScalarValue). not_t (truth_of x)) (sym (value_not p s N.grows.good row i N.within e node_i)))
                    ∙ sym (bare_truth (not_t (truth_of (value_in p s row i))))
                    ∙ ap bare (value-old row ok ty sh);
              }

      -- i is neither a literal nor a Not
      module _ (nb : (b : Bool) → shape_in s i ≡ Boolean b → ⊥) (nn : (e : Expr) → shape_in s i ≡ Not e → ⊥) where
        stays : (t : Tables) → Grown p s t → (j : ℕ) → shape_in t j ≡ Not (handle i) → i < j → simplify_at j t ≡ kept t j
        unfolding not_of
        stays t w j e lt =
            simplify_at_lem j t (Not (handle i)) e
            ∙ ap (not_of j i) (enter_in j i t lt ∙ N.fixed t w)
            ∙ go (shape_in t i) refl
          where
            same : shape_in t i ≡ shape_in s i
            same = old-shape s t N.grows.good w i N.within

            here : not_other t i i j ≡ kept t j
            here = rw (eq-eqb i i refl)

            go : (x : Shape) → shape_in t i ≡ x → not_step t i i j x ≡ kept t j
            go (Boolean b) q = absurd (nb b (sym same ∙ q))
            go (Not d) q = absurd (nn d (sym same ∙ q))
            go (Compare op l r) q = here
            go (And start count) q = here
            go (Or start count) q = here
            go Other q = here

        not_same : i ≡ a.0 → Kept S st h (kept s h)
        not_same e =
            record {
              grows = N.grows;
              within = hs;
              fixed = λ t w.
                  stays t w h (old-shape s t N.grows.good w h hs ∙ old-shape st s g N.grows h hl ∙ ap shape_of is ∙ ap (λ (k : ℕ). Not (handle k))
                  (sym e))
                  (omega (arith, unary_below p st g h hl U.Not a is));
              inner = λ d q.
                  let same : d.0 ≡ i = ap (λ (x : ℕ). x) (sym (given d q)) in
                  subst (Inner s) (sym same) (record { fixed = N.fixed; other = nn });
              typed = λ ty sh. record {
                rules = (operand ty sh).rules;
                member = sh;
                kind = old-kind st s g N.grows h hl;
                value = λ row ok. ap bare (old_value p st s g N.grows row h hl);
              };
              still = λ q. ((N.still q).0, refl);
            }
          where
            given : (d : Expr) → shape_in s h ≡ Not d → i ≡ d.0
            given d q =
                let x : Not a ≡ Not d = sym (ap shape_of is) ∙ sym (old-shape st s g N.grows h hl) ∙ q in
                let y : a ≡ d = cc in
                e ∙ ap (λ (z : Expr). z.0) y

        not_new : (add_node s (Unary U.Not (handle i))).ok ≡ true → Kept S st h (add_node s (Unary U.Not (handle i)))
        not_new =
            fine_add s N.grows (Unary U.Not (handle i)) s.items.count tt
            (not_right s.items.a s.items.b s.items.count p.columns.count p.operators.count s.items.count s.exprs.count (le_refl _)
            (handle i) N.within)
            (λ t v n ge e lt. stays t v n (ap shape_of e) (omega (arith, N.within)))
            (λ d q.
            let y : handle i ≡ d = cc in
            subst (λ (z : ℕ). (z < s.exprs.count) × Inner s z) (ap (λ (z : Expr). z.0) y) (N.within, record { fixed = N.fixed; other = nn }))
            (λ ty sh.
            let n = operand ty sh in
            record {
              rules = n.rules;
              rule = and_both (S i) _ n.member (kind_boolean s i (operand_boolean ty sh));
              kind = sym kind_h;
              value = λ row ok t v j lt e.
                  ap bare
                  (value_not p t v.good row j lt (handle i) e
                  ∙ ap (λ (x : ScalarValue). of_truth (not_t (truth_of x))) (old_value p s t N.grows.good v row i N.within)
                  ∙ value-old row ok ty sh);
            })

        not_else : (not_other s i a.0 h).ok ≡ true → Kept S st h (not_other s i a.0 h)
        not_else = go (eqb i a.0) refl
          where
            go : (t : Bool) → eqb i a.0 ≡ t → (cond t (kept s h) (add_node s (Unary U.Not (handle i)))).ok ≡ true
                → Kept S st h (cond t (kept s h) (add_node s (Unary U.Not (handle i))))
            go true e q = not_same (eqb-true i a.0 e)
            go false e q = not_new q

      pub fine_not : (x : Shape) → shape_in s i ≡ x → (not_step s i a.0 h x).ok ≡ true → Kept S st h (not_step s i a.0 h x)
      fine_not (Boolean b) e q = not-literal b e q
      fine_not (Not d) e q = not-again d e
      fine_not (Compare op l r) e q =
          not_else (λ b f. absurd (let z : ◌≡◌ {A = ℕ} 0 1 = cc in omega arith)) (λ d f. absurd (let z : ◌≡◌ {A = ℕ} 0 1 = cc in omega arith)) q
      fine_not (And start count) e q =
          not_else (λ b f. absurd (let z : ◌≡◌ {A = ℕ} 0 1 = cc in omega arith)) (λ d f. absurd (let z : ◌≡◌ {A = ℕ} 0 1 = cc in omega arith)) q
      fine_not (Or start count) e q =
          not_else (λ b f. absurd (let z : ◌≡◌ {A = ℕ} 0 1 = cc in omega arith)) (λ d f. absurd (let z : ◌≡◌ {A = ℕ} 0 1 = cc in omega arith)) q
      fine_not Other e q =
          not_else (λ b f. absurd (let z : ◌≡◌ {A = ℕ} 0 1 = cc in omega arith)) (λ d f. absurd (let z : ◌≡◌ {A = ℕ} 0 1 = cc in omega arith)) q

    -- ---- comparisons
    module _ (g : Good p st) (hl : h < st.exprs.count) (op : BinaryOp) (l r : Expr) (is : node_in st h ≡ Binary op l r)
        (s : Tables) (i : ℕ) (N : Kept S st l.0 (record { st = s; at = i; ok = true }))
        (u : Tables) (j : ℕ) (M : Kept S s r.0 (record { st = u; at = j; ok = true })) where
      w : Grown p st u
      w = grown-on p st s u N.grows M.grows

      hu : h < u.exprs.count
      hu = omega (arith, more-exprs st u w)

      iu : i < u.exprs.count
      iu = omega (arith, N.within, more-exprs s u M.grows)

      rule_c : TypedIn p S st → S h ≡ true → (S l.0 && S r.0) ≡ true
      rule_c ty sh = subst (λ (d : ExprData). node_typed S (boolean_at p.columns.kind (node_in st)) (operands_of st.items.a) d ≡ true) is (ty h hl sh)

      left_typed : TypedIn p S st → S h ≡ true → Meant S st l.0 (record { st = s; at = i; ok = true })
      left_typed ty sh = N.typed ty (and_left (S l.0) _ (rule_c ty sh))

      right-typed : TypedIn p S st → S h ≡ true → Meant S s r.0 (record { st = u; at = j; ok = true })
      right-typed ty sh = M.typed (left_typed ty sh).rules (and_right (S l.0) _ (rule_c ty sh))

      stays-compare : (t : Tables) → Grown p u t → (q : ℕ) → shape_in t q ≡ Compare op (handle i) (handle j) → i < q → j < q → simplify_at q t ≡ kept t q
      unfolding compare_of
      stays-compare t v q e il jl =
          simplify_at_lem q t (Compare op (handle i) (handle j)) e
          ∙ ap (λ (x : Simplified). compare_of q op i j x.at (enter_of simplify_at q x.ok x.st j))
          (enter_in q i t il ∙ N.fixed t (grown-on p s u t M.grows v))
          ∙ ap (compare_of q op i j i) (enter_in q j t jl ∙ M.fixed t v)
          ∙ rw (eq-eqb i i refl, eq-eqb j j refl)

      compare_same : i ≡ l.0 → j ≡ r.0 → Kept S st h (kept u h)
      compare_same ei ej =
          record {
            grows = w;
            within = hu;
            fixed = λ t v.
                stays-compare t v h
                (old-shape u t M.grows.good v h hu ∙ old-shape st u g w h hl ∙ ap shape_of is ∙ ap₂ (λ (x y : ℕ). Compare op (handle x) (handle y))
                (sym ei) (sym ej))
                (omega (arith, (compare-below p st g h hl op l r is).0)) (omega (arith, (compare-below p st g h hl op l r is).1));
            inner = λ d q.
                let x : Compare op l r ≡ Not d = sym (ap shape_of is) ∙ sym (old-shape st u g w h hl) ∙ q in
                absurd (let z : ◌≡◌ {A = ℕ} 0 1 = cc in omega arith);
            typed = λ ty sh. record {
              rules = (right-typed ty sh).rules;
              member = sh;
              kind = old-kind st u g w h hl;
              value = λ row ok. ap bare (old_value p st u g w row h hl);
            };
            still = λ q.
                let a : u ≡ s = (M.still q).0 in
                (a ∙ (N.still (ap (λ (x : Tables). x.changed) (sym a) ∙ q)).0, refl);
          }

      compare-new : (add_node u (Binary op (handle i) (handle j))).ok ≡ true → Kept S st h (add_node u (Binary op (handle i) (handle j)))
      compare-new =
          fine_add u w (Binary op (handle i) (handle j)) u.items.count tt
          (compare-right u.items.a u.items.b u.items.count p.columns.count p.operators.count u.items.count u.exprs.count
          (le_refl _) op (handle i) (handle j) iu M.within)
          (λ t v n ge e lt. stays-compare t v n (ap shape_of e) (omega (arith, iu)) (omega (arith, M.within)))
          (λ d q. absurd (let z : ◌≡◌ {A = ℕ} 0 1 = cc in omega arith))
          (λ ty sh.
          record {
            rules = (right-typed ty sh).rules;
            rule = and_both (S i) _ (left_typed ty sh).member (right-typed ty sh).member;
            kind = sym (ap (kind_of_node p.columns.kind) is);
            value = λ row ok t v n lt e.
                ap bare
                (value-compare p t v.good row n lt op (handle i) (handle j) e
                ∙ ap of_truth
                (same-compare op (value_in p t row i) (value_in p st row l.0) (value_in p t row j) (value_in p st row r.0)
                (ap bare (old_value p u t M.grows.good v row i iu ∙ old_value p s u N.grows.good M.grows row i N.within) ∙ (left_typed ty
                sh).value row ok)
                (ap bare (old_value p u t M.grows.good v row j M.within) ∙ (right-typed ty sh).value row ok
                ∙ ap bare (old_value p st s g N.grows row r.0 (omega (arith, (compare-below p st g h hl op l r is).1)))))
                ∙ sym (value-compare p st g row h hl op l r is));
          })

      pub fine_compare : (compare_of h op l.0 r.0 i (record { st = u; at = j; ok = true })).ok ≡ true
          → Kept S st h (compare_of h op l.0 r.0 i (record { st = u; at = j; ok = true }))
      unfolding compare_of
      fine_compare = go (eqb i l.0) (eqb j r.0) refl refl
        where
          go : (x y : Bool) → eqb i l.0 ≡ x → eqb j r.0 ≡ y
              → (cond (x && y) (kept u h) (add_node u (Binary op (handle i) (handle j)))).ok ≡ true → Kept S st h
              (cond (x && y) (kept u h) (add_node u (Binary op (handle i) (handle j))))
          go true true ex ey q = compare_same (eqb-true i l.0 ex) (eqb-true j r.0 ey)
          go true false ex ey q = compare-new q
          go false y ex ey q = compare-new q
