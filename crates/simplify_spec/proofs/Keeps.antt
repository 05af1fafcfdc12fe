-- What simplifying keeps, at And and Or and altogether. Assumes nothing.
use mathlib.Core.Path.{◌≡◌, refl, sym, ap, subst, ◌∙◌}
use mathlib.Core.Bool.{Bool, true, false, not, cond, true≢false}
use mathlib.Core.List.{List, [], ◌∷◌}
use Prim.Native.Nat.{ℕ, zero, suc, ◌+◌, ◌<◌, ◌≤◌}
use native.Mathlib.Omega.{arith}
use native.Mathlib.Nat.{le_refl}
use lib.ListN.{length, take, drop}
use borrow.Author.Tests.{leb-true}
use Rattle.comparison.specs.declared.BinaryOp.{BinaryOp}
use Rattle.scalar.specs.declared.Kind.TheVariants as K
use Rattle.plan.specs.declared.Plan.{Plan}
use Rattle.plan.specs.declared.Expr.{Expr}
use Rattle.plan_rules.proofs.AppendRules.{counts-within}
use Rattle.plan_data.specs.Nodes.{run_of, record_of_expr, operands_of}
use Rattle.plan_data.specs.declared.UnaryOp.TheVariants as U
use Rattle.plan_data.specs.declared.ExprData.{ExprData}
use Rattle.plan_data.specs.declared.ExprData.TheVariants.{Unary, Binary, Nary}
use Rattle.rows_spec.specs.Compare.{truth_of, of_truth}
use Rattle.rows_spec.specs.Typing.{kind_of_node, boolean_at, node_typed}
use Rattle.rows_spec.specs.declared.Row.{Row}
use Rattle.rows_spec.proofs.CompareLaws.{truth_code}
use Rattle.simplify_spec.specs.Shapes.{shape_of, nary_op_for}
use Rattle.simplify_spec.specs.OneExpression.{node_in, shape_in, kept, failed, took, add_record, add_literal, add_nary, not_step, not_of}
use Rattle.simplify_spec.specs.OneExpression.{compare_of, enter_of, Operands, operands_from, items_put, counted, with_items, room_for, rebuilt}
use Rattle.simplify_spec.specs.OneExpression.{nary_of, step_by, simplify_at}
use Rattle.simplify_spec.specs.OneOperator.{plan_with}
use Rattle.simplify_spec.specs.Meaning.{bare, Good, Grown, value_in, kind_in, TypedIn}
use Rattle.simplify_spec.specs.declared.Tables.{Tables}
use Rattle.simplify_spec.specs.Answers.{Simplified}
use Rattle.simplify_spec.specs.declared.Shape.{Shape}
use Rattle.simplify_spec.specs.declared.Shape.TheVariants.{Boolean, Not, Compare, And, Or, Other}
use Rattle.simplify_spec.proofs.StepLaws.{enter_in, simplify_at_lem}
use Rattle.simplify_spec.proofs.ShapeLaws.{nary_shape_of, not-of-shape, compare-of-shape, nary_of-shape}
use Rattle.simplify_spec.proofs.Alikes.{bare_truth, truth_all, join_t, all_none, all_first, join_one, of-known}
use Rattle.simplify_spec.proofs.Growth.{AllBelow, below_more, grown-on, old-node, old_value, old-part, all_same, unary_below, compare-below}
use Rattle.simplify_spec.proofs.Growth.{list-within, list-below, value_nary}
use Rattle.simplify_spec.proofs.Adding.{list-grows, list-part, list_right}
use Rattle.simplify_spec.proofs.Keeping.{Kept, more-exprs, old-shape, old-kind, bool_val, boolean_kind, typed-on, kept_leaf, fine_add}
use Rattle.simplify_spec.proofs.Keeping.{fine_literal, kept-took, fine_not, fine_compare}
use Rattle.simplify_spec.proofs.Operating.{AllPlain, Wanted, wanted-first, wanted-on, RunMeant, RunKept, all-plain-on, operands-fixed, run-kept}

-- And and Or alike
nary_shape_lem : (all : Bool) (s n : ℕ) → shape_of (Nary (nary_op_for all) (run_of s n)) ≡ nary_shape_of all s n
nary_shape_lem true s n = refl
nary_shape_lem false s n = refl

nary_step : (all : Bool) (s n h : ℕ) (t : Tables) → step_by simplify_at h t (nary_shape_of all s n) ≡ nary_of all h (operands_from simplify_at all h
    true t s n)
nary_step true s n h t = refl
nary_step false s n h t = refl

nary_other : (all : Bool) (s n : ℕ) (e : Expr) → nary_shape_of all s n ≡ Not e → ⊥
nary_other true s n e q = let z : ◌≡◌ {A = ℕ} 0 1 = cc in omega arith
nary_other false s n e q = let z : ◌≡◌ {A = ℕ} 0 1 = cc in omega arith

module _ (p : Plan) where
  -- an And or Or of plain operands, in whatever the tables grew to
  stays_nary : (all : Bool) (s t : Tables) (l : List ℕ) → Good p s → Grown p s t → AllBelow s.exprs.count l → AllPlain p all s l
      → (j a n : ℕ) → j < t.exprs.count → node_in t j ≡ Nary (nary_op_for all) (run_of a n) → take n (drop a t.items.a) ≡ l → AllBelow j l →
      simplify_at j t
      ≡ kept t j
  unfolding nary_of
  stays_nary all s t l g w u q j a n jl e part uj =
      simplify_at_lem j t (nary_shape_of all a n) (ap shape_of e ∙ nary_shape_lem all a n)
      ∙ nary_step all a n j t
      ∙ ap (nary_of all j)
      (operands-fixed p all j t w.good n a
      (omega (arith, list-within p t w.good j jl all a n e, (counts-within (plan_with p t) w.good.rules).items, w.good.sized.item_a))
      (subst (AllBelow j) (sym part) uj)
      (subst (AllPlain p all t) (sym part) (all-plain-on p all s t l g w u q)))

  module _ (S : ℕ → Bool) (st : Tables) (h : ℕ) (fresh : (j : ℕ) → st.exprs.count ≤ j → S j ≡ true)
      (g : Good p st) (hl : h < st.exprs.count) (all : Bool) (a n : ℕ) (is : node_in st h ≡ Nary (nary_op_for all) (run_of a n))
      (q : Operands) (R : RunKept p S all st a n q) where
    abbrev ops : List ℕ
    ops = take n (drop a st.items.a)

    kind_h : kind_in p st h ≡ K.Boolean
    kind_h = ap (kind_of_node p.columns.kind) is

    within : a + n ≤ st.items.count
    within = list-within p st g h hl all a n is

    ops-below : AllBelow h (take n (drop a st.items.a))
    ops-below = list-below p st g h hl all a n is

    meant : TypedIn p S st → S h ≡ true → RunMeant p S all st a n q
    meant ty sh = R.typed ty (subst (λ (d : ExprData). node_typed S (boolean_at p.columns.kind (node_in st)) (operands_of st.items.a) d ≡ true) is
        (ty h hl sh))

    value_h : (row : Row) → of_truth (truth_all all (value_in p st row) (take n (drop a st.items.a))) ≡ value_in p st row h
    value_h row = sym (value_nary p st g row h hl all a n is)

    bare_h : (row : Row) → of_truth (truth_all all (value_in p st row) (take n (drop a st.items.a))) ≡ bare (value_in p st row h)
    bare_h row = sym (bare_truth (truth_all all (value_in p st row) (take n (drop a st.items.a)))) ∙ ap bare (value_h row)

    nary_absorbed : q.absorbed ≡ true → (add_literal q.st (not all)).ok ≡ true → Kept p S st h (add_literal q.st (not all))
    nary_absorbed e =
        fine_literal p S st h fresh q.st R.grows (not all)
        (λ ty sh. ((meant ty sh).rules, kind_h, λ row ok. sym (of-known (not all)) ∙ ap of_truth (sym ((meant ty sh).absorbs e row ok)) ∙ bare_h row))

    module _ (na : q.absorbed ≡ false) where
      hq : h < q.st.exprs.count
      hq = omega (arith, more-exprs p st q.st R.grows)

      nary_clean : q.dirty ≡ false → Kept p S st h (kept q.st h)
      nary_clean nd =
          record {
            grows = R.grows;
            within = hq;
            fixed = λ t w.
                let v : Grown p st t = grown-on p st q.st t R.grows w in
                stays_nary all q.st t q.kept R.grows.good w R.under (R.plain na) h a n (omega (arith, more-exprs p q.st t w))
                (old-node p st t g v h hl ∙ is) (old-part p st t g v a n within ∙ sym (R.clean nd)) (subst (AllBelow h) (sym (R.clean nd)) ops-below);
            inner = λ e r.
                absurd (nary_other all a n e (sym (nary_shape_lem all a n) ∙ sym (ap shape_of is) ∙ sym (old-shape p st q.st g R.grows h hl) ∙ r));
            typed = λ ty sh. record {
              rules = (meant ty sh).rules;
              member = sh;
              kind = old-kind p st q.st g R.grows h hl;
              value = λ row ok. ap bare (old_value p st q.st g R.grows row h hl);
            };
            still = λ e. (R.still e, refl);
          }

      nary_none : q.kept ≡ [] → (add_literal q.st all).ok ≡ true → Kept p S st h (add_literal q.st all)
      nary_none e =
          fine_literal p S st h fresh q.st R.grows all
          (λ ty sh. (
            (meant ty sh).rules,
            kind_h,
            λ row ok.
                sym (of-known all) ∙ ap of_truth (sym (all_none all (value_in p q.st row))) ∙ ap
                (λ (l : List ℕ). of_truth (truth_all all (value_in p q.st row) l)) (sym e)
                ∙ ap of_truth ((meant ty sh).value row ok) ∙ bare_h row,
          ))

      nary_one : (x : ℕ) → q.kept ≡ x ∷ [] → Kept p S st h (took q.st x)
      unfolding AllBelow AllPlain
      nary_one x e =
          let u : AllBelow q.st.exprs.count (x ∷ []) = subst (AllBelow q.st.exprs.count) e R.under in
          let f : AllPlain p all q.st (x ∷ []) = subst (AllPlain p all q.st) e (R.plain na) in
          kept-took p S st h fresh q.st R.grows x u.0 f.0.fixed f.0.inner
          (λ ty sh.
          let b = wanted-first p S q.st x [] (subst (Wanted p S q.st) e (meant ty sh).bools) in
          let k : kind_in p q.st x ≡ K.Boolean = boolean_kind p q.st x b.1 in
          record {
            rules = (meant ty sh).rules;
            member = b.0;
            kind = k ∙ sym kind_h;
            value = λ row ok.
                sym (bool_val p q.st R.grows.good row ok x u.0 k)
                ∙ ap of_truth
                (sym (join_one all (truth_of (value_in p q.st row x)) (truth_code (value_in p q.st row x)))
                ∙ ap (join_t all (truth_of (value_in p q.st row x))) (sym (all_none all (value_in p q.st row)))
                ∙ sym (all_first all (value_in p q.st row) x [])
                ∙ ap (truth_all all (value_in p q.st row)) (sym e)
                ∙ (meant ty sh).value row ok)
                ∙ bare_h row;
          })

      -- a new list
      module _ (room : q.st.items.count + length q.kept ≤ 2048) where
        gs : Good p q.st
        gs = R.grows.good

        abbrev t0 : Tables
        t0 = with_items q.st (counted (items_put q.st.items q.st.items.count q.kept) (q.st.items.count + length q.kept))

        w0 : Grown p q.st t0
        w0 = list-grows p q.st q.kept gs room

        abbrev new : ExprData
        new = Nary (nary_op_for all) (run_of q.st.items.count (length q.kept))

        part-new : take (length q.kept) (drop q.st.items.count t0.items.a) ≡ q.kept
        part-new = list-part p q.st q.kept gs room

        -- the same in whatever the tables grow to
        part-on : (t : Tables) → Grown p t0 t → take (length q.kept) (drop q.st.items.count t.items.a) ≡ q.kept
        part-on t v = old-part p t0 t w0.good v q.st.items.count (length q.kept) (le_refl _) ∙ part-new

        nary_new : (add_record t0 (record_of_expr (Nary (nary_op_for all) (run_of q.st.items.count (length q.kept)))) q.st.items.count).ok ≡ true
            → Kept p S st h (add_record t0 (record_of_expr (Nary (nary_op_for all) (run_of q.st.items.count (length q.kept)))) q.st.items.count)
        nary_new =
            fine_add p S st h fresh t0 (grown-on p st q.st t0 R.grows w0) new q.st.items.count (refl, omega arith)
            (list_right p q.st q.kept gs room all R.under)
            (λ t v m ge e lt.
            stays_nary all q.st t q.kept gs (grown-on p q.st t0 t w0 v) R.under (R.plain na) m q.st.items.count (length q.kept) lt e
            (part-on t v)
            (below_than m ge))
            (λ e r. absurd (nary_other all q.st.items.count (length q.kept) e (sym (nary_shape_lem all q.st.items.count (length q.kept)) ∙ r)))
            (λ ty sh.
            record {
              rules = typed-on p S q.st t0 gs w0 (meant ty sh).rules (λ j ge lt. absurd (omega arith));
              rule = subst (Wanted p S t0) (sym part-new) (wanted-on p S q.st t0 gs w0 q.kept R.under (meant ty sh).bools);
              kind = sym kind_h;
              value = λ row ok t v m lt e.
                  ap bare
                  (value_nary p t v.good row m lt all q.st.items.count (length q.kept) e
                  ∙ ap of_truth
                  (ap (truth_all all (value_in p t row)) (part-on t v)
                  ∙ all_same p all (value_in p t row) (value_in p q.st row) q.st.exprs.count q.kept R.under
                  (λ j jl. old_value p q.st t gs (grown-on p q.st t0 t w0 v) row j jl)
                  ∙ (meant ty sh).value row ok)
                  ∙ value_h row);
            })
          where
            below_than : (m : ℕ) → q.st.exprs.count ≤ m → AllBelow m q.kept
            below_than m ge = below_more q.st.exprs.count m q.kept ge R.under

      nary_more : (add_nary all q.st q.kept).ok ≡ true → Kept p S st h (add_nary all q.st q.kept)
      nary_more = go (room_for q.st (length q.kept)) refl
        where
          X : Simplified
          X = add_record (with_items q.st (counted (items_put q.st.items q.st.items.count q.kept) (q.st.items.count + length q.kept)))
              (record_of_expr (Nary (nary_op_for all) (run_of q.st.items.count (length q.kept)))) q.st.items.count

          go : (t : Bool) → room_for q.st (length q.kept) ≡ t → (cond t X (failed q.st)).ok ≡ true → Kept p S st h (cond t X (failed q.st))
          go true e o = nary_new (leb-true (q.st.items.count + length q.kept) 2048 e) o
          go false e o = absurd (true≢false (sym o))

      nary_rebuilt : (l : List ℕ) → q.kept ≡ l → (rebuilt all q.st l).ok ≡ true → Kept p S st h (rebuilt all q.st l)
      unfolding rebuilt
      nary_rebuilt [] e o = nary_none e o
      nary_rebuilt (x ∷ []) e o = nary_one x e
      nary_rebuilt (x ∷ y ∷ l) e o =
          subst (λ (m : List ℕ). (add_nary all q.st m).ok ≡ true → Kept p S st h (add_nary all q.st m)) e nary_more o

    pub fine_nary : q.ok ≡ true → (nary_of all h q).ok ≡ true → Kept p S st h (nary_of all h q)
    unfolding nary_of
    fine_nary o = subst (λ (b : Bool). (cond b X (failed q.st)).ok ≡ true → Kept p S st h (cond b X (failed q.st))) (sym o) (one q.absorbed refl)
      where
        X : Simplified
        X = cond q.absorbed (add_literal q.st (not all)) (cond q.dirty (rebuilt all q.st q.kept) (kept q.st h))

        two : q.absorbed ≡ false → (t : Bool) → q.dirty ≡ t
            → (cond t (rebuilt all q.st q.kept) (kept q.st h)).ok ≡ true → Kept p S st h (cond t (rebuilt all q.st q.kept) (kept q.st h))
        two na true e r = nary_rebuilt na q.kept refl r
        two na false e r = nary_clean na e

        one : (t : Bool) → q.absorbed ≡ t
            → (cond t (add_literal q.st (not all)) (cond q.dirty (rebuilt all q.st q.kept) (kept q.st h))).ok ≡ true
            → Kept p S st h (cond t (add_literal q.st (not all)) (cond q.dirty (rebuilt all q.st q.kept) (kept q.st h)))
        one true e r = nary_absorbed e r
        one false e r = two e q.dirty refl r

  nary_ok : (all : Bool) (h : ℕ) (q : Operands) → (nary_of all h q).ok ≡ true → q.ok ≡ true
  unfolding nary_of
  nary_ok all h q = go q.ok
    where
      go : (t : Bool) → (cond t (cond q.absorbed (add_literal q.st (not all)) (cond q.dirty (rebuilt all q.st q.kept) (kept q.st h)))
          (failed q.st)).ok ≡ true → t ≡ true
      go true e = refl
      go false e = e

  -- ---- altogether, by the height of the handle
  module _ (S : ℕ → Bool) where
    module _ (h : ℕ) (st : Tables) (g : Good p st) (hl : h < st.exprs.count) (fresh : (j : ℕ) → st.exprs.count ≤ j → S j ≡ true)
        (ih : (e : ℕ) (s : Tables) → e < h → Good p s → e < s.exprs.count → ((j : ℕ) → s.exprs.count ≤ j → S j ≡ true) → (simplify_at e s).ok ≡ true →
        Kept
        p S s e (simplify_at e s)) where
      at-not : (a : Expr) → shape_in st h ≡ Not a → (simplify_at h st).ok ≡ true → Kept p S st h (simplify_at h st)
      unfolding not_of
      at-not a e =
          subst (λ (r : Simplified). r.ok ≡ true → Kept p S st h r) (sym (simplify_at_lem h st (Not a) e ∙ ap (not_of h a.0) (enter_in h a.0 st al)))
          (go (simplify_at a.0 st).ok refl)
        where
          is : node_in st h ≡ Unary U.Not a
          is = not-of-shape (node_in st h) a e

          al : a.0 < h
          al = unary_below p st g h hl U.Not a is

          x : Simplified
          x = simplify_at a.0 st

          go : (t : Bool) → (simplify_at a.0 st).ok ≡ t
              → (cond t (not_step (simplify_at a.0 st).st (simplify_at a.0 st).at a.0 h
              (shape_in (simplify_at a.0 st).st (simplify_at a.0 st).at)) (failed (simplify_at a.0 st).st)).ok ≡ true
              → Kept p S st h
              (cond t (not_step (simplify_at a.0 st).st (simplify_at a.0 st).at a.0 h
              (shape_in (simplify_at a.0 st).st (simplify_at a.0 st).at)) (failed (simplify_at a.0 st).st))
          go true o r =
              fine_not p S st h fresh g hl a is (simplify_at a.0 st).st (simplify_at a.0 st).at
              (subst (λ (b : Bool). Kept p S st a.0 (record { st = (simplify_at a.0 st).st; at = (simplify_at a.0 st).at; ok = b })) o
              (ih a.0 st al g (omega (arith, al)) fresh o))
              (shape_in (simplify_at a.0 st).st (simplify_at a.0 st).at) refl r
          go false o r = absurd (true≢false (sym r))

      at-compare : (op : BinaryOp) (l r : Expr) → shape_in st h ≡ Compare op l r → (simplify_at h st).ok ≡ true → Kept p S st h (simplify_at h st)
      unfolding compare_of
      at-compare op l r e =
          subst (λ (z : Simplified). z.ok ≡ true → Kept p S st h z)
          (sym (simplify_at_lem h st (Compare op l r) e
          ∙ ap (λ (z : Simplified). compare_of h op l.0 r.0 z.at (enter_of simplify_at h z.ok z.st r.0)) (enter_in h l.0 st ab.0)))
          (one (simplify_at l.0 st).ok refl)
        where
          is : node_in st h ≡ Binary op l r
          is = compare-of-shape (node_in st h) op l r e

          ab : (l.0 < h) × (r.0 < h)
          ab = compare-below p st g h hl op l r is

          C : Simplified → Simplified
          C y = compare_of h op l.0 r.0 (simplify_at l.0 st).at y

          two : (simplify_at l.0 st).ok ≡ true → (y : Simplified) → y ≡ simplify_at r.0 (simplify_at l.0 st).st → (t : Bool) → y.ok ≡ t
              → (compare_of h op l.0 r.0 (simplify_at l.0 st).at y).ok ≡ true → Kept p S st h (compare_of h op l.0 r.0 (simplify_at l.0 st).at y)
          two xo y ey true yo q =
              let x = simplify_at l.0 st in
              let X : Kept p S st l.0 (record { st = (simplify_at l.0 st).st; at = (simplify_at l.0 st).at; ok = true }) =
              subst (λ (b : Bool). Kept p S st l.0 (record { st = (simplify_at l.0 st).st; at = (simplify_at l.0 st).at; ok = b })) xo
              (ih l.0 st ab.0 g (omega (arith, ab.0)) fresh xo) in
              let more : st.exprs.count ≤ (simplify_at l.0 st).st.exprs.count = more-exprs p st (simplify_at l.0 st).st X.grows in
              let Y : Kept p S (simplify_at l.0 st).st r.0 y =
              subst (λ (z : Simplified). z.ok ≡ true → Kept p S (simplify_at l.0 st).st r.0 z) (sym ey)
              (ih r.0 (simplify_at l.0 st).st ab.1 X.grows.good (omega (arith, ab.1, more)) (λ j ge. fresh j (omega (arith, more)))) yo in
              subst (λ (b : Bool). (compare_of h op l.0 r.0 (simplify_at l.0 st).at (record { st = y.st; at = y.at; ok = b })).ok ≡ true → Kept p S
              st h (compare_of h op l.0 r.0 (simplify_at l.0 st).at (record { st = y.st; at = y.at; ok = b }))) (sym yo)
              (fine_compare p S st h fresh g hl op l r is (simplify_at l.0 st).st (simplify_at l.0 st).at X y.st y.at
              (subst (λ (b : Bool). Kept p S (simplify_at l.0 st).st r.0 (record { st = y.st; at = y.at; ok = b })) yo Y)) q
          two xo y ey false yo q = absurd
              (true≢false (sym (ap (λ (b : Bool). (compare_of h op l.0 r.0 (simplify_at l.0 st).at (record { st = y.st; at = y.at; ok = b })).ok)
              (sym yo) ∙ q)))

          one : (t : Bool) → (simplify_at l.0 st).ok ≡ t
              → (compare_of h op l.0 r.0 (simplify_at l.0 st).at (enter_of simplify_at h t (simplify_at l.0 st).st r.0)).ok ≡ true
              → Kept p S st h (compare_of h op l.0 r.0 (simplify_at l.0 st).at (enter_of simplify_at h t (simplify_at l.0 st).st r.0))
          one true o q =
              two o (enter_of simplify_at h true (simplify_at l.0 st).st r.0) (enter_in h r.0 (simplify_at l.0 st).st ab.1)
              (enter_of simplify_at h true (simplify_at l.0 st).st r.0).ok refl q
          one false o q = absurd (true≢false (sym q))

      at_nary : (all : Bool) (a n : ℕ) → shape_in st h ≡ nary_shape_of all a n → (simplify_at h st).ok ≡ true → Kept p S st h (simplify_at h st)
      at_nary all a n e =
          subst (λ (r : Simplified). r.ok ≡ true → Kept p S st h r) (sym (simplify_at_lem h st (nary_shape_of all a n) e ∙ nary_step all a n h st))
          (λ o.
          fine_nary S st h fresh g hl all a n is (operands_from simplify_at all h true st a n)
          (run-kept p S all h ih n st a g (omega arith) (list-within p st g h hl all a n is) (list-below p st g h hl all a n is) fresh
          (nary_ok all h (operands_from simplify_at all h true st a n) o))
          (nary_ok all h (operands_from simplify_at all h true st a n) o) o)
        where
          is : node_in st h ≡ Nary (nary_op_for all) (run_of a n)
          is = nary_of-shape (node_in st h) all a n e

      at-any : (x : Shape) → shape_in st h ≡ x → (simplify_at h st).ok ≡ true → Kept p S st h (simplify_at h st)
      at-any (Boolean b) e o =
          subst (Kept p S st h) (sym (simplify_at_lem h st (Boolean b) e))
          (kept_leaf p S st h g hl (λ t w. simplify_at_lem h t (Boolean b) (old-shape p st t g w h hl ∙ e))
          (λ d q. absurd (let z : ◌≡◌ {A = ℕ} 0 1 = cc in omega arith)))
      at-any (Not a) e o = at-not a e o
      at-any (Compare op l r) e o = at-compare op l r e o
      at-any (And a n) e o = at_nary true a n e o
      at-any (Or a n) e o = at_nary false a n e o
      at-any Other e o =
          subst (Kept p S st h) (sym (simplify_at_lem h st Other e))
          (kept_leaf p S st h g hl (λ t w. simplify_at_lem h t Other (old-shape p st t g w h hl ∙ e)) (λ d q. absurd (let z : ◌≡◌ {A = ℕ} 0 1 = cc in
          omega arith)))

    keeps-by : (m h : ℕ) (st : Tables) → h < m → Good p st → h < st.exprs.count → ((j : ℕ) → st.exprs.count ≤ j → S j ≡ true) → (simplify_at h st).ok
        ≡ true
        → Kept p S st h (simplify_at h st)
    keeps-by zero h st lt g hl fresh o = absurd (omega arith)
    keeps-by (suc m) h st lt g hl fresh o =
        at-any h st g hl fresh (λ e s el gs es fs os. keeps-by m e s (omega arith) gs es fs os) (shape_in st h) refl o

    pub keeps : (h : ℕ) (st : Tables) → Good p st → h < st.exprs.count → ((j : ℕ) → st.exprs.count ≤ j → S j ≡ true) → (simplify_at h st).ok ≡ true →
        Kept p
        S st h (simplify_at h st)
    keeps h st g hl fresh o = keeps-by (suc h) h st (omega arith) g hl fresh o
