-- The operands of an And or Or, simplified one after the other: what they keep. Assumes nothing.
use mathlib.Core.Path.{◌≡◌, refl, sym, ap, ap₂, subst, ◌∙◌}
use mathlib.Core.Bool.{Bool, true, false, not, cond, ◌&&◌, ◌||◌, true≢false}
use mathlib.Core.List.{List, [], ◌∷◌}
use Prim.Native.Nat.{ℕ, zero, suc, ◌+◌, ◌<◌, ◌≤◌}
use native.Mathlib.Omega.{arith}
use lib.Dec.{eqb}
use lib.ListN.{length, get_or, take, drop}
use borrow.Author.Tests.{eqb-true, eq-eqb, not-false}
use Rattle.laws.proofs.Bools.{and_left, and_right, and_both, or_false-left, or_false-right}
use Rattle.truth.specs.Truth.{every}
use Rattle.scalar.specs.declared.Kind.TheVariants as K
use Rattle.scalar.specs.declared.ScalarValue.TheVariants as Scalar
use Rattle.plan.specs.declared.Plan.{Plan}
use Rattle.plan.specs.declared.Expr.{Expr}
use Rattle.plan_rules.proofs.AppendRules.{counts-within}
use Rattle.plan_data.specs.declared.UnaryOp.TheVariants as U
use Rattle.rows_spec.specs.Compare.{known, truth_of}
use Rattle.rows_spec.specs.Typing.{boolean_at, wanted}
use Rattle.rows_spec.specs.Cells.{row_ok}
use Rattle.rows_spec.specs.declared.Row.{Row}
use Rattle.simplify_spec.specs.Shapes.{is_literal}
use Rattle.simplify_spec.specs.OneExpression.{node_in, shape_in, kept, enter_of, Operands, no_operands, joined_by, joined, operands_from, simplify_at}
use Rattle.simplify_spec.specs.OneOperator.{plan_with}
use Rattle.simplify_spec.specs.Meaning.{Good, Grown, Fixed, value_in, kind_in, TypedIn}
use Rattle.simplify_spec.specs.declared.Tables.{Tables}
use Rattle.simplify_spec.specs.Answers.{Simplified}
use Rattle.simplify_spec.specs.declared.Shape.TheVariants.{Not}
use Rattle.simplify_spec.proofs.StepLaws.{enter_in}
use Rattle.simplify_spec.proofs.ShapeLaws.{not-of-shape, literal-of-shape}
use Rattle.simplify_spec.proofs.Alikes.{same_truth, truth_all, join_t, all_first, all_code3, join_unit, join-left, join-right}
use Rattle.simplify_spec.proofs.Growth.{AllBelow, below_more, part-first, grown-self, grown-on, old_value, old-part, all_same, unary_below}
use Rattle.simplify_spec.proofs.Growth.{value-literal}
use Rattle.simplify_spec.proofs.Keeping.{Inner, Meant, Kept, more-exprs, more-items, old-shape, old-kind, boolean_kind, kind_boolean, inner-on}

module _ (p : Plan) where
  -- an operand that is kept: nothing is left to simplify, and it is neither of the literals that are looked for
  pub record Plain (all : Bool) (s : Tables) (x : ℕ) : Type 0 where
    pub fixed : Fixed p s x
    pub neutral : is_literal all (shape_in s x) ≡ false
    pub deciding : is_literal (not all) (shape_in s x) ≡ false
    pub inner : (e : Expr) → shape_in s x ≡ Not e → Inner p s e.0

  unfoldable pub AllPlain : Bool → Tables → List ℕ → Type 0
  AllPlain all s [] = Unit {0}
  AllPlain all s (x ∷ l) = Plain all s x × AllPlain all s l

  plain-on : (all : Bool) (s t : Tables) (x : ℕ) → Good p s → Grown p s t → x < s.exprs.count → Plain all s x → Plain all t x
  plain-on all s t x g w l q =
      let same : shape_in t x ≡ shape_in s x = old-shape p s t g w x l in
      record {
        fixed = λ u v. q.fixed u (grown-on p s t u w v);
        neutral = ap (is_literal all) same ∙ q.neutral;
        deciding = ap (is_literal (not all)) same ∙ q.deciding;
        inner = λ e n.
            let k : shape_in s x ≡ Not e = sym same ∙ n in
            inner-on p s t e.0 g w (omega (arith, unary_below p s g x l U.Not e (not-of-shape (node_in s x) e k))) (q.inner e k);
      }

  pub all-plain-on : (all : Bool) (s t : Tables) (l : List ℕ) → Good p s → Grown p s t → AllBelow s.exprs.count l → AllPlain all s l → AllPlain all t l
  unfolding AllPlain AllBelow
  all-plain-on all s t [] g w u q = tt
  all-plain-on all s t (x ∷ l) g w u q = (plain-on all s t x g w u.0 q.0, all-plain-on all s t l g w u.1 q.1)

  items-long : (st : Tables) → Good p st → st.items.count ≤ length st.items.a
  items-long st g = omega (arith, (counts-within (plan_with p st) g.rules).items, g.sized.item_a)

  -- operands at which nothing is left to simplify
  pub operands-fixed : (all : Bool) (h : ℕ) (t : Tables) → Good p t → (m q : ℕ) → q + m ≤ length t.items.a
      → AllBelow h (take m (drop q t.items.a)) → AllPlain all t (take m (drop q t.items.a))
      → operands_from simplify_at all h true t q m ≡ record { st = t; ok = true; kept = take m (drop q t.items.a); dirty = false; absorbed = false }
  unfolding operands_from AllBelow AllPlain
  operands-fixed all h t g zero q le u f = refl
  operands-fixed all h t g (suc m) q le u f =
      step (λ v w. operands-fixed all h t g m (q + 1) (omega arith) v w) (subst (AllBelow h) cons u) (subst (AllPlain all t) cons f)
    where
      cons : take (suc m) (drop q t.items.a) ≡ get_or t.items.a q 0 ∷ take m (drop (q + 1) t.items.a)
      cons = part-first t.items.a q m (omega arith)

      last : (e : ℕ) → is_literal all (shape_in t e) ≡ false → is_literal (not all) (shape_in t e) ≡ false → (rest l : List ℕ) → l ≡ e ∷ rest
          → joined all e (kept t e) (record { st = t; ok = true; kept = rest; dirty = false; absorbed = false }) ≡ record
          { st = t; ok = true; kept = l; dirty = false; absorbed = false }
      last e n1 n2 rest l el =
          ap₂ (λ (a b : Bool). joined_by a b e e (record { st = t; ok = true; kept = rest; dirty = false; absorbed = false })) n1 n2
          ∙ (λ i. record { st = t; ok = true; kept = sym el i; dirty = not (eq-eqb e e refl i) || false; absorbed = false })

      step : (AllBelow h (take m (drop (q + 1) t.items.a)) → AllPlain all t (take m (drop (q + 1) t.items.a))
          → operands_from simplify_at all h true t (q + 1) m ≡ record {
            st = t;
            ok = true;
            kept = take m (drop (q + 1) t.items.a);
            dirty = false;
            absorbed = false;
          })
          → AllBelow h (get_or t.items.a q 0 ∷ take m (drop (q + 1) t.items.a)) → AllPlain all t
          (get_or t.items.a q 0 ∷ take m (drop (q + 1) t.items.a))
          → operands_from simplify_at all h true t q (suc m) ≡ record {
            st = t;
            ok = true;
            kept = take (suc m) (drop q t.items.a);
            dirty = false;
            absorbed = false;
          }
      step ih v w =
          ap (λ (r : Simplified). joined all (get_or t.items.a q 0) r (operands_from simplify_at all h r.ok r.st (q + 1) m))
          (enter_in h (get_or t.items.a q 0) t v.0 ∙ w.0.fixed t (grown-self p t g))
          ∙ ap (joined all (get_or t.items.a q 0) (kept t (get_or t.items.a q 0))) (ih v.1 w.1)
          ∙ last (get_or t.items.a q 0) w.0.neutral w.0.deciding (take m (drop (q + 1) t.items.a)) (take (suc m) (drop q t.items.a)) cons

  -- a literal's truth
  pub lit_truth : (s : Tables) → Good p s → (row : Row) (b : Bool) (i : ℕ) → i < s.exprs.count → is_literal b (shape_in s i) ≡ true → truth_of
      (value_in p s row i) ≡ known b
  lit_truth s g row b i l e = ap truth_of (value-literal p s g row i l (Scalar.Boolean b) (literal-of-shape (node_in s i) b e))

  module _ (S : ℕ → Bool) where
    -- every member is in the set and Boolean
    abbrev pub Wanted : Tables → List ℕ → Type 0
    Wanted st l = every (wanted S (boolean_at p.columns.kind (node_in st))) l ≡ true

    pub wanted-first : (st : Tables) (x : ℕ) (l : List ℕ) → Wanted st (x ∷ l) → (S x ≡ true) × (boolean_at p.columns.kind (node_in st) x ≡ true) × Wanted st l
    unfolding every
    wanted-first st x l w =
        let a = and_left (S x && boolean_at p.columns.kind (node_in st) x) _ w in
        (and_left (S x) _ a, and_right (S x) _ a, and_right (S x && boolean_at p.columns.kind (node_in st) x) _ w)

    pub wanted-cons : (st : Tables) (x : ℕ) (l : List ℕ) → S x ≡ true → kind_in p st x ≡ K.Boolean → Wanted st l → Wanted st (x ∷ l)
    unfolding every
    wanted-cons st x l s k w = and_both _ _ (and_both (S x) _ s (kind_boolean p st x k)) w

    pub wanted-on : (a b : Tables) → Good p a → Grown p a b → (l : List ℕ) → AllBelow a.exprs.count l → Wanted a l → Wanted b l
    unfolding AllBelow every
    wanted-on a b g w [] u q = refl
    wanted-on a b g w (x ∷ l) u q =
        let f = wanted-first a x l q in
        wanted-cons b x l f.0 (old-kind p a b g w x u.0 ∙ boolean_kind p a x f.1) (wanted-on a b g w l u.1 f.2)

    pub record RunMeant (all : Bool) (st : Tables) (s m : ℕ) (q : Operands) : Type 0 where
      pub rules : TypedIn p S q.st
      pub bools : Wanted q.st q.kept
      pub value : (row : Row) → row_ok p row ≡ true → truth_all all (value_in p q.st row) q.kept ≡ truth_all all (value_in p st row)
          (take m (drop s st.items.a))
      pub absorbs : q.absorbed ≡ true → (row : Row) → row_ok p row ≡ true → truth_all all (value_in p st row) (take m (drop s st.items.a)) ≡ known (not all)

    pub record RunKept (all : Bool) (st : Tables) (s m : ℕ) (q : Operands) : Type 0 where
      pub grows : Grown p st q.st
      pub under : AllBelow q.st.exprs.count q.kept
      pub plain : q.absorbed ≡ false → AllPlain all q.st q.kept
      pub clean : q.dirty ≡ false → q.kept ≡ take m (drop s st.items.a)
      pub still : q.st.changed ≡ false → q.st ≡ st
      pub typed : TypedIn p S st → Wanted st (take m (drop s st.items.a)) → RunMeant all st s m q

    module _ (all : Bool) where
      run_none : (st : Tables) (s : ℕ) → Good p st → RunKept all st s 0 (no_operands true st)
      unfolding AllBelow AllPlain every
      run_none st s g =
          record {
            grows = grown-self p st g;
            under = tt;
            plain = λ z. tt;
            clean = λ z. refl;
            still = λ z. refl;
            typed = λ ty b. record { rules = ty; bools = refl; value = λ row ok. refl; absorbs = λ f. absurd (true≢false (sym f)) };
          }

      -- one operand: what came of it, and what came of the rest
      module _ (st : Tables) (h s m : ℕ) (g : Good p st) (hn : h ≤ st.exprs.count) (sm : s + suc m ≤ st.items.count)
          (el : get_or st.items.a s 0 < h) (under : AllBelow h (take m (drop (s + 1) st.items.a)))
          (x : Simplified) (N : Kept p S st (get_or st.items.a s 0) x) (q : Operands) (R : RunKept all x.st (s + 1) m q) where
        abbrev e : ℕ
        e = get_or st.items.a s 0

        abbrev rest : List ℕ
        rest = take m (drop (s + 1) st.items.a)

        cons : take (suc m) (drop s st.items.a) ≡ get_or st.items.a s 0 ∷ take m (drop (s + 1) st.items.a)
        cons = part-first st.items.a s m (omega (arith, items-long st g))

        part : take m (drop (s + 1) x.st.items.a) ≡ take m (drop (s + 1) st.items.a)
        part = old-part p st x.st g N.grows (s + 1) m (omega arith)

        under_n : AllBelow st.exprs.count (take m (drop (s + 1) st.items.a))
        under_n = below_more h st.exprs.count (take m (drop (s + 1) st.items.a)) hn under

        at_q : x.at < q.st.exprs.count
        at_q = omega (arith, N.within, more-exprs p x.st q.st R.grows)

        rest-value : (row : Row) → truth_all all (value_in p x.st row) (take m (drop (s + 1) x.st.items.a)) ≡ truth_all all (value_in p st row)
            (take m (drop (s + 1) st.items.a))
        rest-value row =
            ap (truth_all all (value_in p x.st row)) part
            ∙ all_same p all (value_in p x.st row) (value_in p st row) st.exprs.count (take m (drop (s + 1) st.items.a)) under_n
            (λ j jl. old_value p st x.st g N.grows row j jl)

        whole : (row : Row) → truth_all all (value_in p st row) (take (suc m) (drop s st.items.a))
            ≡ join_t all (truth_of (value_in p st row (get_or st.items.a s 0))) (truth_all all (value_in p st row) (take m (drop (s + 1) st.items.a)))
        whole row = ap (truth_all all (value_in p st row)) cons ∙ all_first all (value_in p st row) (get_or st.items.a s 0)
            (take m (drop (s + 1) st.items.a))

        module _ (ty : TypedIn p S st) (b : Wanted st (take (suc m) (drop s st.items.a))) where
          first : (S (get_or st.items.a s 0) ≡ true) × (boolean_at p.columns.kind (node_in st) (get_or st.items.a s 0) ≡ true) × Wanted st
              (take m (drop (s + 1) st.items.a))
          first = wanted-first st (get_or st.items.a s 0) (take m (drop (s + 1) st.items.a)) (subst (Wanted st) cons b)

          one : Meant p S st (get_or st.items.a s 0) x
          one = N.typed ty first.0

          one-kind : kind_in p q.st x.at ≡ K.Boolean
          one-kind = old-kind p x.st q.st N.grows.good R.grows x.at N.within ∙ one.kind ∙ boolean_kind p st (get_or st.items.a s 0)
              first.1

          others : RunMeant all x.st (s + 1) m q
          others =
              R.typed one.rules
              (subst (Wanted x.st) (sym part) (wanted-on st x.st g N.grows (take m (drop (s + 1) st.items.a)) under_n first.2))

          tail : (row : Row) → row_ok p row ≡ true → truth_all all (value_in p q.st row) q.kept ≡ truth_all all (value_in p st row)
              (take m (drop (s + 1) st.items.a))
          tail row ok = others.value row ok ∙ rest-value row

          lit_first : (c : Bool) → is_literal c (shape_in x.st x.at) ≡ true → (row : Row) → row_ok p row ≡ true → truth_of
              (value_in p st row (get_or st.items.a s 0)) ≡ known c
          lit_first c i row ok =
              sym (same_truth (value_in p x.st row x.at) (value_in p st row (get_or st.items.a s 0)) (one.value row ok))
              ∙ lit_truth x.st N.grows.good row c x.at N.within i

          value-one : (t : Bool) → is_literal all (shape_in x.st x.at) ≡ t → (row : Row) → row_ok p row ≡ true
              → truth_all all (value_in p q.st row) (cond t q.kept (x.at ∷ q.kept)) ≡ truth_all all (value_in p st row)
              (take (suc m) (drop s st.items.a))
          value-one true i row ok =
              tail row ok
              ∙ sym (join_unit all (truth_all all (value_in p st row) (take m (drop (s + 1) st.items.a)))
              (all_code3 all (value_in p st row) (take m (drop (s + 1) st.items.a))))
              ∙ ap (λ (y : ℕ). join_t all y (truth_all all (value_in p st row) (take m (drop (s + 1) st.items.a)))) (sym (lit_first all i row ok))
              ∙ sym (whole row)
          value-one false i row ok =
              all_first all (value_in p q.st row) x.at q.kept
              ∙ ap₂ (join_t all)
              (ap truth_of (old_value p x.st q.st N.grows.good R.grows row x.at N.within)
              ∙ same_truth (value_in p x.st row x.at) (value_in p st row (get_or st.items.a s 0)) (one.value row ok)) (tail row ok)
              ∙ sym (whole row)

          absorbs-one : (a : Bool) → is_literal (not all) (shape_in x.st x.at) ≡ a → a || q.absorbed ≡ true → (row : Row) → row_ok p row ≡ true
              → truth_all all (value_in p st row) (take (suc m) (drop s st.items.a)) ≡ known (not all)
          absorbs-one true i o row ok =
              whole row
              ∙ ap (λ (y : ℕ). join_t all y (truth_all all (value_in p st row) (take m (drop (s + 1) st.items.a)))) (lit_first (not all) i row ok)
              ∙ join-left all (truth_all all (value_in p st row) (take m (drop (s + 1) st.items.a)))
          absorbs-one false i o row ok =
              whole row
              ∙ ap (join_t all (truth_of (value_in p st row (get_or st.items.a s 0)))) (sym (rest-value row) ∙ others.absorbs o row ok)
              ∙ join-right all (truth_of (value_in p st row (get_or st.items.a s 0)))

          bools-one : (t : Bool) → Wanted q.st (cond t q.kept (x.at ∷ q.kept))
          bools-one true = others.bools
          bools-one false = wanted-cons q.st x.at q.kept one.member one-kind others.bools

        run-one : (t a : Bool) → is_literal all (shape_in x.st x.at) ≡ t → is_literal (not all) (shape_in x.st x.at) ≡ a
            → RunKept all st s (suc m) (joined_by t a (get_or st.items.a s 0) x.at q)
        unfolding AllBelow AllPlain
        run-one t a et ea =
            record {
              grows = grown-on p st x.st q.st N.grows R.grows;
              under = under_one t;
              plain = plain-one t et;
              clean = clean-one t;
              still = λ f.
                  let z : q.st ≡ x.st = R.still f in
                  z ∙ (N.still (ap (λ (y : Tables). y.changed) (sym z) ∙ f)).0;
              typed = λ ty b. record {
                rules = (others ty b).rules;
                bools = bools-one ty b t;
                value = value-one ty b t et;
                absorbs = absorbs-one ty b a ea;
              };
            }
          where
            under_one : (c : Bool) → AllBelow q.st.exprs.count (cond c q.kept (x.at ∷ q.kept))
            under_one true = R.under
            under_one false = (at_q, R.under)

            plain-one : (c : Bool) → is_literal all (shape_in x.st x.at) ≡ c → a || q.absorbed ≡ false → AllPlain all q.st
                (cond c q.kept (x.at ∷ q.kept))
            plain-one true ec o = R.plain (or_false-right a q.absorbed o)
            plain-one false ec o = (
              plain-on all x.st q.st x.at N.grows.good R.grows N.within
                  (record { fixed = N.fixed; neutral = ec; deciding = ea ∙ or_false-left a q.absorbed o; inner = N.inner }),
              R.plain (or_false-right a q.absorbed o),
            )

            clean-one : (c : Bool) → (c || not (eqb x.at (get_or st.items.a s 0))) || q.dirty ≡ false → cond c q.kept (x.at ∷ q.kept) ≡ take
                (suc m) (drop s st.items.a)
            clean-one true o = absurd (true≢false o)
            clean-one false o =
                let same : x.at ≡ get_or st.items.a s 0 =
                eqb-true x.at (get_or st.items.a s 0)
                (not-false (eqb x.at (get_or st.items.a s 0)) (or_false-left (not (eqb x.at (get_or st.items.a s 0))) q.dirty o)) in
                ap₂ (λ (y : ℕ) (l : List ℕ). y ∷ l) same (R.clean (or_false-right (not (eqb x.at (get_or st.items.a s 0))) q.dirty o) ∙ part)
                ∙ sym cons

      -- operands that ended well began well
      enter_ok : (h : ℕ) (ok : Bool) (st : Tables) (e : ℕ) → (enter_of simplify_at h ok st e).ok ≡ true → ok ≡ true
      enter_ok h true st e r = refl
      enter_ok h false st e r = r

      run_ok : (h m : ℕ) (ok : Bool) (st : Tables) (s : ℕ) → (operands_from simplify_at all h ok st s m).ok ≡ true → ok ≡ true
      unfolding operands_from
      run_ok h zero ok st s r = r
      run_ok h (suc m) ok st s r =
          enter_ok h ok st (get_or st.items.a s 0)
          (run_ok h m (enter_of simplify_at h ok st (get_or st.items.a s 0)).ok (enter_of simplify_at h ok st (get_or st.items.a s 0)).st (s + 1) r)

      pub run-kept : (h : ℕ)
          → ((e : ℕ) (u : Tables) → e < h → Good p u → e < u.exprs.count → ((j : ℕ) → u.exprs.count ≤ j → S j ≡ true) → (simplify_at e u).ok ≡ true → Kept p
          S u e (simplify_at e u))
          → (m : ℕ) (st : Tables) (s : ℕ) → Good p st → h ≤ st.exprs.count → s + m ≤ st.items.count → AllBelow h (take m (drop s st.items.a))
          → ((j : ℕ) → st.exprs.count ≤ j → S j ≡ true)
          → (operands_from simplify_at all h true st s m).ok ≡ true → RunKept all st s m (operands_from simplify_at all h true st s m)
      unfolding operands_from AllBelow
      run-kept h ih zero st s g hn sm u fresh ok = run_none st s g
      run-kept h ih (suc m) st s g hn sm u fresh ok =
          step (λ t gt ht st' ut ft ot. run-kept h ih m t (s + 1) gt ht st' ut ft ot) (subst (AllBelow h) cons u)
        where
          cons : take (suc m) (drop s st.items.a) ≡ get_or st.items.a s 0 ∷ take m (drop (s + 1) st.items.a)
          cons = part-first st.items.a s m (omega (arith, items-long st g))

          step : ((t : Tables) → Good p t → h ≤ t.exprs.count → s + 1 + m ≤ t.items.count → AllBelow h (take m (drop (s + 1) t.items.a))
              → ((j : ℕ) → t.exprs.count ≤ j → S j ≡ true)
              → (operands_from simplify_at all h true t (s + 1) m).ok ≡ true → RunKept all t (s + 1) m (operands_from simplify_at all h true t (s + 1) m))
              → AllBelow h (get_or st.items.a s 0 ∷ take m (drop (s + 1) st.items.a))
              → RunKept all st s (suc m) (operands_from simplify_at all h true st s (suc m))
          step again v =
              let e : ℕ = get_or st.items.a s 0 in
              let x : Simplified = simplify_at e st in
              let en : enter_of simplify_at h true st e ≡ x = enter_in h e st v.0 in
              let ok' : (operands_from simplify_at all h x.ok x.st (s + 1) m).ok ≡ true =
              subst (λ (r : Simplified). (operands_from simplify_at all h r.ok r.st (s + 1) m).ok ≡ true) en ok in
              let xo : x.ok ≡ true = run_ok h m x.ok x.st (s + 1) ok' in
              let N : Kept p S st e x = ih e st v.0 g (omega (arith, v.0)) fresh xo in
              let q : Operands = operands_from simplify_at all h true x.st (s + 1) m in
              let qo : q.ok ≡ true = subst (λ (b : Bool). (operands_from simplify_at all h b x.st (s + 1) m).ok ≡ true) xo ok' in
              let ux : AllBelow h (take m (drop (s + 1) x.st.items.a)) =
              subst (AllBelow h) (sym (old-part p st x.st g N.grows (s + 1) m (omega arith))) v.1 in
              let R : RunKept all x.st (s + 1) m q =
              again x.st N.grows.good (omega (arith, more-exprs p st x.st N.grows)) (omega (arith, more-items p st x.st N.grows)) ux
              (λ j ge. fresh j (omega (arith, more-exprs p st x.st N.grows))) qo in
              subst (RunKept all st s (suc m))
              (sym (ap (λ (r : Simplified). joined all e r (operands_from simplify_at all h r.ok r.st (s + 1) m)) en
              ∙ ap (λ (b : Bool). joined all e x (operands_from simplify_at all h b x.st (s + 1) m)) xo))
              (run-one st h s m g hn sm v.0 v.1 x N q R (is_literal all (shape_in x.st x.at)) (is_literal (not all) (shape_in x.st x.at)) refl
              refl)
