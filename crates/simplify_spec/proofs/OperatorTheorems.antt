-- The theorems about the answer for an operator: the plan that is handed back has all that the plan had, nothing is appended where the operator is
-- kept, and a Selection or a join that is replaced passes the same rows. Assumes nothing.
use mathlib.Core.Path.{◌≡◌, refl, sym, ap, subst, ◌∙◌}
use mathlib.Core.Bool.{Bool, true, false, ◌&&◌}
use mathlib.Core.List.{List}
use Prim.Native.Nat.{ℕ, zero, suc, ◌+◌, ◌<◌, ◌≤◌}
use native.Mathlib.Omega.{arith}
use native.Mathlib.Nat.{le_refl}
use lib.Dec.{ltb, leb, eqb}
use lib.ListN.{length, get_or, set, length-set}
use lib.Seq.{get_or-set_same, get_or-set_other}
use borrow.Author.Tests.{lt-ltb, eqb-true, eqb-false}
use Rattle.laws.proofs.Bools.{cond_elim}
use Rattle.plan.specs.declared.Plan.{Plan}
use Rattle.plan.specs.declared.Operator.{Operator}
use Rattle.plan.specs.Extends.{Extends, Sized}
use Rattle.plan.proofs.AppendLaws.{extends-refl, extends_trans, operator-longer}
use Rattle.plan_rules.specs.Rules.{plan_ok}
use Rattle.plan_rules.proofs.RuleLaws.{rules}
use Rattle.plan_data.specs.Nodes.{record_of_operator, operator_at}
use Rattle.plan_data.specs.declared.OperatorData.{OperatorData}
use Rattle.plan_data.specs.declared.OperatorData.TheVariants.{Scan, ConstScan, TableFunction, Selection, Projection, Rename, Map, Aggregation, Sort}
use Rattle.plan_data.specs.declared.OperatorData.TheVariants.{Limit, Output, CrossProduct, Join}
use Rattle.simplify_spec.specs.Shapes.{is_literal}
use Rattle.simplify_spec.specs.OneExpression.{shape_in, enter_of, with_items, simplify_at}
use Rattle.simplify_spec.specs.OneOperator.{held_of, held_count, held_at, each_with, each_to, item_count, item_first, item_second}
use Rattle.simplify_spec.specs.OneOperator.{write_all, with_list, rebuilt_of, plan_with, plan_added, add_operator, input_or, rewrite_of, start_of}
use Rattle.simplify_spec.specs.OneOperator.{each_of, simplify_of}
use Rattle.simplify_spec.specs.Meaning.{Good, Grown}
use Rattle.simplify_spec.specs.declared.Tables.{Tables}
use Rattle.simplify_spec.specs.Answers.{Simplified}
use Rattle.simplify_spec.specs.Answers.{Each}
use Rattle.simplify_spec.specs.declared.Held.{Held}
use Rattle.simplify_spec.specs.Answers.{Rewritten}
use Rattle.simplify_spec.proofs.StepLaws.{enter_in}
use Rattle.simplify_spec.proofs.Growth.{grown-self, grown-on}
use Rattle.simplify_spec.proofs.Keeping.{Kept, more-exprs}
use Rattle.simplify_spec.proofs.Keeps.{keeps}
use Rattle.simplify_spec.proofs.Theorems.{plan-good}
use Rattle.simplify_spec.proofs.HeldLaws.{held_in, held-few}

-- ---- expressions one after the other
pub record EachKept (p : Plan) (st : Tables) (r : Each) (k : ℕ) : Type 0 where
  pub grows : Grown p st r.st
  pub size : length r.ats ≡ 2048
  pub within : (j : ℕ) → j < k → get_or r.ats j 0 < r.st.exprs.count
  pub still : r.st.changed ≡ false → r.st ≡ st

module _ (p : Plan) (es : ℕ → ℕ) (st : Tables) (g : Good p st) where
  each-ok : (k : ℕ) → (each_to st.exprs.count es st (suc k)).ok ≡ true → (each_to st.exprs.count es st k).ok ≡ true
  unfolding each_to
  each-ok k o = go (each_to st.exprs.count es st k).ok o
    where
      go : (t : Bool) → (enter_of simplify_at st.exprs.count t (each_to st.exprs.count es st k).st (es k)).ok ≡ true → t ≡ true
      go true e = refl
      go false e = e

  each-kept : (k : ℕ) → k ≤ 2048 → ((j : ℕ) → j < k → es j < st.exprs.count) → (each_to st.exprs.count es st k).ok ≡ true → EachKept p st
      (each_to st.exprs.count es st k) k
  unfolding each_to
  each-kept zero le f o =
      record { grows = grown-self p st g; size = refl; within = λ j lt. absurd (omega arith); still = λ e. refl }
  each-kept (suc k) le f o = step (each_to st.exprs.count es st k) (each-kept k (omega arith) (λ j lt. f j (omega arith)) (each-ok k o)) (each-ok k o) o
    where
      step : (r : Each) → EachKept p st r k → r.ok ≡ true → (each_with st.exprs.count (es k) r k).ok ≡ true → EachKept p st
          (each_with st.exprs.count (es k) r k) (suc k)
      step r R ro o =
          subst (λ (z : Simplified). z.ok ≡ true → EachKept p st (record { st = z.st; ok = z.ok; ats = set r.ats k z.at }) (suc k)) (sym en) made o
        where
          x : Simplified
          x = simplify_at (es k) r.st

          en : enter_of simplify_at st.exprs.count r.ok r.st (es k) ≡ simplify_at (es k) r.st
          en = ap (λ (b : Bool). enter_of simplify_at st.exprs.count b r.st (es k)) ro ∙ enter_in st.exprs.count (es k) r.st (f k (omega arith))

          made : (simplify_at (es k) r.st).ok ≡ true → EachKept p st
              (record { st = (simplify_at (es k) r.st).st; ok = (simplify_at (es k) r.st).ok; ats = set r.ats k (simplify_at (es k) r.st).at }) (suc k)
          made xo =
              let N : Kept p (λ (j : ℕ). true) r.st (es k) (simplify_at (es k) r.st) =
              keeps p (λ (j : ℕ). true) (es k) r.st R.grows.good (omega (arith, f k (omega arith), more-exprs p st r.st R.grows)) (λ j ge. refl)
              xo in
              record {
                grows = grown-on p st r.st (simplify_at (es k) r.st).st R.grows N.grows;
                size = length-set r.ats k (simplify_at (es k) r.st).at ∙ R.size;
                within = λ j lt. at_each j lt (eqb j k) refl N.within (more-exprs p r.st (simplify_at (es k) r.st).st N.grows);
                still = λ e.
                    let a : (simplify_at (es k) r.st).st ≡ r.st = (N.still e).0 in
                    a ∙ R.still (ap (λ (y : Tables). y.changed) (sym a) ∙ e);
              }
            where
              at_each : (j : ℕ) → j < suc k → (b : Bool) → eqb j k ≡ b → (simplify_at (es k) r.st).at < (simplify_at (es k) r.st).st.exprs.count
                  → r.st.exprs.count ≤ (simplify_at (es k) r.st).st.exprs.count
                  → get_or (set r.ats k (simplify_at (es k) r.st).at) j 0 < (simplify_at (es k) r.st).st.exprs.count
              at_each j lt true e w m =
                  let q : j ≡ k = eqb-true j k e in
                  let v : get_or (set r.ats k (simplify_at (es k) r.st).at) k 0 ≡ (simplify_at (es k) r.st).at =
                  get_or-set_same r.ats k (simplify_at (es k) r.st).at 0 (omega (arith, R.size)) in
                  rw (q, v) w
              at_each j lt false e w m =
                  let q : (j ≡ k → ⊥) = eqb-false j k e in
                  let v : get_or (set r.ats k (simplify_at (es k) r.st).at) j 0 ≡ get_or r.ats j 0 = get_or-set_other r.ats k j
                  (simplify_at (es k) r.st).at 0 q in
                  rw v (omega (arith, R.within j (omega arith), m))

-- ---- items that are written past the old ones
pub write_below : (l : List ℕ) (at : ℕ) (f : ℕ → ℕ) (n j : ℕ) → j < at → get_or (write_all l at f n) j 0 ≡ get_or l j 0
unfolding write_all
write_below l at f zero j lt = refl
write_below l at f (suc n) j lt = get_or-set_other (write_all l at f n) (at + n) j (f n) 0 (omega arith) ∙ write_below l at f n j lt

pub list-extends : (p : Plan) (st : Tables) (n : ℕ) (f h : ℕ → ℕ) → Extends (plan_with p st) (plan_with p (with_items st (with_list st.items n f h)))
list-extends p st n f h =
    record {
      columns = le_refl _;
      exprs = le_refl _;
      operators = le_refl _;
      items = omega arith;
      column = λ i l. refl;
      expr = λ i l. refl;
      expr-start = λ i l. refl;
      operator = λ i l. refl;
      operator-start = λ i l. refl;
      item = λ i l.
          (λ j. record {
            kind = 0;
            code = 0;
            a = write_below st.items.a st.items.count f n i l j;
            b = write_below st.items.b st.items.count h
                n i l j;
            c = 0;
            d = 0;
            bits = 0;
          });
    }

added-extends : (p : Plan) (st : Tables) (d : OperatorData) (held : Held) (at : ℕ → ℕ) → Extends p (plan_with p st) → Extends p (plan_added p st d held at)
added-extends p st d held at e =
    extends_trans e
    (extends_trans (list-extends p st (item_count held) (item_first p.items held at) (item_second held at))
    (operator-longer (plan_with p (with_items st (with_list st.items (item_count held) (item_first p.items held at) (item_second held at))))
    (record_of_operator (rebuilt_of d st.items.count at)) st.items.count))

module _ (p : Plan) (s : Sized p) (ok : plan_ok p ≡ true) (o : Operator) (lt : o.0 < p.operators.count) where
  abbrev d : OperatorData
  d = operator_at p o.0

  abbrev each : Each
  each = each_of p (operator_at p o.0)

  good : Good p (start_of p)
  good = plan-good p s ok

  pub all-kept : (each_of p (operator_at p o.0)).ok ≡ true → EachKept p (start_of p) (each_of p (operator_at p o.0)) (held_count (held_of (operator_at p o.0)))
  all-kept q =
      each-kept p (held_at p.items (held_of (operator_at p o.0))) (start_of p) good (held_count (held_of (operator_at p o.0)))
      (held-few p (rules p ok) o.0 lt) (held_in p (rules p ok) o.0 lt) q

  add_extends : (t : Tables) (held : Held) (at : ℕ → ℕ) (z : OperatorData) → Extends p (plan_with p t) → Extends p (add_operator p t z held at).plan
  add_extends t held at z e =
      cond_elim (λ (w : Rewritten). Extends p w.plan) (ltb p.operators.count 128 && leb (t.items.count + item_count held) 2048) _ _
      (λ q. added-extends p t z held at e) (λ q. extends-refl p)

  input-extends : (t : Tables) (held : Held) (at : ℕ → ℕ) (z y : OperatorData) → Extends p (plan_with p t) → Extends p (input_or p t z held at y).plan
  input-extends t held at z (Scan a b) e = add_extends t held at z e
  input-extends t held at z (ConstScan a) e = add_extends t held at z e
  input-extends t held at z (TableFunction a) e = add_extends t held at z e
  input-extends t held at z (Selection a b) e =
      cond_elim (λ (w : Rewritten). Extends p w.plan) (is_literal true (shape_in t (at 0))) _ _ (λ q. e) (λ q. add_extends t held at z e)
  input-extends t held at z (Projection a b) e = add_extends t held at z e
  input-extends t held at z (Rename a b) e = add_extends t held at z e
  input-extends t held at z (Map a b) e = add_extends t held at z e
  input-extends t held at z (Aggregation a b c) e = add_extends t held at z e
  input-extends t held at z (Sort a b) e = add_extends t held at z e
  input-extends t held at z (Limit a) e = add_extends t held at z e
  input-extends t held at z (Output a) e = add_extends t held at z e
  input-extends t held at z (CrossProduct a b) e = add_extends t held at z e
  input-extends t held at z (Join a b c f) e = add_extends t held at z e

  pub is_rewrite : simplify_of p o ≡ rewrite_of p (operator_at p o.0) (each_of p (operator_at p o.0))
  unfolding simplify_of
  is_rewrite = rw (ok, lt-ltb o.0 p.operators.count lt)

  -- whatever the plan had, the plan that is handed back has at the same place
  pub answer-extends : Extends p (simplify_of p o).plan
  unfolding rewrite_of
  answer-extends =
      subst (λ (w : Rewritten). Extends p w.plan) (sym is_rewrite)
      (cond_elim (λ (w : Rewritten). Extends p w.plan) (each_of p (operator_at p o.0)).ok _ _
      (λ q.
      cond_elim (λ (w : Rewritten). Extends p w.plan) (each_of p (operator_at p o.0)).st.changed _ _
      (λ c.
      input-extends (each_of p (operator_at p o.0)).st (held_of (operator_at p o.0)) (λ (k : ℕ). get_or (each_of p (operator_at p o.0)).ats k 0)
      (operator_at p o.0) (operator_at p o.0) (all-kept q).grows.extends)
      (λ c. extends-refl p))
      (λ q. extends-refl p))

  -- where nothing changed, nothing was appended on the way either
  pub nothing_appended : (each_of p (operator_at p o.0)).ok ≡ true → (each_of p (operator_at p o.0)).st.changed ≡ false → (each_of p (operator_at p o.0)).st
      ≡ start_of p
  nothing_appended q c = (all-kept q).still c
