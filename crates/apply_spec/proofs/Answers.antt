-- What the answer of `apply_predicate` says of rows, from the answer alone, for one predicate and for any number of them. Assumes nothing.
use Rattle.std.proofs.Common.{Ok, Err, Result}
use mathlib.Core.Path.{◌≡◌, refl, sym, ap, ◌∙◌, subst}
use mathlib.Core.Bool.{Bool, true, false, cond, not, ◌&&◌}
use mathlib.Core.List.{List, [], ◌∷◌}
use mathlib.Core.Logic.{◌↔◌}
use Prim.Native.Nat.{ℕ, ◌+◌, ◌<◌, ◌≤◌}
use native.Mathlib.Decide.{dec_lt}
use native.Mathlib.Omega.{arith}
use lib.Dec.{T, T_not, ltb, leb, eqb}
use lib.ListN.{get_or, length, get_or-eq_default}
use borrow.Author.Tests.{ltb-true, leb-true}
use Rattle.laws.proofs.Bools.{and_left, and_right, or_elim}
use Rattle.lists.specs.Ranges.{all_from}
use Rattle.lists.proofs.RangeLaws.{all-at}
use Rattle.constraint_spec.specs.Sets.{entry_at, set_ok}
use Rattle.constraint_spec.specs.Meets.{SoundEntry}
use Rattle.constraint_spec.proofs.Empty.{empty-good, empty-meets}
use Rattle.constraint_spec.proofs.Operations.{no_row}
use Rattle.constraint_spec.proofs.Rules.{Shaped, ok-good}
use Rattle.plan.specs.declared.Plan.{Plan}
use Rattle.plan.specs.declared.Expr.{Expr}
use Rattle.plan_rules.specs.Rules.{plan_ok, counts_within}
use Rattle.plan_rules.proofs.RuleLaws.{rules}
use Rattle.apply_spec.specs.Facts.{refusal_of, with_constraints, has_lineage, identity_of, lineage_ok, definition_ok, facts_ok}
use Rattle.apply_spec.specs.Entries.{answered, refused, accepted, predicate_applied, apply_predicate}
use Rattle.apply_spec.specs.declared.LogicalFacts.{LogicalFacts}
use Rattle.apply_spec.specs.declared.FactsError.{FactsError}
use Rattle.apply_spec.specs.declared.FactsError.TheVariants.{Residuals, NoSuch}
use Rattle.apply_spec.specs.Meaning.{WholeRow, Consistent, On, MeetsFacts, AllOf, Wide, GoodFacts, fresh_facts, AcceptedAll, AllOn}
use Rattle.apply_spec.specs.Conditions.{ExactPredicate}
use Rattle.apply_spec.proofs.Applying.{Within}
use Rattle.apply_spec.proofs.Predicates.{predicate-good, predicate-sound, predicate-back, predicate-exact}

-- ---- what an accepted answer was made of
pub other-outcome : {X : Type 0} (o : Result (Unit {0}) FactsError) → (refusal_of o ≡ 0 → ⊥) → o ≡ Ok tt → X
other-outcome o f e = absurd (f (ap refusal_of e))

-- what an accepted answer of `apply_predicate` was made of
pub record Parts (p : Plan) (f : LogicalFacts) (e : Expr) : Type 0 where
  pub plan : plan_ok p ≡ true
  pub handle : e.0 < p.expressions.count
  pub right_facts : facts_ok p f ≡ true
  pub room : T (not (predicate_applied p f.lineage f.constraints e.0).refused)
  pub is : (apply_predicate p f e).facts ≡ with_constraints f (predicate_applied p f.lineage f.constraints e.0).constraints

-- an accepted answer was made of these. Assumes nothing
pub apply-parts : (p : Plan) (f : LogicalFacts) (e : Expr) → (apply_predicate p f e).outcome ≡ Ok tt → Parts p f e
unfolding apply_predicate
apply-parts p f e = go (plan_ok p && (ltb e.0 p.expressions.count && facts_ok p f)) refl
  where
    made : (r : Bool) → T (not r) → (cond r (refused f (Err Residuals))
        (accepted (with_constraints f (predicate_applied p f.lineage f.constraints e.0).constraints))).facts ≡ with_constraints f
        (predicate_applied p f.lineage f.constraints e.0).constraints
    made true t = absurd t
    made false t = refl

    clear : (r : Bool) → (cond r (refused f (Err Residuals))
        (accepted (with_constraints f (predicate_applied p f.lineage f.constraints e.0).constraints))).outcome ≡ Ok tt → T (not r)
    clear true q = other-outcome (Err Residuals) (λ z. absurd (omega (arith, z))) q
    clear false q = tt

    go : (b : Bool) → (plan_ok p && (ltb e.0 p.expressions.count && facts_ok p f)) ≡ b
        → (cond b (answered f f (predicate_applied p f.lineage f.constraints e.0)) (refused f (Err NoSuch))).outcome ≡ Ok tt → Parts p f e
    go true t q =
        let u = and_right (plan_ok p) _ t in
        let n = clear (predicate_applied p f.lineage f.constraints e.0).refused q in
        record {
          plan = and_left (plan_ok p) _ t;
          handle = ltb-true e.0 p.expressions.count (and_left (ltb e.0 p.expressions.count) _ u);
          right_facts = and_right (ltb e.0 p.expressions.count) _ u;
          room = n;
          is = ap (λ (b : Bool). (cond b (answered f f (predicate_applied p f.lineage f.constraints e.0)) (refused f (Err NoSuch))).facts) t ∙ made
              (predicate_applied p f.lineage f.constraints e.0).refused n;
        }
    go false t q = other-outcome (Err NoSuch) (λ z. absurd (omega (arith, z))) q

-- ---- the lineage of facts that keep the rules names identities
pub columns-within : (nc ne np used : ℕ) → counts_within nc ne np used ≡ true → nc ≤ 64
unfolding counts_within
columns-within nc ne np used h = leb-true nc 64 (and_left _ _ h)

identity_small : (lineage : List ℕ) (nc c : ℕ) → nc ≤ 64 → lineage_ok lineage nc c ≡ true → T (has_lineage lineage c) → identity_of lineage c < 128
unfolding lineage_ok
identity_small lineage nc c few e t =
    or_elim (eqb (get_or lineage c 0) 0) _ e
    (λ z. absurd (T_not (eqb (get_or lineage c 0) 0) t (subst T (sym z) tt)))
    (λ z.
    or_elim (ltb (identity_of lineage c) nc) _ (and_right (ltb c nc) _ z)
    (λ y. let k = ltb-true (identity_of lineage c) nc y in omega (arith, k, few))
    (λ y. let k = ltb-true (identity_of lineage c) (64 + nc) (and_right (leb 64 (identity_of lineage c)) _ y) in omega (arith, k, few)))

lineage-right : (p : Plan) (f : LogicalFacts) → facts_ok p f ≡ true → all_from (lineage_ok f.lineage p.columns.count) 0 64 ≡ true
unfolding facts_ok
lineage-right p f e = and_left _ _ e

-- every identity that a lineage names is one of the 128. Assumes a plan and facts that pass their tests
pub facts-within : (p : Plan) (f : LogicalFacts) → plan_ok p ≡ true → facts_ok p f ≡ true → length f.lineage ≡ 64 → Within f.lineage
facts-within p f ok e long c t = elim (dec_lt c 64) [
  | yes l ↦
      identity_small f.lineage p.columns.count c (columns-within p.columns.count p.expressions.count p.operators.count p.items.count
      (rules p ok).counts)
      (all-at (lineage_ok f.lineage p.columns.count) 64 0 (lineage-right p f e) c (omega arith) (omega arith)) t
  | no l ↦ absurd
      (T_not (eqb (get_or f.lineage c 0) 0) t
      (subst (λ (k : ℕ). T (eqb k 0)) (sym (get_or-eq_default f.lineage 0 (subst (λ (k : ℕ). k ≤ c) (sym long) (omega arith)))) tt))
]

set-right : (p : Plan) (f : LogicalFacts) → facts_ok p f ≡ true → set_ok f.constraints ≡ true
unfolding facts_ok
set-right p f e =
    let u = and_right (all_from (lineage_ok f.lineage p.columns.count) 0 64) _ e in
    and_left (set_ok f.constraints) _ (and_right (all_from (definition_ok f.definitions p.columns.count p.expressions.count) 0 64) _ u)

-- facts that pass the test, whose arrays have their lengths, whose literals hold values of their types and whose bounds are numbers, are good.
-- Assumes nothing
pub facts-good : (p : Plan) (f : LogicalFacts) → facts_ok p f ≡ true → length f.lineage ≡ 64 → Shaped f.constraints
    → ((i : ℕ) → i < 128 → SoundEntry (entry_at f.constraints i)) → GoodFacts f
facts-good p f e long shaped sound = record { long = long; set = ok-good f.constraints (set-right p f e) shaped sound }

-- ---- one predicate
module _ (p : Plan) (wide : Wide p) (f : LogicalFacts) (good : GoodFacts f) (e : Expr) (yes-said : (apply_predicate p f e).outcome ≡ Ok tt) where
  parts : Parts p f e
  parts = apply-parts p f e yes-said

  within : Within f.lineage
  within = facts-within p f parts.plan parts.right_facts good.long

  -- an accepted predicate changes no lineage, and good facts stay good. Assumes good facts
  pub apply-lineage : (apply_predicate p f e).facts.lineage ≡ f.lineage
  apply-lineage = ap (λ (x : LogicalFacts). x.lineage) parts.is

  -- good facts stay good. Assumes good facts
  pub apply-good : GoodFacts (apply_predicate p f e).facts
  apply-good =
      subst GoodFacts (sym parts.is)
      (record {
        long = good.long;
        set = predicate-good p parts.plan wide f.lineage within f.constraints good.set e.0 parts.handle
            parts.room;
      })

  module _ (row : WholeRow) (c : Consistent f.lineage row) where
    -- a consistent row that meets the facts and of which the predicate is TRUE meets the new facts, whatever the kinds. Assumes good facts
    pub apply-sound : MeetsFacts p row f → On p row e.0 → MeetsFacts p row (apply_predicate p f e).facts
    apply-sound m o =
        subst (MeetsFacts p row) (sym parts.is)
        (predicate-sound p parts.plan wide f.lineage within f.constraints good.set e.0 parts.handle parts.room row c m o)

    -- a row that meets the new facts meets the old. Assumes good facts
    pub apply-back : MeetsFacts p row (apply_predicate p f e).facts → MeetsFacts p row f
    apply-back m =
        predicate-back p parts.plan wide f.lineage within f.constraints good.set e.0 parts.handle parts.room row c
        (subst (MeetsFacts p row) parts.is m)

    -- exactly the rows that met the facts and of which the predicate is TRUE meet the new ones. Assumes good facts, and the conditions
    pub apply-exact : ExactPredicate p f.lineage row.ids e.0 → MeetsFacts p row (apply_predicate p f e).facts ↔ (MeetsFacts p row f × On p row e.0)
    apply-exact x =
        let i = predicate-exact p parts.plan wide f.lineage within f.constraints good.set e.0 parts.handle parts.room row c x in
        (λ m. i.0 (subst (MeetsFacts p row) parts.is m), λ m. subst (MeetsFacts p row) (sym parts.is) (i.1 m))

    -- where the flag is set there is no such row. Assumes good facts
    pub apply-none : (apply_predicate p f e).facts.constraints.contradictory ≡ true → MeetsFacts p row f → On p row e.0 → ⊥
    apply-none t m o = no_row (On p row) row.ids (apply_predicate p f e).facts.constraints t (apply-sound m o)

-- ---- any number of predicates, one after the other
module _ (p : Plan) (wide : Wide p) (row : WholeRow) where
  -- the conditions of exactness, for each of them
  abbrev pub ExactAll : List ℕ → List Expr → Type 0
  ExactAll lineage es = AllOf (λ (e : Expr). ExactPredicate p lineage row.ids e.0) es

  -- what facts reached by accepted predicates say of a row
  pub record Reached (f g : LogicalFacts) (es : List Expr) : Type 0 where
    pub lineage : g.lineage ≡ f.lineage
    pub good : GoodFacts g
    pub sound : MeetsFacts p row f → AllOn p row es → MeetsFacts p row g
    pub back : MeetsFacts p row g → MeetsFacts p row f
    pub exact : AllOf (λ (e : Expr). ExactPredicate p f.lineage row.ids e.0) es → MeetsFacts p row g → AllOn p row es

  reached-self : (f g : LogicalFacts) → GoodFacts f → f ≡ g → Reached f g []
  reached-self f g k q = subst (λ (g : LogicalFacts). Reached f g []) q
      (record { lineage = refl; good = k; sound = λ m o. m; back = λ m. m; exact = λ x m. tt })

  -- every step of the way is one of the above. Assumes good facts
  pub reached : (es : List Expr) (f g : LogicalFacts) → GoodFacts f → Consistent f.lineage row → AcceptedAll p f es g → Reached f g es
  reached [] f g k c q = reached-self f g k q
  reached (e ∷ es) f g k c q =
      let same = apply-lineage p wide f k e q.0 in
      let r = reached es (apply_predicate p f e).facts g (apply-good p wide f k e q.0) (subst (λ (l : List ℕ). Consistent l row) (sym same) c) q.1 in
      record {
        lineage = r.lineage ∙ same;
        good = r.good;
        sound = λ m o. r.sound (apply-sound p wide f k e q.0 row c m o.0) o.1;
        back = λ m. apply-back p wide f k e q.0 row c (r.back m);
        exact = λ x m. (
          ((apply-exact p wide f k e q.0 row c x.0).0 (r.back m)).1,
          r.exact (subst (λ (l : List ℕ). AllOf (λ (e : Expr). ExactPredicate p l row.ids e.0) es) (sym same) x.1) m,
        );
      }

-- ---- from fresh facts
pub fresh-good : (lineage definitions : List ℕ) → length lineage ≡ 64 → GoodFacts (fresh_facts lineage definitions)
fresh-good lineage definitions long = record { long = long; set = empty-good }

module _ (p : Plan) (wide : Wide p) (lineage definitions : List ℕ) (long : length lineage ≡ 64) (es : List Expr) (g : LogicalFacts)
    (q : AcceptedAll p (fresh_facts lineage definitions) es g) (row : WholeRow) (c : Consistent lineage row) where
  -- the facts were reached so. Assumes nothing else
  pub all-reached : Reached p wide row (fresh_facts lineage definitions) g es
  all-reached = reached p wide row es (fresh_facts lineage definitions) g (fresh-good lineage definitions long) c q

  -- every consistent row of which all of them are TRUE meets the facts, whatever the kinds. Assumes nothing else
  pub sequence_sound : AllOn p row es → MeetsFacts p row g
  sequence_sound o = all-reached.sound (empty-meets (On p row) row.ids) o

  -- a set flag means that there is no such row. Assumes nothing else
  pub sequence_none : g.constraints.contradictory ≡ true → AllOn p row es → ⊥
  sequence_none t o = no_row (On p row) row.ids g.constraints t (sequence_sound o)

  -- exactly those rows meet the facts. Assumes the conditions
  pub sequence_exact : ExactAll p wide row lineage es → MeetsFacts p row g ↔ AllOn p row es
  sequence_exact x = (all-reached.exact x, sequence_sound)
