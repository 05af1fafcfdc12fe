-- Facts that deriving hands out keep the rules of facts, so that `apply_predicate` and `merge_inputs` never refuse them by 8. Assumes nothing.
use Rattle.std.proofs.Common.{Ok, Err, Result}
use mathlib.Core.Path.{◌≡◌, refl, sym, subst}
use mathlib.Core.Bool.{Bool, true, false, cond, ◌&&◌, ◌||◌}
use mathlib.Core.List.{List}
use mathlib.Core.Logic.{◌⊎◌, inl, inr}
use Prim.Native.Nat.{ℕ, zero, suc, ◌+◌, ◌<◌, ◌≤◌}
use native.Mathlib.Omega.{arith}
use lib.Dec.{T, T_not, ltb, leb, eqb}
use lib.ListN.{get_or, length, get_or-eq_default}
use borrow.Author.Tests.{lt-ltb, ltb-true, le-leb, leb-true, eq-eqb, eqb-true}
use Rattle.laws.proofs.Bools.{and_left, and_right, and_both, cond_T_elim, or_elim}
use Rattle.lists.specs.Ranges.{all_from}
use Rattle.lists.proofs.RangeLaws.{below_or_not, all-at, all_of}
use Rattle.value_classes.specs.Classes.{Whole}
use Rattle.constraint_spec.specs.Sets.{classes_of, handle_at, set_ok, empty_set, done, merge_from}
use Rattle.constraint_spec.specs.declared.ConstraintSet.{ConstraintSet}
use Rattle.constraint_spec.specs.Answers.{Applied}
use Rattle.constraint_spec.proofs.Rules.{ruled, ruled-ok}
use Rattle.plan.specs.declared.Plan.{Plan}
use Rattle.plan.specs.declared.Expr.{Expr}
use Rattle.plan.specs.declared.Operator.{Operator}
use Rattle.plan_rules.specs.Rules.{plan_ok}
use Rattle.plan_rules.proofs.RuleLaws.{rules}
use Rattle.plan_data.specs.Nodes.{node_at, operator_at}
use Rattle.plan_data.specs.declared.Run.{Run}
use Rattle.plan_data.specs.declared.JoinType.{JoinType}
use Rattle.plan_data.specs.declared.JoinType.TheVariants.{Inner, LeftSemi, LeftAnti, LeftOuter, Single, RightOuter, FullOuter, LeftMark}
use Rattle.plan_data.specs.declared.OperatorData.{OperatorData}
use Rattle.plan_data.specs.declared.OperatorData.TheVariants.{Scan, ConstScan, TableFunction, Selection, Projection, Rename, Map, Aggregation, Sort}
use Rattle.plan_data.specs.declared.OperatorData.TheVariants.{Limit, Output, CrossProduct, Join}
use Rattle.plan_identities.specs.Identities.{identities_of}
use Rattle.plan_identities.specs.declared.Identities.{Identities}
use Rattle.apply_spec.specs.Facts.{refusal_of, empty_facts, with_constraints, identity_of, lineage_ok, definition_ok, residual_ok, facts_ok}
use Rattle.apply_spec.specs.Entries.{answered, predicate_applied, apply_predicate, overridden, overlaid, inputs_merged, merge_inputs}
use Rattle.apply_spec.specs.declared.LogicalFacts.{LogicalFacts}
use Rattle.apply_spec.specs.Told.{FactsAnswer}
use Rattle.apply_spec.specs.declared.FactsError.{FactsError}
use Rattle.apply_spec.specs.declared.FactsError.TheVariants as O
use Rattle.apply_spec.proofs.Applying.{Within}
use Rattle.apply_spec.proofs.Answers.{columns-within}
use Rattle.derive_spec.specs.Columns.{no_columns, columns_in, facts_with, keys_ok, aggregated}
use Rattle.derive_spec.specs.Operators.{is_accepted, accepted, refused, given, fitted_by, fitted, filtered, joined, grouped, operator_derived}
use Rattle.derive_spec.specs.Deriving.{missing, answers_to, answer_of, derive_of}
use Rattle.derive_spec.specs.declared.ColumnFacts.{ColumnFacts}
use Rattle.derive_spec.specs.declared.DeriveError.{DeriveError}
use Rattle.derive_spec.specs.declared.DeriveError.TheVariants.{UnsupportedKey, Residuals, NoSuch}
use Rattle.derive_spec.specs.Answers.{DeriveAnswer}
use Rattle.derive_spec.proofs.Answers.{answer-made, answer_at, answer-past}
use Rattle.derive_spec.proofs.SetRules.{RightSet, empty_right, merge_right, predicate-right}
use Rattle.derive_spec.proofs.ColumnRules.{RightEntry, RightEntries, overridden-right, RightIdentity, RightDefinition, RightColumns}
use Rattle.derive_spec.proofs.ColumnRules.{nothing_right, made_derived, scanned-right, derived_columns-right, projected-right, renamed-right}
use Rattle.derive_spec.proofs.ColumnRules.{mapped-right, aggregated-right}
use Rattle.derive_spec.proofs.OperatorRanges.{MarkerBelow, InRange, operator_ranges}

-- facts that keep the rules in a plan of nc columns and ne expressions, whatever the length of their arrays
pub record RightFacts (nc ne : ℕ) (f : LogicalFacts) : Type 0 where
  pub columns : RightColumns nc ne (columns_in f)
  pub set : RightSet ne f.constraints

pub empty-facts : (nc ne : ℕ) → RightFacts nc ne empty_facts
unfolding empty_facts
empty-facts nc ne = record { columns = nothing_right nc ne; set = empty_right ne }

-- ---- they pass the test
identity_ok : (nc i : ℕ) → (i < nc) ⊎ ((64 ≤ i) × (i < 64 + nc)) → (ltb i nc || (leb 64 i && ltb i (64 + nc))) ≡ true
identity_ok nc i (inl l) = rw (lt-ltb i nc l)
identity_ok nc i (inr l) = or_second (ltb i nc) _ (and_both (leb 64 i) (ltb i (64 + nc)) (le-leb 64 i l.0) (lt-ltb i (64 + nc) l.1))
  where
    or_second : (a b : Bool) → b ≡ true → (a || b) ≡ true
    or_second true b e = refl
    or_second false b e = e

or_none : (v : ℕ) (b : Bool) → (v ≡ 0) ⊎ (b ≡ true) → (eqb v 0 || b) ≡ true
or_none v b (inl z) = rw (eq-eqb v 0 z)
or_none v b (inr e) = go (eqb v 0)
  where
    go : (a : Bool) → (a || b) ≡ true
    go true = refl
    go false = e

lineage-ok : (nc : ℕ) (l : List ℕ) → RightEntries (RightIdentity nc) nc l → (c : ℕ) → lineage_ok l nc c ≡ true
unfolding lineage_ok
lineage-ok nc l r c = or_none (get_or l c 0) _ (go (r c))
  where
    go : RightEntry (RightIdentity nc) nc c (get_or l c 0) → (get_or l c 0 ≡ 0)
        ⊎ ((ltb c nc && (ltb (identity_of l c) nc || (leb 64 (identity_of l c) && ltb (identity_of l c) (64 + nc)))) ≡ true)
    go (inl z) = inl z
    go (inr q) = inr (and_both (ltb c nc) _ (lt-ltb c nc q.0) (identity_ok nc (identity_of l c) q.1))

definition_ok_lem : (nc ne : ℕ) (l : List ℕ) → RightEntries (RightDefinition ne) nc l → (c : ℕ) → definition_ok l nc ne c ≡ true
unfolding definition_ok
definition_ok_lem nc ne l r c = or_none (get_or l c 0) _ (go (r c))
  where
    go : RightEntry (RightDefinition ne) nc c (get_or l c 0) → (get_or l c 0 ≡ 0) ⊎ ((ltb c nc && leb (get_or l c 0) ne) ≡ true)
    go (inl z) = inl z
    go (inr q) = inr (and_both (ltb c nc) (leb (get_or l c 0) ne) (lt-ltb c nc q.0) (le-leb (get_or l c 0) ne q.1))

pub right-ok : (p : Plan) (f : LogicalFacts) → RightFacts p.columns.count p.expressions.count f → facts_ok p f ≡ true
unfolding facts_ok
right-ok p f r =
    let nc = p.columns.count in
    let ne = p.expressions.count in
    and_both (all_from (lineage_ok f.lineage nc) 0 64) _
    (all_of (lineage_ok f.lineage nc) 64 0 (λ c lo hi. lineage-ok nc f.lineage r.columns.lineage c))
    (and_both (all_from (definition_ok f.definitions nc ne) 0 64) _
    (all_of (definition_ok f.definitions nc ne) 64 0 (λ c lo hi. definition_ok_lem nc ne f.definitions r.columns.definitions c))
    (and_both (set_ok f.constraints) _ (ruled-ok f.constraints r.set.rules)
    (all_of (residual_ok f.constraints ne) f.constraints.residuals 0
    (λ k lo hi. lt-ltb (handle_at f.constraints k) ne (r.set.below k (omega arith))))))

-- every identity of a right lineage is one of the 128
right-within : (nc : ℕ) (l : List ℕ) → nc ≤ 64 → RightEntries (RightIdentity nc) nc l → Within l
right-within nc l few r c t = go (r c)
  where
    small : RightIdentity nc (get_or l c 0) → identity_of l c < 128
    small (inl i) = omega arith
    small (inr i) = omega (arith, i.1)

    go : RightEntry (RightIdentity nc) nc c (get_or l c 0) → identity_of l c < 128
    go (inl z) = absurd (T_not (eqb (get_or l c 0) 0) t (subst T (sym (eq-eqb (get_or l c 0) 0 z)) tt))
    go (inr q) = small q.1

module _ (p : Plan) (few : p.columns.count ≤ 64) where
  abbrev Right : LogicalFacts → Type 0
  Right f = RightFacts p.columns.count p.expressions.count f

  abbrev RightAnswer : DeriveAnswer → Type 0
  RightAnswer d = Right d.facts

  abbrev ids : Identities
  ids = identities_of p

  -- ---- answers
  with_columns : (t : ColumnFacts) (s : ConstraintSet) → RightColumns p.columns.count p.expressions.count t → RightSet p.expressions.count s
      → Right (facts_with t s)
  with_columns t s c r = record { columns = c; set = r }

  with_empty : (t : ColumnFacts) → RightColumns p.columns.count p.expressions.count t → Right (facts_with t empty_set)
  with_empty t c = with_columns t empty_set c (empty_right p.expressions.count)

  -- a refusal has empty facts
  refused-right : (o : Result (Unit {0}) DeriveError) → RightAnswer (refused o)
  refused-right o = empty-facts p.columns.count p.expressions.count

  given-right : (d : DeriveAnswer) (make : LogicalFacts → DeriveAnswer) → RightAnswer d → ((f : LogicalFacts) → Right f → RightAnswer (make f)) → RightAnswer
      (given d make)
  unfolding given
  given-right d make r g = cond_T_elim RightAnswer (is_accepted d.outcome) (make d.facts) d (λ t. g d.facts r) r

  fitted-right : (h : Operator) (a : FactsAnswer) → Right a.facts → RightAnswer (fitted h a)
  fitted-right h a r = go a.outcome
    where
      go : (o : Result (Unit {0}) FactsError) → RightAnswer (fitted_by h a.facts o)
      go (Ok tt) = r
      go (Err O.Residuals) = refused-right (Err (Residuals h))
      go (Err O.NoSuch) = refused-right (Err (NoSuch h))

  -- ---- applying and merging
  answered-right : (old f : LogicalFacts) (a : Applied) → Right old → Right (with_constraints f a.constraints) → Right (answered old f a).facts
  answered-right old f a q r =
      cond_T_elim (λ (x : FactsAnswer). Right x.facts) a.refused (record { facts = old; outcome = Err O.Residuals })
      (record { facts = with_constraints f a.constraints; outcome = Ok tt })
      (λ t. q) r

  filtered-right : (e : Expr) (f : LogicalFacts) → e.0 < p.expressions.count → Right f → Right (filtered p e f).facts
  unfolding filtered
  filtered-right e f l r =
      answered-right f f (predicate_applied p f.lineage f.constraints e.0) r (record {
        columns = r.columns;
        set = predicate-right p f.lineage (right-within p.columns.count f.lineage few r.columns.lineage) f.constraints e.0 l r.set;
      })

  both-columns : (f g : LogicalFacts) → Right f → Right g
      → RightColumns p.columns.count p.expressions.count
      (record { lineage = overridden f.lineage g.lineage; definitions = overridden f.definitions g.definitions })
  both-columns f g rf rg = record {
    lineage = overridden-right (RightIdentity p.columns.count) p.columns.count f.lineage g.lineage rf.columns.lineage rg.columns.lineage;
    definitions = overridden-right (RightDefinition p.expressions.count) p.columns.count f.definitions g.definitions rf.columns.definitions
        rg.columns.definitions;
  }

  merged-right : (f g : LogicalFacts) (merge : Bool) → Right f → Right g → Right (inputs_merged f g merge).facts
  unfolding inputs_merged
  merged-right f g merge rf rg =
      answered-right f (overlaid f g f.constraints)
      (cond merge (merge_from f.constraints g.constraints) (done f.constraints)) rf (record {
        columns = both-columns f g rf rg;
        set = cond_T_elim (λ (a : Applied). RightSet p.expressions.count a.constraints) merge (merge_from f.constraints g.constraints)
            (done f.constraints)
            (λ t. merge_right p.expressions.count f.constraints g.constraints rf.set rg.set) rf.set;
      })

  -- ---- each kind
  module _ (h : Operator) where
    joined-right : (on : Expr) (f g : LogicalFacts) (j : JoinType) → on.0 < p.expressions.count → MarkerBelow p.columns.count j → Right f → Right g
        → RightAnswer (joined p ids h on f g j)
    joined-right on f g Inner l m rf rg =
        given-right (fitted h (inputs_merged f g true)) _ (fitted-right h (inputs_merged f g true) (merged-right f g true rf rg))
        (λ u r. fitted-right h (filtered p on u) (filtered-right on u l r))
    joined-right on f g LeftSemi l m rf rg = rf
    joined-right on f g LeftAnti l m rf rg = rf
    joined-right on f g (LeftMark c) l m rf rg = with_columns _ f.constraints (made_derived p few (columns_in f) c.0 m rf.columns) rf.set
    joined-right on f g LeftOuter l m rf rg = merged-right f g false rf rg
    joined-right on f g Single l m rf rg = merged-right f g false rf rg
    joined-right on f g RightOuter l m rf rg = record { columns = (merged-right f g false rf rg).columns; set = rg.set }
    joined-right on f g FullOuter l m rf rg = record { columns = (merged-right f g false rf rg).columns; set = empty_right p.expressions.count }

    grouped-right : (keys aggregates : Run) (f : LogicalFacts) → InRange p.columns.count p.expressions.count p.items.a p.items.b
        (Aggregation h keys aggregates) → Right f
        → RightAnswer (grouped p ids h keys aggregates f)
    unfolding grouped
    grouped-right keys aggregates f b r =
        cond_T_elim RightAnswer (keys_ok (node_at p) p.items.a keys)
        (accepted (facts_with (aggregated ids (node_at p) p.items.a keys aggregates (columns_in f)) empty_set)) (refused (Err (UnsupportedKey h)))
        (λ t. with_empty _ (aggregated-right p few (node_at p) p.items.a keys aggregates (columns_in f) b r.columns)) (refused-right (Err (UnsupportedKey h)))

    module _ (l r : DeriveAnswer) (rl : RightAnswer l) (rr : RightAnswer r) where
      operator-right : (o : OperatorData) → InRange p.columns.count p.expressions.count p.items.a p.items.b o → RightAnswer
          (operator_derived p ids h l r o)
      operator-right (Scan table columns) b = with_empty _ (scanned-right p few p.items.a columns b)
      operator-right (ConstScan columns) b = with_empty _
          (derived_columns-right p few p.items.a columns no_columns b (nothing_right p.columns.count p.expressions.count))
      operator-right (TableFunction columns) b = with_empty _
          (derived_columns-right p few p.items.a columns no_columns b (nothing_right p.columns.count p.expressions.count))
      operator-right (Selection e i) b = given-right l _ rl (λ f q. fitted-right h (filtered p e f) (filtered-right e f b q))
      operator-right (Projection i columns) b = given-right l _ rl
          (λ f q. with_columns _ f.constraints (projected-right p few (columns_in f) p.items.a columns q.columns) q.set)
      operator-right (Rename i defs) b = given-right l _ rl
          (λ f q. with_columns _ f.constraints (renamed-right p few (columns_in f) p.items.a p.items.b defs b q.columns) q.set)
      operator-right (Map i computations) b =
          given-right l _ rl
          (λ f q. with_columns _ f.constraints (mapped-right p few (node_at p) p.items.a p.items.b computations (columns_in f) b.0 b.1
          q.columns) q.set)
      operator-right (Aggregation i keys aggregates) b = given-right l _ rl (λ f q. grouped-right keys aggregates f b q)
      operator-right (Sort i keys) b = rl
      operator-right (Limit i) b = rl
      operator-right (Output i) b = rl
      operator-right (CrossProduct o i) b = given-right l _ rl
          (λ f q. given-right r _ rr (λ g w. fitted-right h (inputs_merged f g true) (merged-right f g true q w)))
      operator-right (Join j on o i) b = given-right l _ rl (λ f q. given-right r _ rr (λ g w. joined-right on f g j b.0 b.1 q w))

-- ---- in handle order
module _ (p : Plan) (ok : plan_ok p ≡ true) where
  few : p.columns.count ≤ 64
  few = columns-within p.columns.count p.expressions.count p.operators.count p.items.count (rules p ok).counts

  abbrev RightHere : DeriveAnswer → Type 0
  RightHere d = RightFacts p.columns.count p.expressions.count d.facts

  -- an entry of the table, where every answer before it is right
  entry-right : (n : ℕ) → ((h : ℕ) → h < n → RightHere (answer_of p h)) → (i : ℕ) → RightHere (get_or (answers_to p n) i missing)
  entry-right n f i = go (below_or_not i n)
    where
      go : (i < n) ⊎ (n ≤ i) → RightHere (get_or (answers_to p n) i missing)
      go (inl l) = subst RightHere (sym (answer_at p n i l)) (f i l)
      go (inr l) = subst RightHere (sym (answer-past p n i l)) (empty-facts p.columns.count p.expressions.count)

  answer-below : (n h : ℕ) → h < n → h < p.operators.count → RightHere (answer_of p h)
  answer-below zero h b l = absurd (omega arith)
  answer-below (suc n) h b l =
      subst RightHere (sym (answer-made p h))
      (operator-right p few (record { 0 = h }) _ _ (entry-right h (λ i m. answer-below n i (omega arith) (omega arith)) _)
      (entry-right h (λ i m. answer-below n i (omega arith) (omega arith)) _)
      (operator_at p h) (operator_ranges p ok h l))

-- what deriving hands out keeps the rules, also where it refuses, since a refusal has empty facts
pub derived_right : (p : Plan) (h : ℕ) → RightFacts p.columns.count p.expressions.count (derive_of p h).facts
unfolding derive_of
derived_right p h = go (plan_ok p) (ltb h p.operators.count) refl refl
  where
    answer : Bool → DeriveAnswer
    answer b = cond b (answer_of p h) (refused (Err (NoSuch (record { 0 = h }))))

    nothing : RightFacts p.columns.count p.expressions.count empty_facts
    nothing = empty-facts p.columns.count p.expressions.count

    go : (a b : Bool) → plan_ok p ≡ a → ltb h p.operators.count ≡ b → RightFacts p.columns.count p.expressions.count (answer (a && b)).facts
    go true true ea eb = answer-below p ea (suc h) h (omega arith) (ltb-true h p.operators.count eb)
    go true false ea eb = nothing
    go false b ea eb = nothing

-- so it passes the test of facts that come from outside
pub derived_ok : (p : Plan) (h : ℕ) → facts_ok p (derive_of p h).facts ≡ true
derived_ok p h = right-ok p (derive_of p h).facts (derived_right p h)

-- ---- so they can be passed in again
-- the constraints that came of it, or refusal 7
answered-other : (old f : LogicalFacts) (a : Applied) → refusal_of (answered old f a).outcome ≡ 8 → ⊥
answered-other old f a = go a.refused
  where
    made : Bool → FactsAnswer
    made b = cond b (record { facts = old; outcome = Err O.Residuals }) (record { facts = with_constraints f a.constraints; outcome = Ok tt })

    go : (b : Bool) → refusal_of (made b).outcome ≡ 8 → ⊥
    go true e = absurd (omega (arith, e))
    go false e = absurd (omega (arith, e))

-- `apply_predicate` of an expression of the plan never refuses derived facts by 8
pub derived_applies : (p : Plan) → plan_ok p ≡ true → (h : ℕ) (e : Expr) → e.0 < p.expressions.count
    → refusal_of (apply_predicate p (derive_of p h).facts e).outcome ≡ 8 → ⊥
unfolding apply_predicate
derived_applies p ok h e l =
    let f = (derive_of p h).facts in
    rw (ok, lt-ltb e.0 p.expressions.count l, derived_ok p h) (answered-other f f (predicate_applied p f.lineage f.constraints e.0))

merged-other : (f g : LogicalFacts) (merge : Bool) → refusal_of (inputs_merged f g merge).outcome ≡ 8 → ⊥
unfolding inputs_merged
merged-other f g merge =
    answered-other f (overlaid f g f.constraints)
    (cond merge (merge_from f.constraints g.constraints) (done f.constraints))

-- nor does `merge_inputs`
pub derived_merges : (p : Plan) → plan_ok p ≡ true → (h k : ℕ) (merge : Bool) → refusal_of
    (merge_inputs p (derive_of p h).facts (derive_of p k).facts merge).outcome ≡ 8 → ⊥
unfolding merge_inputs
derived_merges p ok h k merge = rw (ok, derived_ok p h, derived_ok p k) (merged-other (derive_of p h).facts (derive_of p k).facts merge)

-- ---- what comes back of `apply_predicate` and of `merge_inputs` keeps the rules where what was passed in does
pub apply-right : (p : Plan) (f : LogicalFacts) (e : Expr) → RightFacts p.columns.count p.expressions.count f
    → RightFacts p.columns.count p.expressions.count (apply_predicate p f e).facts
unfolding apply_predicate filtered
apply-right p f e r = go (plan_ok p) (ltb e.0 p.expressions.count) (facts_ok p f) refl refl
  where
    answer : Bool → FactsAnswer
    answer b = cond b (answered f f (predicate_applied p f.lineage f.constraints e.0)) (record { facts = f; outcome = Err O.NoSuch })

    go : (a b c : Bool) → plan_ok p ≡ a → ltb e.0 p.expressions.count ≡ b → RightFacts p.columns.count p.expressions.count
        (answer (a && (b && c))).facts
    go true true true ea eb = filtered-right p (few p ea) e f (ltb-true e.0 p.expressions.count eb) r
    go true true false ea eb = r
    go true false c ea eb = r
    go false b c ea eb = r

pub merge_inputs-right : (p : Plan) (f g : LogicalFacts) (merge : Bool) → RightFacts p.columns.count p.expressions.count f → RightFacts
    p.columns.count p.expressions.count g
    → RightFacts p.columns.count p.expressions.count (merge_inputs p f g merge).facts
unfolding merge_inputs
merge_inputs-right p f g merge rf rg = go (plan_ok p) (facts_ok p f && facts_ok p g) refl
  where
    answer : Bool → FactsAnswer
    answer b = cond b (inputs_merged f g merge) (record { facts = f; outcome = Err O.NoSuch })

    go : (a b : Bool) → plan_ok p ≡ a → RightFacts p.columns.count p.expressions.count (answer (a && b)).facts
    go true true ea = merged-right p (few p ea) f g merge rf rg
    go true false ea = rf
    go false b ea = rf

-- ---- the same by the test, for facts whose arrays have the lengths of their types
-- what the types of the arrays say
pub record ArraysLong (f : LogicalFacts) : Type 0 where
  pub lineage : length f.lineage ≡ 64
  pub definitions : length f.definitions ≡ 64
  pub classes : Whole (classes_of f.constraints)

-- an entry that passes its test is right, and past the end there is none
module _ (right : ℕ → Type 0) (nc : ℕ) (l : List ℕ) (long : length l ≡ 64) where
  all_right : ((c : ℕ) → c < 64 → RightEntry right nc c (get_or l c 0)) → RightEntries right nc l
  all_right r c = go (below_or_not c 64)
    where
      go : (c < 64) ⊎ (64 ≤ c) → RightEntry right nc c (get_or l c 0)
      go (inl m) = r c m
      go (inr m) = inl (get_or-eq_default l 0 (subst (λ (n : ℕ). n ≤ c) (sym long) m))

lineage-right : (nc : ℕ) (l : List ℕ) (c : ℕ) → lineage_ok l nc c ≡ true → RightEntry (RightIdentity nc) nc c (get_or l c 0)
unfolding lineage_ok
lineage-right nc l c e =
    let i = identity_of l c in
    or_elim (eqb (get_or l c 0) 0) _ e (λ z. inl (eqb-true (get_or l c 0) 0 z))
    (λ q. inr (
      ltb-true c nc (and_left (ltb c nc) _ q),
      or_elim (ltb i nc) (leb 64 i && ltb i (64 + nc)) (and_right (ltb c nc) _ q) (λ z. inl (ltb-true i nc z))
          (λ z. inr (leb-true 64 i (and_left (leb 64 i) _ z), ltb-true i (64 + nc) (and_right (leb 64 i) _ z))),
    ))

definition_right : (nc ne : ℕ) (l : List ℕ) (c : ℕ) → definition_ok l nc ne c ≡ true → RightEntry (RightDefinition ne) nc c (get_or l c 0)
unfolding definition_ok
definition_right nc ne l c e =
    or_elim (eqb (get_or l c 0) 0) _ e (λ z. inl (eqb-true (get_or l c 0) 0 z))
    (λ q. inr (ltb-true c nc (and_left (ltb c nc) _ q), leb-true (get_or l c 0) ne (and_right (ltb c nc) _ q)))

-- facts that pass the test keep the rules
pub ok-right : (p : Plan) (f : LogicalFacts) → ArraysLong f → facts_ok p f ≡ true → RightFacts p.columns.count p.expressions.count f
unfolding facts_ok
ok-right p f long e =
    let nc = p.columns.count in
    let ne = p.expressions.count in
    let e2 = and_right (all_from (lineage_ok f.lineage nc) 0 64) _ e in
    let e3 = and_right (all_from (definition_ok f.definitions nc ne) 0 64) _ e2 in
    record {
      columns = record {
        lineage = all_right (RightIdentity nc) nc f.lineage long.lineage
            (λ c l. lineage-right nc f.lineage c (all-at (lineage_ok f.lineage nc) 64 0 (and_left _ _ e) c (omega arith) (omega arith)));
        definitions = all_right (RightDefinition ne) nc f.definitions long.definitions
            (λ c l. definition_right nc ne f.definitions c (all-at (definition_ok f.definitions nc ne) 64 0 (and_left _ _ e2) c (omega arith)
            (omega arith)));
      };
      set = record {
        rules = ruled f.constraints long.classes (and_left _ _ e3);
        below = λ k l. ltb-true (handle_at f.constraints k) ne
            (all-at (residual_ok f.constraints ne) f.constraints.residuals 0 (and_right (set_ok f.constraints) _ e3) k (omega arith) (omega arith));
      };
    }

-- what `apply_predicate` hands back passes the test where what was passed in does
pub applied-ok : (p : Plan) (f : LogicalFacts) (e : Expr) → ArraysLong f → facts_ok p f ≡ true → facts_ok p (apply_predicate p f e).facts ≡ true
applied-ok p f e long y = right-ok p (apply_predicate p f e).facts (apply-right p f e (ok-right p f long y))

-- and so does what `merge_inputs` hands back
pub merged-ok : (p : Plan) (f g : LogicalFacts) (merge : Bool) → ArraysLong f → ArraysLong g → facts_ok p f ≡ true → facts_ok p g ≡ true → facts_ok p
    (merge_inputs p f g merge).facts ≡ true
merged-ok p f g merge lf lg yf yg = right-ok p (merge_inputs p f g merge).facts (merge_inputs-right p f g merge (ok-right p f lf yf) (ok-right p g lg yg))
