-- What holds of the empty set, and stays where a predicate is applied and where two sets are merged, holds of the constraints of every answer of deriving.
-- Assumes nothing.
use Rattle.std.proofs.Common.{Ok, Err, Result}
use Prim.Native.Nat.{ℕ, zero, suc, ◌<◌, ◌≤◌}
use mathlib.Core.Path.{◌≡◌, refl, sym, subst}
use mathlib.Core.Bool.{Bool, true, false, cond, ◌&&◌}
use mathlib.Core.List.{List}
use mathlib.Core.Logic.{◌⊎◌, inl, inr}
use native.Mathlib.Omega.{arith}
use lib.Dec.{ltb}
use lib.ListN.{get_or}
use Rattle.laws.proofs.Bools.{cond_T_elim}
use Rattle.lists.proofs.RangeLaws.{below_or_not}
use Rattle.constraint_spec.specs.Sets.{empty_set, done, merge_from}
use Rattle.constraint_spec.specs.declared.ConstraintSet.{ConstraintSet}
use Rattle.constraint_spec.specs.Answers.{Applied}
use Rattle.plan.specs.declared.Plan.{Plan}
use Rattle.plan.specs.declared.Expr.{Expr}
use Rattle.plan.specs.declared.Operator.{Operator}
use Rattle.plan_rules.specs.Rules.{plan_ok}
use Rattle.plan_data.specs.Nodes.{node_at, operator_at}
use Rattle.plan_data.specs.declared.JoinType.{JoinType}
use Rattle.plan_data.specs.declared.JoinType.TheVariants.{Inner, LeftSemi, LeftAnti, LeftOuter, Single, RightOuter, FullOuter, LeftMark}
use Rattle.plan_data.specs.declared.Run.{Run}
use Rattle.plan_data.specs.declared.OperatorData.{OperatorData}
use Rattle.plan_data.specs.declared.OperatorData.TheVariants.{Scan, ConstScan, TableFunction, Selection, Projection, Rename, Map, Aggregation, Sort}
use Rattle.plan_data.specs.declared.OperatorData.TheVariants.{Limit, Output, CrossProduct, Join}
use Rattle.plan_identities.specs.Identities.{identities_of}
use Rattle.plan_identities.specs.declared.Identities.{Identities}
use Rattle.apply_spec.specs.Facts.{empty_facts, with_constraints, facts_ok}
use Rattle.apply_spec.specs.Entries.{answered, predicate_applied, apply_predicate, overlaid, inputs_merged, merge_inputs}
use Rattle.apply_spec.specs.declared.LogicalFacts.{LogicalFacts}
use Rattle.apply_spec.specs.Told.{FactsAnswer}
use Rattle.apply_spec.specs.declared.FactsError.{FactsError}
use Rattle.apply_spec.specs.declared.FactsError.TheVariants as O
use Rattle.derive_spec.specs.Columns.{columns_in, facts_with, keys_ok, aggregated}
use Rattle.derive_spec.specs.Operators.{is_accepted, accepted, refused, given, fitted_by, fitted, filtered, joined, grouped, operator_derived}
use Rattle.derive_spec.specs.Deriving.{missing, answers_to, answer_of, derive_of}
use Rattle.derive_spec.specs.declared.DeriveError.{DeriveError}
use Rattle.derive_spec.specs.declared.DeriveError.TheVariants.{UnsupportedKey, Residuals, NoSuch}
use Rattle.derive_spec.specs.Answers.{DeriveAnswer}
use Rattle.derive_spec.proofs.Answers.{answer-made, answer_at, answer-past}

module _ (P : ConstraintSet → Type 0) (nothing : P empty_set)
    (apply : (p : Plan) (lineage : List ℕ) (s : ConstraintSet) (e : ℕ) → P s → (predicate_applied p lineage s e).refused ≡ false → P
    (predicate_applied p lineage s e).constraints)
    (merge : (a b : ConstraintSet) → P a → P b → P (merge_from a b).constraints) where
  abbrev InFacts : LogicalFacts → Type 0
  InFacts f = P f.constraints

  abbrev InAnswer : DeriveAnswer → Type 0
  InAnswer d = P d.facts.constraints

  -- ---- applying and merging
  refused-has : (o : Result (Unit {0}) DeriveError) → InAnswer (refused o)
  unfolding empty_facts
  refused-has o = nothing

  given-has : (d : DeriveAnswer) (make : LogicalFacts → DeriveAnswer) → InAnswer d → ((f : LogicalFacts) → InFacts f → InAnswer (make f)) → InAnswer
      (given d make)
  unfolding given
  given-has d make r g = cond_T_elim InAnswer (is_accepted d.outcome) (make d.facts) d (λ t. g d.facts r) r

  fitted-has : (h : Operator) (a : FactsAnswer) → InFacts a.facts → InAnswer (fitted h a)
  fitted-has h a r = go a.outcome
    where
      go : (o : Result (Unit {0}) FactsError) → InAnswer (fitted_by h a.facts o)
      go (Ok tt) = r
      go (Err O.Residuals) = refused-has (Err (Residuals h))
      go (Err O.NoSuch) = refused-has (Err (NoSuch h))

  -- a refusal hands back the facts that were passed in
  answered-has : (old f : LogicalFacts) (a : Applied) → InFacts old → (a.refused ≡ false → P a.constraints) → InFacts (answered old f a).facts
  answered-has old f a q r = go a.refused refl
    where
      made : Bool → FactsAnswer
      made b = cond b (record { facts = old; outcome = Err O.Residuals }) (record { facts = with_constraints f a.constraints; outcome = Ok tt })

      go : (b : Bool) → a.refused ≡ b → InFacts (made b).facts
      go true e = q
      go false e = r e

  filtered-has : (p : Plan) (e : Expr) (f : LogicalFacts) → InFacts f → InFacts (filtered p e f).facts
  unfolding filtered
  filtered-has p e f r = answered-has f f (predicate_applied p f.lineage f.constraints e.0) r (apply p f.lineage f.constraints e.0 r)

  pub merged-has : (f g : LogicalFacts) (both : Bool) → InFacts f → InFacts g → InFacts (inputs_merged f g both).facts
  unfolding inputs_merged
  merged-has f g both rf rg =
      answered-has f (overlaid f g f.constraints)
      (cond both (merge_from f.constraints g.constraints) (done f.constraints)) rf
      (λ z. cond_T_elim (λ (a : Applied). P a.constraints) both (merge_from f.constraints g.constraints) (done f.constraints)
      (λ t. merge f.constraints g.constraints rf rg) rf)

  -- ---- each kind
  module _ (p : Plan) (h : Operator) where
    abbrev ids : Identities
    ids = identities_of p

    joined-has : (on : Expr) (f g : LogicalFacts) (j : JoinType) → InFacts f → InFacts g → InAnswer (joined p ids h on f g j)
    joined-has on f g Inner rf rg =
        given-has (fitted h (inputs_merged f g true)) _ (fitted-has h (inputs_merged f g true) (merged-has f g true rf rg))
        (λ u r. fitted-has h (filtered p on u) (filtered-has p on u r))
    joined-has on f g LeftSemi rf rg = rf
    joined-has on f g LeftAnti rf rg = rf
    joined-has on f g (LeftMark c) rf rg = rf
    joined-has on f g LeftOuter rf rg = merged-has f g false rf rg
    joined-has on f g Single rf rg = merged-has f g false rf rg
    joined-has on f g RightOuter rf rg = rg
    joined-has on f g FullOuter rf rg = nothing

    grouped-has : (keys aggregates : Run) (f : LogicalFacts) → InAnswer (grouped p ids h keys aggregates f)
    unfolding grouped
    grouped-has keys aggregates f =
        cond_T_elim InAnswer (keys_ok (node_at p) p.items.a keys)
        (accepted (facts_with (aggregated ids (node_at p) p.items.a keys aggregates (columns_in f)) empty_set)) (refused (Err (UnsupportedKey h)))
        (λ t. nothing) (refused-has (Err (UnsupportedKey h)))

    module _ (l r : DeriveAnswer) (rl : InAnswer l) (rr : InAnswer r) where
      operator-has : (o : OperatorData) → InAnswer (operator_derived p ids h l r o)
      operator-has (Scan table columns) = nothing
      operator-has (ConstScan columns) = nothing
      operator-has (TableFunction columns) = nothing
      operator-has (Selection e i) = given-has l _ rl (λ f q. fitted-has h (filtered p e f) (filtered-has p e f q))
      operator-has (Projection i columns) = given-has l _ rl (λ f q. q)
      operator-has (Rename i defs) = given-has l _ rl (λ f q. q)
      operator-has (Map i computations) = given-has l _ rl (λ f q. q)
      operator-has (Aggregation i keys aggregates) = given-has l _ rl (λ f q. grouped-has keys aggregates f)
      operator-has (Sort i keys) = rl
      operator-has (Limit i) = rl
      operator-has (Output i) = rl
      operator-has (CrossProduct o i) = given-has l _ rl (λ f q. given-has r _ rr (λ g w. fitted-has h (inputs_merged f g true) (merged-has f g true q w)))
      operator-has (Join j on o i) = given-has l _ rl (λ f q. given-has r _ rr (λ g w. joined-has on f g j q w))

  -- ---- in handle order
  module _ (p : Plan) where
    entry_has : (n : ℕ) → ((h : ℕ) → h < n → InAnswer (answer_of p h)) → (i : ℕ) → InAnswer (get_or (answers_to p n) i missing)
    entry_has n f i = go (below_or_not i n)
      where
        go : (i < n) ⊎ (n ≤ i) → InAnswer (get_or (answers_to p n) i missing)
        go (inl l) = subst InAnswer (sym (answer_at p n i l)) (f i l)
        go (inr l) = subst InAnswer (sym (answer-past p n i l)) (refused-has (Err (NoSuch (record { 0 = 0 }))))

    answer-below : (n h : ℕ) → h < n → InAnswer (answer_of p h)
    answer-below zero h b = absurd (omega arith)
    answer-below (suc n) h b =
        subst InAnswer (sym (answer-made p h))
        (operator-has p (record { 0 = h }) _ _ (entry_has h (λ i m. answer-below n i (omega arith)) _) (entry_has h (λ i m. answer-below n i (omega arith)) _)
        (operator_at p h))

    pub answer-has : (h : ℕ) → InAnswer (answer_of p h)
    answer-has h = answer-below (suc h) h (omega arith)

  pub derived_has : (p : Plan) (h : ℕ) → InAnswer (derive_of p h)
  unfolding derive_of
  derived_has p h =
      cond_T_elim InAnswer (plan_ok p && ltb h p.operators.count) (answer_of p h) (refused (Err (NoSuch (record { 0 = h })))) (λ t. answer-has p h)
      (refused-has (Err (NoSuch (record { 0 = h }))))

  -- ---- the two entries that take facts
  pub apply-has : (p : Plan) (f : LogicalFacts) (e : Expr) → InFacts f → InFacts (apply_predicate p f e).facts
  unfolding apply_predicate
  apply-has p f e r =
      cond_T_elim (λ (a : FactsAnswer). InFacts a.facts) (plan_ok p && (ltb e.0 p.expressions.count && facts_ok p f))
      (answered f f (predicate_applied p f.lineage f.constraints e.0)) (record { facts = f; outcome = Err O.NoSuch })
      (λ t. answered-has f f (predicate_applied p f.lineage f.constraints e.0) r (apply p f.lineage f.constraints e.0 r)) r

  pub merge_has : (p : Plan) (f g : LogicalFacts) (both : Bool) → InFacts f → InFacts g → InFacts (merge_inputs p f g both).facts
  unfolding merge_inputs
  merge_has p f g both rf rg =
      cond_T_elim (λ (a : FactsAnswer). InFacts a.facts) (plan_ok p && (facts_ok p f && facts_ok p g)) (inputs_merged f g both)
      (record { facts = f; outcome = Err O.NoSuch })
      (λ t. merged-has f g both rf rg) rf
