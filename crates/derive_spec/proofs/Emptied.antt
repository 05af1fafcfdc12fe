-- A refusal hands back empty facts, whatever the plan and the handle. Assumes nothing.
use Rattle.std.proofs.Common.{Ok, Err, Result}
use mathlib.Core.Path.{◌≡◌, refl, sym, subst}
use mathlib.Core.Bool.{Bool, true, false, cond, ◌&&◌, true≢false}
use Prim.Native.Nat.{ℕ, zero, suc, ◌<◌, ◌≤◌}
use mathlib.Core.Logic.{◌⊎◌, inl, inr}
use native.Mathlib.Omega.{arith}
use lib.Dec.{ltb}
use lib.ListN.{get_or}
use Rattle.lists.proofs.RangeLaws.{below_or_not}
use Rattle.constraint_spec.specs.Sets.{empty_set}
use Rattle.plan.specs.declared.Plan.{Plan}
use Rattle.plan.specs.declared.Expr.{Expr}
use Rattle.plan.specs.declared.Operator.{Operator}
use Rattle.plan_rules.specs.Rules.{plan_ok}
use Rattle.plan_data.specs.Nodes.{node_at, operator_at}
use Rattle.plan_data.specs.declared.Run.{Run}
use Rattle.plan_data.specs.declared.JoinType.{JoinType}
use Rattle.plan_data.specs.declared.JoinType.TheVariants.{Inner, LeftSemi, LeftAnti, LeftOuter, Single, RightOuter, FullOuter, LeftMark}
use Rattle.plan_data.specs.declared.OperatorData.{OperatorData}
use Rattle.plan_data.specs.declared.OperatorData.TheVariants.{Scan, ConstScan, TableFunction, Selection, Projection, Rename, Map, Aggregation, Sort}
use Rattle.plan_data.specs.declared.OperatorData.TheVariants.{Limit, Output, CrossProduct, Join}
use Rattle.plan_identities.specs.Identities.{identities_of}
use Rattle.plan_identities.specs.declared.Identities.{Identities}
use Rattle.apply_spec.specs.Facts.{empty_facts}
use Rattle.apply_spec.specs.Entries.{inputs_merged}
use Rattle.apply_spec.specs.declared.LogicalFacts.{LogicalFacts}
use Rattle.apply_spec.specs.Told.{FactsAnswer}
use Rattle.apply_spec.specs.declared.FactsError.{FactsError}
use Rattle.apply_spec.specs.declared.FactsError.TheVariants as O
use Rattle.derive_spec.specs.Columns.{columns_in, facts_with, keys_ok, aggregated}
use Rattle.derive_spec.specs.Operators.{is_accepted, accepted, refused, given, fitted_by, fitted, filtered, joined, grouped, operator_derived}
use Rattle.derive_spec.specs.Deriving.{missing, answers_to, answer_of, derive_of}
use Rattle.derive_spec.specs.declared.DeriveError.{DeriveError}
use Rattle.derive_spec.specs.declared.DeriveError.TheVariants.{UnsupportedKey, Residuals, NoSuch}
use Rattle.derive_spec.specs.Answers.{DeriveAnswer}
use Rattle.derive_spec.proofs.Answers.{answer-made, answer_at, answer-past}

abbrev pub Clean : DeriveAnswer → Type 0
Clean d = is_accepted d.outcome ≡ false → d.facts ≡ empty_facts

clean-done : (f : LogicalFacts) → Clean (accepted f)
clean-done f e = absurd (true≢false e)

clean-refused : (o : Result (Unit {0}) DeriveError) → Clean (refused o)
clean-refused o e = refl

clean-cond : (b : Bool) (d k : DeriveAnswer) → Clean d → Clean k → Clean (cond b d k)
clean-cond true d k x y = x
clean-cond false d k x y = y

clean-given : (d : DeriveAnswer) (make : LogicalFacts → DeriveAnswer) → Clean d → ((f : LogicalFacts) → Clean (make f)) → Clean (given d make)
unfolding given
clean-given d make c g = clean-cond (is_accepted d.outcome) (make d.facts) d (g d.facts) c

clean-fitted : (h : Operator) (f : LogicalFacts) (o : Result (Unit {0}) FactsError) → Clean (fitted_by h f o)
clean-fitted h f (Ok tt) = clean-done f
clean-fitted h f (Err O.Residuals) = clean-refused (Err (Residuals h))
clean-fitted h f (Err O.NoSuch) = clean-refused (Err (NoSuch h))

clean-fit : (h : Operator) (a : FactsAnswer) → Clean (fitted h a)
clean-fit h a = clean-fitted h a.facts a.outcome

module _ (p : Plan) (ids : Identities) (h : Operator) where
  clean-joined : (on : Expr) (f g : LogicalFacts) (j : JoinType) → Clean (joined p ids h on f g j)
  clean-joined on f g Inner = clean-given (fitted h (inputs_merged f g true)) _ (clean-fit h (inputs_merged f g true)) (λ m. clean-fit h (filtered p on m))
  clean-joined on f g LeftSemi = clean-done _
  clean-joined on f g LeftAnti = clean-done _
  clean-joined on f g (LeftMark c) = clean-done _
  clean-joined on f g LeftOuter = clean-done _
  clean-joined on f g Single = clean-done _
  clean-joined on f g RightOuter = clean-done _
  clean-joined on f g FullOuter = clean-done _

  clean-grouped : (keys aggregates : Run) (f : LogicalFacts) → Clean (grouped p ids h keys aggregates f)
  unfolding grouped
  clean-grouped keys aggregates f = clean-cond (keys_ok (node_at p) p.items.a keys) _ _
      (clean-done (facts_with (aggregated ids (node_at p) p.items.a keys aggregates (columns_in f)) empty_set)) (clean-refused (Err (UnsupportedKey h)))

  module _ (l r : DeriveAnswer) (cl : Clean l) (cr : Clean r) where
    clean-operator : (o : OperatorData) → Clean (operator_derived p ids h l r o)
    clean-operator (Scan table columns) = clean-done _
    clean-operator (ConstScan columns) = clean-done _
    clean-operator (TableFunction columns) = clean-done _
    clean-operator (Selection e i) = clean-given l _ cl (λ f. clean-fit h (filtered p e f))
    clean-operator (Projection i columns) = clean-given l _ cl (λ f. clean-done _)
    clean-operator (Rename i defs) = clean-given l _ cl (λ f. clean-done _)
    clean-operator (Map i computations) = clean-given l _ cl (λ f. clean-done _)
    clean-operator (Aggregation i keys aggregates) = clean-given l _ cl (λ f. clean-grouped keys aggregates f)
    clean-operator (Sort i keys) = cl
    clean-operator (Limit i) = cl
    clean-operator (Output i) = cl
    clean-operator (CrossProduct o i) = clean-given l _ cl (λ f. clean-given r _ cr (λ g. clean-fit h (inputs_merged f g true)))
    clean-operator (Join j on o i) = clean-given l _ cl (λ f. clean-given r _ cr (λ g. clean-joined on f g j))

module _ (p : Plan) where
  -- an entry of the table, where every answer before it is clean
  clean-entry : (n : ℕ) → ((h : ℕ) → h < n → Clean (answer_of p h)) → (i : ℕ) → Clean (get_or (answers_to p n) i missing)
  clean-entry n f i = go (below_or_not i n)
    where
      go : (i < n) ⊎ (n ≤ i) → Clean (get_or (answers_to p n) i missing)
      go (inl l) = subst Clean (sym (answer_at p n i l)) (f i l)
      go (inr l) = subst Clean (sym (answer-past p n i l)) (clean-refused (Err (NoSuch (record { 0 = 0 }))))

  clean-below : (n h : ℕ) → h < n → Clean (answer_of p h)
  clean-below zero h l = absurd (omega arith)
  clean-below (suc n) h l =
      subst Clean (sym (answer-made p h))
      (clean-operator p (identities_of p) (record { 0 = h }) _ _ (clean-entry h (λ i m. clean-below n i (omega arith)) _)
      (clean-entry h (λ i m. clean-below n i (omega arith)) _) (operator_at p h))

  -- every refusal has empty facts
  pub refused-empty : (h : ℕ) → Clean (derive_of p h)
  unfolding derive_of
  refused-empty h = clean-cond (plan_ok p && ltb h p.operators.count) _ _ (clean-below (suc h) h (omega arith)) (clean-refused (Err (NoSuch
      (record { 0 = h }))))
