-- What applying a predicate of a plan makes of a set, for rows. Assumes nothing.
use mathlib.Core.Path.{◌≡◌, refl}
use mathlib.Core.Bool.{true, not}
use mathlib.Core.List.{List}
use mathlib.Core.Logic.{◌↔◌}
use Prim.Native.Nat.{ℕ, ◌<◌, ◌≤◌}
use native.Mathlib.Omega.{arith}
use lib.Dec.{T}
use Rattle.scalar.specs.declared.Kind.TheVariants as K
use Rattle.scalar.specs.declared.ScalarValue.TheVariants as S
use Rattle.constraint_spec.specs.Sets.{done}
use Rattle.constraint_spec.specs.Meets.{Meets, Good}
use Rattle.constraint_spec.specs.declared.ConstraintSet.{ConstraintSet}
use Rattle.constraint_spec.proofs.Operations.{no_row}
use Rattle.plan.specs.declared.Plan.{Plan}
use Rattle.plan_rules.specs.Rules.{plan_ok}
use Rattle.plan_data.specs.Nodes.{node_at}
use Rattle.apply_spec.specs.Conjuncts.{conjuncts_of}
use Rattle.apply_spec.specs.Apply.{conjunct_applied}
use Rattle.apply_spec.specs.Entries.{predicate_applied}
use Rattle.apply_spec.specs.Meaning.{WholeRow, Consistent, On, AllOf, Wide}
use Rattle.apply_spec.specs.Conditions.{ExactNode, ExactPredicate}
use Rattle.apply_spec.proofs.Members.{all_map}
use Rattle.apply_spec.proofs.Conjunctions.{OperandsBelow, conjuncts_within, conjuncts_iff}
use Rattle.apply_spec.proofs.Applying.{Within, Step, conjunct-step, run_step}
use Rattle.apply_spec.proofs.PlanNodes.{plan-below, plan-typed}

-- a predicate is TRUE of a row exactly where each of its conjuncts is. Assumes a plan that keeps the rules
pub predicate_conjuncts : (p : Plan) → plan_ok p ≡ true → (row : WholeRow) (e : ℕ) → e < p.expressions.count → On p row e ↔ AllOf (On p row)
    (conjuncts_of (node_at p) p.items.a e)
predicate_conjuncts p ok row e l = conjuncts_iff (node_at p) p.items.a row p.expressions.count (plan-below p ok) e l

module _ (p : Plan) (ok : plan_ok p ≡ true) (wide : Wide p) (lineage : List ℕ) (small : Within lineage) where
  -- the row of NULLs, consistent with every lineage
  abbrev nulls : WholeRow
  nulls = record { cols = λ i. S.Null K.Boolean; ids = λ i. S.Null K.Boolean }

  nulls_consistent : Consistent lineage nulls
  nulls_consistent = record { typed = λ i. tt; same = λ k t. refl }

  conjuncts_below : (e : ℕ) → e < p.expressions.count → AllOf (λ (h : ℕ). OperandsBelow p.items.a h (node_at p h)) (conjuncts_of (node_at p) p.items.a e)
  conjuncts_below e l =
      all_map (λ (h : ℕ). h ≤ e) (λ (h : ℕ). OperandsBelow p.items.a h (node_at p h)) (λ h q. plan-below p ok h (omega arith))
      (conjuncts_of (node_at p) p.items.a e)
      (conjuncts_within (node_at p) p.items.a e)

  module _ (row : WholeRow) (c : Consistent lineage row) where
    abbrev pub PlanStep : ConstraintSet → ConstraintSet → Type 0 → Type 0 → Type 0
    PlanStep s new P E = Step (node_at p) p.items.a (plan-typed p wide) lineage small row c s new P E

    -- a predicate that is not refused is a step. Assumes a plan that keeps the rules
    pub predicate-step : (s : ConstraintSet) → Good s → (e : ℕ) → e < p.expressions.count → T (not (predicate_applied p lineage s e).refused)
        → PlanStep s (predicate_applied p lineage s e).constraints (On p row e) (ExactPredicate p lineage row.ids e)
    unfolding predicate_applied
    predicate-step s g e l u =
        let k = (run_step (node_at p) p.items.a (plan-typed p wide) lineage small row c (conjuncts_of (node_at p) p.items.a e) (conjuncts_below e l)
        (done s) u).1 g in
        let i = predicate_conjuncts p ok row e l in
        record {
          good = k.good;
          sound = λ m o. k.sound m (i.0 o);
          back = k.back;
          exact = λ x m. i.1 (k.exact x m);
        }

  -- ---- one conjunct
  module _ (s : ConstraintSet) (g : Good s) (h : ℕ) (l : h < p.expressions.count) (u : T (not (conjunct_applied lineage (node_at p) s h).refused)) where
    -- a good set stays good. Assumes a plan that keeps the rules
    pub conjunct-good : Good (conjunct_applied lineage (node_at p) s h).constraints
    conjunct-good = (conjunct-step (node_at p) p.items.a (plan-typed p wide) lineage small nulls nulls_consistent s g h (plan-below p ok h l) u).good

    module _ (row : WholeRow) (c : Consistent lineage row) where
      -- a row that met the set and of which the conjunct is TRUE meets the result, whatever the kinds. Assumes a plan that keeps the rules
      pub conjunct-sound : Meets (On p row) row.ids s → On p row h → Meets (On p row) row.ids (conjunct_applied lineage (node_at p) s h).constraints
      conjunct-sound = (conjunct-step (node_at p) p.items.a (plan-typed p wide) lineage small row c s g h (plan-below p ok h l) u).sound

      -- exactly such rows do, where no NaN is compared with itself and no bound is of another kind
      pub conjunct-exact : ExactNode row.ids lineage (node_at p) (node_at p h)
          → Meets (On p row) row.ids (conjunct_applied lineage (node_at p) s h).constraints ↔ (Meets (On p row) row.ids s × On p row h)
      conjunct-exact x =
          let k = conjunct-step (node_at p) p.items.a (plan-typed p wide) lineage small row c s g h (plan-below p ok h l) u in
          (λ m. (k.back m, k.exact x m), λ m. k.sound m.0 m.1)

  -- ---- a predicate
  module _ (s : ConstraintSet) (g : Good s) (e : ℕ) (l : e < p.expressions.count) (u : T (not (predicate_applied p lineage s e).refused)) where
    -- a good set stays good. Assumes a plan that keeps the rules
    pub predicate-good : Good (predicate_applied p lineage s e).constraints
    predicate-good = (predicate-step nulls nulls_consistent s g e l u).good

    module _ (row : WholeRow) (c : Consistent lineage row) where
      -- a row that met the set and of which the predicate is TRUE meets the result, whatever the kinds. Assumes a plan that keeps the rules
      pub predicate-sound : Meets (On p row) row.ids s → On p row e → Meets (On p row) row.ids (predicate_applied p lineage s e).constraints
      predicate-sound = (predicate-step row c s g e l u).sound

      -- a row that meets the result met the set. Assumes a plan that keeps the rules
      pub predicate-back : Meets (On p row) row.ids (predicate_applied p lineage s e).constraints → Meets (On p row) row.ids s
      predicate-back = (predicate-step row c s g e l u).back

      -- exactly the rows that met the set and of which the predicate is TRUE meet the result. Assumes the conditions too
      pub predicate-exact : ExactPredicate p lineage row.ids e
          → Meets (On p row) row.ids (predicate_applied p lineage s e).constraints ↔ (Meets (On p row) row.ids s × On p row e)
      predicate-exact x =
          let k = predicate-step row c s g e l u in
          (λ m. (k.back m, k.exact x m), λ m. k.sound m.0 m.1)

      -- where the flag is set there is no such row
      pub predicate-none : (predicate_applied p lineage s e).constraints.contradictory ≡ true → Meets (On p row) row.ids s → On p row e → ⊥
      predicate-none f m o = no_row (On p row) row.ids (predicate_applied p lineage s e).constraints f (predicate-sound m o)
