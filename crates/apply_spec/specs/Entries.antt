-- What the public entries answer: applying a predicate to facts, and merging two facts. Assumes nothing.
use Rattle.std.specs.Prelude.{ℕ, Bool, cond, ◌&&◌, List, ltb, eqb, get_or, set, Ok, Err, Result}
use Rattle.constraint_spec.specs.Sets.{done, merge_from, steps_to}
use Rattle.constraint_spec.specs.declared.ConstraintSet.{ConstraintSet}
use Rattle.constraint_spec.specs.Answers.{Applied}
use Rattle.plan.specs.declared.Plan.{Plan}
use Rattle.plan.specs.declared.Expr.{Expr}
use Rattle.plan_rules.specs.Rules.{plan_ok}
use Rattle.apply_spec.specs.Facts.{with_constraints, facts_ok}
use Rattle.plan_data.specs.Nodes.{node_at}
use Rattle.apply_spec.specs.Conjuncts.{conjuncts_of}
use Rattle.apply_spec.specs.Apply.{conjunct_applied, all_applied}
use Rattle.apply_spec.specs.declared.LogicalFacts.{LogicalFacts}
use Rattle.apply_spec.specs.Told.{FactsAnswer}
use Rattle.apply_spec.specs.declared.FactsError.{FactsError}
use Rattle.apply_spec.specs.declared.FactsError.TheVariants.{Residuals, NoSuch}

abbrev pub accepted : LogicalFacts → FactsAnswer
accepted f = record { facts = f; outcome = Ok tt }

-- a refusal hands back the facts that were passed in
abbrev pub refused : LogicalFacts → Result (Unit {0}) FactsError → FactsAnswer
refused f o = record { facts = f; outcome = o }

-- the constraints that came of it, or refusal 7
abbrev pub answered : LogicalFacts → LogicalFacts → Applied → FactsAnswer
answered old f a = cond a.refused (refused old (Err Residuals)) (accepted (with_constraints f a.constraints))

-- ---- `apply_predicate`
unfoldable pub predicate_applied : Plan → List ℕ → ConstraintSet → ℕ → Applied
predicate_applied p lineage s e = all_applied (conjunct_applied lineage (node_at p)) (conjuncts_of (node_at p) p.items.a e) (done s)

-- to facts, without the tests
abbrev pub applied_to : Plan → LogicalFacts → Expr → FactsAnswer
applied_to p f e = answered f f (predicate_applied p f.lineage f.constraints e.0)

-- 8 where the expression is not in the plan, or the plan or the facts break the rules
unfoldable pub apply_predicate : Plan → LogicalFacts → Expr → FactsAnswer
apply_predicate p f e =
    cond (plan_ok p && (ltb e.0 p.expressions.count && facts_ok p f))
    (applied_to p f e)
    (refused f (Err NoSuch))

-- ---- `merge_inputs`
-- one `extend`: what the right has of a column stands
abbrev pub override : List ℕ → ℕ → List ℕ → List ℕ
override right c l = cond (eqb (get_or right c 0) 0) l (set l c (get_or right c 0))

unfoldable pub overridden : List ℕ → List ℕ → List ℕ
overridden left right = steps_to (override right) 64 left

-- the lineage and the definitions of both, with a set
abbrev pub overlaid : LogicalFacts → LogicalFacts → ConstraintSet → LogicalFacts
overlaid f g s = record { lineage = overridden f.lineage g.lineage; definitions = overridden f.definitions g.definitions; constraints = s }

-- right lineage and definitions override left; the constraints are merged, or the left's stay
unfoldable pub inputs_merged : LogicalFacts → LogicalFacts → Bool → FactsAnswer
inputs_merged f g merge =
    answered f (overlaid f g f.constraints)
    (cond merge (merge_from f.constraints g.constraints) (done f.constraints))

unfoldable pub merge_inputs : Plan → LogicalFacts → LogicalFacts → Bool → FactsAnswer
merge_inputs p f g merge = cond (plan_ok p && (facts_ok p f && facts_ok p g)) (inputs_merged f g merge) (refused f (Err NoSuch))
