-- What deriving hands on stands at the representatives, so that a predicate of a Selection or of a join, and any that is applied to derived facts, is
-- applied in the quick way. Assumes nothing.
use Prim.Native.Nat.{ℕ}
use mathlib.Core.Path.{◌≡◌}
use mathlib.Core.Bool.{Bool, true}
use Rattle.plan.specs.declared.Plan.{Plan}
use Rattle.plan.specs.declared.Expr.{Expr}
use Rattle.apply_spec.specs.Entries.{apply_predicate, inputs_merged, merge_inputs}
use Rattle.apply_spec.specs.declared.LogicalFacts.{LogicalFacts}
use Rattle.constraint_normal.specs.Ready.{Ready}
use Rattle.constraint_normal.specs.ReadyPlaces.{ready_of}
use Rattle.constraint_normal.proofs.Settling.{ready_said}
use Rattle.derive_spec.specs.Deriving.{answer_of, derive_of}
use Rattle.derive_laws.proofs.MergedReady.{empty_ready, merge_ready}
use Rattle.derive_laws.proofs.AppliedReady.{predicate_ready}
use Rattle.derive_laws.proofs.EveryAnswer.{merged-has, answer-has, derived_has, apply-has, merge_has}

-- of every plan and every number that is asked for
pub derived_ready : (p : Plan) (h : ℕ) → Ready (derive_of p h).facts.constraints
derived_ready = derived_has Ready empty_ready predicate_ready merge_ready

-- as the code asks it
pub derived_said : (p : Plan) (h : ℕ) → ready_of (derive_of p h).facts.constraints ≡ true
derived_said p h = ready_said (derive_of p h).facts.constraints (derived_ready p h)

-- ---- on the way: what the predicate of a Selection is applied to, the answer of an operator before it, and what the predicate of a join is applied to,
-- two of them merged
pub answer_ready : (p : Plan) (h : ℕ) → Ready (answer_of p h).facts.constraints
answer_ready = answer-has Ready empty_ready predicate_ready merge_ready

pub inputs_ready : (p : Plan) (h k : ℕ) (both : Bool) → Ready (inputs_merged (answer_of p h).facts (answer_of p k).facts both).facts.constraints
inputs_ready p h k both =
    merged-has Ready empty_ready predicate_ready merge_ready (answer_of p h).facts (answer_of p k).facts both (answer_ready p h) (answer_ready p k)

-- ---- facts that are ready stay so through `apply_predicate` and `merge_inputs`, whether these refuse or not
pub apply-predicate_ready : (p : Plan) (f : LogicalFacts) (e : Expr) → Ready f.constraints → Ready (apply_predicate p f e).facts.constraints
apply-predicate_ready = apply-has Ready empty_ready predicate_ready merge_ready

pub merge_inputs_ready : (p : Plan) (f g : LogicalFacts) (both : Bool) → Ready f.constraints → Ready g.constraints → Ready
    (merge_inputs p f g both).facts.constraints
merge_inputs_ready = merge_has Ready empty_ready predicate_ready merge_ready
