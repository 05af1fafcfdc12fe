-- What applying a predicate and merging two inputs answer. Assumes nothing.
use Rattle.std.specs.Prelude.{Result}
use Rattle.apply_spec.specs.declared.LogicalFacts.{LogicalFacts}
use Rattle.apply_spec.specs.declared.FactsError.{FactsError}

pub record FactsAnswer : Type 0 where
  pub facts : LogicalFacts
  pub outcome : Result (Unit {0}) FactsError

-- the facts after a call, and what the call answered
abbrev pub told : LogicalFacts → Result (Unit {0}) FactsError → FactsAnswer
told f r = record { facts = f; outcome = r }
