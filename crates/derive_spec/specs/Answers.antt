-- What deriving answers: facts and an outcome. Assumes nothing.
use Rattle.std.specs.Prelude.{Result, Ok, Err}
use Rattle.apply_spec.specs.Facts.{empty_facts}
use Rattle.apply_spec.specs.declared.LogicalFacts.{LogicalFacts}
use Rattle.derive_spec.specs.declared.DeriveError.{DeriveError}

pub record DeriveAnswer : Type 0 where
  pub facts : LogicalFacts
  pub outcome : Result (Unit {0}) DeriveError

-- the answer of a call: a refusal has empty facts
abbrev pub derived : Result LogicalFacts DeriveError → DeriveAnswer
derived (Ok f) = record { facts = f; outcome = Ok tt }
derived (Err e) = record { facts = empty_facts; outcome = Err e }
