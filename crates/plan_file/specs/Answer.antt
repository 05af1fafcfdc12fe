-- What reading a plan file answers: a plan, which is empty at a refusal, and how the reading ended. Assumes nothing.
use Rattle.std.specs.Prelude.{Result, Ok, Err}
use Rattle.plan.specs.Plans.{empty_plan}
use Rattle.plan.specs.declared.Plan.{Plan}
use Rattle.plan_file.specs.declared.ReadError.{ReadError}

pub record Answer : Type 0 where
  pub plan : Plan
  pub reading : Result (Unit {0}) ReadError

-- the answer of a call: a refusal has the empty plan
abbrev pub answer : Result Plan ReadError → Answer
answer (Ok p) = record { plan = p; reading = Ok tt }
answer (Err e) = record { plan = empty_plan; reading = Err e }
