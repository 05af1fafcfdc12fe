-- What simplifying answers: tables or a plan, and an outcome. Assumes nothing.
use Rattle.std.specs.Prelude.{ℕ, Bool, true, false, List, Result, Ok, Err}
use Rattle.plan.specs.declared.AppendError.{AppendError}
use Rattle.plan.specs.declared.Plan.{Plan}
use Rattle.simplify_spec.specs.declared.Rewrite.{Rewrite}
use Rattle.simplify_spec.specs.declared.SimplifyError.{SimplifyError}
use Rattle.simplify_spec.specs.declared.Tables.{Tables}

pub record Simplified : Type 0 where
  pub st : Tables
  pub at : ℕ
  pub ok : Bool

pub record Each : Type 0 where
  pub st : Tables
  pub ok : Bool
  pub ats : List ℕ

pub record Rewritten : Type 0 where
  pub plan : Plan
  pub rewrite : Result Rewrite SimplifyError

-- the tables after a call, and the handle that it answered, if there was room
abbrev pub simplified : Tables → Result ℕ AppendError → Simplified
simplified st (Ok h) = record { st = st; at = h; ok = true }
simplified st (Err e) = record { st = st; at = 0; ok = false }
