-- What a reading knows between two records, and how it goes: once it is refused, nothing more is read. Assumes nothing.
use Rattle.std.specs.Prelude.{ℕ, ◌+◌, List, map, Option, Some, None, Result}
use Rattle.plan.specs.declared.Plan.{Plan}
use Rattle.plan_file.specs.declared.ReadError.{ReadError}
use Rattle.plan_file.specs.declared.Reader.{Reader}
use Rattle.plan_file.specs.declared.Wanted.{Wanted}

pub record State : Type 0 where
  pub at : ℕ
  pub reading : Result (Unit {0}) ReadError
  pub wanted : Wanted
  pub scans : List ℕ
  pub plan : Plan

-- a column's mark: the Scan operator that has it and one, 0 for none
abbrev pub mark : Option ℕ → ℕ
mark None = 0
mark (Some h) = h + 1

abbrev pub marks : List (Option ℕ) → List ℕ
marks scans = map mark scans

-- the state of a reader after a call
abbrev pub state : Reader → Result (Unit {0}) ReadError → State
state q k = record { at = q.at; reading = k; wanted = q.wanted; scans = marks q.scans; plan = q.plan }
