-- What an operation answers that may have no room for another residual, or may record nothing. Assumes nothing.
use Rattle.std.specs.Prelude.{Bool, Result}
use Rattle.std.specs.Result.{is_err}
use Rattle.constraint_spec.specs.declared.ConstraintSet.{ConstraintSet}
use Rattle.constraint_spec.specs.declared.ConstraintError.{ConstraintError}

pub record Applied : Type 0 where
  pub constraints : ConstraintSet
  pub refused : Bool

pub record Ranged : Type 0 where
  pub constraints : ConstraintSet
  pub recorded : Bool

-- the set after a call, and what the call answered
abbrev pub is_refused : Result (Unit {0}) ConstraintError → Bool
is_refused r = is_err r

abbrev pub applied : ConstraintSet → Result (Unit {0}) ConstraintError → Applied
applied s r = record { constraints = s; refused = is_refused r }

abbrev pub ranged : ConstraintSet → Bool → Ranged
ranged s b = record { constraints = s; recorded = b }
