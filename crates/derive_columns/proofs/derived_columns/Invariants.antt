use mathlib.Core.Path.{◌≡◌}
use Rattle.constraint_spec.specs.Sets.{steps_to}
use Rattle.derive_spec.specs.Columns.{derived_step}
use Rattle.derive_columns.proofs.derived_columns.Given as goal

abbrev pub invariant-loop-k : goal.invariant-loop-k
invariant-loop-k l = l.t ≡ steps_to (derived_step l.ids l.items l.r) l.k l.initial.t
