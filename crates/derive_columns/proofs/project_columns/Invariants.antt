use mathlib.Core.Path.{◌≡◌}
use Rattle.constraint_spec.specs.Sets.{steps_to}
use Rattle.derive_spec.specs.Columns.{project_step, no_columns}
use Rattle.derive_columns.proofs.project_columns.Given as goal

abbrev pub invariant-loop-k : goal.invariant-loop-k
invariant-loop-k l = l.t ≡ steps_to (project_step l.g l.items l.r) l.k no_columns
