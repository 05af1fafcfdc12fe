use mathlib.Core.Path.{◌≡◌}
use Rattle.constraint_spec.specs.Sets.{steps_to}
use Rattle.derive_spec.specs.Columns.{rename_step, no_columns}
use Rattle.derive_columns.proofs.rename_columns.Given as goal

abbrev pub invariant-loop-k : goal.invariant-loop-k
invariant-loop-k l = l.t ≡ steps_to (rename_step l.g l.items l.originals l.r) l.k no_columns
