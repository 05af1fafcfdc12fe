use mathlib.Core.Path.{◌≡◌}
use Rattle.constraint_spec.specs.Sets.{steps_to}
use Rattle.derive_spec.specs.Columns.{key_step, no_columns}
use Rattle.plan_data.specs.Nodes.{node_from}
use Rattle.derive_columns.proofs.key_columns.Given as goal

abbrev pub invariant-loop-k : goal.invariant-loop-k
invariant-loop-k l = l.t ≡ steps_to (key_step (node_from l.nodes) l.g l.items l.r) l.k no_columns
