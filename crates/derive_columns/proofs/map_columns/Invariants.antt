use mathlib.Core.Path.{◌≡◌}
use Rattle.constraint_spec.specs.Sets.{steps_to}
use Rattle.derive_spec.specs.Columns.{map_step}
use Rattle.plan_data.specs.Nodes.{node_from}
use Rattle.derive_columns.proofs.map_columns.Given as goal

abbrev pub invariant-loop-k : goal.invariant-loop-k
invariant-loop-k l = l.t ≡ steps_to (map_step l.ids (node_from l.nodes) l.items l.exprs l.r) l.k l.initial.t
