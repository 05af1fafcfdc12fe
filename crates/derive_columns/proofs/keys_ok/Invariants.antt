use Prim.Native.Nat.{◌-◌}
use mathlib.Core.Path.{◌≡◌}
use Rattle.lists.specs.Ranges.{all_from}
use Rattle.derive_spec.specs.Columns.{key_ok}
use Rattle.plan_data.specs.Nodes.{node_from}
use Rattle.derive_columns.proofs.keys_ok.Given as goal

abbrev pub invariant-loop-k : goal.invariant-loop-k
invariant-loop-k l =
    all_from (key_ok (node_from l.nodes) l.items l.r) 0 l.r.count ≡ all_from (key_ok (node_from l.nodes) l.items l.r) l.k (l.r.count - l.k)
