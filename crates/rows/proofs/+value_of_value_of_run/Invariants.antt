-- handles fall from a node to its operands, and a run stands above the operands of its node
use Rattle.std.proofs.Common.{◌≡◌, ◌+◌, ◌*◌, take}
use Rattle.plan_data.specs.Nodes.{node_at}
use Rattle.rows_spec.specs.Cells.{cell_at}
use Rattle.rows_spec.specs.Values.{nary_of, truths, value_in, values}
use Rattle.rows.proofs.+value_of_value_of_run.Given as goal

abbrev pub decreases-value_of : goal.decreases-value_of
decreases-value_of l = l.below * 2

abbrev pub decreases-value_of_run : goal.decreases-value_of_run
decreases-value_of_run l = l.below * 2 + 1

abbrev pub invariant-value_of_run-loop-e : goal.invariant-value_of_run-loop-e
invariant-value_of_run-loop-e l =
    l.t ≡ nary_of l.op (truths (value_in (values (cell_at l.row) (node_at l.p) l.p.items.a l.below)) (take l.e-index l.e-items))
