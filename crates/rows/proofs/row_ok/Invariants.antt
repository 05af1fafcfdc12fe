use Rattle.std.proofs.Common.{◌≡◌, ◌-◌}
use Rattle.lists.specs.Ranges.{all_from}
use Rattle.rows_spec.specs.Cells.{cell_at_ok}
use Rattle.rows.proofs.row_ok.Given as goal

abbrev pub invariant-loop-i : goal.invariant-loop-i
invariant-loop-i l =
    all_from (cell_at_ok l.p.columns.kind l.row) 0 l.p.columns.count
    ≡ all_from (cell_at_ok l.p.columns.kind l.row) l.i (l.p.columns.count - l.i)
