use mathlib.Core.Path.{refl, sym, ◌∙◌}
use Rattle.apply_action.proofs.CellLaws.{when_checked, when_nothing_to_check}
use Rattle.apply_conjuncts.proofs.record.Goals as goal
use Rattle.apply_conjuncts.proofs.record.Goals.{else-not-checked-via-then-not-checked+else-is_checking, else-not-checked-via-else-not-checked}

pub returns-else-not-checked-clause-recorded : goal.returns-else-not-checked-clause-recorded
returns-else-not-checked-clause-recorded c =
    let r = c.requires in
    elim c.else-not-checked.branch [
      | else-not-checked-via-then-not-checked+else-is_checking w ↦ when_nothing_to_check _ _ _ _ _ _ _ _ r.root r.root_bound r.proper r.checked
          c.cell_of.ensures.long c.cell_of.ensures.cell c.after-cell.ensures c.put_cell.ensures (sym w.is_checking.ensures ∙ w.if-is_checking.false) refl
      | else-not-checked-via-else-not-checked w ↦ when_checked _ _ _ _ _ _ _ _ r.root r.root_bound r.proper r.checked c.cell_of.ensures.long
          c.cell_of.ensures.cell c.after-cell.ensures c.put_cell.ensures w.if-not-checked.false refl
    ]
