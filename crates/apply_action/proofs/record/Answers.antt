use mathlib.Core.Path.{refl, sym, ◌∙◌}
use Rattle.apply_action.proofs.CellLaws.{when_checked, when_nothing_to_check}
use Rattle.apply_action.proofs.record.Goals as goal
use Rattle.apply_action.proofs.record.Goals.{else-not-checked-via-then-not-checked+else-is_checking, else-not-checked-via-else-not-checked}

pub returns-else-not-checked-clause-recorded : goal.returns-else-not-checked-clause-recorded
returns-else-not-checked-clause-recorded c root low proper known =
    elim c.else-not-checked.branch [
      | else-not-checked-via-then-not-checked+else-is_checking w ↦ when_nothing_to_check _ _ _ _ _ _ _ _ root low proper known c.of.ensures.long
          c.of.ensures.cell c.after.ensures c.put.ensures (sym w.is_checking.ensures ∙ w.if-is_checking.false) refl
      | else-not-checked-via-else-not-checked w ↦ when_checked _ _ _ _ _ _ _ _ root low proper known c.of.ensures.long c.of.ensures.cell
          c.after.ensures c.put.ensures w.if-not-checked.false refl
    ]
