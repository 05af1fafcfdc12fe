use Rattle.apply_action.proofs.Acts.{is_proper}
use Rattle.apply_conjuncts.proofs.KnownLaws.{knows_after}
use Rattle.apply_conjuncts.proofs.apply_known.Goals as goal

pub returns-clause-knows : goal.returns-clause-knows
returns-clause-knows c =
    knows_after _ _ _ _ _ _ _ _ c.join_known.ensures.knows (is_proper _ _ _ _ c.action_of-action.ensures) c.record.ensures.long
    c.record.ensures.recorded c.is_checking.ensures c.keep.ensures
