use Rattle.apply_predicate.proofs.Starting.{start_ready, start_whole}
use Rattle.apply_predicate.proofs.walk_of.Goals as goal

pub returns-clause-good : goal.returns-clause-good
returns-clause-good c = start_ready c.args.exprs.now c.args.items.now.a c.args.e c.requires.within c.requires.is_and _ _ c.empty-walk.ensures c.enter.ensures

pub returns-clause-whole : goal.returns-clause-whole
returns-clause-whole c = start_whole c.args.exprs.now c.args.items.now.a c.args.e c.requires.within c.requires.is_and _ _ c.empty-walk.ensures c.enter.ensures
