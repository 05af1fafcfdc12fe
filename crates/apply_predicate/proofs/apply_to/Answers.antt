use mathlib.Core.Path.{sym, ◌∙◌}
use Rattle.constraint_spec.specs.Sets.{done}
use Rattle.plan_data.specs.Nodes.{node_from}
use Rattle.apply_spec.specs.Conjuncts.{conjuncts_of}
use Rattle.apply_spec.specs.Apply.{conjunct_applied, all_applied}
use Rattle.apply_predicate.proofs.Answering.{taken_back, taken_in}
use Rattle.apply_predicate.proofs.apply_to.Goals as goal

pub returns-then-is_err : goal.returns-then-is_err
returns-then-is_err c =
    taken_back c.args.s.now
    (all_applied (conjunct_applied c.args.lineage.now (node_from c.args.exprs.now))
    (conjuncts_of (node_from c.args.exprs.now) c.args.items.now.a c.args.e) (done c.args.s.now))
    _ _ (sym c.is_err.ensures.value ∙ c.if-is_err.true) c.apply_any-answer.ensures

pub returns-else-is_err : goal.returns-else-is_err
returns-else-is_err c =
    taken_in c.args.s.now
    (all_applied (conjunct_applied c.args.lineage.now (node_from c.args.exprs.now))
    (conjuncts_of (node_from c.args.exprs.now) c.args.items.now.a c.args.e) (done c.args.s.now))
    _ _ (sym c.is_err.ensures.value ∙ c.if-is_err.false) c.apply_any-answer.ensures
