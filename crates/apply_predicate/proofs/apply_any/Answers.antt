use mathlib.Core.Path.{sym, ap, ◌∙◌}
use Rattle.apply_shared_laws.specs.Given.{or_given}
use Rattle.apply_predicate.proofs.Walking.{alone_applied}
use Rattle.apply_predicate.proofs.apply_any.Goals as goal

pub returns-else-is_and : goal.returns-else-is_and
returns-else-is_and c =
    ap (or_given c.args.s.now)
    (c.apply_one.ensures
    ∙ alone_applied c.args.exprs.now c.args.items.now.a c.args.lineage.now c.args.e (sym c.is_and.ensures.told ∙ c.if-is_and.false) c.args.s.now)
