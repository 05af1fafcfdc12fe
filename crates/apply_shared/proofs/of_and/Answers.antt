use mathlib.Core.Path.{ap, ◌∙◌}
use native.Mathlib.Omega.{arith}
use Rattle.apply_walk.specs.declared.Walk.{Walk}
use Rattle.apply_walk.specs.Walks.{entered}
use Rattle.apply_shared.proofs.Thinning.{first_good, first_held}
use Rattle.apply_shared.proofs.of_and.Goals as goal

pub loop-thinner-init : goal.loop-thinner-init
loop-thinner-init c =
    let w = c.enter.ensures ∙ ap (λ (v : Walk). entered c.args.exprs.now v c.args.e) c.empty.ensures in (
      first_good c.args.exprs.now c.args.items.now.a c.args.e c.requires.within c.requires.is_and _ w,
      (omega arith, first_held c.args.exprs.now c.args.items.now.a c.args.e c.requires.within c.requires.is_and _ w _),
    )

pub loop-thinner-preserved : goal.loop-thinner-preserved
loop-thinner-preserved c = (c.turn.ensures.good, (c.turn.ensures.few, c.turn.ensures.held c.args.e c.loop-thinner.invariant.1.1))
