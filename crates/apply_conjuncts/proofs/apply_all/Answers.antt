use mathlib.Core.Path.{refl}
use Rattle.apply_conjuncts.proofs.Steps.{one_more, one_refused}
use Rattle.apply_conjuncts.proofs.apply_all.Goals as goal

pub returns-in_err-apply_known : goal.returns-in_err-apply_known
returns-in_err-apply_known c =
    one_refused _ _ _ _ _ c.loop-h.invariant.to-come _ _ c.loop-h-test.true c.in_err-apply_known.ensures.applied _ c.from_residual.ensures.0 refl

pub loop-h-preserved : goal.loop-h-preserved
loop-h-preserved c = record {
  known = c.in_ok-apply_known.ensures.knows;
  to-come = one_more _ _ _ _ _ c.loop-h.invariant.to-come _ _ c.loop-h-test.true c.in_ok-apply_known.ensures.applied refl;
}
