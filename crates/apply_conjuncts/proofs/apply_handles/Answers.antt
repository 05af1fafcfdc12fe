use mathlib.Core.Path.{refl}
use native.Mathlib.Omega.{arith}
use Rattle.apply_conjuncts.proofs.Steps.{one_applied, first_refused, both_applied}
use Rattle.apply_conjuncts.proofs.apply_handles.Goals as goal

pub returns-in-len1 : goal.returns-in-len1
returns-in-len1 c = one_applied _ _ _ _ c.args.handles.now c.apply_one.ensures (omega arith) (omega arith)

pub returns-in_err-apply_one-in-len2 : goal.returns-in_err-apply_one-in-len2
returns-in_err-apply_one-in-len2 c =
    first_refused _ _ _ _ c.args.handles.now c.in_err-apply_one-in-len2.ensures (omega arith) (omega arith) _ c.from_residual.ensures.0 refl

pub returns-in_ok-apply_one-in-len2 : goal.returns-in_ok-apply_one-in-len2
returns-in_ok-apply_one-in-len2 c =
    both_applied _ _ _ _ c.args.handles.now c.in_ok-apply_one-in-len2.ensures (omega arith) (omega arith) refl _ c.apply_one-in-len2-2.ensures
