use Rattle.std.proofs.Common.{arith, ◌+◌, ◌∙◌, sym}
use Rattle.std.proofs.lemmas.Result.{err_from_is_err_and}
use Rattle.plan_file.proofs.StepsTaken.{steps-start, steps-more}
use Rattle.plan_file.proofs.Finish.{read_done, read_refused, further}
use Rattle.plan_file.proofs.read.Goals as goal

pub loop-q-init : goal.loop-q-init
loop-q-init c = (0, c.new-q.ensures ∙ steps-start _)

pub loop-q-smaller : goal.loop-q-smaller
loop-q-smaller c =
    let f = further _ _ _ _ c.loop-q.invariant.1 (sym c.is_done.ensures ∙ c.loop-q-test.true) c.in_ok-step.ensures in
    omega (arith, f.here, f.more)

pub loop-q-preserved : goal.loop-q-preserved
loop-q-preserved c = (c.loop-q.invariant.0 + 1, steps-more _ _ _ _ c.loop-q.invariant.1 c.in_ok-step.ensures)

pub returns-in_err-step : goal.returns-in_err-step
returns-in_err-step c =
    let p = err_from_is_err_and c.from_residual.result c.from_residual.ensures.1 in
    rw (p.1, p.2) (read_refused _ _ _ _ _ c.loop-q.invariant.1 c.in_err-step.ensures)

pub returns : goal.returns
returns c = read_done _ _ c.loop-q.q c.loop-q.invariant.1 (sym c.is_done.ensures ∙ c.loop-q-test.false)
