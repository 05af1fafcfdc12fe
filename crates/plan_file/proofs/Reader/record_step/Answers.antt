use Rattle.std.proofs.Common.{◌∙◌}
use Rattle.std.proofs.lemmas.Result.{err_from_is_err_and}
use Rattle.plan_file.proofs.StepsTaken.{step_refused, step_full, step_taken, takes}
use Rattle.plan_file.proofs.Reader.record_step.Goals as goal

pub returns-in_err-test : goal.returns-in_err-test
returns-in_err-test c =
    let p = err_from_is_err_and c.from_residual.result c.from_residual.ensures.1 in
    let er = rw c.at.ensures at c.row_of-r.ensures in
    rw (p.1, p.2) (step_refused _ _ _ _ er c.fetch-x.ensures _ c.in_err-test.ensures)

pub returns-in_default : goal.returns-in_default
returns-in_default c =
    let er = rw c.at.ensures at c.row_of-r.ensures in
    step_full _ _ _ _ er c.fetch-x.ensures _ _ c.in_ok-test.ensures c.in_default.ensures

pub take-requires : goal.take-requires
take-requires c = takes _ _ _ _ (rw c.at.ensures at c.row_of-r.ensures) c.fetch-x.ensures c.requires c.in_ok-test.ensures

pub returns : goal.returns
returns c =
    let er = rw c.at.ensures at c.row_of-r.ensures in
    c.take.ensures ∙ step_taken _ _ _ _ er c.fetch-x.ensures _ _ c.in_ok-test.ensures c.in-Ok.ensures
