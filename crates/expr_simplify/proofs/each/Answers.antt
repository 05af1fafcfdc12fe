use Rattle.std.proofs.lemmas.Result.{MatchResult-from_err}
use lib.ListN.{set}
use mathlib.Core.Bool.{true}
use mathlib.Core.Path.{sym, ◌∙◌}
use native.Mathlib.Omega.{arith}
use Rattle.simplify_spec.specs.OneOperator.{held_at}
use Rattle.expr_simplify.proofs.OperatorLaws.{each_more, each_fails}
use Rattle.expr_simplify.proofs.each.Goals as goal

pub returns-in_err-at : goal.returns-in_err-at
returns-in_err-at c =
    let a = c.args in
    let l = c.loop-k in
    MatchResult-from_err _ _ _ c.from_residual.ensures.0
    (λ e. each_fails a.n (held_at a.items.now a.held) a.t.now l.t l.k c.held_at-e.result l.ats l.invariant c.held_at-e.ensures c.simplify_in.new.t
    c.in_err-at.ensures _ (omega (arith, c.loop-k-test.true, c.held_count-k-end.ensures)))

pub loop-k-preserved : goal.loop-k-preserved
loop-k-preserved c =
    let a = c.args in
    let l = c.loop-k in
    each_more a.n (held_at a.items.now a.held) a.t.now l.t l.k c.held_at-e.result l.ats l.invariant c.held_at-e.ensures c.simplify_in.new.t c.in_ok-at.at
    c.in_ok-at.ensures
    ∙ (λ i. record {
      st = c.simplify_in.new.t;
      ok = true;
      ats = sym (c.put.ensures ∙ (λ j. set l.ats (c.from.ensures j) c.in_ok-at.at)) i;
    })
