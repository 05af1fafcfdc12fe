use mathlib.Core.Path.{sym, ◌∙◌}
use borrow.Author.Rules.{rules}
use Rattle.constraint_normal.proofs.PlaceAnswers.{read-ready}
use Rattle.constraint_normal.proofs.is_ready.Goals as goal

pub returns-clause-ready : goal.returns-clause-ready
returns-clause-ready c e =
    let v = c.loop-i.invariant in
    let p = c.parents_ok in
    read-ready c.args.s.now _ p.ensures.whole (search rules) (search rules) (sym p.ensures.value ∙ c.if-not-parents_ok.false) v.0 v.1 c.loop-i-test.false
