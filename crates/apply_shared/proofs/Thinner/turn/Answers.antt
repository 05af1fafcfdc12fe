use borrow.Author.Rules.{rules}
use mathlib.Core.Path.{ap, ◌∙◌}
use native.Mathlib.Omega.{arith}
use Rattle.apply_walk.specs.Walks.{entered}
use Rattle.apply_walk.proofs.WalkTurns.{turned, enter_low, found_low}
use Rattle.apply_shared.specs.declared.Thinner.{Thinner}
use Rattle.apply_shared.proofs.Thinning.{found_has, enter_has, when_popped, when_skipped, when_over, when_entered, when_kept}
use Rattle.apply_shared.proofs.Thinner.turn.Goals as goal

pub passes_over-requires : goal.passes_over-requires
passes_over-requires c =
    let r = turned c.args.exprs.now c.turn-turn.ensures.told c.turn-turn.ensures.done c.turn-turn.ensures.long c.requires.good c.requires.some in
    enter_low r c.in-Enter.x c.in-Enter.is

pub passes_over-requires-in-Found : goal.passes_over-requires-in-Found
passes_over-requires-in-Found c =
    let r = turned c.args.exprs.now c.turn-turn.ensures.told c.turn-turn.ensures.done c.turn-turn.ensures.long c.requires.good c.requires.some in
    found_low r c.in-Found.x c.in-Found.is

pub bounds-self-from-then-not-passes_over-2 : goal.bounds-self-from-then-not-passes_over-2
bounds-self-from-then-not-passes_over-2 c =
    let r = turned c.args.exprs.now c.turn-turn.ensures.told c.turn-turn.ensures.done c.turn-turn.ensures.long c.requires.good c.requires.some in
    omega (arith, found_low r c.in-Found.x c.in-Found.is, c.from-then-not-passes_over-2.ensures)

pub returns-in-Pop : goal.returns-in-Pop
returns-in-Pop c =
    let r = turned c.args.exprs.now c.turn-turn.ensures.told c.turn-turn.ensures.done c.turn-turn.ensures.long c.requires.good c.requires.some in
    rw c.from.ensures (when_popped _ _ c.args.self.now r c.requires.room (search rules) (search rules) c.in-Pop.is)

pub returns-in-Skip : goal.returns-in-Skip
returns-in-Skip c =
    let r = turned c.args.exprs.now c.turn-turn.ensures.told c.turn-turn.ensures.done c.turn-turn.ensures.long c.requires.good c.requires.some in
    when_skipped _ _ c.args.self.now r c.requires.room (search rules) (search rules) c.in-Skip.is

pub returns-then-not-passes_over : goal.returns-then-not-passes_over
returns-then-not-passes_over c =
    let r = turned c.args.exprs.now c.turn-turn.ensures.told c.turn-turn.ensures.done c.turn-turn.ensures.long c.requires.good c.requires.some in
    let h = enter_has _ _ c.args.self.now r c.in-Enter.x c.in-Enter.is in
    rw (c.passes_over.ensures.marked, c.if-not-passes_over.true)
    (when_entered _ _ c.args.self.now r c.requires.room (search rules) (search rules) c.in-Enter.x h c.in-Enter.is _
    (c.enter.ensures ∙ ap (λ (s : Thinner). entered c.args.exprs.now s.walk c.in-Enter.x) c.passes_over.ensures.marked) _)

pub returns-else-not-passes_over : goal.returns-else-not-passes_over
returns-else-not-passes_over c =
    let r = turned c.args.exprs.now c.turn-turn.ensures.told c.turn-turn.ensures.done c.turn-turn.ensures.long c.requires.good c.requires.some in
    let h = enter_has _ _ c.args.self.now r c.in-Enter.x c.in-Enter.is in
    rw (c.passes_over.ensures.marked, c.if-not-passes_over.false)
    (when_over _ _ c.args.self.now r c.requires.room (search rules) (search rules) c.in-Enter.x h
    (c.passes_over.ensures.seen c.if-not-passes_over.false))

pub returns-then-not-passes_over-2 : goal.returns-then-not-passes_over-2
returns-then-not-passes_over-2 c =
    let r = turned c.args.exprs.now c.turn-turn.ensures.told c.turn-turn.ensures.done c.turn-turn.ensures.long c.requires.good c.requires.some in
    let h = found_has _ _ c.args.self.now r c.in-Found.x c.in-Found.is in
    rw (c.from-then-not-passes_over-2.ensures, c.passes_over-in-Found.ensures.marked, c.if-not-passes_over-2.true)
    (when_kept _ _ c.args.self.now r c.requires.room (search rules) (search rules) c.in-Found.x h c.in-Found.is)

pub returns-else-not-passes_over-2 : goal.returns-else-not-passes_over-2
returns-else-not-passes_over-2 c =
    let r = turned c.args.exprs.now c.turn-turn.ensures.told c.turn-turn.ensures.done c.turn-turn.ensures.long c.requires.good c.requires.some in
    let h = found_has _ _ c.args.self.now r c.in-Found.x c.in-Found.is in
    rw (c.passes_over-in-Found.ensures.marked, c.if-not-passes_over-2.false)
    (when_over _ _ c.args.self.now r c.requires.room (search rules) (search rules) c.in-Found.x h
    (c.passes_over-in-Found.ensures.seen c.if-not-passes_over-2.false))
