use mathlib.Core.Logic.{⊎_elim}
use native.Mathlib.Omega.{arith}
use Rattle.apply_walk.proofs.WalkTurns.{turned}
use Rattle.apply_predicate.proofs.Collecting.{popped_on, skipped_on, entered_on, found_on, all_done}
use Rattle.apply_predicate.proofs.next_conjuncts.Goals as goal
use Rattle.apply_predicate.proofs.next_conjuncts.Goals.{in-Pop, in-Enter, in-Found}

pub returns-then-walk-eq0-clause-less : goal.returns-then-walk-eq0-clause-less
returns-then-walk-eq0-clause-less c = all_done c.loop-turn.invariant c.if-walk-eq0.true

pub loop-turn-preserved : goal.loop-turn-preserved
loop-turn-preserved c =
    let had = c.loop-turn.invariant in
    let r = turned c.args.exprs.now c.turn.ensures.told c.turn.ensures.done c.turn.ensures.long had.good (omega (arith, c.if-walk-eq0.false)) in
    elim c.match-turn.branch [
      | in-Pop w ↦ rw (w.walk-is, w.found-is) (⊎_elim (popped_on had r) (skipped_on had r) w.in-Pop.is)
      | in-Enter w ↦ rw (w.walk-is, w.found-is) (entered_on had r w.in-Enter.e w.in-Enter.is _ w.enter.ensures)
      | in-Found w ↦ rw (w.walk-is, w.found-is) (found_on had r c.loop-turn-test.true w.in-Found.e w.in-Found.is)
    ]
