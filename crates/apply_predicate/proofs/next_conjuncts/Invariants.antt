use Rattle.apply_predicate.proofs.Collecting.{Collected}
use Rattle.apply_predicate.proofs.next_conjuncts.Given as goal

abbrev pub invariant-loop-turn : goal.invariant-loop-turn
invariant-loop-turn l = Collected l.exprs l.items.a l.initial.walk l.walk l.found.handles l.found.count l.turn
