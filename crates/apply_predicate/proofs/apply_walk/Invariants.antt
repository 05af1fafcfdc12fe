use Rattle.apply_walk.specs.Rests.{Good, rest_of, steps_left}
use Rattle.plan_data.specs.Nodes.{node_from}
use Rattle.apply_predicate.proofs.Walking.{Left}
use Rattle.apply_predicate.proofs.apply_walk.Given as goal

abbrev pub invariant-loop-walk : goal.invariant-loop-walk
invariant-loop-walk l =
    record {
      good : Good l.walk;
      left : Left l.exprs l.items.a l.lineage (rest_of (node_from l.exprs) l.items.a l.initial.walk) l.initial.s l.walk l.s;
    }

abbrev pub decreases-loop-walk : goal.decreases-loop-walk
decreases-loop-walk l = steps_left l.exprs l.items.a l.walk
