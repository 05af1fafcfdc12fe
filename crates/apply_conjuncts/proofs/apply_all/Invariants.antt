use mathlib.Core.Path.{◌≡◌}
use lib.ListN.{drop}
use Rattle.constraint_spec.specs.Sets.{done}
use Rattle.plan_data.specs.Nodes.{node_from}
use Rattle.apply_spec.specs.Apply.{conjunct_applied, all_applied}
use Rattle.apply_conjuncts.specs.Knowing.{Knows}
use Rattle.apply_conjuncts.proofs.apply_all.Given as goal

abbrev pub invariant-loop-h : goal.invariant-loop-h
invariant-loop-h l = record {
  known : Knows l.s l.known;
  to-come : all_applied (conjunct_applied l.lineage (node_from l.exprs)) l.handles (done l.initial.s)
      ≡ all_applied (conjunct_applied l.lineage (node_from l.exprs)) (drop l.h-index l.handles) (done l.s);
}
