use Rattle.std.proofs.Common.{◌≡◌}
use Rattle.logical_facts.proofs.Overriding.{over_to}
use Rattle.logical_facts.proofs.override_columns.Given as goal

abbrev pub invariant-loop-c : goal.invariant-loop-c
invariant-loop-c l =
    l.left ≡ record {
      lineage = over_to l.initial.left.lineage l.right.lineage l.c;
      definitions = over_to l.initial.left.definitions l.right.definitions l.c;
      constraints = l.initial.left.constraints;
    }
