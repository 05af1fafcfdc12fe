use Rattle.std.proofs.Common.{◌≡◌, ◌-◌}
use Rattle.lists.specs.Ranges.{all_from}
use Rattle.apply_spec.specs.Facts.{lineage_ok}
use Rattle.logical_facts.proofs.lineages_ok.Given as goal

abbrev pub invariant-loop-c : goal.invariant-loop-c
invariant-loop-c l = all_from (lineage_ok l.lineage l.columns) 0 64 ≡ all_from (lineage_ok l.lineage l.columns) l.c (64 - l.c)
