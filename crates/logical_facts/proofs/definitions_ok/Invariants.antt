use Rattle.std.proofs.Common.{◌≡◌, ◌-◌}
use Rattle.lists.specs.Ranges.{all_from}
use Rattle.apply_spec.specs.Facts.{definition_ok}
use Rattle.logical_facts.proofs.definitions_ok.Given as goal

abbrev pub invariant-loop-c : goal.invariant-loop-c
invariant-loop-c l = all_from (definition_ok l.definitions l.columns l.exprs) 0 64 ≡ all_from (definition_ok l.definitions l.columns l.exprs) l.c (64 - l.c)
