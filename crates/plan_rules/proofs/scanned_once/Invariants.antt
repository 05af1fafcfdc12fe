use Rattle.std.proofs.Common.{◌≡◌, ◌-◌}
use Rattle.lists.specs.Ranges.{all_from}
use Rattle.plan_rules.specs.Rules.{scanned_once}
use Rattle.plan_rules.proofs.scanned_once.Given as goal

abbrev pub invariant-loop-c : goal.invariant-loop-c
invariant-loop-c l = all_from (scanned_once l.p) 0 l.p.columns.count ≡ all_from (scanned_once l.p) l.c (l.p.columns.count - l.c)
