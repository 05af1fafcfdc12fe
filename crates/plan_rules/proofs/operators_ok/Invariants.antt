use Rattle.std.proofs.Common.{◌≡◌, ◌-◌}
use Rattle.lists.specs.Ranges.{all_from}
use Rattle.plan_rules.specs.Rules.{operator_ok}
use Rattle.plan_rules.proofs.operators_ok.Given as goal

abbrev pub invariant-loop-i : goal.invariant-loop-i
invariant-loop-i l = all_from (operator_ok l.p) 0 l.p.operators.count ≡ all_from (operator_ok l.p) l.i (l.p.operators.count - l.i)
