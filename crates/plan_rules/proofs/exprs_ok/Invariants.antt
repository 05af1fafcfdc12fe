use Rattle.std.proofs.Common.{◌≡◌, ◌-◌}
use Rattle.lists.specs.Ranges.{all_from}
use Rattle.plan_rules.specs.Rules.{expr_ok}
use Rattle.plan_rules.proofs.exprs_ok.Given as goal

abbrev pub invariant-loop-i : goal.invariant-loop-i
invariant-loop-i l = all_from (expr_ok l.p) 0 l.p.expressions.count ≡ all_from (expr_ok l.p) l.i (l.p.expressions.count - l.i)
