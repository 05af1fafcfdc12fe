use Rattle.std.proofs.Common.{◌≡◌, ◌-◌}
use Rattle.lists.specs.Ranges.{all_from}
use Rattle.plan_rules.specs.Rules.{column_ok}
use Rattle.plan_rules.proofs.columns_ok.Given as goal

abbrev pub invariant-loop-i : goal.invariant-loop-i
invariant-loop-i l = all_from (column_ok l.p) 0 l.p.columns.count ≡ all_from (column_ok l.p) l.i (l.p.columns.count - l.i)
