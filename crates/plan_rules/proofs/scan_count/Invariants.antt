use Rattle.std.proofs.Common.{◌≡◌, ◌+◌, ◌-◌, ◌≤◌}
use Rattle.lists.specs.Ranges.{count_from}
use Rattle.plan_rules.specs.Rules.{scans_in}
use Rattle.plan_rules.proofs.scan_count.Given as goal

abbrev pub invariant-loop-i : goal.invariant-loop-i
invariant-loop-i l = (l.found ≤ l.i)
    × (count_from (scans_in l.operators l.items l.c) 0 l.operators.count
    ≡ l.found + count_from (scans_in l.operators l.items l.c) l.i (l.operators.count - l.i))
