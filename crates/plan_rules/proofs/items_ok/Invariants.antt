use Rattle.std.proofs.Common.{ℕ, Bool, ◌≡◌, ◌+◌, ◌-◌}
use Rattle.lists.specs.Ranges.{all_from}
use Rattle.plan_kinds.specs.declared.Before.{Before}
use Rattle.plan.specs.declared.Items.{Items}
use Rattle.plan_rules.specs.Rules.{item_ok}
use Rattle.plan_rules.proofs.items_ok.Given as goal

abbrev tested : Items → ℕ → Before → ℕ → Bool
tested t kind before = item_ok t.a t.b kind before.columns before.expressions before.operators

abbrev pub invariant-loop-j : goal.invariant-loop-j
invariant-loop-j l = all_from (tested l.items l.kind l.before) l.from l.n ≡ all_from (tested l.items l.kind l.before) l.j (l.from + l.n - l.j)
