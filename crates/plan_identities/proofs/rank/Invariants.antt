use Rattle.std.proofs.Common.{ℕ, ◌≡◌, ◌+◌, ◌-◌, ◌≤◌}
use Rattle.lists.specs.Ranges.{count_from}
use Rattle.plan_identities.specs.Identities.{before_in}
use Rattle.plan_identities.proofs.rank.Given as goal

abbrev pub invariant-loop-b : goal.invariant-loop-b
invariant-loop-b l = (l.found ≤ l.b)
    × (count_from (λ (j : ℕ). before_in l.tables l.names j l.c) 0 l.n ≡ l.found + count_from (λ (j : ℕ). before_in l.tables l.names j l.c) l.b (l.n - l.b))
