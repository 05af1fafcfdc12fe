use Rattle.std.proofs.Common.{ℕ, Bool, List, ◌≡◌, ◌+◌, ◌-◌, eqb, get_or}
use Rattle.lists.specs.Ranges.{any_from}
use Rattle.plan_rules.proofs.lists_column.Given as goal

abbrev is : List ℕ → ℕ → ℕ → Bool
is a c k = eqb (get_or a k 0) c

abbrev pub invariant-loop-j : goal.invariant-loop-j
invariant-loop-j l = any_from (is l.items.a l.c) l.from l.n ≡ any_from (is l.items.a l.c) l.j (l.from + l.n - l.j)
