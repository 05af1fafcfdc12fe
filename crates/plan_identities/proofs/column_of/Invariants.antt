use Rattle.std.proofs.Common.{ℕ, Bool, List, ◌≡◌, ◌-◌, eqb, get_or}
use Rattle.plan_identities.specs.Places.{first_from}
use Rattle.plan_identities.specs.Identities.{size_of}
use Rattle.plan_identities.proofs.column_of.Given as goal

abbrev has : List ℕ → ℕ → ℕ → Bool
has base number j = eqb (get_or base j 0) number

abbrev pub invariant-loop-c : goal.invariant-loop-c
invariant-loop-c l = first_from (has l.ids.base l.number) (λ (j : ℕ). j) 0 0 (size_of l.ids.columns)
    ≡ first_from (has l.ids.base l.number) (λ (j : ℕ). j) 0 l.c (size_of l.ids.columns - l.c)
