use Rattle.std.proofs.Common.{ℕ, eqb, get_or, ◌≡◌, ◌+◌, ◌-◌, ◌≤◌}
use Rattle.lists.specs.Ranges.{count_from}
use Rattle.listing.specs.Listing.{members_in}
use Rattle.listing.proofs.members_in.Given as goal

abbrev pub invariant-loop-i : goal.invariant-loop-i
invariant-loop-i l = (l.found ≤ l.i)
    × (members_in (λ (i : ℕ). get_or l.roots i 0) l.r ≡ l.found + count_from (λ (i : ℕ). eqb (get_or l.roots i 0) l.r) l.i (128 - l.i))
