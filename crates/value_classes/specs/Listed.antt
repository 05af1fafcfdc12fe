-- The Rust's `classes`: the members of each class in order. Assumes nothing.
use Rattle.std.specs.Prelude.{ℕ, zero, suc, ◌+◌, ◌-◌, cond, List, [], ◌∷◌, ◌++◌, eqb}
use Rattle.value_classes.specs.Parents.{each}
use Rattle.value_classes.specs.Classes.{canonical_of}
use Rattle.value_classes.specs.declared.ValueEquivalenceClasses.{ValueEquivalenceClasses}
use Rattle.value_classes.specs.declared.Members.{Members}
use Rattle.value_classes.specs.declared.Roots.{Roots}

-- the representative of each identity
unfoldable pub roots_of : ValueEquivalenceClasses → Roots
roots_of c = record { of = each (canonical_of c) 128 }

-- the members of the class of r that are below n, in order. A class is listed where there are two or more
unfoldable pub members_to : ValueEquivalenceClasses → ℕ → ℕ → List ℕ
members_to c r zero = []
members_to c r (suc n) = cond (eqb (canonical_of c n) r) (members_to c r n ++ (n ∷ [])) (members_to c r n)

-- the first member of the class of r among the n identities from i on, or the place after them
unfoldable pub first_from : ValueEquivalenceClasses → ℕ → ℕ → ℕ → ℕ
first_from c r i zero = i
first_from c r i (suc n) = cond (eqb (canonical_of c i) r) i (first_from c r (suc i) n)

-- the first member from i on, 128 where there is none
abbrev pub first_member : ValueEquivalenceClasses → ℕ → ℕ → ℕ
first_member c r i = first_from c r i (128 - i)

-- the member after i of its class, 128 where i is the last
abbrev pub next_member : ValueEquivalenceClasses → ℕ → ℕ
next_member c i = first_member c (canonical_of c i) (i + 1)

unfoldable pub members_of : ValueEquivalenceClasses → Members
members_of c = record {
  first = each (λ (r : ℕ). first_member c r 0) 128;
  next = each (λ (i : ℕ). next_member c i) 128;
}
