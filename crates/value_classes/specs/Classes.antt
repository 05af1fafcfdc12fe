-- The Rust's ValueEquivalenceClasses: what its functions answer. Crates above name classes by these notions, never by their parents. Assumes nothing.
use Rattle.std.specs.Prelude.{ℕ, Bool, true, false, cond, ◌&&◌, List, ◌≡◌, ltb, eqb, length, set}
use Rattle.value_classes.specs.Parents.{Falls, root_of, parents_ok, joined, each}
use Rattle.value_classes.specs.declared.ValueEquivalenceClasses.{ValueEquivalenceClasses}
use Rattle.value_classes.specs.Answers.{United}

-- classes by the parent of each identity
abbrev pub classes_by : List ℕ → ValueEquivalenceClasses
classes_by p = record { parents = p }

-- there are as many identities as the type says
abbrev pub Whole : ValueEquivalenceClasses → Type 0
Whole c = length c.parents ≡ 128

-- no parent is above its child; as a test that is `parents_ok`
abbrev pub Falling : ValueEquivalenceClasses → Type 0
Falling c = Falls c.parents

abbrev pub classes_ok : ValueEquivalenceClasses → Bool
classes_ok c = parents_ok c.parents

-- each identity is a class of its own
unfoldable pub empty_classes : ValueEquivalenceClasses
empty_classes = classes_by (each (λ (i : ℕ). i) 128)

-- `canonical`
abbrev pub canonical_of : ValueEquivalenceClasses → ℕ → ℕ
canonical_of c i = root_of c.parents i

-- `equivalent`
abbrev pub same_class : ValueEquivalenceClasses → ℕ → ℕ → Bool
same_class c l r = eqb (canonical_of c l) (canonical_of c r)

-- the classes of l and r made one
abbrev pub joined_classes : ValueEquivalenceClasses → ℕ → ℕ → ValueEquivalenceClasses
joined_classes c l r = classes_by (joined c.parents l r)

-- `join_roots`: of two representatives the second gets the first as its parent
abbrev pub roots_joined : ValueEquivalenceClasses → ℕ → ℕ → ValueEquivalenceClasses
roots_joined c a b = classes_by (set c.parents b a)

-- `union`: nothing changes where a number is no identity, or where the two are in one class
unfoldable pub union_of : ValueEquivalenceClasses → ℕ → ℕ → United
union_of c l r =
    cond (ltb l 128 && ltb r 128)
    (cond (same_class c l r) (record { classes = c; joined = false })
    (record { classes = joined_classes c l r; joined = true }))
    (record { classes = c; joined = false })
