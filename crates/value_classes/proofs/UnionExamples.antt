-- Worked cases, by computing. Assumes nothing.
use mathlib.Core.Bool.{false}
use mathlib.Core.List.{[], ◌∷◌}
use mathlib.Core.Path.{◌≡◌, refl}
use Rattle.lists.specs.Ranges.{all_from}
use Rattle.value_classes.specs.Parents.{parent_in, climb, root_of, parents_ok, joined, each}
use Rattle.value_classes.specs.Classes.{classes_by, classes_ok, empty_classes, canonical_of, union_of}
use Rattle.value_classes.specs.Listed.{members_to}
use Rattle.value_classes.specs.declared.ValueEquivalenceClasses.{ValueEquivalenceClasses}

-- 5 with 9, 9 with 3, 100 with 127
abbrev three : ValueEquivalenceClasses
three = (union_of (union_of (union_of empty_classes 5 9).classes 9 3).classes 100 127).classes

chained : canonical_of three 9 ≡ 3
unfolding empty_classes union_of joined root_of climb parent_in each
chained = refl

listed : members_to three 3 128 ≡ 3 ∷ 5 ∷ 9 ∷ []
unfolding empty_classes union_of joined root_of climb parent_in each members_to
listed = refl

-- a second union of the same two joins nothing
again : (union_of three 3 9).joined ≡ false
unfolding empty_classes union_of joined root_of climb parent_in each
again = refl

-- parents in a circle break the rule, and there is an answer all the same; one past the identities is its own representative
abbrev circle : ValueEquivalenceClasses
circle = classes_by (1 ∷ 0 ∷ [])

refused : classes_ok circle ≡ false
unfolding parents_ok all_from
refused = refl

answered : canonical_of circle 1 ≡ 1
unfolding root_of climb parent_in
answered = refl

past : canonical_of three 200 ≡ 200
unfolding empty_classes union_of joined root_of climb parent_in each
past = refl
