-- Two identities joined in a set of which it is known, or not, that everything stands at the representatives. Assumes nothing.
use Rattle.std.specs.Prelude.{ℕ, Bool, true, cond, ◌&&◌}
use Rattle.value_classes.specs.Answers.{United}
use Rattle.value_classes.specs.Classes.{classes_ok, union_of}
use Rattle.constraint_spec.specs.Sets.{classes_of, union_values}
use Rattle.constraint_spec.specs.declared.ConstraintSet.{ConstraintSet}
use Rattle.constraint_set.specs.Settled.{union_settled}

-- where it is known, one place changes; else it is a union
unfoldable pub values_joined : Bool → ConstraintSet → ℕ → ℕ → ConstraintSet
values_joined settled s i j = cond settled (union_settled s i j) (union_values s i j)

-- whether it is known of what comes of that: a union that joins two classes moves everything to the representatives, if no parent is above its child
abbrev pub in_order : United → Bool
in_order u = u.joined && classes_ok u.classes

unfoldable pub settled_then : Bool → ConstraintSet → ℕ → ℕ → Bool
settled_then settled s i j = cond settled true (in_order (union_of (classes_of s) i j))
