-- The residuals that the Rust's list, which has no bound, would hold. Assumes nothing.
use Rattle.std.specs.Prelude.{Bool, cond, List, [], ◌∷◌, ◌++◌, ℕ, zero, suc, eqb, length, take, get_or}
use Rattle.lists.specs.Ranges.{any_from}
use Rattle.constraint_spec.specs.Sets.{handles}
use Rattle.constraint_spec.specs.declared.ConstraintSet.{ConstraintSet}

-- the recorded handles
abbrev pub listed : ConstraintSet → List ℕ
listed s = take s.residuals (handles s)

abbrev pub has : List ℕ → ℕ → Bool
has l h = any_from (λ (k : ℕ). eqb (get_or l k 0) h) 0 (length l)

-- a handle at the end, once for each handle
unfoldable pub pushed : List ℕ → ℕ → List ℕ
pushed l h = cond (has l h) l (l ++ (h ∷ []))

-- the list after the first k of another
unfoldable pub push_to : List ℕ → List ℕ → ℕ → List ℕ
push_to l items zero = l
push_to l items (suc k) = pushed (push_to l items k) (get_or items k 0)

-- the list of two sets, however long
abbrev pub joint_list : ConstraintSet → ConstraintSet → List ℕ
joint_list a b = push_to (listed a) (handles b) b.residuals
