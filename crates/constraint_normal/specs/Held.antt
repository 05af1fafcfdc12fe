-- What a set that a program holds is by its type: each list has an entry for each place, and its bounds are floats of 64 bits. Assumes nothing.
use Rattle.std.specs.Prelude.{ℕ, ◌≡◌, T, length}
use Rattle.std.specs.Float.{binary64}
use Rattle.std.specs.Float.Ieee.{fits}
use Rattle.value_classes.specs.Classes.{Whole}
use Rattle.constraint_spec.specs.Sets.{classes_of, non_nulls, literals, handles, entry_at}
use Rattle.constraint_spec.specs.declared.Entry.{Entry}
use Rattle.constraint_spec.specs.declared.ConstraintSet.{ConstraintSet}

-- the values of both bounds are floats of 64 bits
abbrev pub FitsEntry : Entry → Type 0
FitsEntry e = T (fits binary64 e.range.lower.value) × T (fits binary64 e.range.upper.value)

-- what reading one place of a set says
pub record HeldAt (s : ConstraintSet) (i : ℕ) : Type 0 where
  pub literals_long : length (literals s) ≡ 128
  pub ranges_long : length s.ranges ≡ 128
  pub fit : FitsEntry (entry_at s i)

pub record Held (s : ConstraintSet) : Type 0 where
  pub many : Whole (classes_of s)
  pub nulls_long : length (non_nulls s) ≡ 128
  pub literals_long : length (literals s) ≡ 128
  pub ranges_long : length s.ranges ≡ 128
  pub handles_long : length (handles s) ≡ 64
  pub fit : (i : ℕ) → FitsEntry (entry_at s i)
