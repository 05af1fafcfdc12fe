-- Sets in which everything stands at the representatives and every bound can be compared, as deriving makes them. Assumes nothing.
use Rattle.std.specs.Prelude.{ℕ, ◌<◌, ◌≡◌, true, false, length}
use Rattle.std.specs.Float.Ieee.{is_nan}
use Rattle.value_range.specs.declared.Bound.{Bound}
use Rattle.constraint_spec.specs.Sets.{handles, entry_at}
use Rattle.constraint_spec.specs.declared.Entry.{Entry}
use Rattle.constraint_spec.specs.declared.ConstraintSet.{ConstraintSet}
use Rattle.constraint_set.specs.Settled.{Settled}

-- a bound that can be compared: no NaN
abbrev pub Comparable : Bound → Type 0
Comparable b = b.present ≡ true → is_nan b.value ≡ false

abbrev pub Bounded : Entry → Type 0
Bounded e = e.present ≡ true → Comparable e.range.lower × Comparable e.range.upper

pub record Ready (s : ConstraintSet) : Type 0 where
  pub settled : Settled s
  pub bounds : (i : ℕ) → i < 128 → Bounded (entry_at s i)
  pub room : length (handles s) ≡ 64
