-- A row and the sets that it meets, and the sets that the operations make. Assumes nothing.
use Rattle.std.specs.Prelude.{Bool, false, not, ◌||◌, ◌⊎◌, ◌≡◌, List, ℕ, ◌≤◌, ◌<◌, T, get_or, length}
use Rattle.scalar.specs.Kinds.{is_null}
use Rattle.scalar.specs.Scalars.{Typed}
use Rattle.scalar.specs.declared.ScalarValue.{ScalarValue}
use Rattle.value_range.specs.Ranges.{Sound}
use Rattle.value_range.specs.declared.ValueRange.{ValueRange}
use Rattle.value_classes.specs.Classes.{Whole, Falling, canonical_of}
use Rattle.value_classes.specs.declared.ValueEquivalenceClasses.{ValueEquivalenceClasses}
use Rattle.constraint_spec.specs.Values.{same, equals, place_of, ok_range}
use Rattle.constraint_spec.specs.Sets.{none, blank, classes_of, non_nulls, literals, handles, literal_at, entry_at, handle_at}
use Rattle.constraint_spec.specs.declared.Holder.{Holder}
use Rattle.constraint_spec.specs.declared.Entry.{Entry}
use Rattle.constraint_spec.specs.declared.ConstraintSet.{ConstraintSet}

-- what is recorded of one identity, asked of a value
abbrev pub null_ok : ScalarValue → Bool → Bool
null_ok v b = not b || not (is_null v)

abbrev pub literal_ok : ScalarValue → Holder → Bool
literal_ok v h = not h.present || equals v h.value

abbrev pub entry_ok : ScalarValue → Entry → Bool
entry_ok v e = not e.present || ok_range (place_of v) e.range

-- each of the 128 entries of a list passes
abbrev pub Each : {A : Type 0} → (ℕ → A → Bool) → A → List A → Type 0
Each P d l = (i : ℕ) → i < 128 → T (P i (get_or l i d))

-- the flag is clear, and what is recorded of each identity holds of its value
pub record Core (v : ℕ → ScalarValue) (s : ConstraintSet) : Type 0 where
  pub clear : T (not s.contradictory)
  pub nulls : Each (λ (i : ℕ) (b : Bool). null_ok (v i) b) false (non_nulls s)
  pub equal : Each (λ (i : ℕ) (h : Holder). literal_ok (v i) h) none (literals s)
  pub within : Each (λ (i : ℕ) (e : Entry). entry_ok (v i) e) blank s.ranges

-- two identities are one, or have the same value
abbrev pub Like : (ℕ → ScalarValue) → ℕ → ℕ → Type 0
Like v i j = (i ≡ j) ⊎ T (same (v i) (v j))

abbrev pub Together : (ℕ → ScalarValue) → ValueEquivalenceClasses → Type 0
Together v k = (i : ℕ) → i < 128 → Like v i (canonical_of k i)

-- a row whose identities have the values v, and of which the predicates `on` are TRUE, meets a set
pub record Meets (on : ℕ → Type 0) (v : ℕ → ScalarValue) (s : ConstraintSet) : Type 0 where
  pub core : Core v s
  pub together : Together v (classes_of s)
  pub residual : (k : ℕ) → k < s.residuals → on (handle_at s k)

-- ---- sets that the operations make, from the empty one on: bounds are numbers, parents fall, and there is room
abbrev pub SoundRange : ValueRange → Type 0
SoundRange r = Sound r.lower × Sound r.upper

abbrev pub SoundEntry : Entry → Type 0
SoundEntry e = T e.present → SoundRange e.range

abbrev pub SoundHolder : Holder → Type 0
SoundHolder h = T h.present → Typed h.value

pub record Good (s : ConstraintSet) : Type 0 where
  pub long : Whole (classes_of s)
  pub fall : Falling (classes_of s)
  pub nulls_long : length (non_nulls s) ≡ 128
  pub literals_long : length (literals s) ≡ 128
  pub ranges_long : length s.ranges ≡ 128
  pub handles_long : length (handles s) ≡ 64
  pub few : s.residuals ≤ 64
  pub typed : (i : ℕ) → i < 128 → SoundHolder (literal_at s i)
  pub sound : (i : ℕ) → i < 128 → SoundEntry (entry_at s i)
