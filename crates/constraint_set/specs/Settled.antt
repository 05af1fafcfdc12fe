-- A set in which everything that is recorded stands at the representatives, as `normalize` leaves it, and what joining two of its classes
-- makes of it. Assumes nothing.
use Rattle.std.specs.Prelude.{Bool, true, false, cond, ◌&&◌, ◌||◌, List, ◌≡◌, ℕ, ◌<◌, ltb, min, max, length, get_or, set}
use Rattle.value_range.specs.Ranges.{empty_range}
use Rattle.value_classes.specs.Classes.{Whole, classes_ok, same_class, roots_joined}
use Rattle.constraint_spec.specs.Sets.{none, held, no_entry, entry_of, blank, classes_of, non_nulls, literals, non_null_at, literal_at, entry_at, with_values}
use Rattle.constraint_spec.specs.Sets.{canonical_at, clashes, range_in, tighten_by, crossed}
use Rattle.constraint_spec.specs.declared.Holder.{Holder}
use Rattle.constraint_spec.specs.declared.Entry.{Entry}
use Rattle.constraint_spec.specs.declared.ConstraintSet.{ConstraintSet}
use Rattle.constraint_set.specs.Checked.{Checked}
use Rattle.constraint_set.specs.declared.Place.{Place}

-- ---- what a pass of `normalize` puts at a place, from what is there and what comes; and whether that sets the flag
unfoldable pub null_on : Bool → Bool → Bool
null_on old new = old || new

unfoldable pub literal_on : Holder → Holder → Holder
literal_on old new = cond new.present (cond (clashes old new.value) old (held new.value)) old

unfoldable pub literal_bad : Holder → Holder → Bool
literal_bad old new = new.present && clashes old new.value

unfoldable pub range_on : Entry → Entry → Entry
range_on old new = cond new.present (entry_of (tighten_by (range_in old) new.range)) old

unfoldable pub range_bad : Entry → Entry → Bool
range_bad old new = new.present && empty_range (tighten_by (range_in old) new.range)

-- ---- a list of which another pass would change nothing: away from the representatives it has nothing, and what it has is in the form
-- in which a pass puts it at an empty place
pub record Stands {A : Type 0} (none : A) (put : A → A → A) (root : ℕ → ℕ) (d : A) (l : List A) : Type 0 where
  pub long : length l ≡ 128
  pub away : (i : ℕ) → i < 128 → (root i ≡ i → ⊥) → get_or l i d ≡ none
  pub same : (i : ℕ) → i < 128 → put none (get_or l i d) ≡ get_or l i d

pub record Settled (s : ConstraintSet) : Type 0 where
  pub many : Whole (classes_of s)
  pub ok : classes_ok (classes_of s) ≡ true
  pub nulls : Stands false null_on (canonical_at s) false (non_nulls s)
  pub equal : Stands none literal_on (canonical_at s) none (literals s)
  pub within : Stands no_entry range_on (canonical_at s) blank s.ranges
  -- where a range is empty, or a literal is outside its range, the flag is set
  pub quiet : (i : ℕ) → i < 128 → range_bad no_entry (entry_at s i) ≡ true → s.contradictory ≡ true
  pub checked : Checked s

-- ---- two representatives a and b joined: what stands at b comes to what stands at a
abbrev pub moved_to : {A : Type 0} → List A → ℕ → ℕ → A → A → List A
moved_to l a b now none = set (set l a now) b none

-- the literal and the range that are then at a, and whether the flag is to be set
unfoldable pub place_of : Holder → Holder → Entry → Entry → Place
place_of h1 h2 e1 e2 =
    record {
      literal = literal_on h1 h2;
      entry = range_on e1 e2;
      bad = (literal_bad h1 h2 || range_bad e1 e2) || crossed (literal_on h1 h2) (range_on e1 e2);
    }

abbrev pub place_at : ConstraintSet → ℕ → ℕ → Place
place_at s a b = place_of (literal_at s a) (literal_at s b) (entry_at s a) (entry_at s b)

unfoldable pub united_roots : ConstraintSet → ℕ → ℕ → ConstraintSet
united_roots s a b =
    with_values s (roots_joined (classes_of s) a b)
    (moved_to (non_nulls s) a b (null_on (non_null_at s a) (non_null_at s b)) false)
    (moved_to (literals s) a b (place_at s a b).literal none)
    (moved_to s.ranges a b (place_at s a b).entry no_entry)
    (s.contradictory || (place_at s a b).bad)

-- two identities joined by their representatives, the higher to the lower; nothing changes where a number is no identity, or where the two are in
-- one class
unfoldable pub union_settled : ConstraintSet → ℕ → ℕ → ConstraintSet
union_settled s i j =
    cond (ltb i 128 && ltb j 128)
    (cond (same_class (classes_of s) i j) s
    (united_roots s (min (canonical_at s i) (canonical_at s j)) (max (canonical_at s i) (canonical_at s j))))
    s
