-- What each operation makes of a set, as the Rust's ConstraintSet does: its maps are lists with an entry for each of the 128 identities,
-- gone through from the first to the last. Assumes nothing.
use Rattle.std.specs.Prelude.{Bool, true, false, not, ◌&&◌, ◌||◌, cond, List, ℕ, zero, suc, ◌+◌, min, eqb, ltb, leb, get_or, set, replicate}
use Rattle.std.specs.Prelude.{Float, Option, Some, None}
use Rattle.std.specs.Float.{nan}
use Rattle.std.specs.Float.Ieee.{lt, eq}
use Rattle.lists.specs.Ranges.{any_from}
use Rattle.scalar.specs.Kinds.{is_null}
use Rattle.scalar.specs.Scalars.{same_scalar, scalar_to_f64}
use Rattle.scalar.specs.declared.Kind.TheVariants as K
use Rattle.scalar.specs.declared.ScalarValue.{ScalarValue}
use Rattle.scalar.specs.declared.ScalarValue.TheVariants as S
use Rattle.value_range.specs.Ranges.{no_bound, bound_at, unbounded_range, tighten_lower, tighten_upper, empty_range}
use Rattle.value_range.specs.declared.Bound.{Bound}
use Rattle.value_range.specs.declared.ValueRange.{ValueRange}
use Rattle.value_classes.specs.Classes.{classes_ok, empty_classes, canonical_of, union_of}
use Rattle.value_classes.specs.declared.ValueEquivalenceClasses.{ValueEquivalenceClasses}
use Rattle.value_classes.specs.Answers.{United}
use Rattle.comparison.specs.Operators.{bounding}
use Rattle.comparison.specs.declared.BinaryOp.{BinaryOp}
use Rattle.comparison.specs.declared.BinaryOp.TheVariants.{Eq, NotEq, Lt, LtEq, Gt, GtEq, IsNotDistinctFrom}
use Rattle.constraint_spec.specs.declared.Holder.{Holder}
use Rattle.constraint_spec.specs.declared.Entry.{Entry}
use Rattle.constraint_spec.specs.declared.ConstraintSet.{ConstraintSet}
use Rattle.constraint_spec.specs.Answers.{Ranged}
use Rattle.constraint_spec.specs.Answers.{Applied}

-- ---- a literal or a range, or nothing
abbrev pub none : Holder
none = record { present = false; value = S.Null K.Boolean }

abbrev pub held : ScalarValue → Holder
held l = record { present = true; value = l }

abbrev pub no_entry : Entry
no_entry = record { present = false; range = unbounded_range }

abbrev pub entry_of : ValueRange → Entry
entry_of r = record { present = true; range = r }

-- what stands past the end of a list of entries, where nothing is ever recorded
abbrev pub blank : Entry
blank = record {
  present = false;
  range = record {
    lower = record { value = nan; present = false; inclusive = false };
    upper = record
        { value = nan; present = false; inclusive = false };
  };
}

-- ---- a set's fields
abbrev pub classes_of : ConstraintSet → ValueEquivalenceClasses
classes_of s = s.equivalence_classes

abbrev pub non_nulls : ConstraintSet → List Bool
non_nulls s = s.non_null_values

abbrev pub literals : ConstraintSet → List Holder
literals s = s.literal_equalities

abbrev pub handles : ConstraintSet → List ℕ
handles s = s.residual_predicates

-- what is recorded of one identity, and the k-th residual
abbrev pub non_null_at : ConstraintSet → ℕ → Bool
non_null_at s i = get_or (non_nulls s) i false

abbrev pub literal_at : ConstraintSet → ℕ → Holder
literal_at s i = get_or (literals s) i none

abbrev pub entry_at : ConstraintSet → ℕ → Entry
entry_at s i = get_or s.ranges i blank

abbrev pub handle_at : ConstraintSet → ℕ → ℕ
handle_at s k = get_or (handles s) k 0

-- ---- sets are made here alone: a field that a set gets is written in these two and in `empty_set`, and nowhere else
-- the set with other values and the same residuals: its classes, what is not NULL, its literals, its ranges, the flag
abbrev pub with_values : ConstraintSet → ValueEquivalenceClasses → List Bool → List Holder → List Entry → Bool → ConstraintSet
with_values s k n l e c = record {
  equivalence_classes = k;
  non_null_values = n;
  literal_equalities = l;
  ranges = e;
  residual_predicates = handles s;
  residuals = s.residuals;
  contradictory = c;
}

-- the set with other residuals
abbrev pub with_residuals : ConstraintSet → List ℕ → ℕ → ConstraintSet
with_residuals s l n = record {
  equivalence_classes = classes_of s;
  non_null_values = non_nulls s;
  literal_equalities = literals s;
  ranges = s.ranges;
  residual_predicates = l;
  residuals = n;
  contradictory = s.contradictory;
}

-- the set with one field anew
abbrev pub with_classes : ConstraintSet → ValueEquivalenceClasses → ConstraintSet
with_classes s k = with_values s k (non_nulls s) (literals s) s.ranges s.contradictory

abbrev pub with_non_nulls : ConstraintSet → List Bool → ConstraintSet
with_non_nulls s l = with_values s (classes_of s) l (literals s) s.ranges s.contradictory

abbrev pub with_literals : ConstraintSet → List Holder → ConstraintSet
with_literals s l = with_values s (classes_of s) (non_nulls s) l s.ranges s.contradictory

abbrev pub with_ranges : ConstraintSet → List Entry → ConstraintSet
with_ranges s l = with_values s (classes_of s) (non_nulls s) (literals s) l s.contradictory

abbrev pub with_flag : ConstraintSet → Bool → ConstraintSet
with_flag s c = with_values s (classes_of s) (non_nulls s) (literals s) s.ranges c

-- the flag is set where bad is true
abbrev pub flag_if : Bool → ConstraintSet → ConstraintSet
flag_if bad s = with_flag s (s.contradictory || bad)

-- ---- the rules of a set that comes from outside: no parent is above its child, and no more residuals than there is room for
unfoldable pub set_ok : ConstraintSet → Bool
set_ok s = classes_ok (classes_of s) && leb s.residuals 64

-- ---- nothing is recorded: `ConstraintSet::default()`
unfoldable pub empty_set : ConstraintSet
empty_set =
    record {
      equivalence_classes = empty_classes;
      non_null_values = replicate 128 false;
      literal_equalities = replicate 128 none;
      ranges = replicate 128 no_entry;
      residual_predicates = replicate 64 0;
      residuals = 0;
      contradictory = false;
    }

-- ---- `canonical`
abbrev pub canonical_at : ConstraintSet → ℕ → ℕ
canonical_at s i = canonical_of (classes_of s) i

-- ---- one thing put at the representative r
-- `non_null_values.insert(r)`
unfoldable pub put_non_null : ConstraintSet → ℕ → ConstraintSet
put_non_null s r = with_non_nulls s (set (non_nulls s) r true)

-- a literal differs from the one that is there
abbrev pub clashes : Holder → ScalarValue → Bool
clashes old l = old.present && not (same_scalar old.value l)

-- a literal that differs from the one that is there sets the flag and is left out; any other is put there, in the place of an equal one too
unfoldable pub put_literal : ConstraintSet → ℕ → ScalarValue → ConstraintSet
put_literal s r l =
    flag_if (clashes (literal_at s r) l) (with_literals s (set (literals s) r (cond (clashes (literal_at s r) l) (literal_at s r) (held l))))

-- `ranges.entry(r).or_default()`
abbrev pub range_in : Entry → ValueRange
range_in e = cond e.present e.range unbounded_range

-- `if let Some((bound, inclusive)) = range.lower { target.tighten_lower(bound, inclusive); }`, and the same above
abbrev pub lower_by : ValueRange → Bound → ValueRange
lower_by t b = cond b.present (tighten_lower t b.value b.inclusive) t

abbrev pub upper_by : ValueRange → Bound → ValueRange
upper_by t b = cond b.present (tighten_upper t b.value b.inclusive) t

abbrev pub tighten_by : ValueRange → ValueRange → ValueRange
tighten_by t new = upper_by (lower_by t new.lower) new.upper

-- the entry at r, made where there is none, with the bounds of another range
unfoldable pub lay_range : ConstraintSet → ℕ → ValueRange → ConstraintSet
lay_range s r new = with_ranges s (set s.ranges r (entry_of (tighten_by (range_in (entry_at s r)) new)))

-- the same with the test `if target.is_empty() { self.contradictory = true; }`
unfoldable pub put_range : ConstraintSet → ℕ → ValueRange → ConstraintSet
put_range s r new = flag_if (empty_range (tighten_by (range_in (entry_at s r)) new)) (lay_range s r new)

-- ---- `cross_check_literals_and_ranges`
-- below || above
abbrev pub outside : Option Float → ValueRange → Bool
outside None r = false
outside (Some x) r =
    (r.lower.present && (lt x r.lower.value || (eq x r.lower.value && not r.lower.inclusive)))
    || (r.upper.present && (lt r.upper.value x || (eq x r.upper.value && not r.upper.inclusive)))

abbrev pub crossed : Holder → Entry → Bool
crossed h e = h.present && (e.present && outside (scalar_to_f64 h.value) e.range)

abbrev pub crossed_at : ConstraintSet → ℕ → Bool
crossed_at s i = crossed (literal_at s i) (entry_at s i)

unfoldable pub cross_check : ConstraintSet → ConstraintSet
cross_check s = flag_if (any_from (crossed_at s) 0 128) s

-- ---- `normalize`
-- n steps, the first with 0
unfoldable pub steps_to : {A : Type 0} → (ℕ → A → A) → ℕ → A → A
steps_to f zero s = s
steps_to f (suc k) s = f k (steps_to f k s)

-- what s has of i goes to i's representative in t
abbrev pub move_non_null : ConstraintSet → ℕ → ConstraintSet → ConstraintSet
move_non_null s i t = cond (non_null_at s i) (put_non_null t (canonical_at s i)) t

abbrev pub move_literal : ConstraintSet → ℕ → ConstraintSet → ConstraintSet
move_literal s i t = cond (literal_at s i).present (put_literal t (canonical_at s i) (literal_at s i).value) t

abbrev pub move_range : ConstraintSet → ℕ → ConstraintSet → ConstraintSet
move_range s i t = cond (entry_at s i).present (put_range t (canonical_at s i) (entry_at s i).range) t

-- the Rust's three passes, each into a new map
unfoldable pub non_nulls_moved : ConstraintSet → ConstraintSet
non_nulls_moved s = steps_to (move_non_null s) 128 (with_non_nulls s (replicate 128 false))

unfoldable pub literals_moved : ConstraintSet → ConstraintSet
literals_moved s = steps_to (move_literal s) 128 (with_literals s (replicate 128 none))

unfoldable pub ranges_moved : ConstraintSet → ConstraintSet
ranges_moved s = steps_to (move_range s) 128 (with_ranges s (replicate 128 no_entry))

unfoldable pub normalized : ConstraintSet → ConstraintSet
normalized s = cross_check (ranges_moved (literals_moved (non_nulls_moved s)))

-- ---- `union_values`
abbrev pub union_by : ConstraintSet → United → ConstraintSet
union_by s u = cond u.joined (normalized (with_classes s u.classes)) s

unfoldable pub union_values : ConstraintSet → ℕ → ℕ → ConstraintSet
union_values s i j = union_by s (union_of (classes_of s) i j)

-- ---- what is recorded of one identity; of a number past the identities nothing is
-- `non_null_values.insert(canonical(i))`
unfoldable pub add_non_null : ConstraintSet → ℕ → ConstraintSet
add_non_null s i = cond (ltb i 128) (put_non_null s (canonical_at s i)) s

-- `add_literal`
unfoldable pub add_literal : ConstraintSet → ℕ → ScalarValue → ConstraintSet
add_literal s i l =
    cond (ltb i 128)
    (cond (is_null l) (with_flag s true) (cross_check (put_literal (put_non_null s (canonical_at s i)) (canonical_at s i) l)))
    s

-- the bounds that a comparison with x on its right gives
abbrev pub bounds_by : BinaryOp → Float → ValueRange
bounds_by Eq x = unbounded_range
bounds_by NotEq x = unbounded_range
bounds_by Lt x = record { lower = no_bound; upper = bound_at x false }
bounds_by LtEq x = record { lower = no_bound; upper = bound_at x true }
bounds_by Gt x = record { lower = bound_at x false; upper = no_bound }
bounds_by GtEq x = record { lower = bound_at x true; upper = no_bound }
bounds_by IsNotDistinctFrom x = unbounded_range

-- `add_range` with the literal's number x: a comparison that gives no bound makes an entry, and there is no test
unfoldable pub add_bound : ConstraintSet → ℕ → BinaryOp → Float → ConstraintSet
add_bound s i op x =
    cond (ltb i 128)
    (cond (bounding op)
    (cross_check (put_range (put_non_null s (canonical_at s i)) (canonical_at s i) (bounds_by op x)))
    (lay_range (put_non_null s (canonical_at s i)) (canonical_at s i) (bounds_by op x)))
    s

abbrev pub ranged_by : ConstraintSet → ℕ → BinaryOp → Option Float → Ranged
ranged_by s i op None = record { constraints = s; recorded = false }
ranged_by s i op (Some x) = record { constraints = add_bound s i op x; recorded = bounding op }

-- `add_range`, with what it returns
unfoldable pub add_range : ConstraintSet → ℕ → BinaryOp → ScalarValue → Ranged
add_range s i op l = ranged_by s i op (scalar_to_f64 l)

-- ---- residuals: `if !residual_predicates.contains(h) { residual_predicates.push(h); }`
abbrev pub has_handle : ConstraintSet → ℕ → Bool
has_handle s h = any_from (λ (k : ℕ). eqb (handle_at s k) h) 0 (min s.residuals 64)

-- it is there, or there is room for it
abbrev pub room_for : ConstraintSet → ℕ → Bool
room_for s h = has_handle s h || ltb s.residuals 64

unfoldable pub push_residual : ConstraintSet → ℕ → ConstraintSet
push_residual s h =
    cond (has_handle s h) s (cond (ltb s.residuals 64) (with_residuals s (set (handles s) s.residuals h) (s.residuals + 1)) s)

abbrev pub applied_of : ConstraintSet → Bool → Applied
applied_of s r = record { constraints = s; refused = r }

abbrev pub done : ConstraintSet → Applied
done s = applied_of s false

abbrev pub refused_with : ConstraintSet → Applied
refused_with s = applied_of s true

-- refused where a 65th handle would be recorded
unfoldable pub add_residual : ConstraintSet → ℕ → Applied
add_residual s h = cond (room_for s h) (done (push_residual s h)) (refused_with s)

-- ---- `merge_from`
-- the classes in the order of their representatives, each member with the first, which is the representative
abbrev pub join_member : ValueEquivalenceClasses → ℕ → ℕ → ConstraintSet → ConstraintSet
join_member c r i t = cond (eqb (canonical_of c i) r && not (eqb i r)) (union_values t r i) t

abbrev pub join_class : ValueEquivalenceClasses → ℕ → ConstraintSet → ConstraintSet
join_class c r t = steps_to (join_member c r) 128 t

abbrev pub merge_literal : List Holder → ℕ → ConstraintSet → ConstraintSet
merge_literal l i t = cond (get_or l i none).present (add_literal t i (get_or l i none).value) t

abbrev pub merge_range : List Entry → ℕ → ConstraintSet → ConstraintSet
merge_range l i t = cond (get_or l i blank).present (lay_range t (canonical_at t i) (get_or l i blank).range) t

abbrev pub merge_non_null : List Bool → ℕ → ConstraintSet → ConstraintSet
merge_non_null l i t = cond (get_or l i false) (put_non_null t i) t

abbrev pub merge_residual : List ℕ → ℕ → ConstraintSet → ConstraintSet
merge_residual l k t = push_residual t (get_or l k 0)

-- the five loops: over the classes, literals, ranges, non-null values and residuals of the other set
unfoldable pub merge_classes : ConstraintSet → ValueEquivalenceClasses → ConstraintSet
merge_classes t c = steps_to (join_class c) 128 t

unfoldable pub merge_literals : ConstraintSet → List Holder → ConstraintSet
merge_literals t l = steps_to (merge_literal l) 128 t

unfoldable pub merge_ranges : ConstraintSet → List Entry → ConstraintSet
merge_ranges t l = steps_to (merge_range l) 128 t

unfoldable pub merge_non_nulls : ConstraintSet → List Bool → ConstraintSet
merge_non_nulls t l = steps_to (merge_non_null l) 128 t

unfoldable pub merge_residuals : ConstraintSet → List ℕ → ℕ → ConstraintSet
merge_residuals t l n = steps_to (merge_residual l) (min n 64) t

abbrev pub merge_values : ConstraintSet → ConstraintSet → ConstraintSet
merge_values a b =
    merge_non_nulls (merge_ranges (merge_literals (merge_classes (flag_if b.contradictory a) (classes_of b)) (literals b)) b.ranges) (non_nulls b)

unfoldable pub merged_set : ConstraintSet → ConstraintSet → ConstraintSet
merged_set a b = normalized (merge_residuals (merge_values a b) (handles b) b.residuals)

-- each of the first k handles of a list finds room in t on the way
unfoldable pub room_to : ConstraintSet → List ℕ → ℕ → Bool
room_to t l zero = true
room_to t l (suc k) = room_to t l k && room_for (steps_to (merge_residual l) k t) (get_or l k 0)

unfoldable pub merge_room : ConstraintSet → ConstraintSet → Bool
merge_room a b = room_to (merge_values a b) (handles b) (min b.residuals 64)

-- both sets as one, or, where there is no room for the residuals, the first
unfoldable pub merge_from : ConstraintSet → ConstraintSet → Applied
merge_from a b = cond (merge_room a b) (done (merged_set a b)) (refused_with a)
