-- What a program's set is by its type: each list has an entry for each identity; and what a range is laid into. Assumes nothing.
use Prim.Native.Nat.{ℕ, zero, suc}
use mathlib.Core.Path.{◌≡◌, refl}
use mathlib.Core.List.{List, [], ◌∷◌}
use borrow.Author.Rules.{rules}
use denote.Shadow.{shadow}
use denote.Struct.Declared.{row}
use lib.ListN.{length, get_or, set}
use mir.Val.{Val}
use Rattle.value_classes.specs.Classes.{Whole}
use Rattle.value_range.specs.declared.ValueRange.{ValueRange}
use Rattle.constraint_spec.specs.Sets.{no_entry, blank, entry_of, range_in, tighten_by, classes_of, literals, with_ranges, lay_range}
use Rattle.constraint_spec.specs.declared.Entry.{Entry}
use Rattle.constraint_spec.specs.declared.ConstraintSet.{ConstraintSet}
use Rattle.constraint_spec.specs.contracts.ConstraintSet as C

pub classes-whole : (s : ConstraintSet) (vs : List Val) → shadow ((row C.the_type).own_val s vs) → Whole (classes_of s)
classes-whole s vs p = search rules

pub literals-long : (s : ConstraintSet) (vs : List Val) → shadow ((row C.the_type).own_val s vs) → length (literals s) ≡ 128
literals-long s vs p = p.1.1.1.1.0.1.0.1

pub ranges_long_lem : (s : ConstraintSet) (vs : List Val) → shadow ((row C.the_type).own_val s vs) → length s.ranges ≡ 128
ranges_long_lem s vs p = p.1.1.1.1.1.0.1.0.1

-- past the end of the ranges there is no bound, whatever is read for it
in_none : (l : List Entry) (i : ℕ) → range_in (get_or l i no_entry) ≡ range_in (get_or l i blank)
in_none [] i = refl
in_none (x ∷ l) zero = refl
in_none (x ∷ l) (suc i) = in_none l i

pub range_laid : (s : ConstraintSet) (r : ℕ) (new : ValueRange) (e : Entry) (l : List Entry)
    → e ≡ entry_of (tighten_by (range_in (get_or s.ranges r no_entry)) new) → l ≡ set s.ranges r e → with_ranges s l ≡ lay_range s r new
unfolding lay_range
range_laid s r new e l q p = rw (p, q, in_none s.ranges r)
