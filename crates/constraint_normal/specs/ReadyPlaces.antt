-- What the code asks of a set, place by place: that is exactly what makes it ready, for a set that a program holds. Assumes nothing.
use Rattle.std.specs.Prelude.{ℕ, Bool, cond, not, ◌&&◌, ◌||◌, eqb}
use Rattle.std.specs.Float.{binary64}
use Rattle.std.specs.Float.Ieee.{is_nan, to_bits}
use Rattle.lists.specs.Ranges.{all_from}
use Rattle.scalar.specs.Kinds.{is_null}
use Rattle.scalar.specs.Coded.{code_of}
use Rattle.scalar.specs.declared.ScalarValue.{ScalarValue}
use Rattle.value_range.specs.Ranges.{empty_range}
use Rattle.value_range.specs.declared.Bound.{Bound}
use Rattle.value_classes.specs.Classes.{classes_ok}
use Rattle.constraint_spec.specs.Sets.{classes_of, non_null_at, literal_at, entry_at, canonical_at, crossed}
use Rattle.constraint_spec.specs.declared.Holder.{Holder}
use Rattle.constraint_spec.specs.declared.Entry.{Entry}
use Rattle.constraint_spec.specs.declared.ConstraintSet.{ConstraintSet}

-- the scalar of an empty holder: the Null of Boolean, whose code is 1
unfoldable pub blank_scalar : ScalarValue → Bool
blank_scalar v = is_null v && eqb (code_of v) 1

-- a literal stands at a representative; where there is none the holder is the empty one
unfoldable pub ready_holder : Bool → Holder → Bool
ready_holder root h = cond h.present root (blank_scalar h.value)

-- the bound that is none: its value is 0.0, whose bits are 0
unfoldable pub blank_bound : Bound → Bool
blank_bound b = not b.present && (not b.inclusive && eqb (to_bits binary64 b.value) 0)

unfoldable pub ready_bound : Bound → Bool
ready_bound b = cond b.present (not (is_nan b.value)) (blank_bound b)

-- the same of a range
unfoldable pub ready_entry : Bool → Entry → Bool
ready_entry root e =
    cond e.present (root && (ready_bound e.range.lower && ready_bound e.range.upper))
    (blank_bound e.range.lower && blank_bound e.range.upper)

-- no contradiction is to be seen: the range is not empty, and the literal is not outside of it
unfoldable pub quiet_place : Holder → Entry → Bool
quiet_place h e = not (e.present && empty_range e.range) && not (crossed h e)

-- everything at one place
unfoldable pub ready_place : Bool → Bool → Bool → Holder → Entry → Bool
ready_place root flag n h e = (not n || root) && (ready_holder root h && (ready_entry root e && (flag || quiet_place h e)))

unfoldable pub ready_at : ConstraintSet → ℕ → Bool
ready_at s i = ready_place (eqb (canonical_at s i) i) s.contradictory (non_null_at s i) (literal_at s i) (entry_at s i)

unfoldable pub ready_of : ConstraintSet → Bool
ready_of s = classes_ok (classes_of s) && all_from (ready_at s) 0 128
