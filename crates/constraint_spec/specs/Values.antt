-- Values of a row: when two are the same, where one lies among the bounds, and what a literal and a range ask of it. Assumes nothing.
use Rattle.std.specs.Prelude.{Bool, true, false, not, ◌&&◌, ◌||◌, ℤ, Float}
use Rattle.std.specs.Float.{nan, inf, fin, binary64}
use Rattle.scalar.specs.Exact.{eq_z, exact_in, whole_in}
use Rattle.scalar.specs.Kinds.{is_null}
use Rattle.scalar.specs.Scalars.{same_scalar}
use Rattle.scalar.specs.declared.ScalarValue.{ScalarValue}
use Rattle.scalar.specs.declared.ScalarValue.TheVariants as S
use Rattle.value_range.specs.Ranges.{up_to}
use Rattle.value_range.specs.declared.Bound.{Bound}
use Rattle.value_range.specs.declared.ValueRange.{ValueRange}

-- the same value: equal as scalars, or both NULL
abbrev pub same : ScalarValue → ScalarValue → Bool
same v w = (is_null v && is_null w) || same_scalar v w

-- a value is what a literal says
abbrev pub equals : ScalarValue → ScalarValue → Bool
equals v l = not (is_null v) && same_scalar v l

-- the one value that is not the same as itself
abbrev pub is_na_n : ScalarValue → Bool
is_na_n (S.Null k) = false
is_na_n (S.Boolean b) = false
is_na_n (S.Int32 n) = false
is_na_n (S.Int64 n) = false
is_na_n (S.Float64 nan) = true
is_na_n (S.Float64 (inf s)) = false
is_na_n (S.Float64 (fin s m e)) = false
is_na_n (S.Date32 n) = false

-- where a value lies: NULL, Boolean and NaN nowhere, an infinity beyond every number
pub data Place : Type 0 where
  nowhere : Place
  lowest : Place
  highest : Place
  point : ℤ → Place

abbrev pub place_of_float : Float → Place
place_of_float nan = nowhere
place_of_float (inf true) = lowest
place_of_float (inf false) = highest
place_of_float (fin s m e) = point (exact_in binary64 (fin s m e))

abbrev pub place_of : ScalarValue → Place
place_of (S.Null k) = nowhere
place_of (S.Boolean b) = nowhere
place_of (S.Int32 n) = point (whole_in binary64 n)
place_of (S.Int64 n) = point (whole_in binary64 n)
place_of (S.Float64 x) = place_of_float x
place_of (S.Date32 n) = point (whole_in binary64 n)

-- two values that lie somewhere lie at one place
abbrev pub same_place : Place → Place → Bool
same_place nowhere q = false
same_place lowest nowhere = false
same_place lowest lowest = true
same_place lowest highest = false
same_place lowest (point z) = false
same_place highest nowhere = false
same_place highest lowest = false
same_place highest highest = true
same_place highest (point z) = false
same_place (point x) nowhere = false
same_place (point x) lowest = false
same_place (point x) highest = false
same_place (point x) (point z) = eq_z x z

-- a place against a bound's exact value, at it or not
abbrev pub below_p : Bool → Place → ℤ → Bool
below_p i nowhere z = false
below_p i lowest z = true
below_p i highest z = false
below_p i (point x) z = up_to i x z

abbrev pub above_p : Bool → ℤ → Place → Bool
above_p i z nowhere = false
above_p i z lowest = false
above_p i z highest = true
above_p i z (point x) = up_to i z x

abbrev pub ok_upper : Place → Bound → Bool
ok_upper p b = not b.present || below_p b.inclusive p (exact_in binary64 b.value)

abbrev pub ok_lower : Place → Bound → Bool
ok_lower p b = not b.present || above_p b.inclusive (exact_in binary64 b.value) p

abbrev pub ok_range : Place → ValueRange → Bool
ok_range p r = ok_lower p r.lower && ok_upper p r.upper
