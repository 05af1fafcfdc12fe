-- Bounds worked by computing. Assumes nothing.
use mathlib.Core.Path.{◌≡◌, refl}
use mathlib.Core.Bool.{Bool, true, false}
use lib.IntN.{pos}
use lib.Ieee.{Float, binary64, lt, eq, of_int, to_bits, of_bits}
use Rattle.value_range.specs.Ranges.{unbounded_range, no_bound, bound_at, tighten_lower, tighten_upper, empty_range}
use Rattle.value_range.specs.declared.ValueRange.{ValueRange}

abbrev seven : Float
seven = of_int binary64 (pos 7)

abbrev below7 : ValueRange
below7 = record { lower = no_bound; upper = bound_at (of_bits binary64 0x401c_0000_0000_0000) false }

-- x <= 7, x < 7 in either order: 7 exclusive
pub at_most_then_below : tighten_upper (tighten_upper unbounded_range seven true) seven false ≡ below7
unfolding lt eq of_int of_bits
at_most_then_below = refl

pub below_then_at_most : tighten_upper (tighten_upper unbounded_range seven false) seven true ≡ below7
unfolding lt eq of_int of_bits
below_then_at_most = refl

-- x < 7, x = 7 is empty, and x <= 7, x = 7 is not
abbrev at7 : ValueRange → ValueRange
at7 r = tighten_upper (tighten_lower r seven true) seven true

pub below-and-at : empty_range (at7 (tighten_upper unbounded_range seven false)) ≡ true
unfolding lt eq of_int
below-and-at = refl

pub at_most_and-at : empty_range (at7 (tighten_upper unbounded_range seven true)) ≡ false
unfolding lt eq of_int
at_most_and-at = refl

-- x > 3, x < 4 is not empty
pub between : empty_range (tighten_upper (tighten_lower unbounded_range (of_int binary64 (pos 3)) false) (of_int binary64 (pos 4)) false) ≡ false
unfolding lt eq of_int
between = refl

-- 0.0 is not replaced by a -0.0 of the same form, at either end; its exclusive form replaces it with its own sign
abbrev plus_zero : Float
plus_zero = of_bits binary64 0

abbrev minus-zero : Float
minus-zero = of_bits binary64 0x8000_0000_0000_0000

pub upper_zero : (i : Bool) → to_bits binary64 (tighten_upper (tighten_upper unbounded_range plus_zero i) minus-zero i).upper.value ≡ 0
unfolding lt eq of_bits to_bits
upper_zero true = refl
upper_zero false = refl

pub lower-zero : (i : Bool) → to_bits binary64 (tighten_lower (tighten_lower unbounded_range plus_zero i) minus-zero i).lower.value ≡ 0
unfolding lt eq of_bits to_bits
lower-zero true = refl
lower-zero false = refl

pub exclusive_zero : to_bits binary64 (tighten_upper (tighten_upper unbounded_range plus_zero true) minus-zero false).upper.value ≡ 0x8000_0000_0000_0000
unfolding lt eq of_bits to_bits
exclusive_zero = refl
