-- A value's bounds: what tightens them, and which exact values they admit. Assumes nothing.
use Rattle.std.specs.Prelude.{Bool, true, false, not, ◌&&◌, ◌||◌, cond, T, ℤ, pos, Float}
use Rattle.std.specs.Int.Signed.{lt_z, le_z}
use Rattle.std.specs.Float.{fin, binary64}
use Rattle.std.specs.Float.Ieee.{lt, eq, fits}
use Rattle.scalar.specs.Exact.{finite, exact_in}
use Rattle.value_range.specs.declared.Bound.{Bound}
use Rattle.value_range.specs.declared.ValueRange.{ValueRange}

-- no bound; its value is 0.0 and never looked at
abbrev pub no_bound : Bound
no_bound = record { value = fin false 0 (pos 0); present = false; inclusive = false }

-- a bound at v, which may itself be met where i is true
abbrev pub bound_at : Float → Bool → Bound
bound_at v i = record { value = v; present = true; inclusive = i }

-- the range without bounds
abbrev pub unbounded_range : ValueRange
unbounded_range = record { lower = no_bound; upper = no_bound }

-- v replaces a lower bound: there is none, v is above it, or v is the exclusive form of it
abbrev pub takes_lower : Bound → Float → Bool → Bool
takes_lower b v i = not b.present || (lt b.value v || (eq v b.value && (b.inclusive && not i)))

-- v replaces an upper bound: there is none, v is below it, or v is the exclusive form of it
abbrev pub takes_upper : Bound → Float → Bool → Bool
takes_upper b v i = not b.present || (lt v b.value || (eq v b.value && (b.inclusive && not i)))

-- the range with v as its lower bound, where v replaces that
abbrev pub tighten_lower : ValueRange → Float → Bool → ValueRange
tighten_lower r v i = cond (takes_lower r.lower v i) (record { lower = bound_at v i; upper = r.upper }) r

-- the range with v as its upper bound, where v replaces that
abbrev pub tighten_upper : ValueRange → Float → Bool → ValueRange
tighten_upper r v i = cond (takes_upper r.upper v i) (record { lower = r.lower; upper = bound_at v i }) r

-- both bounds are there, and the lower is above the upper, or they are equal and not both may be met
abbrev pub empty_range : ValueRange → Bool
empty_range r =
    r.lower.present
    && (r.upper.present
    && (lt r.upper.value r.lower.value || (eq r.lower.value r.upper.value && not (r.lower.inclusive && r.upper.inclusive))))

-- ---- which exact values are within; x is a number of units of 2 ^ -1074
-- x is below y, or at y where i is true
abbrev pub up_to : Bool → ℤ → ℤ → Bool
up_to i x y = cond i (le_z x y) (lt_z x y)

abbrev pub meets_upper : ℤ → Bound → Bool
meets_upper x b = not b.present || up_to b.inclusive x (exact_in binary64 b.value)

abbrev pub meets_lower : ℤ → Bound → Bool
meets_lower x b = not b.present || up_to b.inclusive (exact_in binary64 b.value) x

abbrev pub within : ℤ → ValueRange → Bool
within x r = meets_lower x r.lower && meets_upper x r.upper

-- a bound that is there is a finite float; that it fits an f64 the machine sees to
abbrev pub Sound : Bound → Type 0
Sound b = T b.present → T (finite b.value) × T (fits binary64 b.value)

abbrev pub SoundRange : ValueRange → Type 0
SoundRange r = Sound r.lower × Sound r.upper
