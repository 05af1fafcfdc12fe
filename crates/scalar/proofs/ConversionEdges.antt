-- Edges of the conversion and of equality, by computing. Assumes nothing.
use Rattle.std.proofs.Common.{Some, None}
use mathlib.Core.Path.{◌≡◌, refl}
use mathlib.Core.Bool.{true, false}
use lib.IntN.{pos, negsuc}
use lib.Ieee.{binary64, lt, eq, of_int, of_bits, to_bits}
use Rattle.scalar.specs.Scalars.{scalar_to_f64, same_scalar, less_scalar}
use Rattle.scalar.specs.Coded.{scalar_of, bits_of}
use Rattle.scalar.specs.declared.ScalarValue.TheVariants as S

-- 2 ^ 53 converts, and 2 ^ 53 + 1 does not
pub at_edge : scalar_to_f64 (S.Int64 (pos 9007199254740992)) ≡ Some (of_bits binary64 0x4340_0000_0000_0000)
unfolding of_int of_bits
at_edge = refl

pub past_edge : scalar_to_f64 (S.Int64 (pos 9007199254740993)) ≡ None
past_edge = refl

-- -2 ^ 53 converts, and -2 ^ 53 - 1 and the least Int64 do not
pub at-low_edge : scalar_to_f64 (S.Int64 (negsuc 9007199254740991)) ≡ Some (of_bits binary64 0xc340_0000_0000_0000)
unfolding of_int of_bits
at-low_edge = refl

pub past-low_edge : scalar_to_f64 (S.Int64 (negsuc 9007199254740992)) ≡ None
past-low_edge = refl

pub least : scalar_to_f64 (S.Int64 (negsuc 9223372036854775807)) ≡ None
least = refl

-- infinity and the NaN bound nothing
pub infinity : scalar_to_f64 (S.Float64 (of_bits binary64 0x7ff0_0000_0000_0000)) ≡ None
unfolding of_bits
infinity = refl

pub nan_no_number : scalar_to_f64 (S.Float64 (of_bits binary64 0x7ff8_0000_0000_0000)) ≡ None
unfolding of_bits
nan_no_number = refl

-- 0.0 equals -0.0, whose bits stay; the NaN differs from itself
pub zeros-same : same_scalar (scalar_of 0x14 0 0) (scalar_of 0x14 0 0x8000_0000_0000_0000) ≡ true
unfolding of_bits eq
zeros-same = refl

pub minus-zero : bits_of (scalar_of 0x14 0 0x8000_0000_0000_0000) ≡ 0x8000_0000_0000_0000
unfolding of_bits to_bits
minus-zero = refl

pub nans : same_scalar (scalar_of 0x14 0 0x7ff8_0000_0000_0000) (scalar_of 0x14 0 0x7ff8_0000_0000_0000) ≡ false
unfolding of_bits eq
nans = refl

-- the smallest float is above 0.0, and keeps its bits
pub smallest : less_scalar (scalar_of 0x14 0 0) (scalar_of 0x14 0 1) ≡ true
unfolding of_bits lt
smallest = refl

pub smallest-bits : bits_of (scalar_of 0x14 0 1) ≡ 1
unfolding of_bits to_bits
smallest-bits = refl

-- an Int32 5 is not an Int64 5, nor a Date32 5
pub kinds-differ : same_scalar (S.Int32 (pos 5)) (S.Int64 (pos 5)) ≡ false
kinds-differ = refl

pub dates_differ : same_scalar (S.Int32 (pos 5)) (S.Date32 (pos 5)) ≡ false
dates_differ = refl

-- FALSE is below TRUE
pub false_below : less_scalar (S.Boolean false) (S.Boolean true) ≡ true
false_below = refl

-- bits 2 ^ 32 - 1 are the Int32 -1
pub all_ones_minus-one : scalar_of 0x12 0 0xffff_ffff ≡ S.Int32 (negsuc 0)
all_ones_minus-one = refl
