-- A scalar as three numbers: every scalar comes back from its own three, three numbers give a scalar that holds values of its type, and bits come back,
-- those of the NaN as the one pattern 7ff8000000000000. Assumes nothing.
use mathlib.Core.Path.{◌≡◌, refl, sym, ap, ◌∙◌, subst}
use mathlib.Core.Bool.{Bool, true, false, not, cond, false≢true}
use Prim.Native.Nat.{ℕ, ◌%◌, ◌^◌, ◌<◌}
use native.Mathlib.Nat.{mod-eq_of_lt, mod-lt}
use native.Mathlib.Omega.{arith}
use lib.Dec.{T, eqb}
use lib.Pow.{pow_pos}
use lib.IntN.{ℤ}
use lib.Ieee.{Float, nan, inf, fin, binary64, is_nan, of_bits, to_bits}
use lib.Ieee.Bits.{of_bits-to_bits, to_bits-lt, of_bits-fits, to_bits-of_bits, nan_bits_is, nan_bits_above}
use mir.Syntax.{w32, w64}
use mir.Val.{to_z, of_z, Fits, SFits}
use mir.ValLaws.{to_z-of_z, of_z-to_z, of_z_fits, to_z-Fits}
use Rattle.scalar.specs.Scalars.{Typed}
use Rattle.scalar.specs.Kinds.{kind_of_code}
use Rattle.scalar.specs.Coded.{case_code, code_of, bits_of, low_signed, scalar_of, nan_pattern}
use Rattle.scalar.specs.declared.Kind.TheVariants as K
use Rattle.scalar.specs.declared.ScalarValue.{ScalarValue}
use Rattle.scalar.specs.declared.ScalarValue.TheVariants as S
use Rattle.scalar.proofs.ScalarLaws.{kind-back}

low_fits : (bits : ℕ) → Fits w32 (bits % 2 ^ 32)
low_fits bits = record { fits = mod-lt bits (pow_pos 32) }

low-back : (n : ℤ) → SFits w32 n → low_signed (of_z w32 n) ≡ n
low-back n h = ap (to_z w32) (mod-eq_of_lt (of_z_fits w32 n h).fits) ∙ to_z-of_z w32 n h

-- every scalar comes back from its own three numbers
pub scalar_of-back : (v : ScalarValue) → Typed v → scalar_of (case_code v) (code_of v) (bits_of v) ≡ v
scalar_of-back (S.Null k) h = ap S.Null (kind-back k)
scalar_of-back (S.Boolean true) h = refl
scalar_of-back (S.Boolean false) h = refl
scalar_of-back (S.Int32 n) h = ap S.Int32 (low-back n h)
scalar_of-back (S.Int64 n) h = ap S.Int64 (to_z-of_z w64 n h)
scalar_of-back (S.Float64 x) h = ap S.Float64 (of_bits-to_bits binary64 x h)
scalar_of-back (S.Date32 n) h = ap S.Date32 (low-back n h)

chosen : (b : Bool) (v w : ScalarValue) → Typed v → Typed w → Typed (cond b v w)
chosen true v w h k = h
chosen false v w h k = k

-- what three numbers give holds a value of its type
pub scalar_of-typed : (case code bits : ℕ) → bits < 2 ^ 64 → Typed (scalar_of case code bits)
scalar_of-typed case code bits h =
    chosen (eqb case 0x10) (S.Null (kind_of_code code)) _ tt
    (chosen (eqb case 0x11) (S.Boolean (eqb code 1)) _ tt
    (chosen (eqb case 0x12) (S.Int32 (low_signed bits)) _ (to_z-Fits w32 (bits % 2 ^ 32) (low_fits bits))
    (chosen (eqb case 0x13) (S.Int64 (to_z w64 bits)) _ (to_z-Fits w64 bits (record { fits = h }))
    (chosen (eqb case 0x14) (S.Float64 (of_bits binary64 bits)) _ (of_bits-fits binary64 bits)
    (chosen (eqb case 0x15) (S.Date32 (low_signed bits)) (S.Null K.Boolean) (to_z-Fits w32 (bits % 2 ^ 32) (low_fits bits)) tt)))))

-- the bits of a whole number come back, at 32 bits the low ones
pub int64_bits : (code bits : ℕ) → bits < 2 ^ 64 → bits_of (scalar_of 0x13 code bits) ≡ bits
int64_bits code bits h = of_z-to_z w64 bits (record { fits = h })

pub int32_bits : (code bits : ℕ) → bits_of (scalar_of 0x12 code bits) ≡ bits % 2 ^ 32
int32_bits code bits = of_z-to_z w32 (bits % 2 ^ 32) (low_fits bits)

pub date32_bits : (code bits : ℕ) → bits_of (scalar_of 0x15 code bits) ≡ bits % 2 ^ 32
date32_bits code bits = of_z-to_z w32 (bits % 2 ^ 32) (low_fits bits)

the_nan : (x : Float) → is_nan x ≡ true → to_bits binary64 x ≡ 0x7ff8_0000_0000_0000
unfolding is_nan to_bits
the_nan nan e = refl
the_nan (inf s) e = absurd (false≢true e)
the_nan (fin s m e) d = absurd (false≢true d)

-- the bits of a float come back as they were, -0.0, infinities and the smallest included; those of a NaN as the one NaN's
pub bits_back : (bits : ℕ) → bits < 2 ^ 64 → to_bits binary64 (of_bits binary64 bits) ≡ cond (nan_pattern bits) 0x7ff8_0000_0000_0000 bits
bits_back bits h = go (nan_pattern bits) (nan_is bits)
  where
    nan_is : (n : ℕ) → is_nan (of_bits binary64 n) ≡ nan_pattern n
    nan_is n = sym (nan_bits_is binary64 n) ∙ nan_bits_above binary64 n

    go : (b : Bool) → is_nan (of_bits binary64 bits) ≡ b → to_bits binary64 (of_bits binary64 bits) ≡ cond b 0x7ff8_0000_0000_0000 bits
    go true e = the_nan (of_bits binary64 bits) e
    go false e = to_bits-of_bits binary64 bits h (subst (λ (b : Bool). T (not b)) (sym e) tt)

pub float64_bits : (code bits : ℕ) → bits < 2 ^ 64 → bits_of (scalar_of 0x14 code bits) ≡ cond (nan_pattern bits) 0x7ff8_0000_0000_0000 bits
float64_bits code bits h = bits_back bits h

-- a scalar's bits are below 2 ^ 64
pub bits_below : (v : ScalarValue) → Typed v → bits_of v < 2 ^ 64
bits_below (S.Null k) h = omega arith
bits_below (S.Boolean b) h = omega arith
bits_below (S.Int32 n) h = omega (arith, (of_z_fits w32 n h).fits)
bits_below (S.Int64 n) h = (of_z_fits w64 n h).fits
bits_below (S.Float64 x) h = to_bits-lt binary64 x h
bits_below (S.Date32 n) h = omega (arith, (of_z_fits w32 n h).fits)
