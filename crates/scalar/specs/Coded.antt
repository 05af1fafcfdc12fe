-- A scalar as three numbers: its case, a code and bits. Case and code are those of the plan file. Assumes nothing.
use Rattle.std.specs.Prelude.{Bool, cond, ℕ, ◌%◌, ◌^◌, eqb, ltb, ℤ}
use Rattle.std.specs.Float.{binary64}
use Rattle.std.specs.Float.Ieee.{of_bits, to_bits}
use Rattle.std.specs.Int.{w32, w64}
use Rattle.std.proofs.Common.{to_z, of_z}
use Rattle.scalar.specs.Kinds.{kind_code, kind_of_code}
use Rattle.scalar.specs.declared.Kind.TheVariants as K
use Rattle.scalar.specs.declared.ScalarValue.{ScalarValue}
use Rattle.scalar.specs.declared.ScalarValue.TheVariants as S

-- the kind byte of a literal's record
abbrev pub case_code : ScalarValue → ℕ
case_code (S.Null k) = 0x10
case_code (S.Boolean b) = 0x11
case_code (S.Int32 n) = 0x12
case_code (S.Int64 n) = 0x13
case_code (S.Float64 x) = 0x14
case_code (S.Date32 n) = 0x15

-- a Null's kind code, 1 for TRUE and 0 for FALSE; other scalars have no code and get 0
abbrev pub code_of : ScalarValue → ℕ
code_of (S.Null k) = kind_code k
code_of (S.Boolean b) = cond b 1 0
code_of (S.Int32 n) = 0
code_of (S.Int64 n) = 0
code_of (S.Float64 x) = 0
code_of (S.Date32 n) = 0

-- whole numbers in two's complement of 32 or 64 bits, a float's pattern; other scalars have no bits and get 0
abbrev pub bits_of : ScalarValue → ℕ
bits_of (S.Null k) = 0
bits_of (S.Boolean b) = 0
bits_of (S.Int32 n) = of_z w32 n
bits_of (S.Int64 n) = of_z w64 n
bits_of (S.Float64 x) = to_bits binary64 x
bits_of (S.Date32 n) = of_z w32 n

-- the low 32 bits in two's complement
abbrev pub low_signed : ℕ → ℤ
low_signed bits = to_z w32 (bits % 2 ^ 32)

-- the scalar of three numbers, whatever they are: a code that is no kind's stands for Boolean, a Boolean is TRUE where the code is 1,
-- every NaN pattern is the one NaN, and a case that is no literal's gives the Null of Boolean
abbrev pub scalar_of : ℕ → ℕ → ℕ → ScalarValue
scalar_of case code bits =
    cond (eqb case 0x10) (S.Null (kind_of_code code))
    (cond (eqb case 0x11) (S.Boolean (eqb code 1))
    (cond (eqb case 0x12) (S.Int32 (low_signed bits))
    (cond (eqb case 0x13) (S.Int64 (to_z w64 bits))
    (cond (eqb case 0x14) (S.Float64 (of_bits binary64 bits))
    (cond (eqb case 0x15) (S.Date32 (low_signed bits))
    (S.Null K.Boolean))))))

-- a pattern of 64 bits is a NaN's where, its sign aside, it is above that of infinity
abbrev pub nan_pattern : ℕ → Bool
nan_pattern bits = ltb 0x7ff0_0000_0000_0000 (bits % 0x8000_0000_0000_0000)
