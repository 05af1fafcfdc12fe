-- Where a set says less than the comparison that it came of, by rows that meet the set. Assumes nothing.
use mathlib.Core.Path.{◌≡◌, refl, sym, subst}
use mathlib.Core.Bool.{true, false}
use mathlib.Core.Logic.{inl}
use Prim.Native.Nat.{ℕ}
use native.Mathlib.Omega.{arith}
use lib.Dec.{T}
use lib.IntN.{pos}
use lib.Ieee.{nan, binary64, fits, of_int, eq}
use Rattle.scalar.specs.Exact.{exact_at}
use Rattle.scalar.specs.Scalars.{Typed}
use Rattle.scalar.specs.declared.ScalarValue.{ScalarValue}
use Rattle.scalar.specs.declared.ScalarValue.TheVariants as S
use Rattle.scalar.proofs.NumberLaws.{converts}
use Rattle.comparison.specs.declared.BinaryOp.TheVariants.{Lt}
use Rattle.constraint_spec.specs.Values.{same, place_of, ok_range}
use Rattle.constraint_spec.specs.Sets.{union_values, add_non_null, add_bound, bounds_by, empty_set}
use Rattle.constraint_spec.specs.Meets.{Meets}
use Rattle.constraint_spec.proofs.Empty.{empty-good, empty-meets}
use Rattle.constraint_spec.proofs.Operations.{union_good, union_iff, nonnull_iff, add_bound-iff}

-- x = x, where x is NaN: the set says that x is not NULL, and it is not
abbrev pub nans : ℕ → ScalarValue
nans i = S.Float64 nan

nan-typed : (i : ℕ) → Typed (nans i)
unfolding fits
nan-typed i = tt

pub nan-meets : (on : ℕ → Type 0) → Meets on nans (add_non_null (union_values empty_set 0 0) 0)
nan-meets on =
    (nonnull_iff (union_values empty_set 0 0) (union_good empty_set 0 0 (omega arith) (omega arith) empty-good) 0 (omega arith) on nans nan-typed).1
    ((union_iff empty_set 0 0 (omega arith) (omega arith) empty-good on nans nan-typed).1 (empty-meets on nans, inl refl), tt)

-- two NaN are not the same value, so that one identity has to be counted as like itself: else no set would be met by a row with a NaN
pub nan_differs : same (nans 0) (nans 0) ≡ false
unfolding eq
nan_differs = refl

-- z < 5 with an Int32 5, where z is an Int64 3: the bound holds of it, though the two are of different kinds
abbrev pub threes : ℕ → ScalarValue
threes i = S.Int64 (pos 3)

three-typed : (i : ℕ) → Typed (threes i)
three-typed i = record { sfits = omega arith }

bound-met : ok_range (place_of (S.Int64 (pos 3))) (bounds_by Lt (of_int binary64 (pos 5))) ≡ true
unfolding of_int exact_at
bound-met = refl

pub mixed_meets : (on : ℕ → Type 0) → Meets on threes (add_bound empty_set 0 Lt (of_int binary64 (pos 5)))
mixed_meets on =
    let c = converts (S.Int32 (pos 5)) (of_int binary64 (pos 5)) (record { sfits = omega arith }) refl in
    (add_bound-iff empty_set empty-good 0 (omega arith) on threes three-typed Lt (of_int binary64 (pos 5)) c.number c.held).1
    (empty-meets on threes, (tt, subst T (sym bound-met) tt))
