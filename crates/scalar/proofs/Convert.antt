-- An i64 that passes the two tests of `scalar_to_f64` is one that a cast to f64 takes, and no other is. Assumes nothing.
use Rattle.std.proofs.Common.{Some, None, Option, Float}
use mathlib.Core.Path.{◌≡◌, refl, sym, ap, ◌∙◌, subst}
use mathlib.Core.Bool.{Bool, true, false, cond, false≢true}
use lib.Dec.{T, le→leb, lt→ltb}
use lib.IntN.{ℤ, pos, negsuc}
use lib.Signed.{lt_z}
use lib.Ieee.{binary64, in_float, of_int}
use mir.Syntax.{w64}
use mir.Val.{SFits, to_z, of_z}
use mir.ValLaws.{to_z-of_z}
use native.Mathlib.Omega.{arith}
use borrow.Author.Tests.{ltb-true, ltb-false, lt-leb, le-ltb}
use Rattle.scalar.specs.Scalars.{small, scalar_to_f64}
use Rattle.scalar.specs.declared.ScalarValue.{ScalarValue}
use Rattle.scalar.specs.declared.ScalarValue.TheVariants as S
use Rattle.scalar.proofs.NumberLaws.{small_in_float}

pub pick_yes : (b : Bool) (x y : Option Float) → T b → cond b x y ≡ x
pick_yes true x y t = refl
pick_yes false x y t = absurd t

pub too_low : (z : ℤ) → lt_z z (negsuc 9007199254740991) ≡ true → in_float binary64 z ≡ false
unfolding in_float
too_low (pos n) h = absurd (false≢true h)
too_low (negsuc n) h = le-ltb n (9007199254740992) (omega (arith, ltb-true 9007199254740991 n h))

pub too_high : (z : ℤ) → lt_z (pos 9007199254740992) z ≡ true → in_float binary64 z ≡ false
unfolding in_float
too_high (pos n) h = lt-leb n 9007199254740992 (ltb-true 9007199254740992 n h)
too_high (negsuc n) h = absurd (false≢true h)

pub in_range : (z : ℤ) → lt_z z (negsuc 9007199254740991) ≡ false → lt_z (pos 9007199254740992) z ≡ false → T (in_float binary64 z)
unfolding in_float
in_range (pos n) h k = le→leb n 9007199254740992 (ltb-false 9007199254740992 n k)
in_range (negsuc n) h k = lt→ltb n 9007199254740992 (omega (arith, ltb-false 9007199254740991 n h))

pub refused : (n : ℤ) (v : ScalarValue) → v ≡ S.Int64 n → SFits w64 n → in_float binary64 (to_z w64 (of_z w64 n)) ≡ false → None ≡ scalar_to_f64 v
refused n v e f h = sym (ap scalar_to_f64 e ∙ ap (λ (b : Bool). cond b (Some (of_int binary64 n)) None)
    (small_in_float n ∙ ap (in_float binary64) (sym (to_z-of_z w64 n f)) ∙ h))

pub taken : (n : ℤ) (v : ScalarValue) → v ≡ S.Int64 n → SFits w64 n → T (in_float binary64 (to_z w64 (of_z w64 n))) → Some (of_int binary64 (to_z w64
    (of_z w64 n)))
    ≡ scalar_to_f64 v
taken n v e f t =
    ap (λ (z : ℤ). Some (of_int binary64 z)) (to_z-of_z w64 n f)
    ∙ sym (ap scalar_to_f64 e ∙ pick_yes (small n) (Some (of_int binary64 n)) None (subst T (ap (in_float binary64) (to_z-of_z w64 n f) ∙ sym
    (small_in_float n)) t))
