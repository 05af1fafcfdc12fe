use mathlib.Core.Path.{◌≡◌, refl, sym, ◌∙◌, subst}
use mathlib.Core.Bool.{Bool, true, not, false≢true}
use lib.Dec.{T}
use lib.Ieee.{Float, nan, inf, fin, binary64, is_nan, of_bits, div}
use lib.Ieee.Bits.{nan_bits_is, nan_bits_above}
use borrow.Author.Tests.{lt-ltb, le-ltb}
use Rattle.scalar.proofs.float_of_bits.Goals as goal

is-nan : (x : Float) → is_nan x ≡ true → nan ≡ x
unfolding is_nan
is-nan nan h = refl
is-nan (inf s) h = absurd (false≢true h)
is-nan (fin s m e) h = absurd (false≢true h)

pub returns-then-bits-gt9218868437227405312 : goal.returns-then-bits-gt9218868437227405312
unfolding of_bits div
returns-then-bits-gt9218868437227405312 c =
    is-nan (of_bits binary64 c.args.bits) (sym (nan_bits_is binary64 c.args.bits) ∙ nan_bits_above binary64
    c.args.bits ∙ lt-ltb _ _ c.if-bits-gt9218868437227405312.true)

pub float_from_bits-result : goal.float_from_bits-result
float_from_bits-result c = subst (λ (b : Bool). T (not b)) (sym (nan_bits_above binary64 c.args.bits ∙ le-ltb _ _ c.if-bits-gt9218868437227405312.false)) tt
