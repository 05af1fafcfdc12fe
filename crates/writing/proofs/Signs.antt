-- A signed number in decimal is its size, behind a minus sign where it is below 0. Assumes nothing.
use mathlib.Core.Path.{◌≡◌, refl, sym, ap, ◌∙◌}
use mathlib.Core.Bool.{true, false, true≢false, false≢true}
use mathlib.Core.List.{◌∷◌}
use native.Mathlib.Numerals.{add-one}
use lib.Dec.{leb-suc-zero}
use lib.IntN.{ℤ, pos, negsuc, nat_abs}
use lib.Signed.{lt_z}
use mir.Syntax.{w64}
use mir.Val.{to_z, of_z, SFits}
use mir.ValLaws.{to_z-of_z}
use Rattle.writing.specs.Text.{signed_of, decimal_of}

pub signed_below : (n : ℤ) → SFits w64 n → lt_z (to_z w64 (of_z w64 n)) (pos 0) ≡ true → signed_of n ≡ 45 ∷ decimal_of (nat_abs n)
signed_below (pos n) f h = absurd (false≢true (sym (leb-suc-zero n) ∙ sym (ap (λ (z : ℤ). lt_z z (pos 0)) (to_z-of_z w64 (pos n) f)) ∙ h))
signed_below (negsuc k) f h = rw (add-one k)

pub signed-not : (n : ℤ) → SFits w64 n → lt_z (to_z w64 (of_z w64 n)) (pos 0) ≡ false → signed_of n ≡ decimal_of (nat_abs n)
signed-not (pos n) f h = refl
signed-not (negsuc n) f h = absurd (true≢false (ap (λ (z : ℤ). lt_z z (pos 0)) (sym (to_z-of_z w64 (negsuc n) f)) ∙ h))

pub ruleset signs = (signed_below, signed-not)
