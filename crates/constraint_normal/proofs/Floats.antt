-- Which float is the 0.0 of an empty bound by its bits, and that those of a scalar fit. Assumes nothing.
use mathlib.Core.Path.{◌≡◌, refl, sym, ap, ◌∙◌}
use mathlib.Core.Bool.{true, false}
use lib.Dec.{T, eqb}
use lib.IntN.{pos}
use lib.Ieee.{Float, fin, binary64, fits, of_bits, to_bits}
use lib.Ieee.Bits.{of_bits-to_bits}
use borrow.Author.Tests.{eqb-true}

-- ---- 0.0
pub zero-float : (x : Float) → T (fits binary64 x) → eqb (to_bits binary64 x) 0 ≡ true → x ≡ fin false 0 (pos 0)
unfolding of_bits
zero-float x f e = sym (of_bits-to_bits binary64 x f) ∙ ap (of_bits binary64) (eqb-true (to_bits binary64 x) 0 e)

pub zero_bits : eqb (to_bits binary64 (fin false 0 (pos 0))) 0 ≡ true
unfolding to_bits
zero_bits = refl
