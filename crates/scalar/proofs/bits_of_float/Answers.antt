use mathlib.Core.Path.{◌≡◌, sym, ◌∙◌, ap, subst}
use mathlib.Core.Bool.{false, not, false≢true}
use lib.Dec.{T}
use lib.Ieee.{Float, nan, inf, fin, binary64, ne, is_nan, to_bits}
use lib.Ieee.Compare.{differs_from_itself, nan_differs}
use Rattle.scalar.proofs.bits_of_float.Goals as goal

same_no_nan : (x : Float) → ne x x ≡ false → T (not (is_nan x))
unfolding is_nan
same_no_nan nan h = absurd (false≢true (sym h ∙ nan_differs))
same_no_nan (inf s) h = tt
same_no_nan (fin s m e) h = tt

pub returns-then-x : goal.returns-then-x
unfolding to_bits
returns-then-x c = sym (ap (to_bits binary64) (differs_from_itself c.args.x (subst T (sym c.if-x.true) tt)))

pub float_to_bits-result : goal.float_to_bits-result
float_to_bits-result c = same_no_nan c.args.x c.if-x.false
