use mathlib.Core.Path.{◌≡◌, refl}
use mathlib.Core.Bool.{true, false, true≢false, false≢true}
use lib.Ieee.{Float, nan, inf, fin, lt, neg, of_bits, nan_bits}
use Rattle.scalar.specs.Exact.{finite}
use Rattle.scalar.proofs.is_finite.Goals as goal

-- `scalars::is_finite` meets its contract: only a number lies between the infinities. Assumes nothing.
above_low : (x : Float) → lt (inf true) x ≡ true → lt x (inf false) ≡ finite x
unfolding lt
above_low nan h = refl
above_low (inf true) h = absurd (false≢true h)
above_low (inf false) h = refl
above_low (fin s m e) h = refl

not-above : (x : Float) → lt (inf true) x ≡ false → lt (inf true) x ≡ finite x
unfolding lt
not-above nan h = refl
not-above (inf true) h = refl
not-above (inf false) h = absurd (true≢false h)
not-above (fin s m e) h = absurd (true≢false h)

pub float_from_bits-top : goal.float_from_bits-top
unfolding nan_bits
float_from_bits-top c = tt

pub returns-then-top-x : goal.returns-then-top-x
unfolding of_bits neg
returns-then-top-x c = above_low c.args.x c.if-top-x.true

pub returns-else-top-x : goal.returns-else-top-x
unfolding of_bits neg
returns-else-top-x c = not-above c.args.x c.if-top-x.false
