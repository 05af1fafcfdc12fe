use Prim.Native.Nat.{ℕ}
use mathlib.Core.Path.{◌≡◌}
use lib.ListN.{get_or}
use Rattle.writing.specs.Text.{lines}
use Rattle.writing.specs.Writers.{written}
use Rattle.listing_lines.specs.Lines.{residual_line}
use Rattle.listing.proofs.residual_lines.Given as goal

abbrev pub invariant-loop-e : goal.invariant-loop-e
invariant-loop-e l = l.w ≡ written l.initial.w (lines l.e-index (λ (k : ℕ). residual_line (get_or l.list k 0)))
