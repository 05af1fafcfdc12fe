use Prim.Native.Nat.{ℕ}
use mathlib.Core.Path.{◌≡◌}
use lib.ListN.{get_or}
use Rattle.writing.specs.Text.{lines}
use Rattle.writing.specs.Writers.{written}
use Rattle.listing_lines.specs.Lines.{nonnull_line}
use mathlib.Core.Bool.{false}
use Rattle.listing.proofs.nonnull_lines.Given as goal

abbrev pub invariant-loop-i : goal.invariant-loop-i
invariant-loop-i l = l.w ≡ written l.initial.w (lines l.i (λ (i : ℕ). nonnull_line l.ids i (get_or l.flags i false)))
