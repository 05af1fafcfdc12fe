use Prim.Native.Nat.{ℕ}
use mathlib.Core.Path.{◌≡◌}
use lib.ListN.{get_or}
use Rattle.writing.specs.Text.{lines}
use Rattle.writing.specs.Writers.{written}
use Rattle.listing.specs.Listing.{class_line}
use Rattle.listing.proofs.class_lines.Given as goal

abbrev pub invariant-loop-r : goal.invariant-loop-r
invariant-loop-r l = l.w ≡ written l.initial.w (lines l.r (class_line l.ids (λ (i : ℕ). get_or l.roots.of i 0)))
