use Prim.Native.Nat.{ℕ}
use mathlib.Core.Path.{◌≡◌}
use lib.ListN.{get_or}
use Rattle.writing.specs.Text.{lines}
use Rattle.writing.specs.Writers.{written}
use Rattle.listing_lines.specs.Lines.{column_line}
use Rattle.listing.proofs.column_lines.Given as goal

abbrev pub invariant-loop-c : goal.invariant-loop-c
invariant-loop-c l = l.w ≡ written l.initial.w (lines l.c (λ (c : ℕ). column_line l.ids c (get_or l.lineage c 0)))
