use Prim.Native.Nat.{ℕ}
use mathlib.Core.Path.{◌≡◌}
use lib.ListN.{get_or}
use Rattle.writing.specs.Text.{lines}
use Rattle.writing.specs.Writers.{written}
use Rattle.listing_lines.specs.Lines.{define_line}
use Rattle.listing.proofs.define_lines.Given as goal

abbrev pub invariant-loop-c : goal.invariant-loop-c
invariant-loop-c l = l.w ≡ written l.initial.w (lines l.c (λ (c : ℕ). define_line c (get_or l.definitions c 0)))
