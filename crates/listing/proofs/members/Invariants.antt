use Prim.Native.Nat.{ℕ}
use mathlib.Core.Path.{◌≡◌}
use lib.ListN.{get_or}
use Rattle.writing.specs.Text.{lines}
use Rattle.writing.specs.Writers.{written}
use Rattle.listing_lines.specs.Lines.{member_text}
use Rattle.listing.proofs.members.Given as goal

abbrev pub invariant-loop-i : goal.invariant-loop-i
invariant-loop-i l = l.w ≡ written l.initial.w (lines l.i (λ (i : ℕ). member_text l.ids (get_or l.roots i 0) l.r i))
