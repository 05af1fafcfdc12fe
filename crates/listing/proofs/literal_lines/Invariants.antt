use Prim.Native.Nat.{ℕ, ◌<◌}
use mathlib.Core.Path.{◌≡◌}
use lib.ListN.{get_or}
use Rattle.scalar.specs.Scalars.{Typed}
use Rattle.writing.specs.Text.{lines}
use Rattle.writing.specs.Writers.{written}
use Rattle.constraint_spec.specs.Sets.{none}
use Rattle.listing_lines.specs.Lines.{literal_line}
use Rattle.listing.proofs.literal_lines.Given as goal

abbrev pub invariant-loop-i : goal.invariant-loop-i
invariant-loop-i l =
    (l.w ≡ written l.initial.w (lines l.i (λ (i : ℕ). literal_line l.ids i (get_or l.held i none))))
    × ((i : ℕ) → i < l.i → Typed (get_or l.held i none).value)
