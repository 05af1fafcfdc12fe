use Prim.Native.Nat.{ℕ}
use mathlib.Core.Path.{◌≡◌}
use lib.ListN.{get_or}
use Rattle.writing.specs.Text.{lines}
use Rattle.writing.specs.Writers.{written}
use Rattle.listing_lines.specs.Lines.{range_line}
use Rattle.constraint_spec.specs.Sets.{blank}
use Rattle.listing.proofs.range_lines.Given as goal

abbrev pub invariant-loop-i : goal.invariant-loop-i
invariant-loop-i l = l.w ≡ written l.initial.w (lines l.i (λ (i : ℕ). range_line l.ids i (get_or l.ranges i blank)))
