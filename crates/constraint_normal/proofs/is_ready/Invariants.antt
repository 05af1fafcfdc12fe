use Rattle.std.proofs.Common.{◌≡◌, ◌-◌, ◌<◌, ℕ}
use Rattle.lists.specs.Ranges.{all_from}
use Rattle.constraint_normal.specs.Held.{HeldAt}
use Rattle.constraint_normal.specs.ReadyPlaces.{ready_at}
use Rattle.constraint_normal.proofs.is_ready.Given as goal

abbrev pub invariant-loop-i : goal.invariant-loop-i
invariant-loop-i l = (all_from (ready_at l.s) 0 128 ≡ all_from (ready_at l.s) l.i (128 - l.i)) × ((k : ℕ) → k < l.i → HeldAt l.s k)
