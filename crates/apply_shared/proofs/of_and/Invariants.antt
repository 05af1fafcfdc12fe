use Prim.Native.Nat.{◌≤◌}
use Rattle.apply_walk.specs.Rests.{steps_left, Good}
use Rattle.apply_shared.specs.Turns.{Held}
use Rattle.apply_shared.proofs.of_and.Given as goal

abbrev pub invariant-loop-thinner : goal.invariant-loop-thinner
invariant-loop-thinner l = Good l.thinner.walk × ((l.thinner.thin.count ≤ 2048) × Held l.exprs l.items.a l.e l.thinner)

abbrev pub decreases-loop-thinner : goal.decreases-loop-thinner
decreases-loop-thinner l = steps_left l.exprs l.items.a l.thinner.walk
