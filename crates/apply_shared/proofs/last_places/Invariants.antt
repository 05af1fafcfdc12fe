use Prim.Native.Nat.{◌≤◌}
use Rattle.apply_shared.proofs.last_places.Given as goal

abbrev pub invariant-loop : goal.invariant-loop
invariant-loop l = l.depth ≤ 1024
