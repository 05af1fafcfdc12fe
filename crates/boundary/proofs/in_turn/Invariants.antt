use mathlib.Core.Path.{◌≡◌}
use lib.ListN.{drop}
use Rattle.boundary.specs.Replies.{in_turn}
use Rattle.boundary.proofs.in_turn.Given as goal

abbrev pub invariant-loop-place : goal.invariant-loop-place
invariant-loop-place l = in_turn l.p l.f (drop l.place l.predicates) l.place ≡ in_turn l.p l.initial.f l.predicates 0
