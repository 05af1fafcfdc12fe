use Rattle.std.proofs.Common.{◌≡◌}
use Rattle.plan_identities.specs.Places.{filled}
use Rattle.plan_identities.specs.Identities.{rank_in}
use Rattle.plan_identities.proofs.ranks.Given as goal

abbrev pub invariant-loop-c : goal.invariant-loop-c
invariant-loop-c l = l.t ≡ filled (rank_in l.tables l.names l.n) l.c
