use Rattle.std.proofs.Common.{◌≡◌}
use Rattle.plan_identities.specs.Places.{filled}
use Rattle.plan_identities.specs.Identities.{table_of}
use Rattle.plan_identities.proofs.tables.Given as goal

abbrev pub invariant-loop-c : goal.invariant-loop-c
invariant-loop-c l = l.t ≡ filled (table_of l.p) l.c
