use Rattle.std.proofs.Common.{ℕ, ◌≡◌, ◌-◌, get_or}
use Rattle.plan_rules.specs.Rules.{scans}
use Rattle.plan_identities.specs.Places.{first_from}
use Rattle.plan_identities.specs.Identities.{table_of}
use Rattle.plan_identities.proofs.table_of.Given as goal

abbrev pub invariant-loop-i : goal.invariant-loop-i
invariant-loop-i l = table_of l.p l.c ≡ first_from (scans l.p l.c) (λ (j : ℕ). get_or l.p.operators.a j 0) 65536 l.i (l.p.operators.count - l.i)
