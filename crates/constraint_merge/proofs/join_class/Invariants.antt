use Rattle.std.proofs.Common.{◌≡◌, ◌-◌, true}
use Rattle.constraint_set.specs.Settled.{Settled}
use Rattle.constraint_merge.specs.Chained.{chained, join_chain}
use Rattle.constraint_merge.proofs.join_class.Given as goal

abbrev pub invariant-loop : goal.invariant-loop
invariant-loop l = (chained l.members l.root (128 - l.counter) l.member l.s ≡ join_chain l.members l.root l.fn.s) × (l.settled ≡ true → Settled l.s)
