use Rattle.derive_logical_facts.specs.Table.{Holds}
use Rattle.derive_logical_facts.proofs.derive_to.Given as goal

abbrev pub invariant-loop-k : goal.invariant-loop-k
invariant-loop-k l = Holds l.p l.k l.table
