use native.Mathlib.Omega.{arith}
use Rattle.derive_logical_facts.proofs.Holding.{holds_last}
use Rattle.derive_logical_facts.proofs.derive_to.Goals as goal
use Rattle.derive_logical_facts.proofs.derive_to.Goals.{else-loop-k-test, then-loop-k-test+else-k-h}

pub returns : goal.returns
returns c = elim c.loop-k-test.branch [
  | else-loop-k-test w ↦ absurd (omega arith)
  | then-loop-k-test+else-k-h w ↦ holds_last c.args.p.now _ _ _ _ _ _ _ (omega arith) c.loop-k.invariant w.answer.ensures w.from.ensures (omega arith)
      c.from-2.ensures w.table-is
]
