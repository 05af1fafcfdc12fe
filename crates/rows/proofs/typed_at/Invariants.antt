use Rattle.plan_data.specs.Nodes.{node_at}
use Rattle.rows_spec.proofs.TypingLaws.{Flags}
use Rattle.rows.proofs.typed_at.Given as goal

abbrev pub invariant-loop-i : goal.invariant-loop-i
invariant-loop-i l = Flags l.p.columns.kind (node_at l.p) l.p.items.a l.flags l.i
