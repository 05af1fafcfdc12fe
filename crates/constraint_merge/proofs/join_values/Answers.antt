use Rattle.constraint_set.proofs.Loops.{union_idle, union_made}
use Rattle.constraint_merge.specs.Joined.{values_joined}
use Rattle.constraint_merge.proofs.Uniting.{first-settled, joined-settled}
use Rattle.constraint_merge.proofs.join_values.Goals as goal

pub returns-then-settled-clause-settled : goal.returns-then-settled-clause-settled
returns-then-settled-clause-settled c g e = joined-settled c.args.s.now _ _ _ (g c.if-settled.true) c.union_settled.ensures

pub returns-then-not-union-clause-joined : goal.returns-then-not-union-clause-joined
unfolding values_joined
returns-then-not-union-clause-joined c = rw c.if-settled.false (union_idle c.args.s.now _ _ _ _ c.union.ensures c.if-not-union.true)

pub returns-clause-joined : goal.returns-clause-joined
unfolding values_joined
returns-clause-joined c = rw c.if-settled.false (union_made c.args.s.now _ _ _ _ c.union.ensures _ c.if-not-union.false c.normalize.ensures)

pub returns-clause-settled : goal.returns-clause-settled
returns-clause-settled c g = first-settled c.args.s.now _ _ _ c.parents_ok-in_order.ensures.whole c.parents_ok-in_order.ensures.value c.normalize.ensures
