use Rattle.constraint_set.proofs.Loops.{union_idle, union_made}
use Rattle.constraint_set.proofs.union_values.Goals as goal

pub returns-then-union : goal.returns-then-union
returns-then-union c = union_made c.args.s.now _ _ _ _ c.union.ensures _ c.if-union.true c.normalize.ensures

pub returns-else-union : goal.returns-else-union
returns-else-union c = union_idle c.args.s.now _ _ _ _ c.union.ensures c.if-union.false
