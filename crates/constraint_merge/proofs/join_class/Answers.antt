use Prim.Native.Nat.{◌<◌}
use mathlib.Core.Path.{sym, ◌∙◌}
use native.Mathlib.Omega.{arith}
use Rattle.constraint_merge.proofs.Merging.{chained-step}
use Rattle.constraint_merge.proofs.Uniting.{union-joined}
use Rattle.constraint_merge.proofs.join_class.Goals as goal

pub loop-preserved : goal.loop-preserved
loop-preserved c =
    let had = c.loop.invariant in
    let low : c.loop.member < 128 = omega (arith, c.if-member-ge-IDENTITIES.false) in
    let united = union-joined _ _ _ _ _ had.1 c.join_values-settled.ensures.joined in (
      rw c.from-member-in-loop.ensures (sym (chained-step _ _ 128 c.loop.counter _ _ _ c.loop-test.true low united) ∙ had.0),
      c.join_values-settled.ensures.settled had.1,
    )
