use Prim.Native.Nat.{◌<◌}
use native.Mathlib.Omega.{arith}
use borrow.Author.Rules.{rules}
use lib.ListN.{length-set}
use Rattle.value_classes.proofs.RootLaws.{root_below}
use Rattle.value_classes.proofs.MemberLaws.{firsts-again, nexts_again}
use Rattle.value_classes.proofs.ValueEquivalenceClasses.members.Goals as goal

pub loop-i-preserved : goal.loop-i-preserved
loop-i-preserved c =
    let v = c.loop-i.invariant in
    let e = c.canonical-root.ensures.value in
    let h : c.canonical-root.result < 128 = root_below _ 128 _ _ (search rules) e (omega arith) in (
      simp length-set v.0,
      simp length-set v.1,
      firsts-again c.args.self.now c.loop-i.i _ _ (omega arith) (omega arith) e h c.loop-i.first v.0 v.2,
      nexts_again c.args.self.now c.loop-i.i _ _ (omega arith) (omega arith) e h c.loop-i.first v.0
          c.loop-i.next v.1 v.2 v.3,
    )
