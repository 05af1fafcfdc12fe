use borrow.Author.Rules.{rules}
use Prim.Native.Nat.{ℕ, ◌+◌}
use mathlib.Core.Path.{◌≡◌, sym, ◌∙◌}
use native.Mathlib.Omega.{arith}
use borrow.Author.Tests.{ltb-true}
use Rattle.laws.proofs.Bools.{and_left, and_right}
use lib.ListN.{length, set, take, length-set}
use Rattle.value_classes.specs.Parents.{root_of, each}
use Rattle.value_classes.proofs.RootLaws.{take-each-more}
use Rattle.value_classes.proofs.MemberLaws.{root-known}
use Rattle.value_classes.proofs.ValueEquivalenceClasses.roots.Goals as goal
use Rattle.value_classes.proofs.ValueEquivalenceClasses.roots.Goals.{then-in_order-parent, else-in_order-parent}

pub loop-i-preserved : goal.loop-i-preserved
loop-i-preserved c =
    let v = c.loop-i.invariant in
    let p = c.args.self.now.parents in
    let i = c.loop-i.i in
    let l = c.loop-i.of in
    let more : (x : ℕ) → x ≡ root_of p i → (length (set l i x) ≡ 128) × (take (i + 1) (set l i x) ≡ each (root_of p) (i + 1)) = λ x e.
    (length-set l i x ∙ v.0, take-each-more (root_of p) l i x (omega arith) e v.1) in
    elim c.if-in_order-parent.branch [
      | then-in_order-parent w ↦ (
          let both = w.if-in_order-parent.true in
          let ok = sym c.parents_ok-in_order.ensures.value ∙ and_left c.parents_ok-in_order.result _ both in
          let below = ltb-true _ _ (and_right c.parents_ok-in_order.result _ both) in
          rw w.of-is (more _ (root-known p l 128 i _ (search rules) ok c.from-parent.ensures below (omega arith) v.1)))
      | else-in_order-parent w ↦ rw w.of-is (more _ w.canonical.ensures.value)
    ]
