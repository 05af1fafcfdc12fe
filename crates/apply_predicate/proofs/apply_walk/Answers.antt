use mathlib.Core.Path.{refl, ap, ◌∙◌}
use native.Mathlib.Omega.{arith}
use mathlib.Core.List.{List}
use Prim.Native.Nat.{ℕ}
use Rattle.constraint_spec.specs.Sets.{done}
use Rattle.plan_data.specs.Nodes.{node_from}
use Rattle.apply_spec.specs.Apply.{conjunct_applied, all_applied}
use Rattle.apply_predicate.proofs.Walking.{some_more, refused_on, walk_done}
use Rattle.apply_predicate.proofs.apply_walk.Goals as goal

pub loop-walk-preserved : goal.loop-walk-preserved
loop-walk-preserved c =
    record {
      good = c.next_conjuncts-found.ensures.good;
      left =
          some_more c.args.exprs.now c.args.items.now.a c.args.lineage.now _ c.args.s.now c.loop-walk.walk _ c.loop-walk.s _ c.loop-walk.invariant.left
          c.next_conjuncts-found.ensures.to_come c.apply_handles.new.s
          (c.in_ok-apply_handles.ensures
          ∙ ap (λ (l : List ℕ). all_applied (conjunct_applied c.args.lineage.now (node_from c.args.exprs.now)) l (done c.loop-walk.s)) c.handles.ensures);
    }

pub returns-in_err-apply_handles : goal.returns-in_err-apply_handles
returns-in_err-apply_handles c =
    (λ i. record { constraints = c.apply_handles.new.s; refused = c.from_residual.ensures.0 i })
    ∙ refused_on c.args.exprs.now c.args.items.now.a c.args.lineage.now _ c.args.s.now c.loop-walk.walk _ c.loop-walk.s _ c.loop-walk.invariant.left
    c.next_conjuncts-found.ensures.to_come _ refl
    (c.in_err-apply_handles.ensures
    ∙ ap (λ (l : List ℕ). all_applied (conjunct_applied c.args.lineage.now (node_from c.args.exprs.now)) l (done c.loop-walk.s)) c.handles.ensures)

pub returns : goal.returns
returns c = walk_done c.args.exprs.now c.args.items.now.a c.args.lineage.now _ c.args.s.now c.loop-walk.walk _ c.loop-walk.invariant.left (omega arith)
