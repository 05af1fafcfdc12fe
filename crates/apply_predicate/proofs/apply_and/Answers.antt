use mathlib.Core.Path.{ap, ◌∙◌}
use mathlib.Core.List.{List}
use Prim.Native.Nat.{ℕ}
use native.Mathlib.Omega.{arith}
use Rattle.constraint_spec.specs.Sets.{done}
use Rattle.plan_data.specs.Nodes.{node_from}
use Rattle.apply_spec.specs.Apply.{conjunct_applied, all_applied}
use Rattle.apply_predicate.proofs.Walking.{found_all}
use Rattle.apply_predicate.proofs.apply_and.Goals as goal

pub returns-else-walk-gt0 : goal.returns-else-walk-gt0
returns-else-walk-gt0 c =
    found_all c.args.exprs.now c.args.items.now.a c.args.lineage.now c.args.e c.args.s.now c.walk_of-walk.result c.next_conjuncts-found.new.walk _
    c.walk_of-walk.ensures.whole c.next_conjuncts-found.ensures.to_come (omega arith) _
    (c.apply_handles.ensures
    ∙ ap (λ (l : List ℕ). all_applied (conjunct_applied c.args.lineage.now (node_from c.args.exprs.now)) l (done c.args.s.now)) c.handles.ensures)
