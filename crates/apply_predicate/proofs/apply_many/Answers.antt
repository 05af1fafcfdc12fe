use mathlib.Core.Path.{◌≡◌, ap, ◌∙◌}
use mathlib.Core.Bool.{true}
use mathlib.Core.List.{List}
use Prim.Native.Nat.{ℕ}
use borrow.Author.Rules.{rules}
use Rattle.constraint_spec.specs.Sets.{done}
use Rattle.plan_data.specs.Nodes.{node_from}
use Rattle.apply_spec.specs.Apply.{conjunct_applied, all_applied}
use Rattle.apply_predicate.proofs.Walking.{walked, thinned_all}
use Rattle.apply_predicate.proofs.apply_many.Goals as goal

pub returns-in-Some : goal.returns-in-Some
returns-in-Some c =
    thinned_all c.args.exprs.now c.args.items.now.a c.args.lineage.now c.args.e c.args.s.now _
    (c.is_ready.ensures.ready ((let ready : c.is_ready.result ≡ true = search rules in ready))) c.in-Some.ensures.thinned _
    (c.apply_handles.ensures
    ∙ ap (λ (l : List ℕ). all_applied (conjunct_applied c.args.lineage.now (node_from c.args.exprs.now)) l (done c.args.s.now)) c.kept.ensures)

pub returns : goal.returns
returns c =
    walked c.args.exprs.now c.args.items.now.a c.args.lineage.now c.args.e c.args.s.now c.walk_of.result c.walk_of.ensures.whole _ c.apply_walk.ensures
