use mathlib.Core.Path.{sym, ap, ◌∙◌}
use mathlib.Core.Bool.{not}
use Prim.Native.Nat.{ℕ}
use Rattle.constraint_spec.specs.Sets.{room_to}
use Rattle.constraint_merge.proofs.Merging.{handles-one, room-one, room-refused}
use Rattle.constraint_merge.proofs.merge_residuals.Goals as goal

pub returns-in_err-add_residual-clause-room : goal.returns-in_err-add_residual-clause-room
returns-in_err-add_residual-clause-room c =
    let none = room-refused c.args.other.now.residual_predicates c.args.s.now _ _ _ _ c.loop-handle-test.true c.loop-handle.invariant.0
    c.in_err-add_residual.ensures in
    c.from_residual.ensures.0 ∙ sym (ap (λ (n : ℕ). not (room_to c.args.s.now c.args.other.now.residual_predicates n)) (sym c.min-count.ensures) ∙ ap not none)

pub loop-handle-preserved : goal.loop-handle-preserved
loop-handle-preserved c =
    let v = c.loop-handle.invariant in
    let e = c.in_ok-add_residual.ensures in
    let h = c.loop-handle-test.true in
    let l = c.args.other.now.residual_predicates in
    (handles-one l c.args.s.now _ _ _ _ h v.0 e, room-one l c.args.s.now _ _ _ _ h v.0 v.1 e)
