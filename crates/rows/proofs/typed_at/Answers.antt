use Rattle.std.proofs.Common.{arith, ◌≡◌, ◌∙◌, ℕ, subst}
use Rattle.plan_data.specs.Nodes.{node_at}
use Rattle.rows_spec.proofs.TypingLaws.{Flags, flags_none, flags_next, flags_more}
use Rattle.rows.proofs.typed_at.Goals as goal

pub loop-i-init : goal.loop-i-init
loop-i-init c = flags_none _ _ _

pub loop-i-preserved : goal.loop-i-preserved
loop-i-preserved c =
    let p = c.args.p.now in
    flags_more p.columns.kind (node_at p) p.items.a c.loop-i.flags c.loop-i.i (omega arith) c.loop-i.invariant c.node_typed.result c.node_typed.ensures

pub returns : goal.returns
returns c =
    let p = c.args.p.now in
    let end : c.loop-i.i ≡ c.args.h = omega arith in
    c.node_typed-2.ensures
    ∙ flags_next p.columns.kind (node_at p) p.items.a c.loop-i.flags c.args.h
    (subst (λ (i : ℕ). Flags p.columns.kind (node_at p) p.items.a c.loop-i.flags i) end c.loop-i.invariant)
