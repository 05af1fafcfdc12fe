-- The list of an And or Or is the run that its record says. Assumes nothing.
use mathlib.Core.Path.{◌≡◌}
use Prim.Native.Nat.{ℕ}
use lib.Dec.{eqb}
use Rattle.laws.proofs.Bools.{cond_elim}
use Rattle.plan_kinds.specs.declared.Record.{Record}
use Rattle.plan_data.specs.Nodes.{expr_data, run_of}
use Rattle.plan_data.specs.declared.ExprData.{ExprData}
use Rattle.plan_data.specs.declared.ExprData.TheVariants.{Nary}
use Rattle.plan_data.specs.declared.NaryOp.{NaryOp}
use Rattle.plan_data.specs.declared.Run.{Run}
use Rattle.simplify_spec.specs.Shapes.{nary_shape, shape_of}

pub list_shape : (x : Record) (start : ℕ) (op : NaryOp) (r : Run) → Nary op r ≡ expr_data x start
    → nary_shape op (run_of start x.a) ≡ shape_of (expr_data x start)
unfolding expr_data
list_shape x start op r =
    let P : ExprData → Type 0 = λ d. Nary op r ≡ d → nary_shape op (run_of start x.a) ≡ shape_of d in
    let k = x.kind in
    cond_elim P (eqb k 0x20) _ _ (λ t e. cc)
    (λ t. cond_elim P (eqb k 0x21) _ _ (λ t e. cc)
    (λ t. cond_elim P (eqb k 0x22) _ _ (λ t e. cc)
    (λ t. cond_elim P (eqb k 0x23) _ _ (λ t e. cc) (λ t e. cc))))
