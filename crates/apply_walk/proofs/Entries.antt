-- The conjuncts of an expression: those of its operands where it is an And, and else itself. Assumes nothing.
use Prim.Native.Nat.{ℕ}
use mathlib.Core.Path.{◌≡◌, refl}
use mathlib.Core.Bool.{Bool, true, false, cond, ◌&&◌}
use mathlib.Core.List.{List, [], ◌∷◌}
use lib.Dec.{eqb}
use lib.ListN.{get_or, take, drop}
use borrow.Author.Tests.{eqb-true}
use Rattle.laws.proofs.Bools.{and_left, and_right}
use Rattle.scalar.specs.declared.ScalarValue.{ScalarValue}
use Rattle.comparison.specs.declared.BinaryOp.{BinaryOp}
use Rattle.plan.specs.declared.Column.{Column}
use Rattle.plan.specs.declared.Expr.{Expr}
use Rattle.plan_data.specs.Nodes.{expr_data, node_of}
use Rattle.plan_data.specs.declared.Run.{Run}
use Rattle.plan_data.specs.declared.UnaryOp.{UnaryOp}
use Rattle.plan_data.specs.declared.NaryOp.TheVariants.{And, Or}
use Rattle.plan_data.specs.declared.ExprData.TheVariants.{Literal, ColumnRef, Unary, Binary, Nary}
use Rattle.apply_spec.specs.Conjuncts.{joined_of, conjuncts_by}
use Rattle.apply_walk.specs.Walks.{is_and}

-- ---- an And, and any other expression
module _ (below : List (List ℕ)) (items : List ℕ) (h : ℕ) where
  -- by the tests of `expr_data`: only a list with the code of And has other conjuncts than itself
  itself : (b20 b21 b22 b23 and : Bool) (c : Column) (u : UnaryOp) (e l r : Expr) (op : BinaryOp) (run : Run) (v : ScalarValue) → (b23 && and) ≡ false
      → conjuncts_by below items h
      (cond b20 (ColumnRef c) (cond b21 (Unary u e) (cond b22 (Binary op l r) (cond b23 (Nary (cond and And Or) run) (Literal v))))) ≡ h ∷ []
  itself true b21 b22 b23 and c u e l r op run v lacks = refl
  itself false true b22 b23 and c u e l r op run v lacks = refl
  itself false false true b23 and c u e l r op run v lacks = refl
  itself false false false false and c u e l r op run v lacks = refl
  itself false false false true false c u e l r op run v lacks = refl
  itself false false false true true c u e l r op run v lacks = cc

  module _ (kind code a b bits start : List ℕ) where
    pub other-entry : is_and kind code h ≡ false → conjuncts_by below items h (node_of kind code a b bits start h) ≡ h ∷ []
    unfolding expr_data
    other-entry lacks =
        itself (eqb (get_or kind h 0) 0x20) (eqb (get_or kind h 0) 0x21) (eqb (get_or kind h 0) 0x22) (eqb (get_or kind h 0) 0x23) (eqb (get_or code h
        0) 0) _ _ _ _ _ _
        _ _ lacks

    pub and-entry : is_and kind code h ≡ true
        → conjuncts_by below items h (node_of kind code a b bits start h) ≡ joined_of below (take (get_or a h 0) (drop (get_or start h 0) items))
    unfolding expr_data
    and-entry has =
        rw (eqb-true (get_or kind h 0) 0x23 (and_left _ _ has), eqb-true (get_or code h 0) 0 (and_right (eqb (get_or kind h 0) 0x23) _ has))
