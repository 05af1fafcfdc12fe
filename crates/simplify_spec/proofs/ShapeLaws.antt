-- What a shape says of its node. Assumes nothing.
use mathlib.Core.Path.{◌≡◌, refl, ap}
use mathlib.Core.Bool.{Bool, true, false}
use Prim.Native.Nat.{ℕ, suc}
use native.Mathlib.Omega.{arith}
use Rattle.comparison.specs.declared.BinaryOp.{BinaryOp}
use Rattle.scalar.specs.declared.ScalarValue.{ScalarValue}
use Rattle.scalar.specs.declared.ScalarValue.TheVariants as S
use Rattle.plan.specs.declared.Expr.{Expr}
use Rattle.plan_data.specs.Nodes.{run_of}
use Rattle.plan_data.specs.declared.UnaryOp.TheVariants as U
use Rattle.plan_data.specs.declared.NaryOp.TheVariants as N
use Rattle.plan_data.specs.declared.ExprData.{ExprData}
use Rattle.plan_data.specs.declared.ExprData.TheVariants.{Literal, ColumnRef, Unary, Binary, Nary}
use Rattle.simplify_spec.specs.Shapes.{literal_shape, shape_of, is_literal, nary_op_for}
use Rattle.simplify_spec.specs.declared.Shape.{Shape}
use Rattle.simplify_spec.specs.declared.Shape.TheVariants.{Boolean, Not, Compare, And, Or, Other}

-- a number for each shape, to tell them apart
abbrev tag : Shape → ℕ
tag (Boolean b) = 0
tag (Not e) = 1
tag (Compare op l r) = 2
tag (And start count) = 3
tag (Or start count) = 4
tag Other = 5

boolean_of : (v : ScalarValue) (b : Bool) → literal_shape v ≡ Boolean b → v ≡ S.Boolean b
boolean_of (S.Null k) b e = absurd (omega (arith, ap tag e))
boolean_of (S.Boolean c) b e = cc
boolean_of (S.Int32 n) b e = absurd (omega (arith, ap tag e))
boolean_of (S.Int64 n) b e = absurd (omega (arith, ap tag e))
boolean_of (S.Float64 x) b e = absurd (omega (arith, ap tag e))
boolean_of (S.Date32 n) b e = absurd (omega (arith, ap tag e))

literal-tag : (v : ScalarValue) (n : ℕ) → tag (literal_shape v) ≡ suc n → n ≡ 4
literal-tag (S.Null k) n e = omega arith
literal-tag (S.Boolean c) n e = absurd (omega arith)
literal-tag (S.Int32 i) n e = omega arith
literal-tag (S.Int64 i) n e = omega arith
literal-tag (S.Float64 x) n e = omega arith
literal-tag (S.Date32 i) n e = omega arith

pub boolean_of-shape : (d : ExprData) (b : Bool) → shape_of d ≡ Boolean b → d ≡ Literal (S.Boolean b)
boolean_of-shape (Literal v) b e = ap Literal (boolean_of v b e)
boolean_of-shape (ColumnRef c) b e = absurd (omega (arith, ap tag e))
boolean_of-shape (Unary U.Not x) b e = absurd (omega (arith, ap tag e))
boolean_of-shape (Unary U.IsNull x) b e = absurd (omega (arith, ap tag e))
boolean_of-shape (Unary U.IsNotNull x) b e = absurd (omega (arith, ap tag e))
boolean_of-shape (Unary U.Negate x) b e = absurd (omega (arith, ap tag e))
boolean_of-shape (Binary op l r) b e = absurd (omega (arith, ap tag e))
boolean_of-shape (Nary N.And es) b e = absurd (omega (arith, ap tag e))
boolean_of-shape (Nary N.Or es) b e = absurd (omega (arith, ap tag e))

pub not-of-shape : (d : ExprData) (a : Expr) → shape_of d ≡ Not a → d ≡ Unary U.Not a
not-of-shape (Literal v) a e = absurd (omega (arith, literal-tag v 0 (ap tag e)))
not-of-shape (ColumnRef c) a e = absurd (omega (arith, ap tag e))
not-of-shape (Unary U.Not x) a e = cc
not-of-shape (Unary U.IsNull x) a e = absurd (omega (arith, ap tag e))
not-of-shape (Unary U.IsNotNull x) a e = absurd (omega (arith, ap tag e))
not-of-shape (Unary U.Negate x) a e = absurd (omega (arith, ap tag e))
not-of-shape (Binary op l r) a e = absurd (omega (arith, ap tag e))
not-of-shape (Nary N.And es) a e = absurd (omega (arith, ap tag e))
not-of-shape (Nary N.Or es) a e = absurd (omega (arith, ap tag e))

pub compare-of-shape : (d : ExprData) (op : BinaryOp) (l r : Expr) → shape_of d ≡ Compare op l r → d ≡ Binary op l r
compare-of-shape (Literal v) op l r e = absurd (omega (arith, literal-tag v 1 (ap tag e)))
compare-of-shape (ColumnRef c) op l r e = absurd (omega (arith, ap tag e))
compare-of-shape (Unary U.Not x) op l r e = absurd (omega (arith, ap tag e))
compare-of-shape (Unary U.IsNull x) op l r e = absurd (omega (arith, ap tag e))
compare-of-shape (Unary U.IsNotNull x) op l r e = absurd (omega (arith, ap tag e))
compare-of-shape (Unary U.Negate x) op l r e = absurd (omega (arith, ap tag e))
compare-of-shape (Binary op2 l2 r2) op l r e = cc
compare-of-shape (Nary N.And es) op l r e = absurd (omega (arith, ap tag e))
compare-of-shape (Nary N.Or es) op l r e = absurd (omega (arith, ap tag e))

-- And and Or alike
abbrev pub nary_shape_of : Bool → ℕ → ℕ → Shape
nary_shape_of true start count = And start count
nary_shape_of false start count = Or start count

pub nary_of-shape : (d : ExprData) (all : Bool) (start count : ℕ) → shape_of d ≡ nary_shape_of all start count → d ≡ Nary (nary_op_for all) (run_of start count)
nary_of-shape (Literal v) true start count e = absurd (omega (arith, literal-tag v 2 (ap tag e)))
nary_of-shape (ColumnRef c) true start count e = absurd (omega (arith, ap tag e))
nary_of-shape (Unary U.Not x) true start count e = absurd (omega (arith, ap tag e))
nary_of-shape (Unary U.IsNull x) true start count e = absurd (omega (arith, ap tag e))
nary_of-shape (Unary U.IsNotNull x) true start count e = absurd (omega (arith, ap tag e))
nary_of-shape (Unary U.Negate x) true start count e = absurd (omega (arith, ap tag e))
nary_of-shape (Binary op l r) true start count e = absurd (omega (arith, ap tag e))
nary_of-shape (Nary N.And es) true start count e =
    let s : es.start ≡ start = cc in
    let n : es.count ≡ count = cc in
    λ i. Nary N.And (record { start = s i; count = n i })
nary_of-shape (Nary N.Or es) true start count e = absurd (omega (arith, ap tag e))
nary_of-shape (Literal v) false start count e = absurd (omega (arith, literal-tag v 3 (ap tag e)))
nary_of-shape (ColumnRef c) false start count e = absurd (omega (arith, ap tag e))
nary_of-shape (Unary U.Not x) false start count e = absurd (omega (arith, ap tag e))
nary_of-shape (Unary U.IsNull x) false start count e = absurd (omega (arith, ap tag e))
nary_of-shape (Unary U.IsNotNull x) false start count e = absurd (omega (arith, ap tag e))
nary_of-shape (Unary U.Negate x) false start count e = absurd (omega (arith, ap tag e))
nary_of-shape (Binary op l r) false start count e = absurd (omega (arith, ap tag e))
nary_of-shape (Nary N.And es) false start count e = absurd (omega (arith, ap tag e))
nary_of-shape (Nary N.Or es) false start count e =
    let s : es.start ≡ start = cc in
    let n : es.count ≡ count = cc in
    λ i. Nary N.Or (record { start = s i; count = n i })

-- a literal
pub literal-shape : (b : Bool) (x : Shape) → is_literal b x ≡ true → x ≡ Boolean b
literal-shape true (Boolean c) e = ap Boolean e
literal-shape false (Boolean true) e = let z : ◌≡◌ {A = ℕ} 0 1 = cc in absurd (omega arith)
literal-shape false (Boolean false) e = refl
literal-shape b (Not a) e = let z : ◌≡◌ {A = ℕ} 0 1 = cc in absurd (omega arith)
literal-shape b (Compare op l r) e = let z : ◌≡◌ {A = ℕ} 0 1 = cc in absurd (omega arith)
literal-shape b (And start count) e = let z : ◌≡◌ {A = ℕ} 0 1 = cc in absurd (omega arith)
literal-shape b (Or start count) e = let z : ◌≡◌ {A = ℕ} 0 1 = cc in absurd (omega arith)
literal-shape b Other e = let z : ◌≡◌ {A = ℕ} 0 1 = cc in absurd (omega arith)

pub literal-of-shape : (d : ExprData) (b : Bool) → is_literal b (shape_of d) ≡ true → d ≡ Literal (S.Boolean b)
literal-of-shape d b e = boolean_of-shape d b (literal-shape b (shape_of d) e)
