-- A node comes back from its record, where its literal holds a value of its type and its lists start where they are said to and have fewer than
-- 65,536 items. Assumes nothing.
use mathlib.Core.Path.{◌≡◌, refl, ap, ◌∙◌}
use Prim.Native.Nat.{ℕ, ◌+◌, ◌<◌}
use native.Mathlib.Nat.{mod-eq_of_lt}
use Rattle.comparison.proofs.OperatorLaws.{code-back}
use Rattle.scalar.specs.Scalars.{Typed}
use Rattle.scalar.specs.Coded.{case_code, code_of, bits_of, scalar_of}
use Rattle.scalar.specs.declared.ScalarValue.{ScalarValue}
use Rattle.scalar.specs.declared.ScalarValue.TheVariants as S
use Rattle.scalar.proofs.CodedLaws.{scalar_of-back}
use Rattle.plan_data.specs.Nodes.{run_of, count_in, expr_data, operator_data, record_of_expr, record_of_operator}
use Rattle.plan_data.specs.declared.Run.{Run}
use Rattle.plan_data.specs.declared.JoinType.TheVariants.{Inner, LeftSemi, LeftAnti, LeftOuter, Single, RightOuter, FullOuter, LeftMark}
use Rattle.plan_data.specs.declared.ExprData.{ExprData}
use Rattle.plan_data.specs.declared.ExprData.TheVariants.{Literal, ColumnRef, Unary, Binary, Nary}
use Rattle.plan_data.specs.declared.OperatorData.{OperatorData}
use Rattle.plan_data.specs.declared.OperatorData.TheVariants.{Scan, ConstScan, TableFunction, Selection, Projection, Rename, Map, Aggregation}
use Rattle.plan_data.specs.declared.OperatorData.TheVariants.{Sort, Limit, Output, CrossProduct, Join}
use Rattle.plan_data.proofs.CodeLaws.{unary_back, nary_back}

-- a run that starts at `start`, with a count of 16 bits
abbrev pub RunAt : ℕ → Run → Type 0
RunAt start r = (r.start ≡ start) × (r.count < 65536)

-- what a record can hold of an expression whose list starts at `start`
abbrev pub ExprAt : ℕ → ExprData → Type 0
ExprAt start (Literal v) = Typed v
ExprAt start (ColumnRef c) = Unit {0}
ExprAt start (Unary op e) = Unit {0}
ExprAt start (Binary op l r) = Unit {0}
ExprAt start (Nary op es) = RunAt start es

-- and of an operator whose lists start there
abbrev pub OperatorAt : ℕ → OperatorData → Type 0
OperatorAt start (Scan t cs) = RunAt start cs
OperatorAt start (ConstScan cs) = RunAt start cs
OperatorAt start (TableFunction cs) = RunAt start cs
OperatorAt start (Selection e i) = Unit {0}
OperatorAt start (Projection i cs) = RunAt start cs
OperatorAt start (Rename i ds) = RunAt start ds
OperatorAt start (Map i cs) = RunAt start cs
OperatorAt start (Aggregation i ks gs) = RunAt start ks × RunAt (start + ks.count) gs
OperatorAt start (Sort i ks) = RunAt start ks
OperatorAt start (Limit i) = Unit {0}
OperatorAt start (Output i) = Unit {0}
OperatorAt start (CrossProduct l r) = Unit {0}
OperatorAt start (Join t e l r) = Unit {0}

run-back : (start : ℕ) (r : Run) → RunAt start r → run_of start (count_in r) ≡ r
run-back start r h = λ i. record { start = sym-start i; count = mod-eq_of_lt h.1 i }
  where
    sym-start : start ≡ r.start
    sym-start = cc

-- an expression comes back from its record
pub expr-back : (start : ℕ) (e : ExprData) → ExprAt start e → expr_data (record_of_expr e) start ≡ e
unfolding expr_data
expr-back start (Literal v) h = literal v ∙ ap Literal (scalar_of-back v h)
  where
    literal : (v : ScalarValue) → expr_data (record_of_expr (Literal v)) start ≡ Literal (scalar_of (case_code v) (code_of v) (bits_of v))
    literal (S.Null k) = refl
    literal (S.Boolean b) = refl
    literal (S.Int32 n) = refl
    literal (S.Int64 n) = refl
    literal (S.Float64 x) = refl
    literal (S.Date32 n) = refl
expr-back start (ColumnRef c) h = refl
expr-back start (Unary op e) h = λ i. Unary (unary_back op i) e
expr-back start (Binary op l r) h = λ i. Binary (code-back op i) l r
expr-back start (Nary op es) h = λ i. Nary (nary_back op i) (run-back start es h i)

-- an operator comes back from its record
pub operator-back : (start : ℕ) (o : OperatorData) → OperatorAt start o → operator_data (record_of_operator o) start ≡ o
unfolding operator_data
operator-back start (Scan t cs) h = λ i. Scan t (run-back start cs h i)
operator-back start (ConstScan cs) h = λ i. ConstScan (run-back start cs h i)
operator-back start (TableFunction cs) h = λ i. TableFunction (run-back start cs h i)
operator-back start (Selection e i) h = refl
operator-back start (Projection o cs) h = λ i. Projection o (run-back start cs h i)
operator-back start (Rename o ds) h = λ i. Rename o (run-back start ds h i)
operator-back start (Map o cs) h = λ i. Map o (run-back start cs h i)
operator-back start (Aggregation o ks gs) h =
    λ i. Aggregation o (run-back start ks h.0 i) (more i)
  where
    more : run_of (start + count_in ks) (count_in gs) ≡ gs
    more = ap (λ (n : ℕ). run_of (start + n) (count_in gs)) (mod-eq_of_lt h.0.1) ∙ run-back (start + ks.count) gs h.1
operator-back start (Sort o ks) h = λ i. Sort o (run-back start ks h i)
operator-back start (Limit i) h = refl
operator-back start (Output i) h = refl
operator-back start (CrossProduct l r) h = refl
operator-back start (Join Inner e l r) h = refl
operator-back start (Join LeftSemi e l r) h = refl
operator-back start (Join LeftAnti e l r) h = refl
operator-back start (Join LeftOuter e l r) h = refl
operator-back start (Join Single e l r) h = refl
operator-back start (Join RightOuter e l r) h = refl
operator-back start (Join FullOuter e l r) h = refl
operator-back start (Join (LeftMark c) e l r) h = refl
