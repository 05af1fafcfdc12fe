-- Comparisons: what a NULL makes of them, NotEq is Not of Eq, a comparison with its sides exchanged says the same, and answers are codes.
-- Assumes nothing.
use mathlib.Core.Path.{◌≡◌, refl, sym, ap}
use mathlib.Core.Bool.{Bool, true, false, not, cond, ◌&&◌, ◌||◌}
use mathlib.Core.Bool as B
use Prim.Native.Nat.{ℕ, zero, suc, ◌<◌}
use native.Mathlib.Omega.{arith}
use lib.Dec.{eqb}
use borrow.Author.Tests.{eqb-true, eqb-false}
use Rattle.truth.specs.Truth.{not_t}
use Rattle.comparison.specs.Operators.{ordinary, reversed_op}
use Rattle.comparison.specs.declared.BinaryOp.{BinaryOp}
use Rattle.comparison.specs.declared.BinaryOp.TheVariants.{Eq, NotEq, Lt, LtEq, Gt, GtEq, IsNotDistinctFrom}
use Rattle.scalar.specs.Kinds.{kind_code, kind_of, is_null, same_kind}
use Rattle.scalar.specs.Scalars.{same_scalar, less_scalar}
use Rattle.scalar.specs.declared.Kind.{Kind}
use Rattle.scalar.specs.declared.ScalarValue.{ScalarValue}
use Rattle.scalar.specs.declared.ScalarValue.TheVariants as S
use Rattle.scalar.proofs.ScalarLaws.{same_comm}
use Rattle.rows_spec.specs.Compare.{known, compared, compare_of, truth_of, of_truth}

-- an ordinary comparison with a NULL is UNKNOWN
pub null-unknown : (op : BinaryOp) (v w : ScalarValue) → ordinary op ≡ true → (is_null v || is_null w) ≡ true → compare_of op v w ≡ 1
unfolding compare_of
null-unknown op v w o n = rw (n, o)

-- IsNotDistinctFrom is TRUE for two NULLs, of whatever kinds
pub nulls-alike : (k l : Kind) → compare_of IsNotDistinctFrom (S.Null k) (S.Null l) ≡ 2
unfolding compare_of
nulls-alike k l = refl

-- and FALSE for one
pub null_distinct : (v w : ScalarValue) → is_null v ≡ true → is_null w ≡ false → compare_of IsNotDistinctFrom v w ≡ 0
unfolding compare_of
null_distinct v w a b = rw (a, b)

-- with none, sides of different kinds are UNKNOWN, and FALSE under IsNotDistinctFrom
pub kinds-apart :
    (op : BinaryOp) (v w : ScalarValue) → is_null v ≡ false → is_null w ≡ false → same_kind (kind_of v) (kind_of w) ≡ false
    → compare_of op v w ≡ cond (ordinary op) 1 0
unfolding compare_of
kinds-apart op v w a b d = rw (a, b, d)

-- else a comparison is TRUE or FALSE
pub compare-known :
    (op : BinaryOp) (v w : ScalarValue) → is_null v ≡ false → is_null w ≡ false → same_kind (kind_of v) (kind_of w) ≡ true
    → compare_of op v w ≡ known (compared op v w)
unfolding compare_of
compare-known op v w a b s = rw (a, b, s)

known-code : (b : Bool) → known b < 3
known-code true = omega arith
known-code false = omega arith

-- a comparison's answer is a truth code
pub compare-code : (op : BinaryOp) (v w : ScalarValue) → compare_of op v w < 3
unfolding compare_of
compare-code op v w = go (is_null v || is_null w) (is_null v && is_null w) (same_kind (kind_of v) (kind_of w)) (ordinary op) (compared op v w)
  where
    go : (n m s o c : Bool) → cond n (cond o 1 (known m)) (cond s (known c) (cond o 1 0)) < 3
    go true m s true c = omega arith
    go true m s false c = known-code m
    go false m true o c = known-code c
    go false m false true c = omega arith
    go false m false false c = omega arith

not_known : (b : Bool) → known (not b) ≡ not_t (known b)
not_known true = refl
not_known false = refl

-- NotEq is Not of Eq
pub not_equal : (v w : ScalarValue) → compare_of NotEq v w ≡ not_t (compare_of Eq v w)
unfolding compare_of
not_equal v w = go (is_null v || is_null w) (same_kind (kind_of v) (kind_of w)) (same_scalar v w)
  where
    go : (n s c : Bool) → cond n 1 (cond s (known (not c)) 1) ≡ not_t (cond n 1 (cond s (known c) 1))
    go true s c = refl
    go false true c = not_known c
    go false false c = refl

eqb_comm : (m n : ℕ) → eqb m n ≡ eqb n m
eqb_comm m n = go (eqb m n) (eqb n m) refl refl
  where
    go : (a b : Bool) → eqb m n ≡ a → eqb n m ≡ b → a ≡ b
    go true true p q = refl
    go false false p q = refl
    go true false p q = absurd (eqb-false n m q (sym (eqb-true m n p)))
    go false true p q = absurd (eqb-false m n p (sym (eqb-true n m q)))

compared_reversed : (op : BinaryOp) (v w : ScalarValue) → compared (reversed_op op) w v ≡ compared op v w
compared_reversed Eq v w = same_comm w v
compared_reversed NotEq v w = ap not (same_comm w v)
compared_reversed Lt v w = refl
compared_reversed LtEq v w = ap (λ (b : Bool). less_scalar v w || b) (same_comm w v)
compared_reversed Gt v w = refl
compared_reversed GtEq v w = ap (λ (b : Bool). less_scalar w v || b) (same_comm w v)
compared_reversed IsNotDistinctFrom v w = same_comm w v

reversed_ordinary : (op : BinaryOp) → ordinary (reversed_op op) ≡ ordinary op
reversed_ordinary Eq = refl
reversed_ordinary NotEq = refl
reversed_ordinary Lt = refl
reversed_ordinary LtEq = refl
reversed_ordinary Gt = refl
reversed_ordinary GtEq = refl
reversed_ordinary IsNotDistinctFrom = refl

-- a comparison with its sides exchanged says the same
pub compare_reversed : (op : BinaryOp) (v w : ScalarValue) → compare_of (reversed_op op) w v ≡ compare_of op v w
unfolding compare_of
compare_reversed op v w =
    λ i.
    cond (B.or_comm (is_null w) (is_null v) i)
    (cond (reversed_ordinary op i) 1 (known (B.and_comm (is_null w) (is_null v) i)))
    (cond (eqb_comm (kind_code (kind_of w)) (kind_code (kind_of v)) i) (known (compared_reversed op v w i)) (cond (reversed_ordinary op i) 1 0))

-- a truth comes back from its value
pub truth_back : (t : ℕ) → t < 3 → truth_of (of_truth t) ≡ t
truth_back zero h = refl
truth_back (suc zero) h = refl
truth_back (suc (suc zero)) h = refl
truth_back (suc (suc (suc t))) h = absurd (omega arith)

pub truth_code : (v : ScalarValue) → truth_of v < 3
truth_code (S.Null k) = omega arith
truth_code (S.Boolean b) = known-code b
truth_code (S.Int32 n) = omega arith
truth_code (S.Int64 n) = omega arith
truth_code (S.Float64 x) = omega arith
truth_code (S.Date32 n) = omega arith
