-- SQL's comparisons of two values, as truth codes (0 FALSE, 1 UNKNOWN, 2 TRUE), and the truth of a value. Assumes nothing.
use Rattle.std.specs.Prelude.{Bool, true, false, not, cond, ◌&&◌, ◌||◌, ℕ}
use Rattle.truth.specs.Truth.{is_false_code, is_true_code}
use Rattle.comparison.specs.Operators.{ordinary}
use Rattle.comparison.specs.declared.BinaryOp.{BinaryOp}
use Rattle.comparison.specs.declared.BinaryOp.TheVariants.{Eq, NotEq, Lt, LtEq, Gt, GtEq, IsNotDistinctFrom}
use Rattle.scalar.specs.Kinds.{kind_of, is_null, same_kind}
use Rattle.scalar.specs.Scalars.{same_scalar, less_scalar}
use Rattle.scalar.specs.declared.Kind.TheVariants as K
use Rattle.scalar.specs.declared.ScalarValue.{ScalarValue}
use Rattle.scalar.specs.declared.ScalarValue.TheVariants as S

-- TRUE and FALSE of a test
abbrev pub known : Bool → ℕ
known b = cond b 2 0

-- two values of one kind, neither of them NULL; a NaN is neither the same as anything nor below it, so with one only NotEq holds
abbrev pub compared : BinaryOp → ScalarValue → ScalarValue → Bool
compared Eq v w = same_scalar v w
compared NotEq v w = not (same_scalar v w)
compared Lt v w = less_scalar v w
compared LtEq v w = less_scalar v w || same_scalar v w
compared Gt v w = less_scalar w v
compared GtEq v w = less_scalar w v || same_scalar v w
compared IsNotDistinctFrom v w = same_scalar v w

-- with a NULL an ordinary comparison is UNKNOWN, and IsNotDistinctFrom TRUE for two NULLs, FALSE for one;
-- with none, sides of different kinds compare UNKNOWN, and FALSE under IsNotDistinctFrom
unfoldable pub compare_of : BinaryOp → ScalarValue → ScalarValue → ℕ
compare_of op v w =
    cond (is_null v || is_null w)
    (cond (ordinary op) 1 (known (is_null v && is_null w)))
    (cond (same_kind (kind_of v) (kind_of w)) (known (compared op v w)) (cond (ordinary op) 1 0))

-- the truth of a value: what is no Boolean is UNKNOWN
abbrev pub truth_of : ScalarValue → ℕ
truth_of (S.Null k) = 1
truth_of (S.Boolean b) = known b
truth_of (S.Int32 n) = 1
truth_of (S.Int64 n) = 1
truth_of (S.Float64 x) = 1
truth_of (S.Date32 n) = 1

-- the value of a truth: UNKNOWN is the NULL of Boolean
abbrev pub of_truth : ℕ → ScalarValue
of_truth t = cond (is_false_code t) (S.Boolean false) (cond (is_true_code t) (S.Boolean true) (S.Null K.Boolean))
