-- SQL's facts of rows and truth, by computing: comparisons of edge values, NULLs under Not, And and Or, and a predicate on a row. Assumes nothing.
use mathlib.Core.Path.{◌≡◌, refl}
use mathlib.Core.Bool.{true, false}
use mathlib.Core.List.{[], ◌∷◌}
use Prim.Native.Nat.{ℕ}
use lib.IntN.{pos, negsuc}
use lib.Ieee.{of_bits, eq, lt}
use Rattle.plan_kinds.specs.Rows.{row_of, line_of}
use Rattle.plan_kinds.specs.Records.{bits_ok}
use Rattle.truth.specs.Truth.{all_of, any_of, every}
use Rattle.comparison.specs.declared.BinaryOp.TheVariants.{Eq, NotEq, Lt, LtEq, Gt, GtEq, IsNotDistinctFrom}
use Rattle.scalar.specs.Coded.{scalar_of}
use Rattle.scalar.specs.declared.Kind.TheVariants as K
use Rattle.scalar.specs.declared.ScalarValue.{ScalarValue}
use Rattle.scalar.specs.declared.ScalarValue.TheVariants as S
use Rattle.plan_data.specs.Nodes.{expr_data, node_of}
use Rattle.plan_data.specs.declared.UnaryOp.TheVariants.{Not, IsNull, IsNotNull}
use Rattle.plan_data.specs.declared.NaryOp.TheVariants.{And, Or}
use Rattle.plan_data.specs.declared.ExprData.{ExprData}
use Rattle.rows_spec.specs.InOrder.{in_order}
use Rattle.rows_spec.specs.Compare.{compare_of}
use Rattle.rows_spec.specs.Values.{unary_of, nary_of, truths, value_in, values, value_at}
use Rattle.rows_spec.specs.Typing.{typings, typed_at}
use Rattle.rows_spec.specs.Cells.{cell_ok, listed_literal}

-- x = NULL and NULL = NULL are UNKNOWN; NULL IS NOT DISTINCT FROM NULL is TRUE, and FALSE with one NULL
pub null-equal : compare_of Eq (S.Null K.Int32) (S.Null K.Int32) ≡ 1
unfolding compare_of
null-equal = refl

pub null-less : compare_of LtEq (S.Int32 (pos 7)) (S.Null K.Int32) ≡ 1
unfolding compare_of
null-less = refl

pub null-not_distinct : compare_of IsNotDistinctFrom (S.Null K.Int32) (S.Null K.Int32) ≡ 2
unfolding compare_of
null-not_distinct = refl

pub null-and-seven : compare_of IsNotDistinctFrom (S.Null K.Int32) (S.Int32 (pos 7)) ≡ 0
unfolding compare_of
null-and-seven = refl

-- an Int32 5 and an Int64 5: UNKNOWN, and FALSE under IsNotDistinctFrom
pub fives_equal : compare_of Eq (S.Int32 (pos 5)) (S.Int64 (pos 5)) ≡ 1
unfolding compare_of
fives_equal = refl

pub fives_distinct : compare_of IsNotDistinctFrom (S.Int32 (pos 5)) (S.Int64 (pos 5)) ≡ 0
unfolding compare_of
fives_distinct = refl

-- FALSE is below TRUE, -1 below 0
pub false-less-true : compare_of Lt (S.Boolean false) (S.Boolean true) ≡ 2
unfolding compare_of
false-less-true = refl

pub negative_below : compare_of GtEq (S.Int64 (negsuc 0)) (S.Int64 (pos 0)) ≡ 0
unfolding compare_of
negative_below = refl

-- 0.0 and -0.0 are the same
abbrev zero : ScalarValue
zero = scalar_of 0x14 0 0

abbrev minus-zero : ScalarValue
minus-zero = scalar_of 0x14 0 0x8000_0000_0000_0000

pub zeros_equal : compare_of Eq zero minus-zero ≡ 2
unfolding compare_of of_bits eq
zeros_equal = refl

pub zeros-not_distinct : compare_of IsNotDistinctFrom zero minus-zero ≡ 2
unfolding compare_of of_bits eq
zeros-not_distinct = refl

pub zeros-ordered : compare_of Lt minus-zero zero ≡ 0
unfolding compare_of of_bits lt
zeros-ordered = refl

-- with a NaN only NotEq is TRUE, also with itself
abbrev not_a_number : ScalarValue
not_a_number = scalar_of 0x14 0 0x7ff8_0000_0000_0000

pub nan-equal : compare_of Eq not_a_number not_a_number ≡ 0
unfolding compare_of of_bits eq
nan-equal = refl

pub nan-apart : compare_of NotEq not_a_number zero ≡ 2
unfolding compare_of of_bits eq
nan-apart = refl

pub nan-at_most : compare_of LtEq not_a_number not_a_number ≡ 0
unfolding compare_of of_bits eq lt
nan-at_most = refl

pub nan-above : compare_of Gt not_a_number zero ≡ 0
unfolding compare_of of_bits lt
nan-above = refl

pub nan_distinct : compare_of IsNotDistinctFrom not_a_number not_a_number ≡ 0
unfolding compare_of of_bits eq
nan_distinct = refl

-- NOT UNKNOWN is UNKNOWN; NULL IS NULL is TRUE
pub not-unknown : unary_of Not (S.Null K.Boolean) ≡ S.Null K.Boolean
not-unknown = refl

pub null-is-null : unary_of IsNull (S.Null K.Date32) ≡ S.Boolean true
null-is-null = refl

pub null-is-not-null : unary_of IsNotNull (S.Null K.Date32) ≡ S.Boolean false
null-is-not-null = refl

-- the truths of three values: UNKNOWN, FALSE, TRUE
abbrev three : ℕ → ScalarValue
three e = value_in (S.Null K.Boolean ∷ S.Boolean false ∷ S.Boolean true ∷ []) e

-- an And goes on past an UNKNOWN, an Or too: UNKNOWN AND FALSE is FALSE, UNKNOWN OR TRUE is TRUE
pub and-goes-on : nary_of And (truths three (0 ∷ 1 ∷ [])) ≡ 0
unfolding truths all_of
and-goes-on = refl

pub or_goes-on : nary_of Or (truths three (0 ∷ 2 ∷ [])) ≡ 2
unfolding truths any_of
or_goes-on = refl

pub and-unknown : nary_of And (truths three (2 ∷ 0 ∷ [])) ≡ 1
unfolding truths all_of
and-unknown = refl

-- And of nothing is TRUE, Or of nothing FALSE
pub and-nothing : nary_of And (truths three []) ≡ 2
unfolding truths all_of
and-nothing = refl

pub or_nothing : nary_of Or (truths three []) ≡ 0
unfolding truths any_of
or_nothing = refl

-- a value of a row: NULL of any kind, or of the column's kind with its code and payload listed
pub null_anywhere : cell_ok 2 (record { case = 0x10; code = 5; bits = 0 }) ≡ true
unfolding cell_ok listed_literal row_of line_of bits_ok
null_anywhere = refl

pub int32_in_int32 : cell_ok 2 (record { case = 0x12; code = 0; bits = 4294967295 }) ≡ true
unfolding cell_ok listed_literal row_of line_of bits_ok
int32_in_int32 = refl

pub int64_in_int32 : cell_ok 2 (record { case = 0x13; code = 0; bits = 7 }) ≡ false
unfolding cell_ok listed_literal row_of line_of bits_ok
int64_in_int32 = refl

pub payload_too_long : cell_ok 2 (record { case = 0x12; code = 0; bits = 4294967296 }) ≡ false
unfolding cell_ok listed_literal row_of line_of bits_ok
payload_too_long = refl

pub no_boolean : cell_ok 1 (record { case = 0x11; code = 2; bits = 0 }) ≡ false
unfolding cell_ok listed_literal row_of line_of bits_ok
no_boolean = refl

pub no_literal : cell_ok 1 (record { case = 0x20; code = 0; bits = 0 }) ≡ false
unfolding cell_ok listed_literal row_of line_of bits_ok
no_literal = refl

-- the predicate x < 7 AND NOT b, on rows of an Int32 x and a Boolean b: nodes x, 7, x < 7, b, NOT b, And[2, 4]
abbrev predicate : ℕ → ExprData
predicate =
    node_of (0x20 ∷ 0x12 ∷ 0x22 ∷ 0x20 ∷ 0x21 ∷ 0x23 ∷ []) (0 ∷ 0 ∷ 2 ∷ 0 ∷ 0 ∷ 0 ∷ []) (0 ∷ 0 ∷ 0 ∷ 1 ∷ 3 ∷ 2 ∷ []) (0 ∷ 0 ∷ 1 ∷ []) (0 ∷ 7 ∷ []) []

abbrev on : ScalarValue → ScalarValue → ScalarValue
on x b = value_at (value_in (x ∷ b ∷ [])) predicate (2 ∷ 4 ∷ []) 5

pub seven-fails : on (S.Int32 (pos 7)) (S.Null K.Boolean) ≡ S.Boolean false
unfolding values in_order expr_data truths compare_of all_of
seven-fails = refl

pub six_unknown : on (S.Int32 (pos 6)) (S.Null K.Boolean) ≡ S.Null K.Boolean
unfolding values in_order expr_data truths compare_of all_of
six_unknown = refl

pub six_passes : on (S.Int32 (pos 6)) (S.Boolean false) ≡ S.Boolean true
unfolding values in_order expr_data truths compare_of all_of
six_passes = refl

pub is-typed : typed_at (2 ∷ 1 ∷ []) predicate (2 ∷ 4 ∷ []) 5 ≡ true
unfolding typings in_order expr_data every
is-typed = refl

-- with an Int32 b it is not
pub predicate-not-typed : typed_at (2 ∷ 2 ∷ []) predicate (2 ∷ 4 ∷ []) 5 ≡ false
unfolding typings in_order expr_data every
predicate-not-typed = refl
