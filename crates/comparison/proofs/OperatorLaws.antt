-- Codes and comparisons correspond, and exchanging the sides twice changes nothing. Assumes nothing.
use mathlib.Core.Path.{◌≡◌, refl}
use lib.Dec.{T}
use Rattle.comparison.specs.Operators.{binary_op_code, binary_op_of, reversed_op, ordinary, bounding}
use Rattle.comparison.specs.declared.BinaryOp.{BinaryOp}
use Rattle.comparison.specs.declared.BinaryOp.TheVariants.{Eq, NotEq, Lt, LtEq, Gt, GtEq, IsNotDistinctFrom}

-- the code of a comparison stands for it
pub code-back : (op : BinaryOp) → binary_op_of (binary_op_code op) ≡ op
code-back Eq = refl
code-back NotEq = refl
code-back Lt = refl
code-back LtEq = refl
code-back Gt = refl
code-back GtEq = refl
code-back IsNotDistinctFrom = refl

pub reversed_twice : (op : BinaryOp) → reversed_op (reversed_op op) ≡ op
reversed_twice Eq = refl
reversed_twice NotEq = refl
reversed_twice Lt = refl
reversed_twice LtEq = refl
reversed_twice Gt = refl
reversed_twice GtEq = refl
reversed_twice IsNotDistinctFrom = refl

pub reversed_bounding : (op : BinaryOp) → bounding (reversed_op op) ≡ bounding op
reversed_bounding Eq = refl
reversed_bounding NotEq = refl
reversed_bounding Lt = refl
reversed_bounding LtEq = refl
reversed_bounding Gt = refl
reversed_bounding GtEq = refl
reversed_bounding IsNotDistinctFrom = refl

pub bounding-ordinary : (op : BinaryOp) → T (bounding op) → T (ordinary op)
bounding-ordinary Eq t = tt
bounding-ordinary NotEq t = tt
bounding-ordinary Lt t = tt
bounding-ordinary LtEq t = tt
bounding-ordinary Gt t = tt
bounding-ordinary GtEq t = tt
bounding-ordinary IsNotDistinctFrom t = t
