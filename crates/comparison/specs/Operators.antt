-- The comparisons: their codes, which exchange with which, and what each is good for. Assumes nothing.
use Rattle.std.specs.Prelude.{Bool, true, false, cond, ℕ, eqb}
use Rattle.comparison.specs.declared.BinaryOp.{BinaryOp}
use Rattle.comparison.specs.declared.BinaryOp.TheVariants.{Eq, NotEq, Lt, LtEq, Gt, GtEq, IsNotDistinctFrom}

-- a comparison's code in the plan file
abbrev pub binary_op_code : BinaryOp → ℕ
binary_op_code Eq = 0
binary_op_code NotEq = 1
binary_op_code Lt = 2
binary_op_code LtEq = 3
binary_op_code Gt = 4
binary_op_code GtEq = 5
binary_op_code IsNotDistinctFrom = 6

-- the comparison of a code; a number that is no comparison's code stands for Eq
abbrev pub binary_op_of : ℕ → BinaryOp
binary_op_of n =
    cond (eqb n 1) NotEq
    (cond (eqb n 2) Lt (cond (eqb n 3) LtEq (cond (eqb n 4) Gt (cond (eqb n 5) GtEq (cond (eqb n 6) IsNotDistinctFrom Eq)))))

-- the comparison that says the same with its sides exchanged
abbrev pub reversed_op : BinaryOp → BinaryOp
reversed_op Eq = Eq
reversed_op NotEq = NotEq
reversed_op Lt = Gt
reversed_op LtEq = GtEq
reversed_op Gt = Lt
reversed_op GtEq = LtEq
reversed_op IsNotDistinctFrom = IsNotDistinctFrom

-- one of the six that a NULL on either side makes UNKNOWN
abbrev pub ordinary : BinaryOp → Bool
ordinary Eq = true
ordinary NotEq = true
ordinary Lt = true
ordinary LtEq = true
ordinary Gt = true
ordinary GtEq = true
ordinary IsNotDistinctFrom = false

-- one of the four by which a number on the right bounds what is on the left
abbrev pub bounding : BinaryOp → Bool
bounding Eq = false
bounding NotEq = false
bounding Lt = true
bounding LtEq = true
bounding Gt = true
bounding GtEq = true
bounding IsNotDistinctFrom = false
