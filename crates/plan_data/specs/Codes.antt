-- The codes of operations and joins in the plan file. Assumes nothing.
use Rattle.std.specs.Prelude.{cond, ℕ, eqb}
use Rattle.plan_data.specs.declared.UnaryOp.{UnaryOp}
use Rattle.plan_data.specs.declared.UnaryOp.TheVariants.{Not, IsNull, IsNotNull, Negate}
use Rattle.plan_data.specs.declared.NaryOp.{NaryOp}
use Rattle.plan_data.specs.declared.NaryOp.TheVariants.{And, Or}
use Rattle.plan_data.specs.declared.JoinType.{JoinType}
use Rattle.plan_data.specs.declared.JoinType.TheVariants.{Inner, LeftSemi, LeftAnti, LeftOuter, Single, RightOuter, FullOuter, LeftMark}

abbrev pub unary_op_code : UnaryOp → ℕ
unary_op_code Not = 0
unary_op_code IsNull = 1
unary_op_code IsNotNull = 2
unary_op_code Negate = 3

-- the operation of a code; a number that is no operation's code stands for Negate
abbrev pub unary_op_of : ℕ → UnaryOp
unary_op_of n = cond (eqb n 0) Not (cond (eqb n 1) IsNull (cond (eqb n 2) IsNotNull Negate))

abbrev pub nary_op_code : NaryOp → ℕ
nary_op_code And = 0
nary_op_code Or = 1

-- a number that is no code stands for Or
abbrev pub nary_op_of : ℕ → NaryOp
nary_op_of n = cond (eqb n 0) And Or

-- a LeftMark join has a kind of record of its own and no code: 0 stands there
abbrev pub join_type_code : JoinType → ℕ
join_type_code Inner = 0
join_type_code LeftSemi = 1
join_type_code LeftAnti = 2
join_type_code LeftOuter = 3
join_type_code Single = 4
join_type_code RightOuter = 5
join_type_code FullOuter = 6
join_type_code (LeftMark c) = 0

-- a number that is no code stands for FullOuter
abbrev pub join_type_of : ℕ → JoinType
join_type_of n =
    cond (eqb n 0) Inner
    (cond (eqb n 1) LeftSemi (cond (eqb n 2) LeftAnti (cond (eqb n 3) LeftOuter (cond (eqb n 4) Single (cond (eqb n 5) RightOuter FullOuter)))))

-- the kind of a join's record
abbrev pub kind_of_join : JoinType → ℕ
kind_of_join Inner = 0x3C
kind_of_join LeftSemi = 0x3C
kind_of_join LeftAnti = 0x3C
kind_of_join LeftOuter = 0x3C
kind_of_join Single = 0x3C
kind_of_join RightOuter = 0x3C
kind_of_join FullOuter = 0x3C
kind_of_join (LeftMark c) = 0x3D

-- the number of the column that a LeftMark join makes; other joins make none and get 0
abbrev pub marker_of : JoinType → ℕ
marker_of Inner = 0
marker_of LeftSemi = 0
marker_of LeftAnti = 0
marker_of LeftOuter = 0
marker_of Single = 0
marker_of RightOuter = 0
marker_of FullOuter = 0
marker_of (LeftMark c) = c.0
