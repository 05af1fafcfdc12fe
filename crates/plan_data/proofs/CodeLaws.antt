-- Each operation comes back from its code. Assumes nothing.
use mathlib.Core.Path.{◌≡◌, refl}
use Rattle.plan_data.specs.Codes.{unary_op_code, unary_op_of, nary_op_code, nary_op_of}
use Rattle.plan_data.specs.declared.UnaryOp.{UnaryOp}
use Rattle.plan_data.specs.declared.UnaryOp.TheVariants.{Not, IsNull, IsNotNull, Negate}
use Rattle.plan_data.specs.declared.NaryOp.{NaryOp}
use Rattle.plan_data.specs.declared.NaryOp.TheVariants.{And, Or}

pub unary_back : (op : UnaryOp) → unary_op_of (unary_op_code op) ≡ op
unary_back Not = refl
unary_back IsNull = refl
unary_back IsNotNull = refl
unary_back Negate = refl

pub nary_back : (op : NaryOp) → nary_op_of (nary_op_code op) ≡ op
nary_back And = refl
nary_back Or = refl
