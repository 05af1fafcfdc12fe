-- Kinds, and the kind of a scalar. Assumes nothing.
use Rattle.std.specs.Prelude.{Bool, true, false, cond, ℕ, eqb}
use Rattle.scalar.specs.declared.Kind.{Kind}
use Rattle.scalar.specs.declared.Kind.TheVariants as K
use Rattle.scalar.specs.declared.ScalarValue.{ScalarValue}
use Rattle.scalar.specs.declared.ScalarValue.TheVariants as S

-- a kind's code in the plan file
abbrev pub kind_code : Kind → ℕ
kind_code K.Boolean = 1
kind_code K.Int32 = 2
kind_code K.Int64 = 3
kind_code K.Float64 = 4
kind_code K.Date32 = 5

-- the kind of a code; a number that is no kind's code stands for Boolean
abbrev pub kind_of_code : ℕ → Kind
kind_of_code n = cond (eqb n 2) K.Int32 (cond (eqb n 3) K.Int64 (cond (eqb n 4) K.Float64 (cond (eqb n 5) K.Date32 K.Boolean)))

-- two kinds are the same
abbrev pub same_kind : Kind → Kind → Bool
same_kind k l = eqb (kind_code k) (kind_code l)

-- a scalar's kind; a Null's is the one that it carries
abbrev pub kind_of : ScalarValue → Kind
kind_of (S.Null k) = k
kind_of (S.Boolean b) = K.Boolean
kind_of (S.Int32 n) = K.Int32
kind_of (S.Int64 n) = K.Int64
kind_of (S.Float64 x) = K.Float64
kind_of (S.Date32 n) = K.Date32

abbrev pub is_null : ScalarValue → Bool
is_null (S.Null k) = true
is_null (S.Boolean b) = false
is_null (S.Int32 n) = false
is_null (S.Int64 n) = false
is_null (S.Float64 x) = false
is_null (S.Date32 n) = false
