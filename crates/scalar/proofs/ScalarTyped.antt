-- What a scalar that the machine has holds is of its type: at a need, `search held` finds it for a parameter and for a field. Assumes nothing.
use mathlib.Core.List.{List}
use mir.Val.{Val}
use denote.Shadow.{shadow}
use denote.Enum.Declared.{row}
use borrow.Author.Rules.{rules}
use Rattle.scalar.specs.Scalars.{Typed}
use Rattle.scalar.specs.declared.ScalarValue.{ScalarValue}
use Rattle.scalar.specs.declared.ScalarValue.TheVariants as S
use Rattle.scalar.specs.contracts.ScalarValue.{the_type}

pub held : (v : ScalarValue) (vs : List Val) → shadow ((row the_type).own_val v vs) → Typed v
held (S.Null k) vs p = tt
held (S.Boolean b) vs p = tt
held (S.Int32 n) vs p = search rules
held (S.Int64 n) vs p = search rules
held (S.Float64 x) vs p = search rules
held (S.Date32 n) vs p = search rules
