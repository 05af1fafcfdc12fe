-- What a program's set is by its type: each list has an entry for each identity. Assumes nothing.
use mathlib.Core.List.{List}
use denote.Shadow.{shadow}
use denote.Struct.Declared.{row}
use mir.Val.{Val}
use Rattle.constraint_spec.specs.declared.ConstraintSet.{ConstraintSet}
use Rattle.constraint_spec.specs.contracts.ConstraintSet as C
use Rattle.constraint_set.proofs.SetLists.{classes-whole, literals-long, ranges_long_lem}
use Rattle.apply_conjuncts.proofs.Wides.{Wide}

pub set-wide : (s : ConstraintSet) (vs : List Val) → shadow ((row C.the_type).own_val s vs) → Wide s
set-wide s vs p = (classes-whole s vs p, (literals-long s vs p, ranges_long_lem s vs p))
