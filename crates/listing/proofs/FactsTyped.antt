-- What a program's facts are by their types: the numbers fit their widths and the literals are values of their kinds. Assumes nothing.
use Prim.Native.Nat.{ℕ, zero, suc}
use mathlib.Core.Bool.{Bool}
use mathlib.Core.List.{List, [], ◌∷◌}
use native.Mathlib.Omega.{arith}
use borrow.Author.Rules.{rules}
use denote.Array.{each}
use denote.Shadow.{shadow}
use denote.Struct.Declared.{row}
use lib.ListN.{get_or}
use mir.Syntax.{w8, w16}
use mir.Val.{Val, Fits}
use Rattle.scalar.specs.Scalars.{Typed}
use Rattle.scalar.specs.declared.ScalarValue.{ScalarValue}
use Rattle.scalar.specs.declared.ScalarValue.TheVariants as S
use Rattle.constraint_spec.specs.Sets.{none, literals, literal_at}
use Rattle.constraint_spec.specs.declared.Holder.{Holder}
use Rattle.constraint_spec.specs.declared.ConstraintSet.{ConstraintSet}
use Rattle.constraint_spec.specs.contracts.Holder as H
use Rattle.constraint_spec.specs.contracts.ConstraintSet as C
use Rattle.apply_spec.specs.declared.LogicalFacts.{LogicalFacts}
use Rattle.apply_spec.specs.contracts.LogicalFacts as L
use Rattle.listing.specs.Typed.{TypedFacts}

holder-typed : (b : Bool) (v : ScalarValue) (vs : List Val) → shadow ((H.the_row).own_val (record { present = b; value = v }) vs)
    → Typed v
holder-typed b (S.Null k) vs p = tt
holder-typed b (S.Boolean x) vs p = tt
holder-typed b (S.Int32 n) vs p = search rules
holder-typed b (S.Int64 n) vs p = search rules
holder-typed b (S.Float64 x) vs p = search rules
holder-typed b (S.Date32 n) vs p = search rules

each_typed : (xs : List Holder) (us : List Val) (i : ℕ)
    → shadow (each (H.the_row).Denot (H.the_row).own_val xs us) → Typed (get_or xs i none).value
each_typed [] us i p = tt
each_typed (x ∷ xs) [] i p = absurd p
each_typed (x ∷ xs) (u ∷ us) zero p = holder-typed x.present x.value (u ∷ []) p.0
each_typed (x ∷ xs) (u ∷ us) (suc i) p = each_typed xs us i p.1

set_typed : (s : ConstraintSet) (vs : List Val) → shadow ((row C.the_type).own_val s vs) → (i : ℕ) → Typed (literal_at s i).value
set_typed s vs p i = each_typed (literals s) p.1.1.1.1.0.0 i p.1.1.1.1.0.1.1

lineage-fits : (f : LogicalFacts) (vs : List Val) → shadow ((row L.the_type).own_val f vs) → (c : ℕ) → Fits w8 (get_or f.lineage c 0)
lineage-fits f vs p c = search rules

definitions-fit : (f : LogicalFacts) (vs : List Val) → shadow ((row L.the_type).own_val f vs) → (c : ℕ) → Fits w16 (get_or f.definitions c 0)
definitions-fit f vs p c = search rules

handles-fit : (f : LogicalFacts) (vs : List Val) → shadow ((row L.the_type).own_val f vs) → (k : ℕ) → Fits w16 (get_or f.constraints.residual_predicates k 0)
handles-fit f vs p k = search rules

-- whoever holds facts knows it
pub facts-typed : (f : LogicalFacts) (vs : List Val) → shadow ((row L.the_type).own_val f vs) → TypedFacts f
facts-typed f vs p = record {
  lineage = λ c. omega (arith, (lineage-fits f vs p c).fits);
  definitions = λ c. omega (arith, (definitions-fit f vs p c).fits);
  handles = λ k. omega (arith, (handles-fit f vs p k).fits);
  literals = set_typed f.constraints _ p.1.1.1.1.0;
}
