-- A set keeps the lengths of its lists when classes are joined. Assumes nothing.
use Prim.Native.Nat.{ℕ, ◌<◌}
use mathlib.Core.Path.{sym, subst, ◌∙◌}
use mathlib.Core.Bool.{Bool, true, false, cond}
use native.Mathlib.Omega.{arith}
use native.Mathlib.Decide.{ℕ_discrete}
use lib.ListN.{replicate, length-set, length-replicate}
use Rattle.laws.proofs.Bools.{cond_T_elim}
use Rattle.scalar.specs.declared.ScalarValue.{ScalarValue}
use Rattle.value_range.specs.declared.ValueRange.{ValueRange}
use Rattle.value_classes.specs.Classes.{Whole}
use Rattle.value_classes.proofs.ClassLaws.{joined-whole}
use Rattle.constraint_spec.specs.Sets.{none, no_entry, classes_of, literals, non_null_at, literal_at, entry_at, canonical_at, with_non_nulls, with_literals}
use Rattle.constraint_spec.specs.Sets.{with_ranges, put_non_null, put_literal, put_range, lay_range, cross_check, move_non_null, move_literal, move_range}
use Rattle.constraint_spec.specs.Sets.{non_nulls_moved, literals_moved, ranges_moved, normalized, union_values}
use Rattle.constraint_spec.specs.declared.Holder.{Holder}
use Rattle.constraint_spec.specs.declared.Entry.{Entry}
use Rattle.constraint_spec.specs.declared.ConstraintSet.{ConstraintSet}
use Rattle.constraint_spec.proofs.Beside.{beside_self, beside_normalized}
use Rattle.constraint_spec.proofs.Operations.{union_one, union_two}
use Rattle.constraint_spec.proofs.Steps.{steps-good}
use Rattle.apply_action.specs.Cells.{Long, with_cell}
use Rattle.apply_action.specs.declared.Cell.{Cell}

-- ---- the passes of normalize
module _ (t : ConstraintSet) (l : Long t) where
  null-long : (r : ℕ) → Long (put_non_null t r)
  unfolding put_non_null
  null-long r = l

  literal-long : (r : ℕ) (v : ScalarValue) → Long (put_literal t r v)
  unfolding put_literal
  literal-long r v = (length-set (literals t) r _ ∙ l.0, l.1)

  range-long : (r : ℕ) (n : ValueRange) → Long (put_range t r n)
  unfolding put_range lay_range
  range-long r n = (l.0, length-set t.ranges r _ ∙ l.1)

  check_long : Long (cross_check t)
  unfolding cross_check
  check_long = l

module _ (s : ConstraintSet) (l : Long s) where
  nulls-long : Long (non_nulls_moved s)
  unfolding non_nulls_moved
  nulls-long =
      steps-good Long (move_non_null s) 128 (λ i h u e. cond_T_elim Long (non_null_at s i) (put_non_null u (canonical_at s i)) u (λ c. null-long u e
      (canonical_at s i))
      e) 128 (omega arith) (with_non_nulls s (replicate 128 false)) l

  literals-long : Long (literals_moved s)
  unfolding literals_moved
  literals-long =
      steps-good Long (move_literal s) 128
      (λ i h u e. cond_T_elim Long (literal_at s i).present (put_literal u (canonical_at s i) (literal_at s i).value) u
      (λ c. literal-long u e (canonical_at s i) (literal_at s i).value) e)
      128 (omega arith) (with_literals s (replicate 128 none)) (length-replicate {A = Holder} 128 none, l.1)

  ranges_long_lem : Long (ranges_moved s)
  unfolding ranges_moved
  ranges_long_lem =
      steps-good Long (move_range s) 128
      (λ i h u e. cond_T_elim Long (entry_at s i).present (put_range u (canonical_at s i) (entry_at s i).range) u
      (λ c. range-long u e (canonical_at s i) (entry_at s i).range) e)
      128 (omega arith) (with_ranges s (replicate 128 no_entry)) (l.0, length-replicate {A = Entry} 128 no_entry)

normal_long : (s : ConstraintSet) → Long s → Long (normalized s)
unfolding normalized
normal_long s l = check_long _ (ranges_long_lem _ (literals-long _ (nulls-long s l)))

-- ---- with the classes
abbrev pub Wide : ConstraintSet → Type 0
Wide s = Whole (classes_of s) × Long s

pub union_wide : (s : ConstraintSet) (i j : ℕ) → i < 128 → j < 128 → Wide s → Wide (union_values s i j)
union_wide s i j hi hj w = elim (ℕ_discrete (canonical_at s i) (canonical_at s j)) [
  | yes e ↦ subst Wide (sym (union_one s i j hi hj e)) w
  | no d ↦ subst Wide (sym (union_two s i j hi hj d))
      (subst Whole (sym (beside_normalized _ _ (beside_self _)).classes) (joined-whole (classes_of s) i j w.0), normal_long _ w.1)
]

-- what is written at one place, with or without a check of all
pub cell-wide : (s : ConstraintSet) → Wide s → (r : ℕ) (c : Cell) (b : Bool) → Wide (cond b (cross_check (with_cell s r c)) (with_cell s r c))
unfolding with_cell cross_check
cell-wide s w r c true = (w.0, (length-set (literals s) r c.literal ∙ w.1.0, length-set s.ranges r c.entry ∙ w.1.1))
cell-wide s w r c false = (w.0, (length-set (literals s) r c.literal ∙ w.1.0, length-set s.ranges r c.entry ∙ w.1.1))
