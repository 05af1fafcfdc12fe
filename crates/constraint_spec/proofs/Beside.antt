-- Which operations leave the classes and the residuals as they are. Assumes nothing.
use mathlib.Core.Path.{◌≡◌, refl}
use mathlib.Core.Bool.{Bool, true, false, cond}
use Prim.Native.Nat.{ℕ}
use native.Mathlib.Omega.{arith}
use lib.Dec.{ltb}
use lib.ListN.{replicate}
use lib.Ieee.{Float}
use Rattle.laws.proofs.Bools.{cond_T_elim}
use Rattle.scalar.specs.Kinds.{is_null}
use Rattle.scalar.specs.declared.ScalarValue.{ScalarValue}
use Rattle.value_range.specs.declared.ValueRange.{ValueRange}
use Rattle.comparison.specs.Operators.{bounding}
use Rattle.comparison.specs.declared.BinaryOp.{BinaryOp}
use Rattle.constraint_spec.specs.Sets.{none, no_entry, classes_of, literal_at, non_null_at, entry_at, canonical_at, with_flag, with_non_nulls}
use Rattle.constraint_spec.specs.Sets.{with_literals, with_ranges, put_non_null, put_literal, put_range, lay_range, cross_check, move_non_null}
use Rattle.constraint_spec.specs.Sets.{move_literal, move_range, steps_to, non_nulls_moved, literals_moved, ranges_moved, normalized, add_non_null, add_literal}
use Rattle.constraint_spec.specs.Sets.{bounds_by, add_bound}
use Rattle.constraint_spec.specs.declared.ConstraintSet.{ConstraintSet}
use Rattle.constraint_spec.proofs.Steps.{steps-good}

pub record Beside (s t : ConstraintSet) : Type 0 where
  pub classes : classes_of t ≡ classes_of s
  pub handles : t.residual_predicates ≡ s.residual_predicates
  pub count : t.residuals ≡ s.residuals

pub beside_self : (s : ConstraintSet) → Beside s s
beside_self s = record { classes = refl; handles = refl; count = refl }

module _ (s t : ConstraintSet) (b : Beside s t) where
  pub beside_flag : (c : Bool) → Beside s (with_flag t c)
  beside_flag c = record { classes = b.classes; handles = b.handles; count = b.count }

  pub beside_null : (r : ℕ) → Beside s (put_non_null t r)
  unfolding put_non_null
  beside_null r = record { classes = b.classes; handles = b.handles; count = b.count }

  pub beside_literal : (r : ℕ) (l : ScalarValue) → Beside s (put_literal t r l)
  unfolding put_literal
  beside_literal r l = record { classes = b.classes; handles = b.handles; count = b.count }

  pub beside_lay : (r : ℕ) (n : ValueRange) → Beside s (lay_range t r n)
  unfolding lay_range
  beside_lay r n = record { classes = b.classes; handles = b.handles; count = b.count }

  pub beside_range : (r : ℕ) (n : ValueRange) → Beside s (put_range t r n)
  unfolding put_range lay_range
  beside_range r n = record { classes = b.classes; handles = b.handles; count = b.count }

  pub beside_check : Beside s (cross_check t)
  unfolding cross_check
  beside_check = record { classes = b.classes; handles = b.handles; count = b.count }

-- ---- the passes of normalize, after k identities and after all
module _ (s t : ConstraintSet) (b : Beside s t) where
  pub beside_nulls_to : (k : ℕ) → Beside s (steps_to (move_non_null t) k (with_non_nulls t (replicate 128 false)))
  beside_nulls_to k =
      steps-good (Beside s) (move_non_null t) k
      (λ i h u e. cond_T_elim (Beside s) (non_null_at t i) (put_non_null u (canonical_at t i)) u (λ c. beside_null s u e (canonical_at t i)) e)
      k (omega arith) (with_non_nulls t (replicate 128 false)) (record { classes = b.classes; handles = b.handles; count = b.count })

  pub beside_literals_to : (k : ℕ) → Beside s (steps_to (move_literal t) k (with_literals t (replicate 128 none)))
  beside_literals_to k =
      steps-good (Beside s) (move_literal t) k
      (λ i h u e. cond_T_elim (Beside s) (literal_at t i).present (put_literal u (canonical_at t i) (literal_at t i).value) u
      (λ c. beside_literal s u e (canonical_at t i) (literal_at t i).value) e)
      k (omega arith) (with_literals t (replicate 128 none)) (record { classes = b.classes; handles = b.handles; count = b.count })

  pub beside_ranges_to : (k : ℕ) → Beside s (steps_to (move_range t) k (with_ranges t (replicate 128 no_entry)))
  beside_ranges_to k =
      steps-good (Beside s) (move_range t) k
      (λ i h u e. cond_T_elim (Beside s) (entry_at t i).present (put_range u (canonical_at t i) (entry_at t i).range) u
      (λ c. beside_range s u e (canonical_at t i) (entry_at t i).range) e)
      k (omega arith) (with_ranges t (replicate 128 no_entry)) (record { classes = b.classes; handles = b.handles; count = b.count })

  pub beside_nulls : Beside s (non_nulls_moved t)
  unfolding non_nulls_moved
  beside_nulls = beside_nulls_to 128

  pub beside_literals : Beside s (literals_moved t)
  unfolding literals_moved
  beside_literals = beside_literals_to 128

  pub beside_ranges : Beside s (ranges_moved t)
  unfolding ranges_moved
  beside_ranges = beside_ranges_to 128

pub beside_normalized : (s t : ConstraintSet) → Beside s t → Beside s (normalized t)
unfolding normalized
beside_normalized s t b =
    let t1 = non_nulls_moved t in
    let t2 = literals_moved t1 in
    let b1 = beside_nulls s t b in
    let b2 = beside_literals s t1 b1 in
    beside_check s (ranges_moved t2) (beside_ranges s t2 b2)

-- ---- the operations on one identity
module _ (s : ConstraintSet) (i : ℕ) where
  pub add_non_null_beside : Beside s (add_non_null s i)
  unfolding add_non_null
  add_non_null_beside = cond_T_elim (Beside s) (ltb i 128) (put_non_null s (canonical_at s i)) s (λ t. beside_null s s (beside_self s) (canonical_at s i))
      (beside_self s)

  pub add_literal_beside : (l : ScalarValue) → Beside s (add_literal s i l)
  unfolding add_literal
  add_literal_beside l =
      let r = canonical_at s i in
      let s1 = put_non_null s r in
      let s2 = put_literal s1 r l in
      cond_T_elim (Beside s) (ltb i 128) (cond (is_null l) (with_flag s true) (cross_check s2)) s
      (λ t. cond_T_elim (Beside s) (is_null l) (with_flag s true) (cross_check s2) (λ n. beside_flag s s (beside_self s) true)
      (beside_check s s2 (beside_literal s s1 (beside_null s s (beside_self s) r) r l))) (beside_self s)

  pub add_bound_beside : (op : BinaryOp) (x : Float) → Beside s (add_bound s i op x)
  unfolding add_bound
  add_bound_beside op x =
      let r = canonical_at s i in
      let s1 = put_non_null s r in
      let b1 = beside_null s s (beside_self s) r in
      let n = bounds_by op x in
      cond_T_elim (Beside s) (ltb i 128) (cond (bounding op) (cross_check (put_range s1 r n)) (lay_range s1 r n)) s
      (λ t. cond_T_elim (Beside s) (bounding op) (cross_check (put_range s1 r n)) (lay_range s1 r n)
      (λ n. beside_check s (put_range s1 r (bounds_by op x)) (beside_range s s1 b1 r (bounds_by op x)))
      (beside_lay s s1 b1 r n)) (beside_self s)
