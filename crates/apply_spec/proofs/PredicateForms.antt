-- What the rules say of each form of predicate, on every set and every handle. Assumes nothing.
use Prim.Native.Nat.{ℕ}
use mathlib.Core.Path.{◌≡◌, refl}
use mathlib.Core.Bool.{true, false}
use mathlib.Core.List.{[], ◌∷◌}
use Rattle.scalar.specs.declared.Kind.{Kind}
use Rattle.scalar.specs.declared.ScalarValue.TheVariants as S
use Rattle.comparison.specs.declared.BinaryOp.TheVariants.{Eq, NotEq, Lt, Gt, IsNotDistinctFrom}
use Rattle.constraint_spec.specs.Sets.{with_flag, union_values, add_non_null, add_range, add_residual, done}
use Rattle.constraint_spec.specs.declared.ConstraintSet.{ConstraintSet}
use Rattle.constraint_spec.specs.Answers.{Applied}
use Rattle.apply_spec.specs.Apply.{literal_applied, comparison_by, comparison_applied, range_applied, all_applied}
use Rattle.apply_spec.specs.declared.Seen.TheVariants.{Identity, Constant, Unseen}

module _ (s : ConstraintSet) (h : ℕ) where
  -- a literal true records nothing, false or Null sets the flag
  true-nothing : literal_applied s h (S.Boolean true) ≡ done s
  true-nothing = refl

  false-flag : literal_applied s h (S.Boolean false) ≡ done (with_flag s true)
  false-flag = refl

  null-flag : (k : Kind) → literal_applied s h (S.Null k) ≡ done (with_flag s true)
  null-flag k = refl

  -- x = y joins the classes and records non-null, x IS NOT DISTINCT FROM y joins them alone
  pair_equal : (i j : ℕ) → comparison_applied s h Eq (Identity i) (Identity j) ≡ done (add_non_null (union_values s i j) i)
  unfolding comparison_by
  pair_equal i j = refl

  pair_null_safe : (i j : ℕ) → comparison_applied s h IsNotDistinctFrom (Identity i) (Identity j) ≡ done (union_values s i j)
  unfolding comparison_by
  pair_null_safe i j = refl

  -- an ordinary comparison with a Null literal on either side sets the flag and records nothing more; a null-safe one is residual
  eq-null-right : (i : ℕ) (k : Kind) → comparison_applied s h Eq (Identity i) (Constant (S.Null k)) ≡ done (with_flag s true)
  unfolding comparison_by
  eq-null-right i k = refl

  gt_null-left : (k : Kind) → comparison_applied s h Gt (Constant (S.Null k)) Unseen ≡ done (with_flag s true)
  unfolding comparison_by
  gt_null-left k = refl

  null_safe : (k : Kind) → comparison_applied s h IsNotDistinctFrom (Constant (S.Null k)) Unseen ≡ add_residual s h
  unfolding comparison_by
  null_safe k = refl

  -- a literal that gives bounds under NotEq: on the right non-null and an entry without bounds are recorded too, on the left it is residual only
  unequal_right : (i : ℕ) (b : _) → comparison_applied s h NotEq (Identity i) (Constant (S.Int32 b)) ≡ range_applied h (add_range s i NotEq (S.Int32 b))
  unfolding comparison_by
  unequal_right i b = refl

  unequal_left : (i : ℕ) (b : _) → comparison_applied s h NotEq (Constant (S.Int32 b)) (Identity i) ≡ add_residual s h
  unfolding comparison_by
  unequal_left i b = refl

  -- 5 < x bounds x as x > 5 does
  turned_round : (i : ℕ) (v : _) → comparison_applied s h Lt (Constant (S.Int32 v)) (Identity i) ≡ range_applied h (add_range s i Gt (S.Int32 v))
  unfolding comparison_by
  turned_round i v = refl

-- And applies its operands in order, and goes on to the last, whatever the flag says
in_order_lem : (apply : ConstraintSet → ℕ → Applied) (s t : ConstraintSet) (g h : ℕ) → apply s g ≡ done t → all_applied apply (g ∷ h ∷ []) (done s) ≡ apply t h
unfolding all_applied
in_order_lem apply s t g h e = rw e
