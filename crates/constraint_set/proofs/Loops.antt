-- One turn of each loop, on plain values. Assumes nothing.
use mathlib.Core.Path.{◌≡◌, refl, sym, ap, ◌∙◌}
use mathlib.Core.Bool.{Bool, true, false, cond}
use mathlib.Core.List.{List}
use Prim.Native.Nat.{ℕ, ◌+◌, ◌<◌}
use borrow.Author.Tests.{lt-ltb}
use lib.ListN.{get_or, set, replicate}
use Rattle.scalar.specs.Kinds.{is_null}
use Rattle.scalar.specs.declared.ScalarValue.{ScalarValue}
use Rattle.constraint_spec.specs.Sets.{classes_of, cross_check, none, no_entry, non_nulls, non_null_at, literal_at}
use Rattle.constraint_spec.specs.Sets.{entry_at, canonical_at, with_non_nulls, with_literals, with_ranges, put_non_null}
use Rattle.constraint_spec.specs.Sets.{put_literal, put_range, steps_to, move_non_null, move_literal, move_range, non_nulls_moved, literals_moved}
use Rattle.constraint_spec.specs.Sets.{ranges_moved, with_classes, union_by, normalized, union_values, add_literal, merge_literal, merge_literals}
use Rattle.constraint_spec.specs.declared.Holder.{Holder}
use Rattle.constraint_spec.specs.declared.ConstraintSet.{ConstraintSet}
use Rattle.constraint_spec.proofs.Steps.{steps_next}
use Rattle.constraint_spec.proofs.Beside.{beside_self, beside_nulls_to, beside_literals_to, beside_ranges_to}
use Rattle.value_classes.specs.Answers.{United, united}
use Rattle.value_classes.specs.Classes.{canonical_of, union_of}
use Rattle.value_classes.proofs.Unions.{union_kept}
use Rattle.value_classes.specs.declared.ValueEquivalenceClasses.{ValueEquivalenceClasses}

-- what the code of `add_literal` comes to
module _ (s : ConstraintSet) (i : ℕ) (h : i < 128) (r : ℕ) (d : r ≡ canonical_at s i) where
  pub literal-added : (l : ScalarValue) (u q : ConstraintSet) → is_null l ≡ false → u ≡ put_literal (put_non_null s r) r l → q ≡ cross_check u → q ≡
      add_literal s i l
  unfolding add_literal
  literal-added l u q n eu eq = rw (lt-ltb _ _ h, n, ← d) (eq ∙ ap cross_check eu)

-- ---- the passes of normalize after i identities
unfoldable pub nulls_after : ConstraintSet → ℕ → ConstraintSet
nulls_after s i = steps_to (move_non_null s) i (with_non_nulls s (replicate 128 false))

unfoldable pub literals_after : ConstraintSet → ℕ → ConstraintSet
literals_after s i = steps_to (move_literal s) i (with_literals s (replicate 128 none))

unfoldable pub ranges_after : ConstraintSet → ℕ → ConstraintSet
ranges_after s i = steps_to (move_range s) i (with_ranges s (replicate 128 no_entry))

pub nulls-none : (s : ConstraintSet) → with_non_nulls s (replicate 128 false) ≡ nulls_after s 0
unfolding nulls_after steps_to
nulls-none s = refl

pub literals-none : (s : ConstraintSet) → with_literals s (replicate 128 none) ≡ literals_after s 0
unfolding literals_after steps_to
literals-none s = refl

pub ranges_none : (s : ConstraintSet) → with_ranges s (replicate 128 no_entry) ≡ ranges_after s 0
unfolding ranges_after steps_to
ranges_none s = refl

-- a pass changes no class
nulls-classes : (s : ConstraintSet) (i : ℕ) → classes_of (nulls_after s i) ≡ classes_of s
unfolding nulls_after
nulls-classes s i = (beside_nulls_to s s (beside_self s) i).classes

literals-classes : (s : ConstraintSet) (i : ℕ) → classes_of (literals_after s i) ≡ classes_of s
unfolding literals_after
literals-classes s i = (beside_literals_to s s (beside_self s) i).classes

ranges_classes : (s : ConstraintSet) (i : ℕ) → classes_of (ranges_after s i) ≡ classes_of s
unfolding ranges_after
ranges_classes s i = (beside_ranges_to s s (beside_self s) i).classes

same-root : (s t u : ConstraintSet) (i r : ℕ) → t ≡ u → classes_of u ≡ classes_of s → r ≡ canonical_at t i → r ≡ canonical_at s i
same-root s t u i r e k d = d ∙ ap (λ (c : ValueEquivalenceClasses). canonical_of c i) (ap classes_of e ∙ k)

module _ (s t : ConstraintSet) (i : ℕ) where
  pub null-moved : (r : ℕ) → t ≡ nulls_after s i → non_null_at s i ≡ true → r ≡ canonical_at t i → with_non_nulls t (set (non_nulls t) r true) ≡
      nulls_after s (i + 1)
  unfolding nulls_after put_non_null
  null-moved r v e d = go (same-root s t (nulls_after s i) i r v (nulls-classes s i) d)
    where
      go : r ≡ canonical_at s i → with_non_nulls t (set (non_nulls t) r true) ≡ nulls_after s (i + 1)
      go f = steps_next (move_non_null s) _ i t _ v (rw (e, ← f))

  pub null-idle : t ≡ nulls_after s i → non_null_at s i ≡ false → t ≡ nulls_after s (i + 1)
  unfolding nulls_after
  null-idle v e = steps_next (move_non_null s) _ i t t v (rw e)

  pub literal-moved : (r : ℕ) (u : ConstraintSet) → t ≡ literals_after s i → (literal_at s i).present ≡ true → r ≡ canonical_at t i
      → u ≡ put_literal t r (literal_at s i).value → u ≡ literals_after s (i + 1)
  unfolding literals_after
  literal-moved r u v e d p = go (same-root s t (literals_after s i) i r v (literals-classes s i) d)
    where
      go : r ≡ canonical_at s i → u ≡ literals_after s (i + 1)
      go f = steps_next (move_literal s) _ i t _ v (rw (e, ← f) p)

  pub literal-idle : t ≡ literals_after s i → (literal_at s i).present ≡ false → t ≡ literals_after s (i + 1)
  unfolding literals_after
  literal-idle v e = steps_next (move_literal s) _ i t t v (rw e)

  pub range_moved : (r : ℕ) (u : ConstraintSet) → t ≡ ranges_after s i → (entry_at s i).present ≡ true → r ≡ canonical_at t i
      → u ≡ put_range t r (entry_at s i).range → u ≡ ranges_after s (i + 1)
  unfolding ranges_after
  range_moved r u v e d p = go (same-root s t (ranges_after s i) i r v (ranges_classes s i) d)
    where
      go : r ≡ canonical_at s i → u ≡ ranges_after s (i + 1)
      go f = steps_next (move_range s) _ i t _ v (rw (e, ← f) p)

  pub range-idle : t ≡ ranges_after s i → (entry_at s i).present ≡ false → t ≡ ranges_after s (i + 1)
  unfolding ranges_after
  range-idle v e = steps_next (move_range s) _ i t t v (rw e)

pub nulls-done : (s : ConstraintSet) (i : ℕ) → i ≡ 128 → nulls_after s i ≡ non_nulls_moved s
unfolding nulls_after non_nulls_moved
nulls-done s i e = rw e

pub literals-done : (s : ConstraintSet) (i : ℕ) → i ≡ 128 → literals_after s i ≡ literals_moved s
unfolding literals_after literals_moved
literals-done s i e = rw e

pub ranges_done : (s : ConstraintSet) (i : ℕ) → i ≡ 128 → ranges_after s i ≡ ranges_moved s
unfolding ranges_after ranges_moved
ranges_done s i e = rw e

-- ---- the literals of another set laid into s, those of the first i identities
unfoldable pub literals_laid : List Holder → ConstraintSet → ℕ → ConstraintSet
literals_laid l s i = steps_to (merge_literal l) i s

pub laid-none : (l : List Holder) (s : ConstraintSet) → s ≡ literals_laid l s 0
unfolding literals_laid steps_to
laid-none l s = refl

module _ (l : List Holder) (s t : ConstraintSet) (i : ℕ) where
  pub laid-one : (u : ConstraintSet) → t ≡ literals_laid l s i → (get_or l i none).present ≡ true → u ≡ add_literal t i (get_or l i none).value
      → u ≡ literals_laid l s (i + 1)
  unfolding literals_laid
  laid-one u v e d = steps_next (merge_literal l) s i t u v (rw e d)

  pub laid-idle : t ≡ literals_laid l s i → (get_or l i none).present ≡ false → t ≡ literals_laid l s (i + 1)
  unfolding literals_laid
  laid-idle v e = steps_next (merge_literal l) s i t t v (rw e)

pub laid-done : (l : List Holder) (s : ConstraintSet) (i : ℕ) → i ≡ 128 → literals_laid l s i ≡ merge_literals s l
unfolding literals_laid merge_literals
laid-done l s i e = rw e

-- ---- a union that joins nothing, and one that joins
module _ (s : ConstraintSet) (l r : ℕ) (k : ValueEquivalenceClasses) (b : Bool) (e : united k b ≡ union_of (classes_of s) l r) where
  joins : cond b (normalized (with_classes s k)) s ≡ union_values s l r
  unfolding union_values
  joins = ap (λ (u : United). union_by s u) e

  pub union_idle : b ≡ false → with_classes s k ≡ union_values s l r
  union_idle f =
      ap (λ (c : ValueEquivalenceClasses). with_classes s c) (union_kept (classes_of s) l r k b e f)
      ∙ ap (λ (x : Bool). cond x (normalized (with_classes s k)) s) (sym f) ∙ joins

  pub union_made : (u : ConstraintSet) → b ≡ true → u ≡ normalized (with_classes s k) → u ≡ union_values s l r
  union_made u f d = d ∙ ap (λ (x : Bool). cond x (normalized (with_classes s k)) s) (sym f) ∙ joins

-- what the loops of the three passes need
pub ruleset null_loop = (nulls-none, null-moved, null-idle, nulls-done)

pub ruleset literal_loop = (literals-none, literal-moved, literal-idle, literals-done)

pub ruleset range_loop = (ranges_none, range_moved, range-idle, ranges_done)

pub ruleset laid_loop = (laid-none, laid-one, laid-idle, laid-done)
