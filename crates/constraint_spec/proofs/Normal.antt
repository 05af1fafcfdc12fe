-- Normalizing changes nothing for a row of which members of a class have the same value. Assumes nothing.
use mathlib.Core.Path.{refl, sym, subst}
use mathlib.Core.Bool.{Bool, false, not}
use mathlib.Core.Logic.{◌↔◌}
use Prim.Native.Nat.{ℕ, ◌<◌}
use native.Mathlib.Omega.{arith}
use lib.Dec.{T}
use lib.ListN.{replicate, length-replicate}
use Rattle.laws.proofs.Bools.{cond_T_elim}
use Rattle.scalar.specs.Kinds.{is_null}
use Rattle.scalar.specs.Scalars.{Typed}
use Rattle.scalar.specs.declared.ScalarValue.{ScalarValue}
use Rattle.value_classes.proofs.ClassLaws.{canonical_small}
use Rattle.constraint_spec.specs.Values.{equals, place_of, ok_range}
use Rattle.constraint_spec.specs.Sets.{none, blank, no_entry, classes_of, non_null_at, literal_at, entry_at, canonical_at, with_non_nulls, with_literals}
use Rattle.constraint_spec.specs.Sets.{with_ranges, put_non_null, put_literal, put_range, move_non_null, move_literal, move_range, non_nulls_moved}
use Rattle.constraint_spec.specs.Sets.{literals_moved, ranges_moved, normalized}
use Rattle.constraint_spec.specs.Meets.{null_ok, literal_ok, entry_ok, Core, Like, Together, SoundHolder, SoundEntry, Good}
use Rattle.constraint_spec.specs.declared.Holder.{Holder}
use Rattle.constraint_spec.specs.declared.Entry.{Entry}
use Rattle.constraint_spec.specs.declared.ConstraintSet.{ConstraintSet}
use Rattle.constraint_spec.proofs.Goods.{nulls-good, literals-good, ranges_good, core-nulls, core-literals, core_ranges, at-replicate}
use Rattle.constraint_spec.proofs.Likes.{like_sym, like_null_ok, like_literal_ok, like_entry_ok}
use Rattle.constraint_spec.proofs.Puts.{null-good, literal-good, range-good, check_good, null-iff, literal-iff, range-iff, check_iff}
use Rattle.constraint_spec.proofs.Steps.{steps-good, steps-iff, pick-iff}
use Rattle.constraint_spec.proofs.Beside.{beside_self, beside_nulls, beside_literals}

pub canonical_below : (s : ConstraintSet) → Good s → (i : ℕ) → i < 128 → canonical_at s i < 128
canonical_below s g i h = canonical_small (classes_of s) i (canonical_at s i) g.long refl h

module _ (s : ConstraintSet) (g : Good s) where
  abbrev root : ℕ → ℕ
  root i = canonical_at s i

  root< : (i : ℕ) → i < 128 → root i < 128
  root< = canonical_below s g

  -- ---- the first pass
  abbrev s1 : ConstraintSet
  s1 = with_non_nulls s (replicate 128 false)

  g1 : Good s1
  g1 = nulls-good s g (replicate 128 false) (length-replicate 128 false)

  null-step-good : (i : ℕ) → i < 128 → (t : ConstraintSet) → Good t → Good (move_non_null s i t)
  null-step-good i h t f = cond_T_elim Good (non_null_at s i) (put_non_null t (root i)) t (λ b. null-good t f (root i) (root< i h)) f

  pub nulls-moved-good : Good (non_nulls_moved s)
  unfolding non_nulls_moved
  nulls-moved-good = steps-good Good (move_non_null s) 128 null-step-good 128 (omega arith) s1 g1

  -- ---- the second
  abbrev s2 : ConstraintSet
  s2 = with_literals s (replicate 128 none)

  g2 : Good s2
  g2 = literals-good s g (replicate 128 none) (length-replicate 128 none) (at-replicate SoundHolder none none (λ t. absurd t))

  literal-step-good : (i : ℕ) → i < 128 → (t : ConstraintSet) → Good t → Good (move_literal s i t)
  literal-step-good i h t f =
      cond_T_elim Good (literal_at s i).present (put_literal t (root i) (literal_at s i).value) t
      (λ b. literal-good t f (root i) (root< i h) (literal_at s i).value (g.typed i h b)) f

  pub literals-moved-good : Good (literals_moved s)
  unfolding literals_moved
  literals-moved-good = steps-good Good (move_literal s) 128 literal-step-good 128 (omega arith) s2 g2

  -- ---- the third
  abbrev s3 : ConstraintSet
  s3 = with_ranges s (replicate 128 no_entry)

  g3 : Good s3
  g3 = ranges_good s g (replicate 128 no_entry) (length-replicate 128 no_entry) (at-replicate SoundEntry no_entry blank (λ t. absurd t))

  range-step-good : (i : ℕ) → i < 128 → (t : ConstraintSet) → Good t → Good (move_range s i t)
  range-step-good i h t f =
      cond_T_elim Good (entry_at s i).present (put_range t (root i) (entry_at s i).range) t
      (λ b. range-good t f (root i) (root< i h) (entry_at s i).range (g.sound i h b)) f

  pub ranges_moved-good : Good (ranges_moved s)
  unfolding ranges_moved
  ranges_moved-good = steps-good Good (move_range s) 128 range-step-good 128 (omega arith) s3 g3

  -- ---- each asks of a row what was asked before, where members of a class have the same value
  module _ (v : ℕ → ScalarValue) (tv : (i : ℕ) → Typed (v i)) (w : Together v (classes_of s)) where
    up : (i : ℕ) → i < 128 → Like v i (root i)
    up i h = w i h

    down : (i : ℕ) → i < 128 → Like v (root i) i
    down i h = like_sym v tv i (root i) (w i h)

    nulls-moved-core : Core v (non_nulls_moved s) ↔ Core v s
    unfolding non_nulls_moved
    nulls-moved-core =
        let f = steps-iff Good (Core v) (move_non_null s) (λ (i : ℕ). T (null_ok (v (root i)) (non_null_at s i))) 128 null-step-good
        (λ i h t f. pick-iff (Core v) (non_null_at s i) (not (is_null (v (root i)))) (put_non_null t (root i)) t (λ b. null-iff v tv t f (root i)
        (root< i h))) 128
        (omega arith) s1 g1 in (
          λ m.
              let k = f.0 m in
              let a = k.0 in
              record {
                clear = a.clear;
                nulls = λ i h. like_null_ok v tv (root i) i (down i h) (non_null_at s i) (k.1 i h);
                equal = a.equal;
                within = a.within;
              },
          λ m.
              f.1 (
                core-nulls m (replicate 128 false) (λ i h. at-replicate (λ (b : Bool). T (null_ok (v i) b)) false false tt i h),
                λ i h. like_null_ok v tv i (root i) (up i h) (non_null_at s i) (m.nulls i h),
              ),
        )

    literals-moved-core : Core v (literals_moved s) ↔ Core v s
    unfolding literals_moved
    literals-moved-core =
        let f = steps-iff Good (Core v) (move_literal s) (λ (i : ℕ). T (literal_ok (v (root i)) (literal_at s i))) 128 literal-step-good
        (λ i h t f. pick-iff (Core v) (literal_at s i).present (equals (v (root i)) (literal_at s i).value) (put_literal t (root i) (literal_at s
        i).value) t
        (λ b. literal-iff v tv t f (root i) (root< i h) (literal_at s i).value (g.typed i h b))) 128 (omega arith) s2 g2 in (
          λ m.
              let k = f.0 m in
              let a = k.0 in
              record {
                clear = a.clear;
                nulls = a.nulls;
                equal = λ i h. like_literal_ok v tv (root i) i (down i h) (literal_at s i) (g.typed i h) (k.1 i h);
                within = a.within;
              },
          λ m.
              f.1 (
                core-literals m (replicate 128 none) (λ i h. at-replicate (λ (x : Holder). T (literal_ok (v i) x)) none none tt i h),
                λ i h. like_literal_ok v tv i (root i) (up i h) (literal_at s i) (g.typed i h) (m.equal i h),
              ),
        )

    ranges_moved-core : Core v (ranges_moved s) ↔ Core v s
    unfolding ranges_moved
    ranges_moved-core =
        let f = steps-iff Good (Core v) (move_range s) (λ (i : ℕ). T (entry_ok (v (root i)) (entry_at s i))) 128 range-step-good
        (λ i h t f. pick-iff (Core v) (entry_at s i).present (ok_range (place_of (v (root i))) (entry_at s i).range) (put_range t (root i) (entry_at s
        i).range) t
        (λ b. range-iff v tv t f (root i) (root< i h) (entry_at s i).range (g.sound i h b))) 128 (omega arith) s3 g3 in (
          λ m.
              let k = f.0 m in
              let a = k.0 in
              record {
                clear = a.clear;
                nulls = a.nulls;
                equal = a.equal;
                within = λ i h. like_entry_ok v tv (root i) i (down i h) (entry_at s i) (k.1
                    i h);
              },
          λ m.
              f.1 (
                core_ranges m (replicate 128 no_entry) (λ i h. at-replicate (λ (e : Entry). T (entry_ok (v i) e)) no_entry blank tt i h),
                λ i h. like_entry_ok v tv i (root i) (up i h) (entry_at s i) (m.within i h),
              ),
        )

-- ---- all three and the cross check
module _ (s : ConstraintSet) (g : Good s) where
  abbrev t1 : ConstraintSet
  t1 = non_nulls_moved s

  abbrev t2 : ConstraintSet
  t2 = literals_moved t1

  h1 : Good t1
  h1 = nulls-moved-good s g

  h2 : Good t2
  h2 = literals-moved-good t1 h1

  h3 : Good (ranges_moved t2)
  h3 = ranges_moved-good t2 h2

  -- normalizing keeps a set good. Assumes a good set
  pub normalized-good : Good (normalized s)
  unfolding normalized
  normalized-good = check_good (ranges_moved t2) h3

  module _ (v : ℕ → ScalarValue) (tv : (i : ℕ) → Typed (v i)) where
    pub normalized-core : Together v (classes_of s) → Core v (normalized s) ↔ Core v s
    unfolding normalized
    normalized-core w =
        let b1 = beside_nulls s s (beside_self s) in
        let b2 = beside_literals s t1 b1 in
        let w1 = subst (Together v) (sym b1.classes) w in
        let w2 = subst (Together v) (sym b2.classes) w in
        let a = nulls-moved-core s g v tv w in
        let b = literals-moved-core t1 h1 v tv w1 in
        let c = ranges_moved-core t2 h2 v tv w2 in
        let d = check_iff v tv (ranges_moved t2) h3 in
        (λ m. a.0 (b.0 (c.0 (d.0 m))), λ m. d.1 (c.1 (b.1 (a.1 m))))
