-- A row meets two sets merged exactly if it meets both. Assumes nothing.
use mathlib.Core.Path.{◌≡◌, sym, subst}
use mathlib.Core.Bool.{true, false, not, ◌&&◌}
use mathlib.Core.Logic.{◌↔◌, inl}
use Prim.Native.Nat.{ℕ, zero, suc, ◌<◌, min}
use native.Mathlib.Decide.{ℕ_discrete, dec_lt}
use native.Mathlib.Omega.{arith}
use lib.Dec.{T, not_T, eqb, eqb→eq, eqb_refl}
use lib.Ieee.Fits.{and_i, and_l, and_r}
use Rattle.laws.proofs.Bools.{T_nor_left, T_nor_right, T_nor_intro, cond_T_elim}
use Rattle.scalar.specs.Kinds.{is_null}
use Rattle.scalar.specs.Scalars.{Typed}
use Rattle.scalar.specs.declared.ScalarValue.{ScalarValue}
use Rattle.constraint_spec.specs.Values.{equals, Place, place_of, ok_range}
use Rattle.constraint_spec.specs.Sets.{classes_of, non_nulls, literals, handles, non_null_at, literal_at, entry_at, handle_at, canonical_at, flag_if}
use Rattle.constraint_spec.specs.Sets.{put_non_null, lay_range, union_values, add_literal, room_for, steps_to, join_member, join_class, merge_literal}
use Rattle.constraint_spec.specs.Sets.{merge_range, merge_non_null, merge_residual, merge_classes, merge_literals, merge_ranges, merge_non_nulls}
use Rattle.constraint_spec.specs.Sets.{merge_residuals, merge_values, merged_set, room_to, merge_room, done, refused_with, merge_from}
use Rattle.constraint_spec.specs.Meets.{null_ok, literal_ok, entry_ok, Core, Like, Together, Meets, Good}
use Rattle.constraint_spec.specs.declared.ConstraintSet.{ConstraintSet}
use Rattle.constraint_spec.proofs.Goods.{flag-good}
use Rattle.constraint_spec.proofs.Likes.{like_sym, like_place}
use Rattle.constraint_spec.proofs.Puts.{null-good, lay_good, null-iff, lay_iff}
use Rattle.constraint_spec.proofs.Steps.{steps-good, steps-iff, pick-iff, pick_if}
use Rattle.constraint_spec.proofs.Beside.{beside_self, beside_null, beside_lay}
use Rattle.constraint_spec.proofs.Normal.{canonical_below, normalized-good}
use Rattle.constraint_spec.proofs.Operations.{meets-by, normalize_meets, union_good, union_iff, add_literal-good, add_literal-iff}
use Rattle.constraint_spec.proofs.Operations.{residual-good, residual-iff}

module _ (b : ConstraintSet) (g : Good b) where
  -- ---- each step keeps a set good
  member-good : (r : ℕ) → r < 128 → (i : ℕ) → i < 128 → (t : ConstraintSet) → Good t → Good (join_member b.equivalence_classes r i t)
  member-good r hr i hi t f = cond_T_elim Good (eqb (canonical_at b i) r && not (eqb i r)) (union_values t r i) t (λ c. union_good t r i hr hi f) f

  class_good : (r : ℕ) → r < 128 → (t : ConstraintSet) → Good t → Good (join_class b.equivalence_classes r t)
  class_good r hr t f = steps-good Good (join_member b.equivalence_classes r) 128 (member-good r hr) 128 (omega arith) t f

  literal-step-good : (i : ℕ) → i < 128 → (t : ConstraintSet) → Good t → Good (merge_literal (literals b) i t)
  literal-step-good i hi t f =
      cond_T_elim Good (literal_at b i).present (add_literal t i (literal_at b i).value) t
      (λ c. add_literal-good t f i hi (literal_at b i).value (g.typed i hi c)) f

  range-step-good : (i : ℕ) → i < 128 → (t : ConstraintSet) → Good t → Good (merge_range b.ranges i t)
  range-step-good i hi t f =
      cond_T_elim Good (entry_at b i).present (lay_range t (canonical_at t i) (entry_at b i).range) t
      (λ c. lay_good t f (canonical_at t i) (canonical_below t f i hi) (entry_at b i).range (g.sound i hi c)) f

  null-step-good : (i : ℕ) → i < 128 → (t : ConstraintSet) → Good t → Good (merge_non_null (non_nulls b) i t)
  null-step-good i hi t f = cond_T_elim Good (non_null_at b i) (put_non_null t i) t (λ c. null-good t f i hi) f

  pub residual-steps-good : (t : ConstraintSet) → Good t → (k : ℕ) → Good (steps_to (merge_residual (handles b)) k t)
  residual-steps-good t f k = steps-good Good (merge_residual (handles b)) k (λ i h u w. residual-good u w (handle_at b i)) k (omega arith) t f

  module _ (a : ConstraintSet) (ga : Good a) where
    abbrev start : ConstraintSet
    start = flag_if b.contradictory a

    start-good : Good start
    start-good = flag-good a ga _

    classes-merged-good : Good (merge_classes (flag_if b.contradictory a) b.equivalence_classes)
    unfolding merge_classes
    classes-merged-good = steps-good Good (join_class b.equivalence_classes) 128 class_good 128 (omega arith) start start-good

    abbrev t1 : ConstraintSet
    t1 = merge_classes (flag_if b.contradictory a) b.equivalence_classes

    abbrev t2 : ConstraintSet
    t2 = merge_literals t1 (literals b)

    abbrev t3 : ConstraintSet
    t3 = merge_ranges t2 b.ranges

    literals-merged-good : Good t2
    unfolding merge_literals
    literals-merged-good = steps-good Good (merge_literal (literals b)) 128 literal-step-good 128 (omega arith) t1 classes-merged-good

    ranges_merged-good : Good t3
    unfolding merge_ranges
    ranges_merged-good = steps-good Good (merge_range b.ranges) 128 range-step-good 128 (omega arith) t2 literals-merged-good

    pub values-good : Good (merge_values a b)
    unfolding merge_non_nulls
    values-good = steps-good Good (merge_non_null (non_nulls b)) 128 null-step-good 128 (omega arith) t3 ranges_merged-good

    residuals-merged-good : Good (merge_residuals (merge_values a b) (handles b) b.residuals)
    unfolding merge_residuals
    residuals-merged-good = residual-steps-good (merge_values a b) values-good (min b.residuals 64)

    -- two good sets merged are a good set. Assumes good sets
    pub merged-good : Good (merged_set a b)
    unfolding merged_set
    merged-good = normalized-good (merge_residuals (merge_values a b) (handles b) b.residuals) residuals-merged-good

  -- ---- what each step asks
  module _ (on : ℕ → Type 0) (v : ℕ → ScalarValue) (tv : (i : ℕ) → Typed (v i)) where
    abbrev Pair : ℕ → ℕ → Type 0
    Pair r i = T (eqb (canonical_at b i) r && not (eqb i r)) → Like v r i

    member-iff : (r : ℕ) → r < 128 → (i : ℕ) → i < 128 → (t : ConstraintSet) → Good t → Meets on v (join_member b.equivalence_classes r i t) ↔
        (Meets on v t × Pair r i)
    member-iff r hr i hi t f = pick_if (Meets on v) (eqb (canonical_at b i) r && not (eqb i r)) (Like v r i) (union_values t r i) t
        (λ c. union_iff t r i hr hi f on v tv)

    class_iff : (r : ℕ) → r < 128 → (t : ConstraintSet) → Good t → Meets on v (join_class b.equivalence_classes r t) ↔
        (Meets on v t × ((i : ℕ) → i < 128 → Pair r i))
    class_iff r hr t f = steps-iff Good (Meets on v) (join_member b.equivalence_classes r) (Pair r) 128 (member-good r hr) (member-iff r hr) 128
        (omega arith) t f

    pairs-together : ((r : ℕ) → r < 128 → (i : ℕ) → i < 128 → Pair r i) → Together v (classes_of b)
    pairs-together q i h = elim (ℕ_discrete i (canonical_at b i)) [
      | yes e ↦ inl e
      | no n ↦ (let r = canonical_at b i in
          like_sym v tv r i (q r (canonical_below b g i h) i h (and_i (eqb r r) (not (eqb i r)) (eqb_refl r) (not_T (eqb i r) (λ t. n (eqb→eq i r
          t))))))
    ]

    together-pairs : Together v (classes_of b) → (r : ℕ) → r < 128 → (i : ℕ) → i < 128 → Pair r i
    together-pairs w r hr i hi t =
        subst (λ (x : ℕ). Like v x i) (eqb→eq (canonical_at b i) r (and_l (eqb (canonical_at b i) r) (not (eqb i r)) t))
        (like_sym v tv i (canonical_at b i) (w i hi))

    literal-step : (i : ℕ) → i < 128 → (t : ConstraintSet) → Good t → Meets on v (merge_literal (literals b) i t) ↔
        (Meets on v t × T (literal_ok (v i) (literal_at b i)))
    literal-step i hi t f =
        pick-iff (Meets on v) (literal_at b i).present (equals (v i) (literal_at b i).value) (add_literal t i (literal_at b i).value) t
        (λ c. add_literal-iff t f i hi on v tv (literal_at b i).value (g.typed i hi c))

    range-step : (i : ℕ) → i < 128 → (t : ConstraintSet) → Good t → Meets on v (merge_range b.ranges i t) ↔ (Meets on v t × T (entry_ok (v i)
        (entry_at b i)))
    range-step i hi t f =
        pick-iff (Meets on v) (entry_at b i).present (ok_range (place_of (v i)) (entry_at b i).range) (lay_range t (canonical_at t i) (entry_at b
        i).range) t
        (λ c. meets-by on v t (lay_range t (canonical_at t i) (entry_at b i).range) (beside_lay t t (beside_self t) (canonical_at t i) (entry_at b
        i).range)
        (T (ok_range (place_of (v i)) (entry_at b i).range))
        (λ w.
        let r = canonical_at t i in
        let e = like_place v tv i r (w i hi) in
        let n = (entry_at b i).range in
        let l = lay_iff v tv t f r (canonical_below t f i hi) n (g.sound i hi c) in (
          λ m. let k = l.0 m in (k.0, subst (λ (p : Place). T (ok_range p n)) (sym e) k.1),
          λ m. l.1
              (m.0, subst (λ (p : Place). T (ok_range p n)) e m.1),
        )))

    null-step : (i : ℕ) → i < 128 → (t : ConstraintSet) → Good t → Meets on v (merge_non_null (non_nulls b) i t) ↔
        (Meets on v t × T (null_ok (v i) (non_null_at b i)))
    null-step i hi t f =
        pick-iff (Meets on v) (non_null_at b i) (not (is_null (v i))) (put_non_null t i) t
        (λ c. meets-by on v t (put_non_null t i) (beside_null t t (beside_self t) i) (T (not (is_null (v i)))) (λ w. null-iff v tv t f i hi))

    residual-steps : (t : ConstraintSet) → Good t → (k : ℕ) → T (room_to t (handles b) k) → Meets on v (steps_to (merge_residual (handles b)) k t) ↔
        (Meets on v t × ((i : ℕ) → i < k → on (handle_at b i)))
    unfolding steps_to room_to
    residual-steps t f zero room = (λ m. (m, λ i h. absurd (omega arith)), λ m. m.0)
    residual-steps t f (suc k) room =
        let before = steps_to (merge_residual (handles b)) k t in
        let one = residual-iff before (residual-steps-good t f k) (handle_at b k) on v (and_r (room_to t (handles b) k) (room_for before (handle_at b
        k)) room) in
        let rest = residual-steps t f k (and_l (room_to t (handles b) k) (room_for before (handle_at b k)) room) in (
          λ m.
              let x = one.0 m in
              let y = rest.0 x.0 in
              (y.0, λ i l. elim (dec_lt i k) [ yes c ↦ y.1 i c | no c ↦ subst (λ (j : ℕ). on (handle_at b j)) (omega arith) x.1 ]),
          λ m. one.1 (rest.1 (m.0, λ i l. m.1 i (omega arith)), m.1 k (omega arith)),
        )

    -- ---- both
    module _ (a : ConstraintSet) (ga : Good a) where
      start-iff : Meets on v (flag_if b.contradictory a) ↔ (Meets on v a × T (not b.contradictory))
      start-iff = (
        λ m. (
          record {
            core = record {
              clear = T_nor_left a.contradictory b.contradictory m.core.clear;
              nulls = m.core.nulls;
              equal = m.core.equal;
              within = m.core.within;
            };
            together = m.together;
            residual = m.residual;
          },
          T_nor_right a.contradictory b.contradictory m.core.clear,
        ),
        λ m. record {
          core = record {
            clear = T_nor_intro a.contradictory b.contradictory m.0.core.clear m.1;
            nulls = m.0.core.nulls;
            equal = m.0.core.equal;
            within = m.0.core.within;
          };
          together = m.0.together;
          residual = m.0.residual;
        },
      )

      classes-iff : Meets on v (merge_classes (flag_if b.contradictory a) b.equivalence_classes) ↔
          (Meets on v (flag_if b.contradictory a) × ((r : ℕ) → r < 128 → (i : ℕ) → i < 128 → Pair r i))
      unfolding merge_classes
      classes-iff = steps-iff Good (Meets on v) (join_class b.equivalence_classes) (λ (r : ℕ). (i : ℕ) → i < 128 → Pair r i) 128 class_good class_iff
          128
          (omega arith) (flag_if b.contradictory a) (start-good a ga)

      values-iff : Meets on v (merge_values a b) ↔ (Meets on v a × (Core v b × Together v (classes_of b)))
      unfolding merge_literals merge_ranges merge_non_nulls
      values-iff =
          let u1 = merge_classes (flag_if b.contradictory a) b.equivalence_classes in
          let u2 = merge_literals u1 (literals b) in
          let u3 = merge_ranges u2 b.ranges in
          let l = steps-iff Good (Meets on v) (merge_literal (literals b)) (λ (i : ℕ). T (literal_ok (v i) (literal_at b i))) 128 literal-step-good
          literal-step
          128 (omega arith) u1 (classes-merged-good a ga) in
          let r = steps-iff Good (Meets on v) (merge_range b.ranges) (λ (i : ℕ). T (entry_ok (v i) (entry_at b i))) 128 range-step-good range-step 128
          (omega arith) u2 (literals-merged-good a ga) in
          let n = steps-iff Good (Meets on v) (merge_non_null (non_nulls b)) (λ (i : ℕ). T (null_ok (v i) (non_null_at b i))) 128 null-step-good
          null-step 128
          (omega arith) u3 (ranges_merged-good a ga) in (
            λ m.
                let x = n.0 m in
                let y = r.0 x.0 in
                let z = l.0 y.0 in
                let c = classes-iff.0 z.0 in
                let d = start-iff.0 c.0 in
                (d.0, (record { clear = d.1; nulls = x.1; equal = z.1; within = y.1 }, pairs-together c.1)),
            λ m.
                let k = m.1.0 in
                n.1 (r.1 (l.1 (classes-iff.1 (start-iff.1 (m.0, k.clear), together-pairs m.1.1), k.equal), k.within), k.nulls),
          )

      -- a row meets the merged set exactly if it meets both. Assumes good sets, and room for the residuals
      pub merge_iff : T (merge_room a b) → Meets on v (merged_set a b) ↔ (Meets on v a × Meets on v b)
      unfolding merged_set merge_residuals merge_room
      merge_iff room =
          let few : min b.residuals 64 ≡ b.residuals = omega (arith, g.few) in
          let n = normalize_meets on v tv (merge_residuals (merge_values a b) (handles b) b.residuals) (residuals-merged-good a ga) in
          let r = residual-steps (merge_values a b) (values-good a ga) (min b.residuals 64) room in (
            λ m.
                let x = r.0 (n.0 m) in
                let y = values-iff.0 x.0 in
                (y.0, record { core = y.1.0; together = y.1.1; residual = λ k h. x.1 k (omega arith) }),
            λ m. n.1 (r.1 (values-iff.1 (m.0, (m.1.core, m.1.together)), λ k h. m.1.residual k (omega arith))),
          )

-- `merge_from`, where it does not refuse and where it does. Assumes nothing
pub merge_done : (a b : ConstraintSet) → merge_room a b ≡ true → merge_from a b ≡ done (merged_set a b)
unfolding merge_from
merge_done a b e = rw e

pub merge_refused : (a b : ConstraintSet) → merge_room a b ≡ false → merge_from a b ≡ refused_with a
unfolding merge_from
merge_refused a b e = rw e
