-- What each operation asks of a row, exactly. Assumes nothing.
use Rattle.std.proofs.Common.{Some, None}
use mathlib.Core.Path.{◌≡◌, refl, sym, ap, ◌∙◌, subst}
use mathlib.Core.Bool.{Bool, true, false, not, ◌||◌, cond}
use mathlib.Core.List.{List}
use mathlib.Core.Logic.{◌↔◌, inl, inr, ⊎_elim}
use Prim.Native.Nat.{ℕ, zero, suc, ◌+◌, ◌≤◌, ◌<◌, min}
use native.Mathlib.Decide.{ℕ_discrete, dec_lt}
use native.Mathlib.Omega.{arith}
use borrow.Author.Tests.{lt-ltb}
use lib.Dec.{T, T_not, eqb, ltb, eqb→eq, ltb→lt}
use lib.ListN.{length, get_or, set, length-set}
use lib.Seq.{get_or-set_same, get_or-set_other}
use lib.Ieee.{Float, binary64, fits}
use lib.Ieee.Fits.{and_l, and_r}
use Rattle.laws.proofs.Bools.{T_or_elim}
use Rattle.lists.specs.Ranges.{any_from}
use Rattle.scalar.specs.Exact.{finite}
use Rattle.scalar.specs.Kinds.{is_null}
use Rattle.scalar.specs.Scalars.{Typed, same_scalar, scalar_to_f64}
use Rattle.scalar.specs.declared.ScalarValue.{ScalarValue}
use Rattle.scalar.proofs.NumberLaws.{converts}
use Rattle.value_range.specs.declared.ValueRange.{ValueRange}
use Rattle.value_classes.specs.Classes.{Whole, Falling, canonical_of, joined_classes}
use Rattle.value_classes.specs.declared.ValueEquivalenceClasses.{ValueEquivalenceClasses}
use Rattle.value_classes.proofs.RootLaws.{Met}
use Rattle.value_classes.proofs.ClassLaws.{canonical_le, canonical_idempotent, joined-falling, joined-whole, joined-met}
use Rattle.value_classes.proofs.Unions.{union_same, union_joined}
use Rattle.comparison.specs.Operators.{bounding}
use Rattle.comparison.specs.declared.BinaryOp.{BinaryOp}
use Rattle.comparison.specs.declared.BinaryOp.TheVariants.{Eq, NotEq, Lt, LtEq, Gt, GtEq, IsNotDistinctFrom}
use Rattle.constraint_spec.specs.Values.{equals, Place, place_of, ok_range}
use Rattle.constraint_spec.specs.Sets.{classes_of, handles, handle_at, canonical_at, with_classes, with_residuals, with_flag, put_non_null, put_literal}
use Rattle.constraint_spec.specs.Sets.{put_range, lay_range, cross_check, normalized, union_values, add_non_null, add_literal, bounds_by, add_bound}
use Rattle.constraint_spec.specs.Sets.{ranged_by, add_range, has_handle, room_for, push_residual, done, refused_with, add_residual}
use Rattle.constraint_spec.specs.Meets.{Core, Like, Together, Meets, SoundRange, Good}
use Rattle.constraint_spec.specs.declared.ConstraintSet.{ConstraintSet}
use Rattle.constraint_spec.proofs.Goods.{classes-good, residuals-good, flag-good}
use Rattle.constraint_spec.proofs.Likes.{like_sym, like_trans, like_null, like_place, like_equals}
use Rattle.constraint_spec.proofs.Puts.{null-good, literal-good, range-good, lay_good, check_good, null-iff, literal-iff, range-iff, lay_iff, check_iff}
use Rattle.constraint_spec.proofs.Beside.{Beside, beside_self, beside_normalized, add_non_null_beside, add_literal_beside, add_bound_beside}
use Rattle.constraint_spec.proofs.Normal.{canonical_below, normalized-good, normalized-core}
use Rattle.constraint_spec.proofs.ValueLaws.{T-same-null}

-- ---- the classes
module _ (v : ℕ → ScalarValue) (tv : (i : ℕ) → Typed (v i)) where
  -- two of one class have the same value
  pub together_pair : (k : ValueEquivalenceClasses) → Together v k → (a b : ℕ) → a < 128 → b < 128 → canonical_of k a ≡ canonical_of k b → Like v a b
  together_pair k w a b ha hb e =
      like_trans v tv a (canonical_of k a) b (w a ha) (subst (λ (r : ℕ). Like v r b) (sym e) (like_sym v tv b (canonical_of k b) (w b hb)))

  module _ (k : ValueEquivalenceClasses) (f : Falling k) (long : Whole k) (i j : ℕ) (hi : i < 128) (hj : j < 128) where
    abbrev new : ValueEquivalenceClasses
    new = joined_classes k i j

    met : (a b : ℕ) → (canonical_of new a ≡ canonical_of new b) ↔ Met (canonical_of k i) (canonical_of k j) (canonical_of k a) (canonical_of k b)
    met a b = joined-met k long f i j hi hj a b

    new-falls : Falling new
    new-falls = joined-falling k long f i j hi hj

    pub joined-together : Together v new ↔ (Together v k × Like v i j)
    joined-together = (
      λ w. (
        λ a h. together_pair new w a (canonical_of k a) h (omega (arith, canonical_le k f a))
            ((met a (canonical_of k a)).1 (inl (sym (canonical_idempotent k f a)))),
        together_pair new w i j hi hj ((met i j).1 (inr (inl (refl, refl)))),
      ),
      λ w a h.
          let b = canonical_of new a in
          let hb : b < 128 = omega (arith, canonical_le new new-falls a) in
          ⊎_elim (λ e. together_pair k w.0 a b h hb e)
          (⊎_elim
          (λ e. like_trans v tv a i b (together_pair k w.0 a i h hi e.0) (like_trans v tv i j b w.1 (together_pair k w.0 j b hj hb (sym e.1))))
          (λ e. like_trans v tv a j b (together_pair k w.0 a j h hj e.0)
          (like_trans v tv j i b (like_sym v tv i j w.1) (together_pair k w.0 i b hi hb (sym e.1)))))
          ((met a b).0 (sym (canonical_idempotent new new-falls a))),
    )

-- ---- meeting a set beside which only what is recorded of identities has changed
module _ (on : ℕ → Type 0) (v : ℕ → ScalarValue) (s t : ConstraintSet) (b : Beside s t) where
  pub with_core : Meets on v s → Core v t → Meets on v t
  with_core m c = record {
    core = c;
    together = subst (Together v) (sym b.classes) m.together;
    residual = λ k h. subst (λ (l : List ℕ). on (get_or l k 0)) (sym b.handles) (m.residual k (subst (λ (n : ℕ). k < n) b.count h));
  }

  pub from-core : Meets on v t → Core v s → Meets on v s
  from-core m c = record {
    core = c;
    together = subst (Together v) b.classes m.together;
    residual = λ k h. subst (λ (l : List ℕ). on (get_or l k 0)) b.handles (m.residual k (subst (λ (n : ℕ). k < n) (sym b.count) h));
  }

  pub meets-by : (Q : Type 0) → (Together v (classes_of s) → Core v t ↔ (Core v s × Q)) → Meets on v t ↔ (Meets on v s × Q)
  meets-by Q f = (
    λ m. let k = (f (subst (Together v) b.classes m.together)).0 m.core in (from-core m k.0, k.1),
    λ m. with_core m.0 ((f m.0.together).1 (m.0.core, m.1)),
  )

-- normalizing changes nothing for a row. Assumes a good set
pub normalize_meets : (on : ℕ → Type 0) (v : ℕ → ScalarValue) → ((i : ℕ) → Typed (v i)) → (s : ConstraintSet) → Good s → Meets on v (normalized s) ↔
    Meets on
    v s
normalize_meets on v tv s g =
    let b = beside_normalized s s (beside_self s) in (
      λ m. from-core on v s (normalized s) b m ((normalized-core s g v tv (subst (Together v) b.classes m.together)).0 m.core),
      λ m. with_core on v s (normalized s) b m ((normalized-core s g v tv m.together).1 m.core),
    )

-- ---- two identities joined
module _ (s : ConstraintSet) (i j : ℕ) (hi : i < 128) (hj : j < 128) where
  abbrev after : ConstraintSet
  after = with_classes s (joined_classes (classes_of s) i j)

  -- of one class: nothing changes
  pub union_one : canonical_at s i ≡ canonical_at s j → union_values s i j ≡ s
  unfolding union_values
  union_one e = rw (union_same s.equivalence_classes i j hi hj e)

  -- of two: they become one, and what is recorded moves to the representatives
  pub union_two : (canonical_at s i ≡ canonical_at s j → ⊥) → union_values s i j ≡ normalized after
  unfolding union_values
  union_two d = rw (union_joined s.equivalence_classes i j hi hj d)

  module _ (g : Good s) where
    after-good : Good after
    after-good =
        classes-good s g (joined_classes (classes_of s) i j) (joined-whole (classes_of s) i j g.long)
        (joined-falling (classes_of s) g.long g.fall i j hi hj)

    -- a union keeps a set good. Assumes a good set
    pub union_good : Good (union_values s i j)
    union_good = elim (ℕ_discrete (canonical_at s i) (canonical_at s j)) [
      | yes e ↦ subst Good (sym (union_one e)) g
      | no d ↦ subst Good (sym (union_two d)) (normalized-good after after-good)
    ]

    module _ (on : ℕ → Type 0) (v : ℕ → ScalarValue) (tv : (i : ℕ) → Typed (v i)) where
      after-iff : Meets on v (normalized after) ↔ (Meets on v s × Like v i j)
      after-iff =
          let n = normalize_meets on v tv after after-good in
          let w = joined-together v tv (classes_of s) g.fall g.long i j hi hj in (
            λ m.
                let k = n.0 m in
                let c = k.core in
                let x = w.0 k.together in (
                  record {
                    core = record { clear = c.clear; nulls = c.nulls; equal = c.equal; within = c.within };
                    together = x.0;
                    residual = k.residual;
                  },
                  x.1,
                ),
            λ m.
                let c = m.0.core in
                n.1 (record {
                  core = record { clear = c.clear; nulls = c.nulls; equal = c.equal; within = c.within };
                  together = w.1
                      (m.0.together, m.1);
                  residual = m.0.residual;
                }),
          )

      -- a row meets the set after a union exactly if it met the set and the two are one identity or have the same value. Assumes a good set
      pub union_iff : Meets on v (union_values s i j) ↔ (Meets on v s × Like v i j)
      union_iff = elim (ℕ_discrete (canonical_at s i) (canonical_at s j)) [
        | yes e ↦ subst (λ (t : ConstraintSet). Meets on v t ↔ (Meets on v s × Like v i j)) (sym (union_one e))
            (λ m. (m, together_pair v tv (classes_of s) m.together i j hi hj e), λ m. m.0)
        | no d ↦ subst (λ (t : ConstraintSet). Meets on v t ↔ (Meets on v s × Like v i j)) (sym (union_two d)) after-iff
      ]

-- ---- one identity: non-null, a literal, a bound
sound-bounds : (op : BinaryOp) (x : Float) → T (finite x) → T (fits binary64 x) → SoundRange (bounds_by op x)
sound-bounds Eq x f h = (λ t. absurd t, λ t. absurd t)
sound-bounds NotEq x f h = (λ t. absurd t, λ t. absurd t)
sound-bounds Lt x f h = (λ t. absurd t, λ t. (f, h))
sound-bounds LtEq x f h = (λ t. absurd t, λ t. (f, h))
sound-bounds Gt x f h = (λ t. (f, h), λ t. absurd t)
sound-bounds GtEq x f h = (λ t. (f, h), λ t. absurd t)
sound-bounds IsNotDistinctFrom x f h = (λ t. absurd t, λ t. absurd t)

module _ (s : ConstraintSet) (g : Good s) (i : ℕ) (hi : i < 128) where
  abbrev r : ℕ
  r = canonical_at s i

  hr : r < 128
  hr = canonical_below s g i hi

  abbrev s1 : ConstraintSet
  s1 = put_non_null s r

  g1 : Good s1
  g1 = null-good s g r hr

  -- with an identity in range
  nonnull_in : add_non_null s i ≡ s1
  unfolding add_non_null
  nonnull_in = rw (lt-ltb _ _ hi)

  literal_in_lem : (l : ScalarValue) → add_literal s i l ≡ cond (is_null l) (with_flag s true) (cross_check (put_literal s1 r l))
  unfolding add_literal
  literal_in_lem l = rw (lt-ltb _ _ hi)

  bound_in_lem : (op : BinaryOp) (x : Float) → add_bound s i op x ≡ cond (bounding op) (cross_check (put_range s1 r (bounds_by op x))) (lay_range s1 r
      (bounds_by op x))
  unfolding add_bound
  bound_in_lem op x = rw (lt-ltb _ _ hi)

  -- each keeps a set good. Assumes a good set
  pub nonnull_good : Good (add_non_null s i)
  nonnull_good = subst Good (sym nonnull_in) g1

  pub add_literal-good : (l : ScalarValue) → Typed l → Good (add_literal s i l)
  add_literal-good l tl = subst Good (sym (literal_in_lem l)) (go (is_null l))
    where
      go : (b : Bool) → Good (cond b (with_flag s true) (cross_check (put_literal s1 r l)))
      go true = flag-good s g true
      go false = check_good (put_literal s1 r l) (literal-good s1 g1 r hr l tl)

  module _ (op : BinaryOp) (x : Float) (fx : T (finite x)) (hx : T (fits binary64 x)) where
    pub add_bound-good : Good (add_bound s i op x)
    add_bound-good = subst Good (sym (bound_in_lem op x)) (go (bounding op))
      where
        go : (b : Bool) → Good (cond b (cross_check (put_range s1 r (bounds_by op x))) (lay_range s1 r (bounds_by op x)))
        go true = check_good (put_range s1 r (bounds_by op x)) (range-good s1 g1 r hr (bounds_by op x) (sound-bounds op x fx hx))
        go false = lay_good s1 g1 r hr (bounds_by op x) (sound-bounds op x fx hx)

  module _ (on : ℕ → Type 0) (v : ℕ → ScalarValue) (tv : (i : ℕ) → Typed (v i)) where
    not_null : Together v (classes_of s) → T (not (is_null (v i))) ↔ T (not (is_null (v r)))
    not_null w = let e = like_null v tv i r (w i hi) in (subst (λ (b : Bool). T (not b)) e, subst (λ (b : Bool). T (not b)) (sym e))

    -- a row meets the set with i recorded non-null exactly if it met the set and i is not NULL. Assumes a good set
    pub nonnull_iff : Meets on v (add_non_null s i) ↔ (Meets on v s × T (not (is_null (v i))))
    nonnull_iff = meets-by on v s (add_non_null s i) (add_non_null_beside s i) (T (not (is_null (v i)))) core
      where
        core : Together v (classes_of s) → Core v (add_non_null s i) ↔ (Core v s × T (not (is_null (v i))))
        core w =
            let n = null-iff v tv s g r hr in
            subst (λ (t : ConstraintSet). Core v t ↔ (Core v s × T (not (is_null (v i))))) (sym nonnull_in)
            (λ m. let k = n.0 m in (k.0, (not_null w).1 k.1), λ m. n.1 (m.0, (not_null w).0 m.1))

    -- with a literal, exactly if i is what the literal says, which nothing is for NULL. Assumes a good set
    pub add_literal-iff : (l : ScalarValue) → Typed l → Meets on v (add_literal s i l) ↔ (Meets on v s × T (equals (v i) l))
    add_literal-iff l tl = meets-by on v s (add_literal s i l) (add_literal_beside s i l) (T (equals (v i) l)) core
      where
        no_null : T (is_null l) → T (equals (v i) l) → ⊥
        no_null n e =
            T_not (is_null (v i)) (and_l (not (is_null (v i))) (same_scalar (v i) l) e)
            (subst T (sym (T-same-null (v i) l (and_r (not (is_null (v i))) (same_scalar (v i) l) e))) n)

        go : (b : Bool) → (T b → T (is_null l)) → Together v (classes_of s) → Core v (cond b (with_flag s true) (cross_check (put_literal s1 r l))) ↔
            (Core v s × T (equals (v i) l))
        go true n w = (λ m. absurd m.clear, λ m. absurd (no_null (n tt) m.1))
        go false n w =
            let c = check_iff v tv (put_literal s1 r l) (literal-good s1 g1 r hr l tl) in
            let a = literal-iff v tv s1 g1 r hr l tl in
            let b = null-iff v tv s g r hr in (
              λ m.
                  let x = a.0 (c.0 m) in
                  ((b.0 x.0).0, like_equals v tv r i (like_sym v tv i r (w i hi)) l tl x.1),
              λ m.
                  let e = like_equals v tv i r (w i hi) l tl m.1 in
                  c.1 (a.1 (b.1 (m.0, and_l (not (is_null (v r))) (same_scalar (v r) l) e), e)),
            )

        core : Together v (classes_of s) → Core v (add_literal s i l) ↔ (Core v s × T (equals (v i) l))
        core w = subst (λ (t : ConstraintSet). Core v t ↔ (Core v s × T (equals (v i) l))) (sym (literal_in_lem l)) (go (is_null l) (λ t. t) w)

    -- what a bound asks: not NULL, and within the bounds of the comparison
    abbrev pub Bounded : BinaryOp → Float → Type 0
    Bounded op x = T (not (is_null (v i))) × T (ok_range (place_of (v i)) (bounds_by op x))

    -- with the bounds of a comparison, exactly if i is not NULL and within them. Assumes a good set and a number
    pub add_bound-iff : (op : BinaryOp) (x : Float) → T (finite x) → T (fits binary64 x) → Meets on v (add_bound s i op x) ↔ (Meets on v s × Bounded
        op x)
    add_bound-iff op x fx hx = meets-by on v s (add_bound s i op x) (add_bound_beside s i op x) (Bounded op x) core
      where
        n : ValueRange
        n = bounds_by op x

        sn : SoundRange (bounds_by op x)
        sn = sound-bounds op x fx hx

        go : (b : Bool) → Core v (cond b (cross_check (put_range s1 r n)) (lay_range s1 r n)) ↔ (Core v s1 × T (ok_range (place_of (v r)) n))
        go true =
            let c = check_iff v tv (put_range s1 r n) (range-good s1 g1 r hr n sn) in
            let a = range-iff v tv s1 g1 r hr n sn in
            (λ m. a.0 (c.0 m), λ m. c.1 (a.1 m))
        go false = lay_iff v tv s1 g1 r hr n sn

        core : Together v (classes_of s) → Core v (add_bound s i op x) ↔ (Core v s × Bounded op x)
        core w =
            let a = go (bounding op) in
            let b = null-iff v tv s g r hr in
            let e = like_place v tv i r (w i hi) in
            subst (λ (t : ConstraintSet). Core v t ↔ (Core v s × Bounded op x)) (sym (bound_in_lem op x)) (
              λ m.
                  let k = a.0 m in
                  let j = b.0 k.0 in
                  (j.0, ((not_null w).1 j.1, subst (λ (p : Place). T (ok_range p n)) (sym e) k.1)),
              λ m. a.1 (b.1 (m.0, (not_null w).0 m.1.0), subst (λ (p : Place). T (ok_range p n)) e m.1.1),
            )

-- ---- `add_range`, by the literal's number: with none nothing is recorded, and with one the comparison's bounds are
module _ (s : ConstraintSet) (i : ℕ) (op : BinaryOp) (l : ScalarValue) where
  pub range_none : scalar_to_f64 l ≡ None → add_range s i op l ≡ record { constraints = s; recorded = false }
  unfolding add_range
  range_none e = ap (ranged_by s i op) e

  pub range-some : (x : Float) → scalar_to_f64 l ≡ Some x → add_range s i op l ≡ record { constraints = add_bound s i op x; recorded = bounding op }
  unfolding add_range
  range-some x e = ap (ranged_by s i op) e

-- a row meets the set after `add_range` with a literal that bounds exactly if it met the set, i is not NULL, and is within. Assumes a good set
pub add_range-iff : (s : ConstraintSet) (g : Good s) (i : ℕ) (hi : i < 128) (on : ℕ → Type 0) (v : ℕ → ScalarValue) (tv : (k : ℕ) → Typed (v k))
    → (op : BinaryOp) (l : ScalarValue) → Typed l → (x : Float) → scalar_to_f64 l ≡ Some x
    → Meets on v (add_range s i op l).constraints ↔ (Meets on v s × (T (not (is_null (v i))) × T (ok_range (place_of (v i)) (bounds_by op x))))
add_range-iff s g i hi on v tv op l tl x e =
    let c = converts l x tl e in
    rw (range-some s i op l x e) (add_bound-iff s g i hi on v tv op x c.number c.held)

-- ---- residuals
pub T-any-at : (f : ℕ → Bool) (n i : ℕ) → T (any_from f i n) → (k : ℕ) × (i ≤ k) × (k < i + n) × T (f k)
unfolding any_from
T-any-at f zero i t = absurd t
T-any-at f (suc n) i t =
    T_or_elim (f i) (any_from f (suc i) n) t (λ u. (i, omega arith, omega arith, u))
    (λ u. let w = T-any-at f n (suc i) u in (w.0, omega arith, omega arith, w.3))

module _ (s : ConstraintSet) (g : Good s) (h : ℕ) where
  -- a residual keeps a set good. Assumes a good set
  pub residual-good : Good (push_residual s h)
  unfolding push_residual
  residual-good = go (has_handle s h) (ltb s.residuals 64) (ltb→lt s.residuals 64)
    where
      go : (a b : Bool) → (T b → s.residuals < 64) → Good (cond a s (cond b (with_residuals s (set (handles s) s.residuals h) (s.residuals + 1)) s))
      go true b l = g
      go false false l = g
      go false true l = residuals-good s g (set (handles s) s.residuals h) (s.residuals + 1) (length-set (handles s) s.residuals h ∙ g.handles_long)
          (omega (arith, l tt))

  module _ (on : ℕ → Type 0) (v : ℕ → ScalarValue) where
    -- with a residual for which there is room, exactly if it is TRUE. Assumes a good set
    pub residual-iff : T (room_for s h) → Meets on v (push_residual s h) ↔ (Meets on v s × on h)
    unfolding push_residual
    residual-iff room = go (has_handle s h) (ltb s.residuals 64) (ltb→lt s.residuals 64) found room
      where
        found : T (has_handle s h) → (k : ℕ) × (k < s.residuals) × (handle_at s k ≡ h)
        found t =
            let w = T-any-at (λ (k : ℕ). eqb (handle_at s k) h) (min s.residuals 64) 0 t in
            (w.0, omega arith, eqb→eq (handle_at s w.0) h w.3)

        go : (a b : Bool) → (T b → s.residuals < 64) → (T a → (k : ℕ) × (k < s.residuals) × (handle_at s k ≡ h)) → T (a || b)
            → Meets on v (cond a s (cond b (with_residuals s (set (handles s) s.residuals h) (s.residuals + 1)) s)) ↔ (Meets on v s × on h)
        go true b l f t = (λ m. (m, subst on (f tt).2 (m.residual (f tt).0 (f tt).1)), λ m. m.0)
        go false false l f t = absurd t
        go false true l f t =
            let c : s.residuals < length (handles s) = omega (arith, l tt, g.handles_long) in (
              λ m. (
                record {
                  core = record { clear = m.core.clear; nulls = m.core.nulls; equal = m.core.equal; within = m.core.within };
                  together = m.together;
                  residual = λ k b. subst on (get_or-set_other (handles s) s.residuals k h 0 (λ e. absurd (omega arith))) (m.residual k (omega
                      arith));
                },
                subst on (get_or-set_same (handles s) s.residuals h 0 c) (m.residual s.residuals (omega arith)),
              ),
              λ m. record {
                core = record { clear = m.0.core.clear; nulls = m.0.core.nulls; equal = m.0.core.equal; within = m.0.core.within };
                together = m.0.together;
                residual = λ k b. elim (dec_lt k s.residuals) [
                  | yes y ↦ subst on (sym (get_or-set_other (handles s) s.residuals k h 0 (λ e. absurd (omega arith)))) (m.0.residual k y)
                  | no n ↦ subst (λ (x : ℕ). on (get_or (set (handles s) s.residuals h) x 0)) (omega arith)
                      (subst on (sym (get_or-set_same (handles s) s.residuals h 0 c)) m.1)
                ];
              },
            )

-- `add_residual`, where it does not refuse and where it does. Assumes nothing
pub residual-done : (s : ConstraintSet) (h : ℕ) → T (room_for s h) → add_residual s h ≡ done (push_residual s h)
unfolding add_residual
residual-done s h t = go (room_for s h) t
  where
    go : (b : Bool) → T b → cond b (done (push_residual s h)) (refused_with s) ≡ done (push_residual s h)
    go true u = refl
    go false u = absurd u

pub residual-refused : (s : ConstraintSet) (h : ℕ) → T (not (room_for s h)) → add_residual s h ≡ refused_with s
unfolding add_residual
residual-refused s h t = go (room_for s h) t
  where
    go : (b : Bool) → T (not b) → cond b (done (push_residual s h)) (refused_with s) ≡ refused_with s
    go true u = absurd u
    go false u = refl

-- ---- no row meets a set whose flag is set. Assumes nothing
pub no_row : (on : ℕ → Type 0) (v : ℕ → ScalarValue) (s : ConstraintSet) → s.contradictory ≡ true → Meets on v s → ⊥
no_row on v s e m = subst (λ (b : Bool). T (not b)) e m.core.clear
