-- One entry put into a set: a row meets the result exactly if it met the set and what was put holds of it. Assumes nothing.
use mathlib.Core.Path.{◌≡◌, refl, sym, ap, ◌∙◌, subst}
use mathlib.Core.Bool.{Bool, true, false, not, ◌&&◌, ◌||◌, cond}
use mathlib.Core.List.{List}
use mathlib.Core.Logic.{◌↔◌}
use Prim.Native.Nat.{ℕ, zero, suc, ◌+◌, ◌≤◌, ◌<◌}
use native.Mathlib.Decide.{ℕ_discrete}
use native.Mathlib.Omega.{arith}
use lib.Dec.{T, T_not, not_T}
use lib.ListN.{length, get_or, set, length-set}
use lib.Seq.{get_or-set_same, get_or-set_other}
use lib.Ieee.Bits.{is_true, is_false}
use lib.Ieee.Fits.{and_i, and_l, and_r}
use Rattle.laws.proofs.Bools.{T_or_neg_resolve_left, T_nor_left, T_nor_right, T_nor_intro}
use Rattle.lists.specs.Ranges.{any_from}
use Rattle.scalar.specs.Kinds.{is_null}
use Rattle.scalar.specs.Scalars.{same_scalar, scalar_to_f64, Typed}
use Rattle.scalar.specs.declared.ScalarValue.{ScalarValue}
use Rattle.value_range.specs.Ranges.{unbounded_range, empty_range}
use Rattle.value_range.specs.declared.ValueRange.{ValueRange}
use Rattle.constraint_spec.specs.Values.{equals, place_of, Place, ok_range}
use Rattle.constraint_spec.specs.Sets.{none, held, blank, entry_of, non_nulls, literals, non_null_at, literal_at, entry_at, with_literals, clashes}
use Rattle.constraint_spec.specs.Sets.{put_non_null, put_literal, range_in, tighten_by, put_range, lay_range, outside, crossed_at, cross_check}
use Rattle.constraint_spec.specs.Meets.{null_ok, literal_ok, entry_ok, Each, Core, SoundRange, SoundEntry, SoundHolder, Good}
use Rattle.constraint_spec.specs.declared.Holder.{Holder}
use Rattle.constraint_spec.specs.declared.Entry.{Entry}
use Rattle.constraint_spec.specs.declared.ConstraintSet.{ConstraintSet}
use Rattle.constraint_spec.proofs.ValueLaws.{same-sym, T-same_trans}
use Rattle.constraint_spec.proofs.Places.{ok_tighten, tighten_sound, ok-empty, literal-outside}
use Rattle.constraint_spec.proofs.Goods.{nulls-good, literals-good, ranges_good, flag-good, core-nulls, core-flag}

-- ---- Bools
pub none_from : (f : ℕ → Bool) (n i : ℕ) → ((j : ℕ) → i ≤ j → j < i + n → T (not (f j))) → T (not (any_from f i n))
unfolding any_from
none_from f zero i h = tt
none_from f (suc n) i h = T_nor_intro (f i) (any_from f (suc i) n) (h i (omega arith) (omega arith))
    (none_from f n (suc i) (λ j lo hi. h j (omega arith) (omega arith)))

-- ---- one entry of a list, and all of them
module _ {A : Type 0} (P : ℕ → A → Bool) (d : A) (l : List A) (r : ℕ) (x : A) (long : length l ≡ 128) (h : r < 128) where
  at : get_or (set l r x) r d ≡ x
  at = get_or-set_same l r x d (omega arith)

  others : (P r x ≡ true → T (P r (get_or l r d))) → Each P d (set l r x) → Each P d l
  others f m i g = elim (ℕ_discrete i r) [
    | yes e ↦ subst (λ (k : ℕ). T (P k (get_or l k d))) (sym e) (f (is_true (P r x) (subst (λ (y : A). T (P r y)) at (m r h))))
    | no n ↦ subst (λ (y : A). T (P i y)) (get_or-set_other l r i x d n) (m i g)
  ]

  laid : T (P r x) → Each P d l → Each P d (set l r x)
  laid t m i g = elim (ℕ_discrete i r) [
    | yes e ↦ subst (λ (k : ℕ). T (P k (get_or (set l r x) k d))) (sym e) (subst (λ (y : A). T (P r y)) (sym at) t)
    | no n ↦ subst (λ (y : A). T (P i y)) (sym (get_or-set_other l r i x d n)) (m i g)
  ]

  at_test : (q : Bool) → P r x ≡ (P r (get_or l r d) && q) → Each P d (set l r x) → T (P r (get_or l r d) && q)
  at_test q e m = subst T e (subst (λ (y : A). T (P r y)) at (m r h))

  pub put-iff : (q : Bool) → P r x ≡ (P r (get_or l r d) && q) → Each P d (set l r x) ↔ (Each P d l × T q)
  put-iff q e = (
    λ m. (others (λ p. and_l (P r (get_or l r d)) q (at_test q e m)) m, and_r (P r (get_or l r d)) q (at_test q e m)),
    λ m. laid (subst T (sym e) (and_i (P r (get_or l r d)) q (m.0 r h) m.1)) m.0,
  )

  -- the same with a flag, which goes up only where what was there and what is put exclude each other
  pub put-flag : (c bad q : Bool) → (T (not bad) → P r x ≡ (P r (get_or l r d) && q)) → (T bad → T (P r (get_or l r d)) → T q → ⊥)
      → (T (not (c || bad)) × Each P d (set l r x)) ↔ ((T (not c) × Each P d l) × T q)
  put-flag c bad q f g = (
    λ m. let k = (put-iff q (f (T_nor_right c bad m.0))).0 m.1 in ((T_nor_left c bad m.0, k.0), k.1),
    λ m.
        let n = not_T bad (λ t. g t (m.0.1 r h) m.1) in
        (T_nor_intro c bad m.0.0 n, (put-iff q (f n)).1 (m.0.1, m.1)),
  )

-- ---- the same for what is known of all entries, in a type
module _ {A : Type 0} (S : A → Type 0) (d : A) (l : List A) (r : ℕ) (x : A) (long : length l ≡ 128) where
  pub get_d_set-keeps : S x → ((i : ℕ) → i < 128 → S (get_or l i d)) → (i : ℕ) → i < 128 → S (get_or (set l r x) i d)
  get_d_set-keeps t m i g = elim (ℕ_discrete i r) [
    | yes e ↦ subst (λ (k : ℕ). S (get_or (set l k x) i d)) e (subst S (sym (get_or-set_same l i x d (omega arith))) t)
    | no n ↦ subst S (sym (get_or-set_other l r i x d n)) (m i g)
  ]

-- ---- what is put, asked of a value
T_not-not : (b : Bool) → T (not (not b)) → T b
T_not-not true t = tt
T_not-not false t = t

null-put : (v : ScalarValue) (b : Bool) → null_ok v true ≡ (null_ok v b && not (is_null v))
null-put v b = go b (not (is_null v))
  where
    go : (b n : Bool) → n ≡ ((not b || n) && n)
    go true true = refl
    go true false = refl
    go false n = refl

module _ (v : ScalarValue) (tv : Typed v) where
  -- a literal that equals the one that is there asks the same
  literal-put : (old : Holder) → SoundHolder old → (l : ScalarValue) → Typed l → T (not (clashes old l))
      → literal_ok v (cond (clashes old l) old (held l)) ≡ (literal_ok v old && equals v l)
  literal-put old so l tl n =
      ap (λ (c : Bool). literal_ok v (cond c old (held l))) (is_false (clashes old l) n) ∙ go old.present so n
    where
      go : (p : Bool) → (T p → Typed old.value) → T (not (p && not (same_scalar old.value l))) → equals v l
          ≡ ((not p || equals v old.value) && equals v l)
      go false s n = refl
      go true s n =
          absorbed (equals v old.value) (equals v l)
          (λ e.
          and_i (not (is_null v)) (same_scalar v old.value) (and_l (not (is_null v)) (same_scalar v l) e)
          (T-same_trans v l (and_r (not (is_null v)) (same_scalar v l) e) tv tl old.value (s tt)
          (same-sym old.value l (T_not-not (same_scalar old.value l) n) (s tt) tl)))
        where
          absorbed : (a b : Bool) → (T b → T a) → b ≡ (a && b)
          absorbed true b f = refl
          absorbed false true f = absurd (f tt)
          absorbed false false f = refl

  literal-clash : (old : Holder) → SoundHolder old → (l : ScalarValue) → Typed l → T (clashes old l) → T (literal_ok v old) → T (equals v l) → ⊥
  literal-clash old so l tl c o e =
      let p = and_l old.present (not (same_scalar old.value l)) c in
      let k = T_or_neg_resolve_left old.present (equals v old.value) p o in
      T_not (same_scalar old.value l) (and_r old.present (not (same_scalar old.value l)) c)
      (T-same_trans old.value v (same-sym v old.value (and_r (not (is_null v)) (same_scalar v old.value) k) tv (so p)) (so p) tv l tl
      (and_r (not (is_null v)) (same_scalar v l) e))

-- an entry's range, or the one without bounds
in_sound : (e : Entry) → SoundEntry e → SoundRange (range_in e)
in_sound e s = go e.present s
  where
    go : (p : Bool) → (T p → SoundRange e.range) → SoundRange (cond p e.range unbounded_range)
    go true s = s tt
    go false s = (λ t. absurd t, λ t. absurd t)

in_ok : (p : Place) (e : Entry) → ok_range p (range_in e) ≡ (not e.present || ok_range p e.range)
in_ok p e = go e.present
  where
    go : (b : Bool) → ok_range p (cond b e.range unbounded_range) ≡ (not b || ok_range p e.range)
    go true = refl
    go false = refl

entry-put : (v : ScalarValue) (old : Entry) → SoundEntry old → (r : ValueRange) → SoundRange r
    → entry_ok v (entry_of (tighten_by (range_in old) r)) ≡ (entry_ok v old && ok_range (place_of v) r)
entry-put v old so r sr =
    ok_tighten (range_in old) r (in_sound old so) sr (place_of v) ∙ ap (λ (b : Bool). b && ok_range (place_of v) r) (in_ok (place_of v) old)

entry-empty : (v : ScalarValue) (old : Entry) → SoundEntry old → (r : ValueRange) → SoundRange r
    → T (empty_range (tighten_by (range_in old) r)) → T (entry_ok v old) → T (ok_range (place_of v) r) → ⊥
entry-empty v old so r sr t a b =
    ok-empty (place_of v) (tighten_by (range_in old) r) (tighten_sound (range_in old) r (in_sound old so) sr) t
    (subst T (sym (entry-put v old so r sr)) (and_i (entry_ok v old) (ok_range (place_of v) r) a b))

-- ---- a set with something put stays good
module _ (s : ConstraintSet) (g : Good s) (r : ℕ) (h : r < 128) where
  pub null-good : Good (put_non_null s r)
  unfolding put_non_null
  null-good = nulls-good s g (set (non_nulls s) r true) (length-set (non_nulls s) r true ∙ g.nulls_long)

  pub literal-good : (l : ScalarValue) → Typed l → Good (put_literal s r l)
  unfolding put_literal
  literal-good l tl =
      flag-good (with_literals s (set (literals s) r new))
      (literals-good s g (set (literals s) r new) (length-set (literals s) r new ∙ g.literals_long)
      (get_d_set-keeps SoundHolder none (literals s) r new g.literals_long (either (clashes (literal_at s r) l)) g.typed)) _
    where
      new : Holder
      new = cond (clashes (literal_at s r) l) (literal_at s r) (held l)

      either : (c : Bool) → SoundHolder (cond c (literal_at s r) (held l))
      either true = g.typed r h
      either false = λ t. tl

  module _ (n : ValueRange) (sn : SoundRange n) where
    new-sound : SoundRange (tighten_by (range_in (entry_at s r)) n)
    new-sound = tighten_sound (range_in (entry_at s r)) n (in_sound (entry_at s r) (g.sound r h)) sn

    pub lay_good : Good (lay_range s r n)
    unfolding lay_range
    lay_good =
        ranges_good s g (set s.ranges r (entry_of (tighten_by (range_in (entry_at s r)) n)))
        (length-set s.ranges r (entry_of (tighten_by (range_in (entry_at s r)) n)) ∙ g.ranges_long)
        (get_d_set-keeps SoundEntry blank s.ranges r (entry_of (tighten_by (range_in (entry_at s r)) n)) g.ranges_long (λ t. new-sound) g.sound)

    pub range-good : Good (put_range s r n)
    unfolding put_range
    range-good = flag-good (lay_range s r n) lay_good _

pub check_good : (s : ConstraintSet) → Good s → Good (cross_check s)
unfolding cross_check
check_good s g = flag-good s g _

module _ (v : ℕ → ScalarValue) (tv : (i : ℕ) → Typed (v i)) where
  abbrev N : ℕ → Bool → Bool
  N i b = null_ok (v i) b

  abbrev L : ℕ → Holder → Bool
  L i h = literal_ok (v i) h

  abbrev R : ℕ → Entry → Bool
  R i e = entry_ok (v i) e

  module _ (s : ConstraintSet) (g : Good s) (r : ℕ) (h : r < 128) where
    -- non-null at r. Assumes a good set
    pub null-iff : Core v (put_non_null s r) ↔ (Core v s × T (not (is_null (v r))))
    unfolding put_non_null
    null-iff =
        let f = put-iff N false (non_nulls s) r true g.nulls_long h (not (is_null (v r))) (null-put (v r) (non_null_at s r)) in (
          λ m. let k = f.0 m.nulls in (record { clear = m.clear; nulls = k.0; equal = m.equal; within = m.within }, k.1),
          λ m. core-nulls m.0 (set (non_nulls s) r true) (f.1 (m.0.nulls, m.1)),
        )

    -- a literal at r. Assumes a good set
    pub literal-iff : (l : ScalarValue) → Typed l → Core v (put_literal s r l) ↔ (Core v s × T (equals (v r) l))
    unfolding put_literal
    literal-iff l tl =
        let f = put-flag L none (literals s) r (cond (clashes (literal_at s r) l) (literal_at s r) (held l)) g.literals_long h s.contradictory
        (clashes (literal_at s r) l) (equals (v r) l)
        (literal-put (v r) (tv r) (literal_at s r) (g.typed r h) l tl) (literal-clash (v r) (tv r) (literal_at s r) (g.typed r h) l tl) in (
          λ m. let k = f.0 (m.clear, m.equal) in (record { clear = k.0.0; nulls = m.nulls; equal = k.0.1; within = m.within }, k.1),
          λ m. let k = f.1 ((m.0.clear, m.0.equal), m.1) in record { clear = k.0; nulls = m.0.nulls; equal = k.1; within = m.0.within },
        )

    -- a range at r, with the test for emptiness and without. Assumes a good set
    pub range-iff : (n : ValueRange) → SoundRange n → Core v (put_range s r n) ↔ (Core v s × T (ok_range (place_of (v r)) n))
    unfolding put_range lay_range
    range-iff n sn =
        let f = put-flag R blank s.ranges r (entry_of (tighten_by (range_in (entry_at s r)) n)) g.ranges_long h s.contradictory
        (empty_range (tighten_by (range_in (entry_at s r)) n)) (ok_range (place_of (v r)) n)
        (λ t. entry-put (v r) (entry_at s r) (g.sound r h) n sn) (entry-empty (v r) (entry_at s r) (g.sound r h) n sn) in (
          λ m. let k = f.0 (m.clear, m.within) in (record { clear = k.0.0; nulls = m.nulls; equal = m.equal; within = k.0.1 }, k.1),
          λ m. let k = f.1 ((m.0.clear, m.0.within), m.1) in record { clear = k.0; nulls = m.0.nulls; equal = m.0.equal; within = k.1 },
        )

    pub lay_iff : (n : ValueRange) → SoundRange n → Core v (lay_range s r n) ↔ (Core v s × T (ok_range (place_of (v r)) n))
    unfolding lay_range
    lay_iff n sn =
        let f = put-iff R blank s.ranges r (entry_of (tighten_by (range_in (entry_at s r)) n)) g.ranges_long h (ok_range (place_of (v r)) n)
        (entry-put (v r) (entry_at s r) (g.sound r h) n sn) in (
          λ m. let k = f.0 m.within in (record { clear = m.clear; nulls = m.nulls; equal = m.equal; within = k.0 }, k.1),
          λ m. record { clear = m.0.clear; nulls = m.0.nulls; equal = m.0.equal; within = f.1 (m.0.within, m.1) },
        )

  -- ---- literals against ranges: where the check sets the flag there is no such row
  module _ (s : ConstraintSet) (g : Good s) where
    uncrossed : Core v s → (k : ℕ) → k < 128 → T (not (crossed_at s k))
    uncrossed m k b = not_T (crossed_at s k) go
      where
        go : T (crossed_at s k) → ⊥
        go t =
            let a = literal_at s k in
            let e = entry_at s k in
            let p = and_l a.present (e.present && outside (scalar_to_f64 a.value) e.range) t in
            let rest = and_r a.present (e.present && outside (scalar_to_f64 a.value) e.range) t in
            let q = and_l e.present (outside (scalar_to_f64 a.value) e.range) rest in
            literal-outside (v k) a.value (tv k) (g.typed k b p)
            (and_r (not (is_null (v k))) (same_scalar (v k) a.value) (T_or_neg_resolve_left a.present (equals (v k) a.value) p (m.equal k b)))
            e.range (g.sound k b q) (and_r e.present (outside (scalar_to_f64 a.value) e.range) rest)
            (T_or_neg_resolve_left e.present (ok_range (place_of (v k)) e.range) q (m.within k b))

    -- the cross check changes nothing for a row. Assumes a good set
    pub check_iff : Core v (cross_check s) ↔ Core v s
    unfolding cross_check
    check_iff = (
      λ m. record { clear = T_nor_left s.contradictory (any_from (crossed_at s) 0 128) m.clear; nulls = m.nulls; equal = m.equal; within = m.within },
      λ m. core-flag m (s.contradictory || any_from (crossed_at s) 0 128)
          (T_nor_intro s.contradictory (any_from (crossed_at s) 0 128) m.clear (none_from (crossed_at s) 128 0 (λ j lo hi. uncrossed m j (omega arith)))),
    )
