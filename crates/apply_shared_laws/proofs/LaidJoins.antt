-- Two classes that become one, in a set and in the same with another literal, and with the flag. Assumes nothing.
use Prim.Native.Nat.{ℕ, ◌<◌}
use mathlib.Core.Path.{◌≡◌, refl, sym, ap, ap₂, ◌∙◌, subst}
use mathlib.Core.Bool.{Bool, true, false, ◌||◌}
use mathlib.Core.List.{List}
use mathlib.Core.Logic.{◌⊎◌, inl, inr}
use native.Mathlib.Decide.{ℕ_discrete}
use native.Mathlib.Omega.{arith}
use lib.ListN.{length, get_or, set}
use lib.Seq.{get_or-set_same, get_or-set_other}
use Rattle.scalar.specs.Scalars.{same_scalar}
use Rattle.scalar.specs.declared.ScalarValue.{ScalarValue}
use Rattle.value_classes.specs.Classes.{roots_joined}
use Rattle.constraint_spec.specs.Sets.{none, held, no_entry, classes_of, non_nulls, literals, non_null_at, literal_at, entry_at, with_values, with_flag}
use Rattle.constraint_spec.specs.Sets.{canonical_at, crossed, union_values}
use Rattle.constraint_spec.specs.declared.Holder.{Holder}
use Rattle.constraint_spec.specs.declared.ConstraintSet.{ConstraintSet}
use Rattle.constraint_spec.proofs.Operations.{union_one}
use Rattle.constraint_set.specs.Settled.{null_on, literal_on, literal_bad, range_on, range_bad, moved_to, place_of, united_roots}
use Rattle.constraint_set.proofs.Passes.{goes_to, goes_b, goes_other}
use Rattle.constraint_set.proofs.Settling.{moved_a, moved_other}
use Rattle.constraint_set.proofs.RootJoins.{united-left, united-right}
use Rattle.constraint_normal.specs.Ready.{Ready}
use Rattle.apply_shared_laws.proofs.ClassJoins.{root-moves, x_low, y_low, own, union_so}
use Rattle.apply_shared_laws.proofs.SameLiterals.{crossed-same, Joins, joins-old, joins-new}
use Rattle.apply_shared_laws.proofs.LaidSets.{set_twice, set-swap, laid, Passed}

module _ (x v : ScalarValue) (same : same_scalar x v ≡ true) where
  -- t is u, or u with v in the place of x at k
  abbrev PassedAt : ℕ → ConstraintSet → ConstraintSet → Type 0
  PassedAt k u t = (t ≡ u) ⊎ ((literal_at u k ≡ held x) × (t ≡ laid u k v))

  module _ (s : ConstraintSet) (rd : Ready s) (a b : ℕ) (less : a < b) (high : b < 128) where
    abbrev l : List Holder
    l = literals s

    long : length l ≡ 128
    long = rd.settled.equal.long

    -- the set after the join with other literals and another flag
    abbrev formed : List Holder → Bool → ConstraintSet
    formed m f =
        with_values s (roots_joined (classes_of s) a b) (moved_to (non_nulls s) a b (null_on (non_null_at s a) (non_null_at s b)) false) m
        (moved_to s.ranges a b (range_on (entry_at s a) (entry_at s b)) no_entry) f

    abbrev flag_of : Bool → Holder → Bool
    flag_of bad h = s.contradictory || ((bad || range_bad (entry_at s a) (entry_at s b)) || crossed h (range_on (entry_at s a) (entry_at s b)))

    -- from the literals m, with g at a and h at b
    abbrev shape : List Holder → Holder → Holder → ConstraintSet
    shape m g h = formed (moved_to m a b (literal_on g h) none) (flag_of (literal_bad g h) (literal_on g h))

    -- what is at the two places is the same, or differs in the one literal
    pair_passes : (g h g' h' : Holder) → Joins x v same g h g' h' → PassedAt a (shape l g h) (shape l g' h')
    pair_passes g h g' h' j = elim j.on [
      | inl z ↦ inl (λ k. formed (moved_to l a b (z k) none) (flag_of (j.bad k) (z k)))
      | inr z ↦ inr (
        moved_a l a b (literal_on g h) none none less high long ∙ z.0,
        (λ k. formed (lists z.1 k) (flag_of (j.bad k) (literal_on g' h')))
            ∙ (λ k. formed (set (moved_to l a b (literal_on g h) none) a (held v)) (flags z.0 z.1 k)),
      )
    ]
      where
        lists : literal_on g' h' ≡ held v → moved_to l a b (literal_on g' h') none ≡ set (moved_to l a b (literal_on g h) none) a (held v)
        lists q =
            ap (λ (n : Holder). moved_to l a b n none) q
            ∙ ap (λ (m : List Holder). set m b none) (sym (set_twice l a (literal_on g h) (held v)))
            ∙ set-swap (set l a (literal_on g h)) a b (held v) none (omega arith)

        flags : literal_on g h ≡ held x → literal_on g' h' ≡ held v → flag_of (literal_bad g h) (literal_on g' h') ≡ flag_of (literal_bad g h) (literal_on g h)
        flags p q =
            ap (flag_of (literal_bad g h)) q
            ∙ ap (λ (f : Bool). s.contradictory || ((literal_bad g h || range_bad (entry_at s a) (entry_at s b)) || f))
            (sym (crossed-same x v same (range_on (entry_at s a) (entry_at s b))))
            ∙ ap (flag_of (literal_bad g h)) (sym p)

    abbrev ga : Holder
    ga = literal_at s a

    abbrev gb : Holder
    gb = literal_at s b

    -- with another literal at r
    abbrev after : ℕ → ConstraintSet
    after r = shape (set l r (held v)) (get_or (set l r (held v)) a none) (get_or (set l r (held v)) b none)

    at_a : ga ≡ held x → PassedAt a (shape l ga gb) (after a)
    at_a e = subst (λ (g : Holder). PassedAt a (shape l g gb) (after a)) (sym e)
        (subst (PassedAt a (shape l (held x) gb)) (sym path) (pair_passes (held x) gb (held v) gb (joins-old x v same gb)))
      where
        path : after a ≡ shape l (held v) gb
        path =
            ap₂ (shape (set l a (held v))) (get_or-set_same l a (held v) none (omega (arith, long))) (get_or-set_other l a b (held v) none (omega arith))
            ∙ (λ k. formed (set (set_twice l a (held v) (literal_on (held v) gb) k) b none) (flag_of (literal_bad (held v) gb) (literal_on (held v) gb)))

    at_b : gb ≡ held x → PassedAt a (shape l ga gb) (after b)
    at_b e = subst (λ (g : Holder). PassedAt a (shape l ga g) (after b)) (sym e)
        (subst (PassedAt a (shape l ga (held x))) (sym path) (pair_passes ga (held x) ga (held v) (joins-new x v same ga)))
      where
        lists : (n : Holder) → set (set (set l b (held v)) a n) b none ≡ set (set l a n) b none
        lists n = ap (λ (m : List Holder). set m b none) (set-swap l b a (held v) n (omega arith)) ∙ set_twice (set l a n) b (held v) none

        path : after b ≡ shape l ga (held v)
        path =
            ap₂ (shape (set l b (held v))) (get_or-set_other l b a (held v) none (omega arith)) (get_or-set_same l b (held v) none (omega (arith, long)))
            ∙ (λ k. formed (lists (literal_on ga (held v)) k) (flag_of (literal_bad ga (held v)) (literal_on ga (held v))))

    at_other : (r : ℕ) → (r ≡ a → ⊥) → (r ≡ b → ⊥) → literal_at s r ≡ held x → PassedAt r (shape l ga gb) (after r)
    at_other r n m e = inr (
      moved_other l a b (literal_on ga gb) none none less high long r n m ∙ e,
      ap₂ (shape (set l r (held v))) (get_or-set_other l r a (held v) none (λ z. n (sym z))) (get_or-set_other l r b (held v) none (λ z. m (sym z)))
          ∙ (λ k. formed (lists k) (flag_of (literal_bad ga gb) (literal_on ga gb))),
    )
      where
        lists : set (set (set l r (held v)) a (literal_on ga gb)) b none ≡ set (set (set l a (literal_on ga gb)) b none) r (held v)
        lists =
            ap (λ (m : List Holder). set m b none) (set-swap l r a (held v) (literal_on ga gb) n)
            ∙ set-swap (set l a (literal_on ga gb)) r b (held v) none m

    at_place : (r : ℕ) → literal_at s r ≡ held x → PassedAt (goes_to a b r) (shape l ga gb) (after r)
    at_place r e = elim (ℕ_discrete r b) [
      | yes q ↦ subst (λ (z : ℕ). PassedAt (goes_to a b z) (shape l ga gb) (after z)) (sym q)
          (subst (λ (z : ℕ). PassedAt z (shape l ga gb) (after b)) (sym (goes_b a b)) (at_b (ap (literal_at s) (sym q) ∙ e)))
      | no m ↦ subst (λ (z : ℕ). PassedAt z (shape l ga gb) (after r)) (sym (goes_other a b r m)) (elim (ℕ_discrete r a) [
        | yes q ↦ subst (λ (z : ℕ). PassedAt z (shape l ga gb) (after z)) (sym q) (at_a (ap (literal_at s) (sym q) ∙ e))
        | no n ↦ at_other r n m e
      ])
    ]

  module _ (i : ℕ) (s : ConstraintSet) (rd : Ready s) (rt : Ready (laid s (canonical_at s i) v)) (e : literal_at s (canonical_at s i) ≡ held x) where
    abbrev t : ConstraintSet
    t = laid s (canonical_at s i) v

    united-passes : (a b : ℕ) → a < b → b < 128 → canonical_at s a ≡ a → canonical_at s b ≡ b → Passed x v same i (united_roots s a b) (united_roots t a b)
    unfolding united_roots place_of
    united-passes a b less high oa ob =
        subst (λ (k : ℕ). PassedAt k (united_roots s a b) (united_roots t a b)) (sym (root-moves s rd a b less high oa ob i))
        (at_place s rd a b less high (canonical_at s i) e)

    pub union_passes : (j k : ℕ) → j < 128 → k < 128 → Passed x v same i (union_values s j k) (union_values t j k)
    union_passes j k hj hk =
        union_so s rd j k hj hk (λ (u : ConstraintSet). Passed x v same i u (union_values t j k))
        (λ q. subst (Passed x v same i s) (sym (union_one t j k hj hk q)) (inr (e, refl)))
        (λ q. subst (Passed x v same i (united_roots s (canonical_at s j) (canonical_at s k))) (united-left t rt.settled j k hj hk q)
        (united-passes (canonical_at s j) (canonical_at s k) q (y_low s rd j k hj hk) (own s rd j k hj hk j) (own s rd j k hj hk k)))
        (λ q. subst (Passed x v same i (united_roots s (canonical_at s k) (canonical_at s j))) (united-right t rt.settled j k hj hk q)
        (united-passes (canonical_at s k) (canonical_at s j) q (x_low s rd j k hj hk) (own s rd j k hj hk k) (own s rd j k hj hk j)))

-- ---- with the flag
pub union_flagged : (s : ConstraintSet) → Ready s → Ready (with_flag s true) → (j k : ℕ) → j < 128 → k < 128 → union_values (with_flag s true) j k ≡ with_flag
    (union_values s j k) true
union_flagged s rd rt j k hj hk =
    union_so s rd j k hj hk (λ (u : ConstraintSet). union_values (with_flag s true) j k ≡ with_flag u true)
    (λ q. union_one (with_flag s true) j k hj hk q)
    (λ q. sym (united-left (with_flag s true) rt.settled j k hj hk q) ∙ united (canonical_at s j) (canonical_at s k))
    (λ q. sym (united-right (with_flag s true) rt.settled j k hj hk q) ∙ united (canonical_at s k) (canonical_at s j))
  where
    united : (a b : ℕ) → united_roots (with_flag s true) a b ≡ with_flag (united_roots s a b) true
    united a b = unfold united_roots in refl
