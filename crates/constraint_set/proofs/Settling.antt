-- `normalize` leaves a settled set, and in a settled set joining two classes moves what stands at one representative to the other. Assumes nothing.
use mathlib.Core.Path.{◌≡◌, refl, sym, ap, ap₂, ◌∙◌, subst}
use mathlib.Core.Bool.{Bool, true, false, cond, ◌||◌}
use mathlib.Core.List.{List}
use mathlib.Core.Logic.{◌⊎◌, inl, inr}
use Prim.Native.Nat.{ℕ, ◌<◌}
use native.Mathlib.Decide.{ℕ_discrete}
use native.Mathlib.Omega.{arith}
use lib.ListN.{length, get_or, set, length-set}
use lib.Seq.{get_or-set_same, get_or-set_other}
use Rattle.value_classes.specs.Classes.{Whole, Falling, classes_ok, canonical_of, roots_joined}
use Rattle.laws.proofs.Bools.{or_inl}
use Rattle.value_classes.specs.declared.ValueEquivalenceClasses.{ValueEquivalenceClasses}
use Rattle.value_classes.proofs.ClassLaws.{falling, falling-ok, canonical_small, canonical_idempotent, roots_whole, roots_falling, root-stays, root-goes}
use Rattle.constraint_spec.specs.Sets.{none, no_entry, blank, classes_of, non_nulls, literals, non_null_at, literal_at, entry_at, canonical_at}
use Rattle.constraint_spec.specs.Sets.{with_values, with_classes, with_non_nulls, with_literals, with_flag, flag_if, crossed, crossed_at}
use Rattle.constraint_spec.specs.Sets.{cross_check, ranges_moved}
use Rattle.constraint_spec.specs.Sets.{literals_moved, normalized}
use Rattle.constraint_spec.specs.declared.Holder.{Holder}
use Rattle.constraint_spec.specs.declared.Entry.{Entry}
use Rattle.constraint_spec.specs.declared.ConstraintSet.{ConstraintSet}
use Rattle.constraint_set.proofs.Checking.{just_checked, crossed-flagged, check_one}
use Rattle.constraint_set.specs.Settled.{null_on, literal_on, literal_bad, range_on, range_bad, Stands, Settled, moved_to, place_of, united_roots}
use Rattle.constraint_set.proofs.Passes.{goes_to, goes_b, goes_other, filled_stands, flag_to, filled-told, filled-moved, flag-moved}
use Rattle.constraint_set.proofs.Contents.{null-on-false, null-same, literal-on-none, literal-again, literal_calm, literal-quiet, range-on-none}
use Rattle.constraint_set.proofs.Contents.{range_calm, range-again, range_tells, nulls_to, literals_to, ranges_to, clash_to, nulls-passed}
use Rattle.constraint_set.proofs.Contents.{literals-passed, ranges_passed}

-- ---- the three passes as one
abbrev empty_flag : ConstraintSet → Bool
empty_flag s = flag_to no_entry range_on (canonical_at s) blank s.ranges range_bad (clash_to s 128) 128

abbrev passed : ConstraintSet → ConstraintSet
passed s = with_values s (classes_of s) (nulls_to s 128) (literals_to s 128) (ranges_to s 128) (empty_flag s)

module _ (s : ConstraintSet) (low : (k : ℕ) → k < 128 → canonical_at s k < 128) where
  passes : normalized s ≡ cross_check (passed s)
  unfolding normalized
  passes =
      ap (λ (u : ConstraintSet). cross_check (ranges_moved (literals_moved u))) (nulls-passed s)
      ∙ ap (λ (u : ConstraintSet). cross_check (ranges_moved u)) (literals-passed (with_non_nulls s (nulls_to s 128)) low)
      ∙ ap cross_check (ranges_passed (with_flag (with_literals (with_non_nulls s (nulls_to s 128)) (literals_to s 128)) (clash_to s 128)) low)

module _ (s : ConstraintSet) (many : Whole (classes_of s)) (ok : classes_ok (classes_of s) ≡ true) where
  low : (k : ℕ) → k < 128 → canonical_at s k < 128
  low k h = canonical_small (classes_of s) k (canonical_at s k) many refl h

  idem : (k : ℕ) → k < 128 → canonical_at s (canonical_at s k) ≡ canonical_at s k
  idem k h = canonical_idempotent (classes_of s) (falling (classes_of s) ok) k

  -- what `normalize` leaves is settled. Assumes parents that are in order
  pub normalized-settled : Settled (normalized s)
  normalized-settled = subst Settled (sym (passes s low)) checked-settled
    where
      checked-settled : Settled (cross_check (passed s))
      checked-settled = unfold cross_check in record {
        many = many;
        ok = ok;
        nulls = filled_stands false null_on (canonical_at s) false (non_nulls s) low idem (null-same false) (λ x y e. null-same (null_on x y));
        equal = filled_stands none literal_on (canonical_at s) none (literals s) low idem (literal-on-none none) literal-again;
        within = filled_stands no_entry range_on (canonical_at s) blank s.ranges low idem (range-on-none no_entry) range-again;
        quiet = λ i h e. or_inl (empty_flag s) _ (filled-told no_entry range_on (canonical_at s) blank s.ranges range_bad (clash_to s 128)
            (range-on-none no_entry) range-again (range_calm no_entry) range_tells low i h e);
        checked = just_checked (passed s);
      }

-- ---- representatives after b has got a as its parent
module _ (c : ValueEquivalenceClasses) (w : Whole c) (f : Falling c) (a b : ℕ) (less : a < b) (high : b < 128) (own-a : canonical_of c a ≡ a) where
  pub canonical_goes : (i : ℕ) → canonical_of c i ≡ i → canonical_of (roots_joined c a b) i ≡ goes_to a b i
  canonical_goes i e = elim (ℕ_discrete i b) [
    | yes d ↦ ap (canonical_of (roots_joined c a b)) d ∙ root-goes c w f a b less high own-a ∙ sym (ap (goes_to a b) d ∙ goes_b a b)
    | no n ↦ root-stays c w f a b less high own-a i e n ∙ sym (goes_other a b i n)
  ]

-- ---- two representatives joined
or_regroup : (f x y z : Bool) → (((f || x) || y) || z) ≡ (f || ((x || y) || z))
or_regroup true x y z = refl
or_regroup false x y z = refl

module _ {A : Type 0} (l : List A) (a b : ℕ) (now none d : A) (less : a < b) (high : b < 128) (long : length l ≡ 128) where
  pub moved_a : get_or (moved_to l a b now none) a d ≡ now
  moved_a = get_or-set_other (set l a now) b a none d (omega arith) ∙ get_or-set_same l a now d (omega arith)

  pub moved_b : get_or (moved_to l a b now none) b d ≡ none
  moved_b = get_or-set_same (set l a now) b none d (omega (arith, length-set l a now))

  pub moved_other : (k : ℕ) → (k ≡ a → ⊥) → (k ≡ b → ⊥) → get_or (moved_to l a b now none) k d ≡ get_or l k d
  moved_other k n m = get_or-set_other (set l a now) b k none d m ∙ get_or-set_other l a k now d n

module _ (s : ConstraintSet) (g : Settled s) (a b : ℕ) (less : a < b) (high : b < 128) (own-a : canonical_at s a ≡ a) where
  abbrev k : ValueEquivalenceClasses
  k = roots_joined (classes_of s) a b

  abbrev t : ConstraintSet
  t = with_classes s k

  abbrev holder : Holder
  holder = literal_on (literal_at s a) (literal_at s b)

  abbrev entry : Entry
  entry = range_on (entry_at s a) (entry_at s b)

  abbrev clash : Bool
  clash = literal_bad (literal_at s a) (literal_at s b)

  abbrev empty : Bool
  empty = range_bad (entry_at s a) (entry_at s b)

  many_t : Whole k
  many_t = roots_whole (classes_of s) a b g.many

  fall : Falling (classes_of s)
  fall = falling (classes_of s) g.ok

  ok_t : classes_ok k ≡ true
  ok_t = falling-ok k (roots_falling (classes_of s) g.many fall a b less high own-a)

  low_t : (i : ℕ) → i < 128 → canonical_at t i < 128
  low_t i h = canonical_small k i (canonical_at t i) many_t refl h

  -- a content that is there goes where its representative goes
  goes : {A : Type 0} (n : A) (put : A → A → A) (d : A) (l : List A) → Stands n put (canonical_at s) d l → (i : ℕ) → i < 128 → (get_or l i d ≡ n)
      ⊎ (canonical_at t i ≡ goes_to a b i)
  goes n put d l st i h = elim (ℕ_discrete (canonical_at s i) i) [
    | yes e ↦ inr (canonical_goes (classes_of s) g.many fall a b less high own-a i e)
    | no m ↦ inl (st.away i h m)
  ]

  nulls-moved : nulls_to t 128 ≡ moved_to (non_nulls s) a b (null_on (non_null_at s a) (non_null_at s b)) false
  nulls-moved = filled-moved false null_on (canonical_at t) false (non_nulls s) a b less high null-on-false g.nulls.same
      (goes false null_on false (non_nulls s) g.nulls) low_t g.nulls.long

  literals-moved : literals_to t 128 ≡ moved_to (literals s) a b holder none
  literals-moved = filled-moved none literal_on (canonical_at t) none (literals s) a b less high literal-on-none g.equal.same
      (goes none literal_on none (literals s) g.equal) low_t g.equal.long

  ranges_moved_lem : ranges_to t 128 ≡ moved_to s.ranges a b entry no_entry
  ranges_moved_lem = filled-moved no_entry range_on (canonical_at t) blank s.ranges a b less high range-on-none g.within.same
      (goes no_entry range_on blank s.ranges g.within) low_t g.within.long

  clash-moved : clash_to t 128 ≡ (s.contradictory || clash)
  clash-moved =
      flag-moved none literal_on (canonical_at t) none (literals s) a b less high literal-on-none g.equal.same
      (goes none literal_on none (literals s) g.equal) literal_bad s.contradictory literal_calm
      (λ i h e. absurd (subst (λ (c : Bool). cond c Unit ⊥) (sym e ∙ literal-quiet (literal_at s i)) tt))

  empty-moved : empty_flag t ≡ ((s.contradictory || clash) || empty)
  empty-moved =
      ap (λ (f : Bool). flag_to no_entry range_on (canonical_at t) blank s.ranges range_bad f 128) clash-moved
      ∙ flag-moved no_entry range_on (canonical_at t) blank s.ranges a b less high range-on-none g.within.same
      (goes no_entry range_on blank s.ranges g.within) range_bad (s.contradictory || clash) range_calm
      (λ i h e. or_inl s.contradictory clash (g.quiet i h e))

  -- before the check
  abbrev u : ConstraintSet
  u =
      with_values s k (moved_to (non_nulls s) a b (null_on (non_null_at s a) (non_null_at s b)) false) (moved_to (literals s) a b holder none)
      (moved_to s.ranges a b entry no_entry) ((s.contradictory || clash) || empty)

  passed-moved : passed t ≡ u
  passed-moved = λ i. with_values s k (nulls-moved i) (literals-moved i) (ranges_moved_lem i) (empty-moved i)

  flagged : (j : ℕ) → j < 128 → crossed_at s j ≡ true → u.contradictory ≡ true
  flagged j h e = or_inl (s.contradictory || clash) empty (or_inl s.contradictory clash (crossed-flagged s g.checked j h e))

  others : (j : ℕ) → j < 128 → (j ≡ a → ⊥) → crossed_at u j ≡ true → u.contradictory ≡ true
  others j h n e = elim (ℕ_discrete j b) [
    | yes q ↦ absurd (subst (λ (c : Bool). cond c Unit ⊥)
        (sym e ∙ ap (λ (x : Holder). crossed x (entry_at u j)) (ap (literal_at u) q ∙ moved_b (literals s) a b holder none none less high
        g.equal.long)) tt)
    | no m ↦ flagged j h
        (sym (ap₂ crossed (moved_other (literals s) a b holder none none less high g.equal.long j n m)
        (moved_other s.ranges a b entry no_entry blank less high g.within.long j n m)) ∙ e)
  ]

  -- joining moves what stands at b to a, and one place is checked. Assumes a settled set and a representative a
  pub joined-normalized : normalized t ≡ united_roots s a b
  unfolding united_roots place_of
  joined-normalized =
      passes t low_t ∙ ap cross_check passed-moved ∙ check_one u a (omega arith) others
      ∙ ap (λ (c : Bool). flag_if c u)
      (ap₂ crossed (moved_a (literals s) a b holder none none less high g.equal.long)
      (moved_a s.ranges a b entry no_entry blank less high g.within.long))
      ∙ ap (with_flag u) (or_regroup s.contradictory clash empty (crossed holder entry))

  -- and the set is settled again
  pub united-settled : Settled (united_roots s a b)
  united-settled = subst Settled joined-normalized (normalized-settled t many_t ok_t)
