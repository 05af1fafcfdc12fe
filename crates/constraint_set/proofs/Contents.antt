-- What a pass does with the three kinds of content, and that the passes of `normalize` are such passes. Assumes nothing.
use mathlib.Core.Path.{◌≡◌, refl, sym, ap, ◌∙◌}
use mathlib.Core.Bool.{Bool, true, false, cond, ◌&&◌, ◌||◌, or-false, or-true, and-false}
use mathlib.Core.List.{List}
use mathlib.Core.Logic.{◌⊎◌, inl, inr}
use Prim.Native.Nat.{ℕ, zero, suc, ◌≤◌, ◌<◌}
use native.Mathlib.Omega.{arith}
use lib.ListN.{get_or, set, replicate}
use lib.Seq.{set-get_or}
use Rattle.laws.proofs.Bools.{cond_T_elim}
use Rattle.scalar.specs.declared.ScalarValue.{ScalarValue}
use Rattle.value_range.specs.Ranges.{no_bound, bound_at, unbounded_range, takes_lower, takes_upper, tighten_lower, tighten_upper, empty_range}
use Rattle.value_range.specs.declared.Bound.{Bound}
use Rattle.value_range.specs.declared.ValueRange.{ValueRange}
use Rattle.constraint_spec.specs.Sets.{none, held, no_entry, blank, entry_of, non_nulls, literals, non_null_at, literal_at, entry_at, canonical_at}
use Rattle.constraint_spec.specs.Sets.{with_non_nulls, with_literals, with_ranges, with_flag, clashes, range_in, lower_by, upper_by, tighten_by, put_non_null}
use Rattle.constraint_spec.specs.Sets.{put_literal, lay_range, put_range, steps_to, move_non_null, move_literal, move_range, non_nulls_moved, literals_moved}
use Rattle.constraint_spec.specs.Sets.{ranges_moved}
use Rattle.constraint_spec.specs.declared.Holder.{Holder}
use Rattle.constraint_spec.specs.declared.Entry.{Entry}
use Rattle.constraint_spec.specs.declared.ConstraintSet.{ConstraintSet}
use Rattle.constraint_set.specs.Settled.{null_on, literal_on, literal_bad, range_on, range_bad}
use Rattle.constraint_set.proofs.Passes.{filled_to, filled_at, flag_to}

-- ---- not NULL
pub null-on-false : (x : Bool) → null_on x false ≡ x
unfolding null_on
null-on-false x = or-false x

pub null-same : (x : Bool) → null_on false x ≡ x
unfolding null_on
null-same x = refl

-- ---- literals
pub literal-on-none : (x : Holder) → literal_on x none ≡ x
unfolding literal_on
literal-on-none x = refl

pub literal-again : (x y : Holder) → literal_on none x ≡ x → literal_on none (literal_on x y) ≡ literal_on x y
unfolding literal_on
literal-again x y e =
    cond_T_elim P y.present (cond (clashes x y.value) x (held y.value)) x
    (λ t. cond_T_elim P (clashes x y.value) x (held y.value) (λ u. e) refl) e
  where
    P : Holder → Type 0
    P h = cond h.present (cond (clashes none h.value) none (held h.value)) none ≡ h

pub literal_calm : (x : Holder) → literal_bad x none ≡ false
unfolding literal_bad
literal_calm x = refl

pub literal-quiet : (y : Holder) → literal_bad none y ≡ false
unfolding literal_bad
literal-quiet y = and-false y.present

-- ---- ranges: a bound as a pass writes it
abbrev cleaned : Bound → Bound
cleaned b = cond b.present (bound_at b.value b.inclusive) no_bound

abbrev Whole : ValueRange → Type 0
Whole r = (cleaned r.lower ≡ r.lower) × (cleaned r.upper ≡ r.upper)

abbrev Clean : ValueRange → Type 0
Clean r = tighten_by unbounded_range r ≡ r

split : (r : ValueRange) → tighten_by unbounded_range r ≡ record { lower = cleaned r.lower; upper = cleaned r.upper }
split r = go r.lower.present r.upper.present
  where
    go : (p q : Bool) →
        tighten_by unbounded_range
        (record {
          lower = record { value = r.lower.value; present = p; inclusive = r.lower.inclusive };
          upper = record
              { value = r.upper.value; present = q; inclusive = r.upper.inclusive };
        })
        ≡ record {
          lower = cond p (bound_at r.lower.value r.lower.inclusive) no_bound;
          upper = cond q (bound_at r.upper.value r.upper.inclusive)
              no_bound;
        }
    go true true = refl
    go true false = refl
    go false true = refl
    go false false = refl

clean-whole : (r : ValueRange) → Clean r → Whole r
clean-whole r e =
    let f = sym (split r) ∙ e in
    (ap (λ (x : ValueRange). x.lower) f, ap (λ (x : ValueRange). x.upper) f)

whole-clean : (r : ValueRange) → Whole r → Clean r
whole-clean r w = split r ∙ (λ i. record { lower = w.0 i; upper = w.1 i })

lower-whole : (t : ValueRange) (b : Bound) → Whole t → Whole (lower_by t b)
lower-whole t b w =
    cond_T_elim Whole b.present (tighten_lower t b.value b.inclusive) t
    (λ u. cond_T_elim Whole (takes_lower t.lower b.value b.inclusive) (record { lower = bound_at b.value b.inclusive; upper = t.upper }) t
    (λ v. (refl, w.1)) w) w

upper_whole : (t : ValueRange) (b : Bound) → Whole t → Whole (upper_by t b)
upper_whole t b w =
    cond_T_elim Whole b.present (tighten_upper t b.value b.inclusive) t
    (λ u. cond_T_elim Whole (takes_upper t.upper b.value b.inclusive) (record { lower = t.lower; upper = bound_at b.value b.inclusive }) t
    (λ v. (w.0, refl)) w) w

clean-tightened : (t new : ValueRange) → Clean t → Clean (tighten_by t new)
clean-tightened t new c =
    whole-clean (tighten_by t new) (upper_whole (lower_by t new.lower) new.upper (lower-whole t new.lower (clean-whole t c)))

pub range-on-none : (x : Entry) → range_on x no_entry ≡ x
unfolding range_on
range-on-none x = refl

pub range_calm : (x : Entry) → range_bad x no_entry ≡ false
unfolding range_bad
range_calm x = refl

-- an entry that a pass would leave as it is has a clean range
clean_in : (x : Entry) → range_on no_entry x ≡ x → Clean (range_in x)
unfolding range_on
clean_in x e = go x.present x.range e
  where
    go : (p : Bool) (r : ValueRange) → ◌≡◌ {A = Entry} (cond p (entry_of (tighten_by unbounded_range r)) no_entry) (record { present = p; range = r })
        → Clean
        (cond p r unbounded_range)
    go true r e = ap (λ (y : Entry). y.range) e
    go false r e = refl

pub range-again : (x y : Entry) → range_on no_entry x ≡ x → range_on no_entry (range_on x y) ≡ range_on x y
unfolding range_on
range-again x y e = go y.present y.range (λ r. clean-tightened (range_in x) r (clean_in x e))
  where
    go : (p : Bool) (r : ValueRange) → ((r : ValueRange) → Clean (tighten_by (range_in x) r)) → range_on no_entry (range_on x (record {
      present = p;
      range = r;
    }))
        ≡ range_on x (record { present = p; range = r })
    go true r c = ap entry_of (c r)
    go false r c = e

pub range_tells : (x y : Entry) → range_on no_entry x ≡ x → range_bad no_entry (range_on x y) ≡ true → (range_bad x y ≡ true) ⊎ (range_bad no_entry x
    ≡ true)
unfolding range_on range_bad
range_tells x y e t = go y.present y.range (λ r. clean-tightened (range_in x) r (clean_in x e)) t
  where
    go : (p : Bool) (r : ValueRange) → ((r : ValueRange) → Clean (tighten_by (range_in x) r)) → range_bad no_entry (range_on x (record {
      present = p;
      range = r;
    }))
        ≡ true
        → (range_bad x (record { present = p; range = r }) ≡ true) ⊎ (range_bad no_entry x ≡ true)
    go true r c t = inl (ap empty_range (sym (c r)) ∙ t)
    go false r c t = inr t

-- ---- the three passes of `normalize`
module _ (s : ConstraintSet) where
  abbrev pub nulls_to : ℕ → List Bool
  nulls_to k = filled_to false null_on (canonical_at s) false (non_nulls s) k

  abbrev pub literals_to : ℕ → List Holder
  literals_to k = filled_to none literal_on (canonical_at s) none (literals s) k

  abbrev pub ranges_to : ℕ → List Entry
  ranges_to k = filled_to no_entry range_on (canonical_at s) blank s.ranges k

  abbrev pub clash_to : ℕ → Bool
  clash_to k = flag_to none literal_on (canonical_at s) none (literals s) literal_bad s.contradictory k

  abbrev pub empty_to : ℕ → Bool
  empty_to k = flag_to no_entry range_on (canonical_at s) blank s.ranges range_bad s.contradictory k

  one-null : (l : List Bool) (r : ℕ) (b : Bool) → cond b (put_non_null (with_non_nulls s l) r) (with_non_nulls s l) ≡ with_non_nulls s
      (set l r (null_on (get_or l r false) b))
  unfolding put_non_null null_on
  one-null l r true = ap (λ (b : Bool). with_non_nulls s (set l r b)) (sym (or-true (get_or l r false)))
  one-null l r false = ap (with_non_nulls s) (sym (ap (set l r) (or-false (get_or l r false)) ∙ set-get_or l r false))

  nulls_are : (k : ℕ) → steps_to (move_non_null s) k (with_non_nulls s (replicate 128 false)) ≡ with_non_nulls s (nulls_to k)
  unfolding steps_to filled_to
  nulls_are zero = refl
  nulls_are (suc k) = ap (move_non_null s k) (nulls_are k) ∙ one-null (nulls_to k) (canonical_at s k) (non_null_at s k)

  pub nulls-passed : non_nulls_moved s ≡ with_non_nulls s (nulls_to 128)
  unfolding non_nulls_moved
  nulls-passed = nulls_are 128

  abbrev lit_up : List Holder → Bool → ConstraintSet
  lit_up l f = with_flag (with_literals s l) f

  one-literal : (l : List Holder) (f : Bool) (r : ℕ) (h : Holder)
      → cond h.present (put_literal (lit_up l f) r h.value) (lit_up l f) ≡ lit_up (set l r (literal_on (get_or l r none) h)) (f || literal_bad (get_or
      l r none) h)
  unfolding put_literal literal_on literal_bad
  one-literal l f r h = go h.present h.value
    where
      go : (p : Bool) (v : ScalarValue) → cond p (put_literal (lit_up l f) r v) (lit_up l f)
          ≡ lit_up (set l r (cond p (cond (clashes (get_or l r none) v) (get_or l r none) (held v)) (get_or l r none))) (f || (p && clashes (get_or l
          r none) v))
      go true v = refl
      go false v = λ i. lit_up (sym (set-get_or l r none) i) (sym (or-false f) i)

  one-range : (l : List Entry) (f : Bool) (r : ℕ) (e : Entry)
      → cond e.present (put_range (with_flag (with_ranges s l) f) r e.range) (with_flag (with_ranges s l) f) ≡ with_flag
      (with_ranges s (set l r (range_on (get_or l r blank) e))) (f || range_bad (get_or l r blank) e)
  unfolding put_range lay_range range_on range_bad
  one-range l f r e = go e.present e.range
    where
      go : (p : Bool) (v : ValueRange) → cond p (put_range (with_flag (with_ranges s l) f) r v) (with_flag (with_ranges s l) f)
          ≡ with_flag (with_ranges s (set l r (cond p (entry_of (tighten_by (range_in (get_or l r blank)) v)) (get_or l r blank))))
          (f || (p && empty_range (tighten_by (range_in (get_or l r blank)) v)))
      go true v = refl
      go false v = λ i. with_flag (with_ranges s (sym (set-get_or l r blank) i)) (sym (or-false f) i)

  module _ (low : (k : ℕ) → k < 128 → canonical_at s k < 128) where
    literals_are : (k : ℕ) → k ≤ 128 → steps_to (move_literal s) k (with_literals s (replicate 128 none)) ≡ lit_up (literals_to k) (clash_to k)
    unfolding steps_to filled_to flag_to
    literals_are zero h = refl
    literals_are (suc k) h =
        ap (move_literal s k) (literals_are k (omega arith)) ∙ one-literal (literals_to k) (clash_to k) (canonical_at s k) (literal_at s k)
        ∙ ap (λ (x : Holder). lit_up (literals_to (suc k)) (clash_to k || literal_bad x (literal_at s k)))
        (filled_at none literal_on (canonical_at s) none (literals s) low k (canonical_at s k) (omega arith) (low k (omega arith)))

    ranges_are : (k : ℕ) → k ≤ 128 → steps_to (move_range s) k (with_ranges s (replicate 128 no_entry)) ≡ with_flag (with_ranges s (ranges_to k))
        (empty_to k)
    unfolding steps_to filled_to flag_to
    ranges_are zero h = refl
    ranges_are (suc k) h =
        ap (move_range s k) (ranges_are k (omega arith)) ∙ one-range (ranges_to k) (empty_to k) (canonical_at s k) (entry_at s k)
        ∙ ap (λ (x : Entry). with_flag (with_ranges s (ranges_to (suc k))) (empty_to k || range_bad x (entry_at s k)))
        (filled_at no_entry range_on (canonical_at s) blank s.ranges low k (canonical_at s k) (omega arith) (low k (omega arith)))

    pub literals-passed : literals_moved s ≡ with_flag (with_literals s (literals_to 128)) (clash_to 128)
    unfolding literals_moved
    literals-passed = literals_are 128 (omega arith)

    pub ranges_passed : ranges_moved s ≡ with_flag (with_ranges s (ranges_to 128)) (empty_to 128)
    unfolding ranges_moved
    ranges_passed = ranges_are 128 (omega arith)
