-- Two classes of an ready set that become one leave it ready and keep what was there. Assumes nothing.
use Prim.Native.Nat.{ℕ, ◌<◌}
use mathlib.Core.Path.{◌≡◌, refl, sym, ap, ◌∙◌, subst}
use mathlib.Core.Bool.{true, false, false≢true}
use mathlib.Core.Logic.{inl}
use native.Mathlib.Decide.{dec_lt, ℕ_discrete}
use native.Mathlib.Omega.{arith}
use Rattle.value_classes.specs.Classes.{Whole, Falling, canonical_of, joined_classes, roots_joined}
use Rattle.value_classes.specs.declared.ValueEquivalenceClasses.{ValueEquivalenceClasses}
use Rattle.value_classes.proofs.ClassLaws.{falling, canonical_idempotent, joined-met, joined-to-left}
use Rattle.constraint_spec.specs.Sets.{none, no_entry, blank, classes_of, non_nulls, literals, non_null_at, literal_at, entry_at, canonical_at}
use Rattle.constraint_spec.specs.Sets.{union_values}
use Rattle.laws.proofs.Bools.{or_inl}
use Rattle.constraint_spec.specs.declared.ConstraintSet.{ConstraintSet}
use Rattle.constraint_spec.proofs.Operations.{union_one}
use Rattle.constraint_set.specs.Settled.{Settled, null_on, place_at, united_roots}
use Rattle.constraint_set.proofs.Passes.{goes_to, goes_b, goes_other}
use Rattle.constraint_set.proofs.Settling.{canonical_goes, united-settled, moved_a, moved_b, moved_other}
use Rattle.constraint_set.proofs.RootJoins.{canonical_low, canonical_own, united-left, united-right}
use Rattle.constraint_normal.specs.Ready.{Bounded, Ready}
use Rattle.apply_action.specs.Cells.{cell_of}
use Rattle.apply_action.specs.declared.Cell.{Cell}
use Rattle.apply_shared_laws.proofs.Growing.{Grows, grows-flag, joined_cell, grows-left, grows-right, bounded-joined}
use Rattle.apply_shared_laws.proofs.Keeping.{Keeps, keeps_self}

-- ---- two representatives joined
module _ (s : ConstraintSet) (rd : Ready s) (a b : ℕ) (less : a < b) (high : b < 128) (own-a : canonical_at s a ≡ a) (own-b : canonical_at s b ≡ b) where
  g : Settled s
  g = rd.settled

  abbrev t : ConstraintSet
  t = united_roots s a b

  abbrev p : ValueEquivalenceClasses
  p = classes_of s

  down : Falling p
  down = falling p g.ok

  many : Whole p
  many = g.many

  joined_is : joined_classes p a b ≡ roots_joined p a b
  joined_is = joined-to-left p a b a b (sym own-a) (sym own-b) (omega arith)

  -- the class of b goes to a
  pub root-moves : (k : ℕ) → canonical_at t k ≡ goes_to a b (canonical_at s k)
  unfolding united_roots
  root-moves k =
      subst (λ (q : ValueEquivalenceClasses). canonical_of q k ≡ canonical_of q (canonical_of p k)) joined_is
      ((joined-met p many down a b (omega arith) high k (canonical_of p k)).1 (inl (sym (canonical_idempotent p down k))))
      ∙ canonical_goes p many down a b less high own-a (canonical_of p k) (canonical_idempotent p down k)

  flag-stays : s.contradictory ≡ true → t.contradictory ≡ true
  unfolding united_roots
  flag-stays e = or_inl s.contradictory _ e

  cell_a : cell_of t a ≡ joined_cell (cell_of s a) (cell_of s b)
  unfolding united_roots joined_cell
  cell_a = λ i. record {
    non_null = moved_a (non_nulls s) a b (null_on (non_null_at s a) (non_null_at s b)) false false less high g.nulls.long i;
    literal = moved_a (literals s) a b (place_at s a b).literal none none less high g.equal.long i;
    entry = moved_a s.ranges a b (place_at s a b).entry no_entry blank less high g.within.long i;
    contradictory = t.contradictory;
  }

  cell_other : (k : ℕ) → (k ≡ a → ⊥) → (k ≡ b → ⊥) → cell_of t k ≡ record {
    non_null = non_null_at s k;
    literal = literal_at s k;
    entry = entry_at s k;
    contradictory = t.contradictory;
  }
  unfolding united_roots
  cell_other k n m = λ i. record {
    non_null = moved_other (non_nulls s) a b (null_on (non_null_at s a) (non_null_at s b)) false false less high g.nulls.long k n m i;
    literal = moved_other (literals s) a b (place_at s a b).literal none none less high g.equal.long k n m i;
    entry = moved_other s.ranges a b (place_at s a b).entry no_entry blank less high g.within.long k n m i;
    contradictory = t.contradictory;
  }

  -- b is empty then
  b_entry : entry_at t b ≡ no_entry
  unfolding united_roots
  b_entry = moved_b s.ranges a b (place_at s a b).entry no_entry blank less high g.within.long

  a_low : a < 128
  a_low = omega arith

  united-bounded : (k : ℕ) → k < 128 → Bounded (entry_at t k)
  united-bounded k h = elim (ℕ_discrete k a) [
    | yes e ↦ subst (λ (z : ℕ). Bounded (entry_at t z)) (sym e)
        (subst (λ (c : Cell). Bounded c.entry) (sym cell_a) (bounded-joined (cell_of s a) (cell_of s b) (rd.bounds a a_low) (rd.bounds b high)))
    | no n ↦ elim (ℕ_discrete k b) [
      | yes e ↦ subst (λ (z : ℕ). Bounded (entry_at t z)) (sym e) (subst Bounded (sym b_entry) (λ z. absurd (false≢true z)))
      | no m ↦ subst (λ (c : Cell). Bounded c.entry) (sym (cell_other k n m)) (rd.bounds k h)
    ]
  ]

  pub united_ready : Ready t
  united_ready = record { settled = united-settled s g a b less high own-a; bounds = united-bounded; room = unfold united_roots in rd.room }

  -- what stood at k stands where k goes
  place : (k : ℕ) → Grows (cell_of s k) (cell_of t (goes_to a b k))
  place k = elim (ℕ_discrete k b) [
    | yes e ↦ subst (λ (z : ℕ). Grows (cell_of s z) (cell_of t (goes_to a b z))) (sym e)
        (subst (λ (z : ℕ). Grows (cell_of s b) (cell_of t z)) (sym (goes_b a b))
        (subst (Grows (cell_of s b)) (sym cell_a) (grows-right (cell_of s a) (cell_of s b) (λ z. z) (rd.bounds a a_low) (rd.bounds b high))))
    | no m ↦ subst (λ (z : ℕ). Grows (cell_of s k) (cell_of t z)) (sym (goes_other a b k m)) (elim (ℕ_discrete k a) [
      | yes e ↦ subst (λ (z : ℕ). Grows (cell_of s z) (cell_of t z)) (sym e) (subst (Grows (cell_of s a)) (sym cell_a) (grows-left (cell_of s a) (cell_of s b)))
      | no n ↦ subst (Grows (cell_of s k)) (sym (cell_other k n m)) (grows-flag (cell_of s k) (non_null_at s k) t.contradictory (λ e. e) flag-stays)
    ])
  ]

  pub united-keeps : Keeps s t
  united-keeps = record {
    classes = λ i j e. root-moves i ∙ ap (goes_to a b) e ∙ sym (root-moves j);
    cells = λ i h. subst (λ (z : ℕ). Grows (cell_of s (canonical_at s i)) (cell_of t z)) (sym (root-moves i)) (place (canonical_at s i));
    handled = unfold united_roots in λ h e. e;
  }

  pub together : (i j : ℕ) → canonical_at s i ≡ a → canonical_at s j ≡ b → canonical_at t i ≡ canonical_at t j
  together i j ei ej =
      root-moves i ∙ ap (goes_to a b) ei ∙ goes_other a b a (omega arith) ∙ sym (goes_b a b) ∙ ap (goes_to a b) (sym ej) ∙ sym (root-moves j)

-- ---- two identities joined
module _ (s : ConstraintSet) (rd : Ready s) (i j : ℕ) (hi : i < 128) (hj : j < 128) where
  gs : Settled s
  gs = rd.settled

  abbrev x : ℕ
  x = canonical_at s i

  abbrev y : ℕ
  y = canonical_at s j

  pub x_low : x < 128
  x_low = canonical_low s gs i hi

  pub y_low : y < 128
  y_low = canonical_low s gs j hj

  pub own : (k : ℕ) → canonical_at s (canonical_at s k) ≡ canonical_at s k
  own k = canonical_own s gs k

  -- what holds of the set where the two are in one class, and of it with their two representatives joined, holds of it after a union
  pub union_so : (P : ConstraintSet → Type 0) → (x ≡ y → P s) → (x < y → P (united_roots s x y)) → (y < x → P (united_roots s y x)) → P (union_values s i j)
  union_so P same left right = elim (dec_lt x y) [
    | yes h ↦ subst P (united-left s gs i j hi hj h) (left h)
    | no n ↦ elim (dec_lt y x) [
      | yes h ↦ subst P (united-right s gs i j hi hj h) (right h)
      | no m ↦ (let e : x ≡ y = omega arith in subst P (sym (union_one s i j hi hj e)) (same e))
    ]
  ]

  pub union_ready : Ready (union_values s i j)
  union_ready = union_so Ready (λ e. rd) (λ h. united_ready s rd x y h y_low (own i) (own j)) (λ h. united_ready s rd y x h x_low (own j) (own i))

  pub union_keeps : Keeps s (union_values s i j)
  union_keeps = union_so (Keeps s) (λ e. keeps_self s) (λ h. united-keeps s rd x y h y_low (own i) (own j)) (λ h. united-keeps s rd y x h x_low (own j) (own i))

  pub union_together : canonical_at (union_values s i j) i ≡ canonical_at (union_values s i j) j
  union_together =
      union_so (λ (t : ConstraintSet). canonical_at t i ≡ canonical_at t j) (λ e. e) (λ h. together s rd x y h y_low (own i) (own j) i j refl refl)
      (λ h. sym (together s rd y x h x_low (own j) (own i) j i refl refl))
