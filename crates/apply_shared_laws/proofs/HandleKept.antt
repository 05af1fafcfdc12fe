-- A handle that is kept as a residual leaves an ready set ready and keeps what was there; one that is there is not kept again. Assumes nothing.
use Prim.Native.Nat.{ℕ, zero, suc, ◌+◌, ◌<◌, min}
use mathlib.Core.Path.{◌≡◌, refl, sym, ap, ap₂, ◌∙◌}
use mathlib.Core.Bool.{Bool, true, false, cond, ◌||◌, or-false, true≢false, or_assoc}
use mathlib.Core.List.{List}
use native.Mathlib.Omega.{arith}
use borrow.Author.Tests.{ltb-true, eq-eqb}
use lib.Dec.{ltb, eqb}
use lib.ListN.{length, get_or, set, length-set}
use lib.Seq.{get_or-set_same, get_or-set_other}
use Rattle.laws.proofs.Bools.{or_inr, or_inl}
use Rattle.lists.specs.Ranges.{any_from}
use Rattle.lists.proofs.RangeLaws.{any_same}
use Rattle.constraint_spec.specs.Sets.{handles, non_null_at, canonical_at, with_residuals, has_handle, push_residual, add_residual, done, refused_with}
use Rattle.constraint_spec.specs.declared.ConstraintSet.{ConstraintSet}
use Rattle.constraint_set.specs.Kept.{has_in}
use Rattle.constraint_set.specs.Settled.{Settled}
use Rattle.constraint_normal.specs.Ready.{Ready}
use Rattle.apply_action.specs.Cells.{cell_of}
use Rattle.apply_shared_laws.proofs.Growing.{grows-flag}
use Rattle.apply_shared_laws.proofs.Keeping.{Keeps, keeps_self}

-- ---- one more place
any_last : (f : ℕ → Bool) (n i : ℕ) → any_from f i (suc n) ≡ (any_from f i n || f (i + n))
unfolding any_from
any_last f zero i = let e : i + 0 ≡ i = omega arith in or-false (f i) ∙ ap f (sym e)
any_last f (suc n) i =
    let e : suc i + n ≡ i + suc n = omega arith in
    ap (λ (b : Bool). f i || b) (any_last f n (suc i) ∙ ap (λ (k : ℕ). any_from f (suc i) n || f k) e)
    ∙ sym (or_assoc (f i) (any_from f (suc i) n) (f (i + suc n)))

module _ (l : List ℕ) (n h : ℕ) (long : length l ≡ 64) (low : n < 64) where
  -- the handle is put after the others
  more : (k : ℕ) → has_in (set l n h) (n + 1) k ≡ (has_in l n k || eqb h k)
  more k =
      let a : min (n + 1) 64 ≡ suc n = omega arith in
      let b : min n 64 ≡ n = omega arith in
      let new : ℕ → Bool = λ j. eqb (get_or (set l n h) j 0) k in
      let old : ℕ → Bool = λ j. eqb (get_or l j 0) k in
      let z : 0 + n ≡ n = omega arith in
      ap (any_from new 0) a ∙ any_last new n 0 ∙ ap (λ (m : ℕ). any_from new 0 n || new m) z
      ∙ ap₂ (λ (x y : Bool). x || y)
      (any_same new old n 0 (λ j lo hi. ap (λ (z : ℕ). eqb z k) (get_or-set_other l n j h 0 (omega arith))) ∙ ap (any_from old 0) (sym b))
      (ap (λ (z : ℕ). eqb z k) (get_or-set_same l n h 0 (omega arith)))

  pub more_stays : (k : ℕ) → has_in l n k ≡ true → has_in (set l n h) (n + 1) k ≡ true
  more_stays k e = more k ∙ or_inl (has_in l n k) (eqb h k) e

  pub more-has : has_in (set l n h) (n + 1) h ≡ true
  more-has = more h ∙ or_inr (has_in l n h) (eqb h h) (eq-eqb h h refl)

-- ---- a residual
module _ (u : ConstraintSet) (h : ℕ) where
  -- one that is there is not kept again
  pub added-again : has_in (handles u) u.residuals h ≡ true → add_residual u h ≡ done u
  unfolding add_residual push_residual
  added-again e = rw e

  abbrev pushed : ConstraintSet
  pushed = with_residuals u (set (handles u) u.residuals h) (u.residuals + 1)

  -- what holds of the set with the handle and, where the handle was there, of the set itself, holds of the set after
  module _ (P : ConstraintSet → Type 0) (there : has_in (handles u) u.residuals h ≡ true → P u) (new : u.residuals < 64 → P pushed) where
    pub added-so : (add_residual u h).refused ≡ false → P (add_residual u h).constraints
    unfolding add_residual push_residual
    added-so e = go (has_handle u h) (ltb u.residuals 64) refl refl e
      where
        go : (a b : Bool) → has_handle u h ≡ a → ltb u.residuals 64 ≡ b
            → (cond (a || b) (done (cond a u (cond b pushed u))) (refused_with u)).refused ≡ false
            → P (cond (a || b) (done (cond a u (cond b pushed u))) (refused_with u)).constraints
        go true b p q e = there p
        go false true p q e = new (ltb-true u.residuals 64 q)
        go false false p q e = absurd (true≢false e)

module _ (u : ConstraintSet) (rd : Ready u) (h : ℕ) where
  new-keeps : u.residuals < 64 → Keeps u (pushed u h)
  new-keeps low = record {
    classes = λ i j e. e;
    cells = λ i l. grows-flag (cell_of u (canonical_at u i)) (non_null_at u (canonical_at u i)) u.contradictory (λ e. e) (λ e. e);
    handled = more_stays (handles u) u.residuals h rd.room low;
  }

  new-settled : Settled u → Settled (pushed u h)
  new-settled k = record { many = k.many; ok = k.ok; nulls = k.nulls; equal = k.equal; within = k.within; quiet = k.quiet; checked = k.checked }

  new_ready : Ready (pushed u h)
  new_ready = record {
    settled = new-settled rd.settled;
    bounds = rd.bounds;
    room = length-set (handles u) u.residuals h ∙ rd.room;
  }

  module _ (e : (add_residual u h).refused ≡ false) where
    pub added_ready : Ready (add_residual u h).constraints
    added_ready = added-so u h Ready (λ z. rd) (λ z. new_ready) e

    pub added-keeps : Keeps u (add_residual u h).constraints
    added-keeps = added-so u h (Keeps u) (λ z. keeps_self u) new-keeps e

    pub added-has : has_in (handles (add_residual u h).constraints) (add_residual u h).constraints.residuals h ≡ true
    added-has =
        added-so u h (λ (t : ConstraintSet). has_in (handles t) t.residuals h ≡ true) (λ z. z) (more-has (handles u) u.residuals h rd.room) e
