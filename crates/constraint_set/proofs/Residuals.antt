-- Pushing a handle by itself is pushing it in a set. Assumes nothing.
use mathlib.Core.Path.{◌≡◌, refl, sym, ap, ◌∙◌}
use mathlib.Core.List.{List, [], ◌∷◌}
use native.Mathlib.Omega.{arith}
use borrow.Author.Tests.{lt-ltb, le-ltb}
use Rattle.std.specs.List.{list_any}
use Rattle.lists.specs.Ranges.{any_from}
use mathlib.Core.Bool.{Bool, true, false, not, cond, ◌||◌}
use Prim.Native.Nat.{ℕ, zero, suc, ◌+◌, ◌≤◌, ◌<◌, min}
use lib.Dec.{ltb, eqb}
use lib.ListN.{length, get_or, set, take}
use Rattle.constraint_spec.specs.Sets.{handles, handle_at, with_residuals, has_handle, room_for, push_residual, applied_of, done, refused_with, add_residual}
use Rattle.constraint_spec.specs.declared.ConstraintSet.{ConstraintSet}
use Rattle.constraint_set.specs.Kept.{kept_by}
use Rattle.constraint_set.specs.Kept.{Kept}

module _ (s : ConstraintSet) (h : ℕ) where
  abbrev k : Kept
  k = kept_by (handles s) s.residuals h

  -- by whether it is there, and whether there is room
  abbrev by : Bool → Bool → Kept
  by a b =
      cond a (record { list = handles s; count = s.residuals; refused = false })
      (cond b (record { list = set (handles s) s.residuals h; count = s.residuals + 1; refused = false })
      (record { list = handles s; count = s.residuals; refused = true }))

  -- a handle pushed by itself
  pub kept_set : with_residuals s k.list k.count ≡ push_residual s h
  unfolding kept_by push_residual
  kept_set = go (has_handle s h) (ltb s.residuals 64)
    where
      go : (a b : Bool) → with_residuals s (by a b).list (by a b).count ≡ cond a s
          (cond b (with_residuals s (set (handles s) s.residuals h) (s.residuals + 1)) s)
      go true b = refl
      go false true = refl
      go false false = refl

  pub kept-refused : k.refused ≡ not (room_for s h)
  unfolding kept_by
  kept-refused = go (has_handle s h) (ltb s.residuals 64)
    where
      go : (a b : Bool) → (by a b).refused ≡ not (a || b)
      go true b = refl
      go false true = refl
      go false false = refl

-- `add_residual` is a handle pushed, with whether there was room
added : (s : ConstraintSet) (h : ℕ) → applied_of (push_residual s h) (not (room_for s h)) ≡ add_residual s h
unfolding add_residual push_residual
added s h = go (has_handle s h) (ltb s.residuals 64)
  where
    push : Bool → Bool → ConstraintSet
    push a b = cond a s (cond b (with_residuals s (set (handles s) s.residuals h) (s.residuals + 1)) s)

    go : (a b : Bool) → applied_of (push a b) (not (a || b)) ≡ cond (a || b) (done (push a b)) (refused_with s)
    go true b = refl
    go false true = refl
    go false false = refl

pub residual-added : (s : ConstraintSet) (h : ℕ) (k : Kept) → k ≡ kept_by (handles s) s.residuals h
    → applied_of (with_residuals s k.list k.count) k.refused ≡ add_residual s h
residual-added s h k e = rw e (λ i. applied_of (kept_set s h i) (kept-refused s h i)) ∙ added s h

-- ---- the handle sought with the library's search
any-shift : (f : ℕ → Bool) (i n : ℕ) → any_from f (suc i) n ≡ any_from (λ (k : ℕ). f (suc k)) i n
unfolding any_from
any-shift f i zero = refl
any-shift f i (suc n) = ap (λ (b : Bool). f (suc i) || b) (any-shift f (suc i) n)

any-listed : (p : ℕ → Bool) (l : List ℕ) (n : ℕ) → n ≤ length l → list_any p (take n l) ≡ any_from (λ (k : ℕ). p (get_or l k 0)) 0 n
unfolding any_from
any-listed p l zero h = refl
any-listed p [] (suc n) h = absurd (omega arith)
any-listed p (x ∷ l) (suc n) h = ap (λ (b : Bool). p x || b) (any-listed p l n (omega arith) ∙ sym (any-shift (λ (k : ℕ). p (get_or (x ∷ l) k 0)) 0 n))

module _ (s : ConstraintSet) (h n : ℕ) (m : n ≡ min s.residuals 64) (long : length (handles s) ≡ 64) where
  abbrev found : Bool
  found = list_any (λ (k : ℕ). eqb k h) (take n (handles s))

  found-is : found ≡ has_handle s h
  found-is = any-listed (λ (k : ℕ). eqb k h) (handles s) n (omega arith) ∙ ap (λ (k : ℕ). any_from (λ (j : ℕ). eqb (handle_at s j) h) 0 k) m

  pub residual-there : (b : Bool) → b ≡ found → b ≡ true → done s ≡ add_residual s h
  unfolding add_residual push_residual
  residual-there b f e = rw (sym found-is ∙ sym f ∙ e)

  pub residual-full : (b : Bool) → b ≡ found → b ≡ false → 64 ≤ s.residuals → refused_with s ≡ add_residual s h
  unfolding add_residual push_residual
  residual-full b f e g = rw (sym found-is ∙ sym f ∙ e, le-ltb _ _ g)

  pub residual-new : (b : Bool) → b ≡ found → b ≡ false → s.residuals < 64
      → done (with_residuals s (set (handles s) s.residuals h) (s.residuals + 1)) ≡ add_residual s h
  unfolding add_residual push_residual
  residual-new b f e g = rw (sym found-is ∙ sym f ∙ e, lt-ltb _ _ g)

-- the three ways out of `add_residual`
pub ruleset residual_cases = (residual-there, residual-full, residual-new)
