-- Refusal 7, exactly: a predicate and a merge are refused where the list that has no bound would pass 64, and else leave that list. Assumes nothing.
use mathlib.Core.Path.{◌≡◌, refl, sym, ap, ap₂, subst, ◌∙◌}
use mathlib.Core.Bool.{Bool, true, false, cond, not, ◌&&◌}
use mathlib.Core.List.{List, [], ◌∷◌}
use mathlib.Core.Logic.{◌⊎◌, inl, inr}
use Prim.Native.Nat.{ℕ, zero, suc, ◌<◌, ◌≤◌, min}
use native.Mathlib.Omega.{arith}
use lib.Dec.{T}
use lib.ListN.{get_or, length}
use Rattle.constraint_spec.specs.Sets.{handles, empty_set, steps_to, room_for, push_residual, done, normalized, merge_residual}
use Rattle.constraint_spec.specs.Sets.{merge_residuals}
use Rattle.constraint_spec.specs.Sets.{merge_values, merged_set, room_to, merge_room, merge_from}
use Rattle.constraint_spec.specs.Room.{listed, pushed, push_to, joint_list}
use Rattle.constraint_spec.specs.declared.ConstraintSet.{ConstraintSet}
use Rattle.constraint_spec.specs.Answers.{Applied}
use Rattle.constraint_spec.proofs.RoomLaws.{same-normalized, same-listed, same-values, pushed_grows, length-listed, room_noted, room-full, Fits}
use Rattle.constraint_spec.proofs.Merge.{merge_done, merge_refused}
use Rattle.plan.specs.declared.Plan.{Plan}
use Rattle.plan_data.specs.Nodes.{node_at}
use Rattle.plan_data.specs.declared.ExprData.{ExprData}
use Rattle.apply_spec.specs.Conjuncts.{conjuncts_of}
use Rattle.apply_spec.specs.Apply.{conjunct_applied, all_applied}
use Rattle.apply_spec.specs.Entries.{predicate_applied}
use Rattle.apply_spec.specs.Wanted.{conjunct_recorded, wanted_by}
use Rattle.apply_spec.proofs.Refusals.{Roomy, same-roomy, push-roomy, conjunct_leaves}
use Rattle.derive_spec.specs.Residuals.{predicate_list}

-- ---- sets with 64 places for residuals, of which they use no more
pub roomy-empty : Roomy empty_set
unfolding empty_set
roomy-empty = record { few = omega arith; long = refl }

-- ---- what became of a list that should be w
abbrev pub Kept : Applied → List ℕ → Type 0
Kept a w = ((a.refused ≡ false) × Roomy a.constraints × (listed a.constraints ≡ w) × (length w ≤ 64)) ⊎ ((a.refused ≡ true) × (64 < length w))

kept_by_lem : (a : Applied) (w : List ℕ) → Roomy a.constraints → Fits a w → Kept a w
kept_by_lem a w r (inl f) = inl (f.0, r, f.1, f.2)
kept_by_lem a w r (inr f) = inr f

-- ---- conjuncts in order
pub list-grows : (recorded : ℕ → Bool) (l hs : List ℕ) → length l ≤ length (wanted_by recorded l hs)
unfolding wanted_by
list-grows recorded l [] = omega arith
list-grows recorded l (h ∷ hs) = omega (arith, one (recorded h), list-grows recorded (cond (recorded h) l (pushed l h)) hs)
  where
    one : (b : Bool) → length l ≤ length (cond b l (pushed l h))
    one true = omega arith
    one false = pushed_grows l h

module _ (lineage : List ℕ) (node : ℕ → ExprData) where
  all-kept : (hs : List ℕ) (a : Applied) (w : List ℕ) → Kept a w → Kept (all_applied (conjunct_applied lineage node) hs a)
      (wanted_by (conjunct_recorded lineage node) w hs)
  unfolding all_applied wanted_by
  all-kept [] a w k = k
  all-kept (h ∷ hs) a w k = all-kept hs _ _ (next k)
    where
      crowded : (b : Bool) → 64 < length w → 64 < length (cond b w (pushed w h))
      crowded true l = l
      crowded false l = omega (arith, l, pushed_grows w h)

      next : Kept a w → Kept (cond a.refused a (conjunct_applied lineage node a.constraints h)) (cond (conjunct_recorded lineage node h) w (pushed w h))
      next (inl m) =
          subst (λ (t : Bool). Kept (cond t a (conjunct_applied lineage node a.constraints h)) (cond (conjunct_recorded lineage node h) w (pushed w h)))
          (sym m.0)
          (subst (λ (l : List ℕ). Kept (conjunct_applied lineage node a.constraints h) (cond (conjunct_recorded lineage node h) l (pushed l h))) m.2
          (let k = conjunct_leaves a.constraints m.1 h lineage node in kept_by_lem _ _ k.0 k.1))
      next (inr m) =
          subst (λ (t : Bool). Kept (cond t a (conjunct_applied lineage node a.constraints h)) (cond (conjunct_recorded lineage node h) w (pushed w h)))
          (sym m.0)
          (inr (m.0, crowded (conjunct_recorded lineage node h) m.1))

-- a predicate is refused exactly where the list would pass 64, and else the list is that one
pub predicate-kept : (p : Plan) (lineage : List ℕ) (s : ConstraintSet) → Roomy s → (e : ℕ) → Kept (predicate_applied p lineage s e)
    (predicate_list p lineage (listed s) e)
unfolding predicate_applied
predicate-kept p lineage s r e =
    all-kept lineage (node_at p) (conjuncts_of (node_at p) p.items.a e) (done s) (listed s)
    (inl (refl, r, refl, subst (λ (n : ℕ). n ≤ 64) (sym (length-listed s r.few r.long)) r.few))

-- ---- merging
module _ (b t : ConstraintSet) (r : Roomy t) where
  abbrev after : ℕ → ConstraintSet
  after k = steps_to (merge_residual (handles b)) k t

  after-roomy : (k : ℕ) → Roomy (after k)
  unfolding steps_to
  after-roomy zero = r
  after-roomy (suc k) = push-roomy (after k) (after-roomy k) (get_or (handles b) k 0)

  abbrev MergedTo : ℕ → Type 0
  MergedTo k =
      ((room_to t (handles b) k ≡ true) × (listed (after k) ≡ push_to (listed t) (handles b) k) × (length (push_to (listed t) (handles b) k) ≤ 64))
      ⊎ ((room_to t (handles b) k ≡ false) × (64 < length (push_to (listed t) (handles b) k)))

  merged-to : (k : ℕ) → MergedTo k
  unfolding steps_to room_to push_to
  merged-to zero = inl (refl, refl, subst (λ (n : ℕ). n ≤ 64) (sym (length-listed t r.few r.long)) r.few)
  merged-to (suc k) = go (merged-to k)
    where
      h : ℕ
      h = get_or (handles b) k 0

      u : ConstraintSet
      u = steps_to (merge_residual (handles b)) k t

      w : List ℕ
      w = push_to (listed t) (handles b) k

      next : (x : Bool) → room_for u h ≡ x → room_to t (handles b) k ≡ true → listed u ≡ w
          → ((room_to t (handles b) k && room_for u h ≡ true) × (listed (push_residual u h) ≡ pushed w h) × (length (pushed w h) ≤ 64))
          ⊎ ((room_to t (handles b) k && room_for u h ≡ false) × (64 < length (pushed w h)))
      next true e o l =
          let f = after-roomy k in
          let m = room_noted u f.few f.long h (subst T (sym e) tt) in
          inl (ap₂ (λ (x y : Bool). x && y) o e, m.0 ∙ ap (λ (z : List ℕ). pushed z h) l, subst (λ (z : List ℕ). length (pushed z h) ≤ 64) l m.1)
      next false e o l =
          let f = after-roomy k in
          inr (
            ap₂ (λ (x y : Bool). x && y) o e,
            subst (λ (z : List ℕ). 64 < length (pushed z h)) l (room-full u f.few f.long h (subst (λ (x : Bool). T (not x)) (sym e) tt)),
          )

      go : MergedTo k → MergedTo (suc k)
      go (inl m) = next (room_for u h) refl m.0 m.1
      go (inr m) = inr (ap (λ (x : Bool). x && room_for u h) m.0, omega (arith, m.1, pushed_grows w h))

-- two sets are refused exactly where the joint list would pass 64, and else the list is that one
pub merge_kept : (a b : ConstraintSet) → Roomy a → Roomy b → Kept (merge_from a b) (joint_list a b)
unfolding merge_room merged_set merge_residuals
merge_kept a b ra rb = go (merged-to b t rt n)
  where
    t : ConstraintSet
    t = merge_values a b

    rt : Roomy t
    rt = same-roomy a t (same-values b a) ra

    n : ℕ
    n = min b.residuals 64

    few : n ≡ b.residuals
    few = omega (arith, rb.few)

    u : ConstraintSet
    u = steps_to (merge_residual (handles b)) n t

    e : push_to (listed t) (handles b) n ≡ joint_list a b
    e = ap₂ (λ (l : List ℕ) (k : ℕ). push_to l (handles b) k) (same-listed a t (same-values b a)) few

    go : ((room_to t (handles b) n ≡ true) × (listed u ≡ push_to (listed t) (handles b) n) × (length (push_to (listed t) (handles b) n) ≤ 64))
        ⊎ ((room_to t (handles b) n ≡ false) × (64 < length (push_to (listed t) (handles b) n)))
        → Kept (merge_from a b) (joint_list a b)
    go (inl m) =
        subst (λ (x : Applied). Kept x (joint_list a b)) (sym (merge_done a b m.0))
        (inl (
          refl,
          same-roomy u (normalized u) (same-normalized u) (after-roomy b t rt n),
          same-listed u (normalized u) (same-normalized u) ∙ m.1 ∙ e,
          subst
              (λ (l : List ℕ). length l ≤ 64) e m.2,
        ))
    go (inr m) =
        subst (λ (x : Applied). Kept x (joint_list a b)) (sym (merge_refused a b m.0)) (inr (refl, subst (λ (l : List ℕ). 64 < length l) e m.1))
