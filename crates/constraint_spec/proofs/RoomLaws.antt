-- There is no room exactly where the list without a bound would pass 64, and else the list is that one. Assumes nothing.
use mathlib.Core.Path.{◌≡◌, refl, sym, ap, ap₂, ◌∙◌, subst}
use mathlib.Core.Bool.{Bool, true, false, not, ◌&&◌, ◌||◌, cond}
use mathlib.Core.List.{List, [], ◌∷◌, ◌++◌}
use mathlib.Core.Logic.{◌↔◌, ◌⊎◌, inl, inr}
use Prim.Native.Nat.{ℕ, zero, suc, ◌+◌, ◌≤◌, ◌<◌, min}
use native.Mathlib.Numerals.{add-one}
use native.Mathlib.Omega.{arith}
use lib.Dec.{T, eqb, ltb, ltb→lt, nltb→le}
use lib.ListN.{length, get_or, set, take, length-append}
use lib.Seq.{get_or-take, length-take-le, take-suc-set}
use lib.Ieee.{Float}
use Rattle.laws.proofs.Bools.{cond_T_elim}
use Rattle.lists.specs.Ranges.{any_from}
use Rattle.lists.proofs.RangeLaws.{any_same}
use Rattle.scalar.specs.declared.ScalarValue.{ScalarValue}
use Rattle.value_classes.specs.Classes.{union_of}
use Rattle.comparison.specs.declared.BinaryOp.{BinaryOp}
use Rattle.constraint_spec.specs.Sets.{non_nulls, literals, handles, non_null_at, literal_at, entry_at, handle_at, canonical_at, with_classes}
use Rattle.constraint_spec.specs.Sets.{with_residuals, with_flag, flag_if, put_non_null, lay_range, normalized, union_values, add_non_null, add_literal}
use Rattle.constraint_spec.specs.Sets.{add_bound, has_handle, room_for, push_residual, add_residual, steps_to, join_member, join_class, merge_literal}
use Rattle.constraint_spec.specs.Sets.{merge_range, merge_non_null, merge_residual, merge_classes, merge_literals, merge_ranges, merge_non_nulls}
use Rattle.constraint_spec.specs.Sets.{merge_residuals, merge_values, merged_set, room_to, merge_room, merge_from}
use Rattle.constraint_spec.specs.Meets.{Good}
use Rattle.constraint_spec.specs.Room.{listed, has, pushed, push_to, joint_list}
use Rattle.constraint_spec.specs.declared.ConstraintSet.{ConstraintSet}
use Rattle.constraint_spec.specs.Answers.{Applied}
use Rattle.constraint_spec.proofs.Steps.{steps-good}
use Rattle.constraint_spec.proofs.Beside.{Beside, beside_self, beside_null, beside_lay, beside_normalized, add_non_null_beside}
use Rattle.constraint_spec.proofs.Beside.{add_literal_beside, add_bound_beside}
use Rattle.constraint_spec.proofs.Operations.{residual-done, residual-refused}
use Rattle.constraint_spec.proofs.Merge.{values-good, residual-steps-good, merge_done, merge_refused}

-- ---- sets with the same residuals
pub record SameList (s t : ConstraintSet) : Type 0 where
  pub handles : t.residual_predicates ≡ s.residual_predicates
  pub count : t.residuals ≡ s.residuals

pub same_self : (s : ConstraintSet) → SameList s s
same_self s = record { handles = refl; count = refl }

pub same-through : (s t u : ConstraintSet) → SameList s t → SameList t u → SameList s u
same-through s t u a b = record { handles = b.handles ∙ a.handles; count = b.count ∙ a.count }

pub beside_same : (s t : ConstraintSet) → Beside s t → SameList s t
beside_same s t b = record { handles = b.handles; count = b.count }

-- whatever is recorded of identities, the residuals stay. Assumes nothing
pub same_flag : (s : ConstraintSet) (c : Bool) → SameList s (with_flag s c)
same_flag s c = record { handles = refl; count = refl }

pub same-normalized : (s : ConstraintSet) → SameList s (normalized s)
same-normalized s = beside_same s (normalized s) (beside_normalized s s (beside_self s))

pub same_union : (s : ConstraintSet) (i j : ℕ) → SameList s (union_values s i j)
unfolding union_values
same_union s i j =
    let u = union_of s.equivalence_classes i j in
    let t = with_classes s u.classes in
    cond_T_elim (SameList s) u.joined (normalized t) s (λ b. same-through s t (normalized t) (record { handles = refl; count = refl }) (same-normalized t))
    (same_self s)

pub same_nonnull : (s : ConstraintSet) (i : ℕ) → SameList s (add_non_null s i)
same_nonnull s i = beside_same s (add_non_null s i) (add_non_null_beside s i)

pub same-add_literal : (s : ConstraintSet) (i : ℕ) (l : ScalarValue) → SameList s (add_literal s i l)
same-add_literal s i l = beside_same s (add_literal s i l) (add_literal_beside s i l)

pub same-add_bound : (s : ConstraintSet) (i : ℕ) (op : BinaryOp) (x : Float) → SameList s (add_bound s i op x)
same-add_bound s i op x = beside_same s (add_bound s i op x) (add_bound_beside s i op x)

pub same-listed : (s t : ConstraintSet) → SameList s t → listed t ≡ listed s
same-listed s t a = ap₂ (λ (k : ℕ) (l : List ℕ). take k l) a.count a.handles

-- ---- the list that is recorded
pub pushed_grows : (l : List ℕ) (h : ℕ) → length l ≤ length (pushed l h)
unfolding pushed
pushed_grows l h = go (has l h)
  where
    go : (b : Bool) → length l ≤ length (cond b l (l ++ (h ∷ [])))
    go true = omega arith
    go false = omega (arith, length-append l (h ∷ []))

module _ (s : ConstraintSet) (few : s.residuals ≤ 64) (long : length (handles s) ≡ 64) where
  pub length-listed : length (listed s) ≡ s.residuals
  length-listed = length-take-le s.residuals (handles s) (omega arith)

  module _ (h : ℕ) where
    pub has_listed : has_handle s h ≡ has (listed s) h
    has_listed =
        let n : min s.residuals 64 ≡ s.residuals = omega arith in
        ap (any_from (λ (k : ℕ). eqb (handle_at s k) h) 0) n
        ∙ any_same (λ (k : ℕ). eqb (handle_at s k) h) (λ (k : ℕ). eqb (get_or (listed s) k 0) h) s.residuals 0
        (λ k lo hi. ap (λ (x : ℕ). eqb x h) (sym (get_or-take s.residuals (handles s) k 0 (omega arith))))
        ∙ ap (any_from (λ (k : ℕ). eqb (get_or (listed s) k 0) h) 0) (sym length-listed)

    pushed-listed : (a : Bool) → has_handle s h ≡ a → pushed (listed s) h ≡ cond a (listed s) (listed s ++ (h ∷ []))
    unfolding pushed
    pushed-listed a e = ap (λ (b : Bool). cond b (listed s) (listed s ++ (h ∷ []))) (sym has_listed ∙ e)

    -- the list after h where there is room, and one too long where there is none
    roomy : (a b : Bool) → has_handle s h ≡ a → ltb s.residuals 64 ≡ b → T (a || b) → (listed (push_residual s h) ≡ pushed (listed s) h)
        × (length (pushed (listed s) h) ≤ 64)
    unfolding push_residual
    roomy true b ea eb t = (
      ap (λ (x : Bool). listed (cond x s (cond (ltb s.residuals 64) (with_residuals s (set (handles s) s.residuals h) (s.residuals + 1)) s))) ea ∙ sym
          (pushed-listed true ea),
      subst (λ (l : List ℕ). length l ≤ 64) (sym (pushed-listed true ea)) (omega (arith, length-listed)),
    )
    roomy false true ea eb t =
        let small : s.residuals < 64 = ltb→lt s.residuals 64 (subst T (sym eb) tt) in (
          ap (λ (x : Bool). listed (cond x s (cond (ltb s.residuals 64) (with_residuals s (set (handles s) s.residuals h) (s.residuals + 1)) s))) ea
              ∙ ap (λ (x : Bool). listed (cond x (with_residuals s (set (handles s) s.residuals h) (s.residuals + 1)) s)) eb
              ∙ ap (λ (k : ℕ). take k (set (handles s) s.residuals h)) (add-one s.residuals) ∙ take-suc-set (handles s) s.residuals h (omega arith)
              ∙ sym (pushed-listed false ea),
          subst (λ (l : List ℕ). length l ≤ 64) (sym (pushed-listed false ea)) (omega (arith, length-listed, length-append (listed s) (h ∷ []))),
        )
    roomy false false ea eb t = absurd t

    crowded : (a b : Bool) → has_handle s h ≡ a → ltb s.residuals 64 ≡ b → T (not (a || b)) → 64 < length (pushed (listed s) h)
    crowded true b ea eb t = absurd t
    crowded false true ea eb t = absurd t
    crowded false false ea eb t =
        let big : 64 ≤ s.residuals = nltb→le s.residuals 64 (subst (λ (x : Bool). T (not x)) (sym eb) tt) in
        subst (λ (l : List ℕ). 64 < length l) (sym (pushed-listed false ea)) (omega (arith, length-listed, length-append (listed s) (h ∷ [])))

    -- with room the new list is the Rust's; without, the Rust's would pass 64. Assumes room for what is recorded
    pub room_noted : T (room_for s h) → (listed (push_residual s h) ≡ pushed (listed s) h) × (length (pushed (listed s) h) ≤ 64)
    room_noted t = roomy (has_handle s h) (ltb s.residuals 64) refl refl t

    pub room-full : T (not (room_for s h)) → 64 < length (pushed (listed s) h)
    room-full t = crowded (has_handle s h) (ltb s.residuals 64) refl refl t

-- what became of a list that should be `w`: it is the one, or it was refused, since it would pass 64
abbrev pub Fits : Applied → List ℕ → Type 0
Fits a w = ((a.refused ≡ false) × (listed a.constraints ≡ w) × (length w ≤ 64)) ⊎ ((a.refused ≡ true) × (64 < length w))

-- a residual is refused exactly where the list would pass 64, and else the list is the Rust's. Assumes a good set
pub residual-fits : (s : ConstraintSet) → Good s → (h : ℕ) → Fits (add_residual s h) (pushed (listed s) h)
residual-fits s g h = go (room_for s h) refl
  where
    go : (b : Bool) → room_for s h ≡ b → Fits (add_residual s h) (pushed (listed s) h)
    go true e =
        let t : T (room_for s h) = subst T (sym e) tt in
        subst (λ (a : Applied). Fits a (pushed (listed s) h)) (sym (residual-done s h t))
        (inl (refl, (room_noted s g.few g.handles_long h t).0, (room_noted s g.few g.handles_long h t).1))
    go false e =
        let t : T (not (room_for s h)) = subst (λ (b : Bool). T (not b)) (sym e) tt in
        subst (λ (a : Applied). Fits a (pushed (listed s) h)) (sym (residual-refused s h t)) (inr (refl, room-full s g.few g.handles_long h t))

-- ---- merging
module _ (b : ConstraintSet) where
  pub same-values : (a : ConstraintSet) → SameList a (merge_values a b)
  unfolding merge_non_nulls merge_ranges merge_literals merge_classes
  same-values a =
      steps-good (SameList a) (merge_non_null (non_nulls b)) 128
      (λ i h t m. cond_T_elim (SameList a) (non_null_at b i) (put_non_null t i) t
      (λ c. same-through a t (put_non_null t i) m (beside_same t (put_non_null t i) (beside_null t t (beside_self t) i))) m) 128 (omega arith) _
      (steps-good (SameList a) (merge_range b.ranges) 128
      (λ i h t m. cond_T_elim (SameList a) (entry_at b i).present (lay_range t (canonical_at t i) (entry_at b i).range) t
      (λ c. same-through a t (lay_range t (canonical_at t i) (entry_at b i).range) m
      (beside_same t (lay_range t (canonical_at t i) (entry_at b i).range) (beside_lay t t (beside_self t) (canonical_at t i) (entry_at b i).range))) m) 128
      (omega arith) _
      (steps-good (SameList a) (merge_literal (literals b)) 128
      (λ i h t m. cond_T_elim (SameList a) (literal_at b i).present (add_literal t i (literal_at b i).value) t
      (λ c. same-through a t (add_literal t i (literal_at b i).value) m (same-add_literal t i (literal_at b i).value)) m) 128 (omega arith) _
      (steps-good (SameList a) (join_class b.equivalence_classes) 128
      (λ r hr t m.
      steps-good (SameList a) (join_member b.equivalence_classes r) 128
      (λ i h u k. cond_T_elim (SameList a) (eqb (canonical_at b i) r && not (eqb i r)) (union_values u r i) u
      (λ c. same-through a u (union_values u r i) k (same_union u r i)) k) 128 (omega arith) t m)
      128 (omega arith) (flag_if b.contradictory a) (same_flag a _))))

  module _ (t : ConstraintSet) (g : Good t) (gb : Good b) where
    abbrev after : ℕ → ConstraintSet
    after k = steps_to (merge_residual (handles b)) k t

    abbrev Merged : ℕ → Type 0
    Merged k =
        ((room_to t (handles b) k ≡ true) × (listed (after k) ≡ push_to (listed t) (handles b) k) × (length (push_to (listed t) (handles b) k) ≤ 64))
        ⊎ ((room_to t (handles b) k ≡ false) × (64 < length (push_to (listed t) (handles b) k)))

    merged : (k : ℕ) → Merged k
    unfolding steps_to room_to push_to
    merged zero = inl (refl, refl, omega (arith, length-listed t g.few g.handles_long, g.few))
    merged (suc k) = go (merged k)
      where
        h : ℕ
        h = handle_at b k

        u : ConstraintSet
        u = steps_to (merge_residual (handles b)) k t

        w : List ℕ
        w = push_to (listed t) (handles b) k

        next : (x : Bool) → room_for u h ≡ x → room_to t (handles b) k ≡ true → listed u ≡ w
            → ((room_to t (handles b) k && room_for u h ≡ true) × (listed (push_residual u h) ≡ pushed w h) × (length (pushed w h) ≤ 64))
            ⊎ ((room_to t (handles b) k && room_for u h ≡ false) × (64 < length (pushed w h)))
        next true e r l =
            let f = residual-steps-good b gb t g k in
            let m = room_noted u f.few f.handles_long h (subst T (sym e) tt) in
            inl (ap₂ (λ (x y : Bool). x && y) r e, m.0 ∙ ap (λ (z : List ℕ). pushed z h) l, subst (λ (z : List ℕ). length (pushed z h) ≤ 64) l m.1)
        next false e r l =
            let f = residual-steps-good b gb t g k in
            inr (
              ap₂ (λ (x y : Bool). x && y) r e,
              subst (λ (z : List ℕ). 64 < length (pushed z h)) l (room-full u f.few f.handles_long h (subst (λ (x : Bool). T (not x)) (sym e) tt)),
            )

        go : Merged k → Merged (suc k)
        go (inl m) = next (room_for u h) refl m.0 m.1
        go (inr m) = inr (ap (λ (x : Bool). x && room_for u h) m.0, omega (arith, m.1, pushed_grows w h))

module _ (a b : ConstraintSet) (ga : Good a) (gb : Good b) where
  abbrev t : ConstraintSet
  t = merge_values a b

  few : min b.residuals 64 ≡ b.residuals
  few = omega (arith, gb.few)

  outcome : ((merge_room a b ≡ true) × (listed (merged_set a b) ≡ joint_list a b) × (length (joint_list a b) ≤ 64))
      ⊎ ((merge_room a b ≡ false) × (64 < length (joint_list a b)))
  unfolding merge_room merged_set merge_residuals
  outcome = go (merged b t (values-good b gb a ga) gb (min b.residuals 64))
    where
      n : ℕ
      n = min b.residuals 64

      e : push_to (listed t) (handles b) n ≡ joint_list a b
      e = ap₂ (λ (l : List ℕ) (k : ℕ). push_to l (handles b) k) (same-listed a t (same-values b a)) few

      go : ((room_to t (handles b) n ≡ true) × (listed (steps_to (merge_residual (handles b)) n t) ≡ push_to (listed t) (handles b) n)
          × (length (push_to (listed t) (handles b) n) ≤ 64))
          ⊎ ((room_to t (handles b) n ≡ false) × (64 < length (push_to (listed t) (handles b) n)))
          → ((merge_room a b ≡ true) × (listed (merged_set a b) ≡ joint_list a b) × (length (joint_list a b) ≤ 64))
          ⊎ ((merge_room a b ≡ false) × (64 < length (joint_list a b)))
      go (inl m) = inl (
        m.0,
        same-listed (steps_to (merge_residual (handles b)) n t) (normalized (steps_to (merge_residual (handles b)) n t))
            (same-normalized (steps_to (merge_residual (handles b)) n t)) ∙ m.1 ∙ e,
        subst (λ (l : List ℕ). length l ≤ 64) e m.2,
      )
      go (inr m) = inr (m.0, subst (λ (l : List ℕ). 64 < length l) e m.1)

  -- two sets merge exactly if the joint list does not pass 64. Assumes good sets
  pub merge_room_lem : (merge_room a b ≡ true) ↔ (length (joint_list a b) ≤ 64)
  merge_room_lem = go outcome
    where
      go : ((merge_room a b ≡ true) × (listed (merged_set a b) ≡ joint_list a b) × (length (joint_list a b) ≤ 64))
          ⊎ ((merge_room a b ≡ false) × (64 < length (joint_list a b)))
          → (merge_room a b ≡ true) ↔ (length (joint_list a b) ≤ 64)
      go (inl m) = (λ e. m.2, λ e. m.0)
      go (inr m) = (λ e. absurd (subst T (sym e ∙ m.0) tt), λ e. absurd (omega (arith, e, m.1)))

  -- and then that is the merged set's list; else the first set comes back. Assumes good sets
  pub merge_fits : Fits (merge_from a b) (joint_list a b)
  merge_fits = go outcome
    where
      go : ((merge_room a b ≡ true) × (listed (merged_set a b) ≡ joint_list a b) × (length (joint_list a b) ≤ 64))
          ⊎ ((merge_room a b ≡ false) × (64 < length (joint_list a b)))
          → Fits (merge_from a b) (joint_list a b)
      go (inl m) = subst (λ (x : Applied). Fits x (joint_list a b)) (sym (merge_done a b m.0)) (inl (refl, m.1, m.2))
      go (inr m) = subst (λ (x : Applied). Fits x (joint_list a b)) (sym (merge_refused a b m.0)) (inr (refl, m.1))
