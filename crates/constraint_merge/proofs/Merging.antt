-- Going from member to member unites what going through all identities does, and what the loops over the other set's entries come to. Assumes nothing.
use mathlib.Core.Path.{◌≡◌, refl, sym, ap, ◌∙◌, subst}
use mathlib.Core.Bool.{Bool, true, false, not, cond, ◌&&◌, ◌||◌, or-true, or-false, and-false}
use mathlib.Core.List.{List}
use Prim.Native.Nat.{ℕ, zero, suc, ◌+◌, ◌-◌, ◌≤◌, ◌<◌, min}
use native.Mathlib.Decide.{dec_lt, ℕ_discrete}
use native.Mathlib.Omega.{arith}
use native.Mathlib.Numerals.{add-one}
use borrow.Author.Tests.{lt-ltb, le-ltb, eq-eqb, ne_eqb}
use lib.ListN.{length, get_or, set, take, length-take}
use lib.Seq.{set-get_or, get_or-take}
use Rattle.value_classes.specs.Classes.{canonical_of}
use Rattle.value_classes.specs.Listed.{first_member, next_member, members_of}
use Rattle.value_classes.specs.declared.ValueEquivalenceClasses.{ValueEquivalenceClasses}
use Rattle.value_classes.specs.declared.Members.{Members}
use Rattle.value_classes.proofs.MemberLaws.{first-at, next-at, first-at-least, first-at_most, first_member_lem, first_skips}
use Rattle.value_classes.proofs.Unions.{left_out}
use Rattle.constraint_spec.specs.Sets.{blank, non_nulls, non_null_at, literals, handles, canonical_at, with_non_nulls, lay_range}
use Rattle.constraint_spec.specs.Sets.{put_non_null, merge_range, merge_non_null, flag_if, union_values, room_for}
use Rattle.constraint_spec.specs.Sets.{push_residual, add_residual, applied_of, done, refused_with, steps_to}
use Rattle.constraint_spec.specs.Sets.{join_member, join_class, merge_residual, merge_residuals, merge_classes, merge_literals, merge_ranges}
use Rattle.constraint_spec.specs.Sets.{merge_non_nulls, merge_values}
use Rattle.constraint_spec.specs.Sets.{normalized, merged_set, room_to, merge_room, merge_from}
use Rattle.constraint_spec.specs.declared.Entry.{Entry}
use Rattle.constraint_spec.specs.declared.ConstraintSet.{ConstraintSet}
use Rattle.constraint_spec.specs.Answers.{Applied}
use Rattle.constraint_spec.proofs.Steps.{steps-skip, steps_next}
use Rattle.constraint_spec.proofs.Operations.{union_one}
use Rattle.constraint_spec.proofs.Merge.{merge_done, merge_refused}
use Rattle.constraint_merge.specs.Chained.{second_of, chained, join_chain}

-- one identity united with itself
union_self : (t : ConstraintSet) (r : ℕ) → union_values t r r ≡ t
unfolding union_values
union_self t r = elim (dec_lt r 128) [
  | yes h ↦ union_one t r r h h refl
  | no h ↦ rw (← left_out t.equivalence_classes r r (omega arith))
]

-- past the identities there is no member
pub chained-past : (ms : Members) (r n m : ℕ) (t : ConstraintSet) → 128 ≤ m → t ≡ chained ms r n m t
unfolding chained
chained-past ms r zero m t h = refl
chained-past ms r (suc n) m t h = rw (le-ltb _ _ h)

-- a walk of n steps, the k-th of them
pub chained-done : (ms : Members) (r n k m : ℕ) (t : ConstraintSet) → n ≤ k → t ≡ chained ms r (n - k) m t
unfolding chained
chained-done ms r n k m t h = let e : n - k ≡ 0 = omega arith in rw e

pub chained-step : (ms : Members) (r n k m : ℕ) (t u : ConstraintSet) → k < n → m < 128 → u ≡ union_values t r m
    → chained ms r (n - k) m t ≡ chained ms r (n - (k + 1)) (get_or ms.next m 0) u
unfolding chained
chained-step ms r n k m t u h l e = let d : n - k ≡ suc (n - (k + 1)) = omega arith in rw (d, lt-ltb _ _ l, e)

module _ (c : ValueEquivalenceClasses) (r : ℕ) where
  abbrev ms : Members
  ms = members_of c

  abbrev f : ℕ → ConstraintSet → ConstraintSet
  f = join_member c r

  idle : (j : ℕ) (t : ConstraintSet) → (canonical_of c j ≡ r → ⊥) → f j t ≡ t
  idle j t d = rw (ne_eqb _ _ d)

  joins : (m : ℕ) (t : ConstraintSet) → canonical_of c m ≡ r → f m t ≡ union_values t r m
  joins m t e = elim (ℕ_discrete m r) [
    | yes d ↦ rw (eq-eqb _ _ e, eq-eqb _ _ d, d) (sym (union_self t r))
    | no d ↦ rw (eq-eqb _ _ e, ne_eqb _ _ d)
  ]

  -- from a member to the next
  to-next : (m : ℕ) (t : ConstraintSet) → m < 128 → canonical_of c m ≡ r → union_values (steps_to f m t) r m ≡ steps_to f (next_member c m) t
  unfolding steps_to
  to-next m t h e =
      let lo : suc m ≤ next_member c m = omega (arith, first-at-least c (canonical_of c m) (m + 1)) in
      sym (joins m (steps_to f m t) e)
      ∙ sym (steps-skip f t (next_member c m) (suc m) lo (λ j a b u. idle j u (λ d. first_skips c (canonical_of c m) (m + 1) j (omega arith) b (d ∙
      sym e))))

  chain_all : (n m : ℕ) (t : ConstraintSet) → 128 ≤ m + n → m ≤ 128 → (m < 128 → canonical_of c m ≡ r) → chained ms r n m (steps_to f m t) ≡ steps_to
      f 128 t
  unfolding chained
  chain_all zero m t lo hi e = let d : m ≡ 128 = omega arith in rw d
  chain_all (suc n) m t lo hi e = elim (dec_lt m 128) [
    | yes h ↦ (let g = e h in
        rw (lt-ltb _ _ h, next-at c m h, to-next m t h g)
        (chain_all n (next_member c m) t (omega (arith, first-at-least c (canonical_of c m) (m + 1))) (first-at_most c (canonical_of c m) (m + 1)
        (omega arith))
        (λ b. first_member_lem c (canonical_of c m) (m + 1) (omega arith) b ∙ g)))
    | no h ↦ (let d : m ≡ 128 = omega arith in rw (le-ltb m 128 (omega arith), d))
  ]

  none_before : (m : ℕ) (t : ConstraintSet) → ((j : ℕ) → j < m → canonical_of c j ≡ r → ⊥) → steps_to f m t ≡ t
  none_before m t d = steps-skip f t m 0 (omega arith) (λ j a b u. idle j u (d j b)) ∙ (unfold steps_to in refl)

  -- the whole class, from its second member on
  chain_class : r < 128 → (t : ConstraintSet) → chained ms r 128 (second_of ms r) t ≡ join_class c r t
  chain_class h t = elim (ℕ_discrete (first_member c r 0) r) [
    | yes e ↦ (let own = subst (λ (x : ℕ). canonical_of c x ≡ r) e (first_member_lem c r 0 (omega arith) (omega arith)) in
        let start : steps_to f (next_member c r) t ≡ t = sym (to-next r t h own) ∙ ap (λ (u : ConstraintSet). union_values u r r)
        (none_before r t (λ j b d. first_skips c r 0 j (omega arith) (omega arith) d)) ∙ union_self t r in
        rw (first-at c r h, eq-eqb _ _ e, next-at c r h)
        (subst (λ (u : ConstraintSet). chained ms r 128 (next_member c r) u ≡ join_class c r t) start
        (chain_all 128 (next_member c r) t (omega arith) (first-at_most c (canonical_of c r) (r + 1) (omega arith))
        (λ b. first_member_lem c (canonical_of c r) (r + 1) (omega arith) b ∙ own))))
    | no d ↦ rw (first-at c r h, ne_eqb _ _ d)
        (subst (λ (u : ConstraintSet). chained ms r 128 (first_member c r 0) u ≡ join_class c r t)
        (none_before (first_member c r 0) t (λ j b g. first_skips c r 0 j (omega arith) b g))
        (chain_all 128 (first_member c r 0) t (omega arith) (first-at_most c r 0 (omega arith)) (λ b. first_member_lem c r 0 (omega arith) b)))
  ]

-- all classes
pub classes-joined : (c : ValueEquivalenceClasses) (s : ConstraintSet) (n : ℕ) → n ≤ 128 → steps_to (join_chain (members_of c)) n s ≡ steps_to
    (join_class c) n s
unfolding steps_to
classes-joined c s zero h = refl
classes-joined c s (suc n) h = chain_class c n (omega arith) (steps_to (join_chain (members_of c)) n s) ∙ ap (join_class c n) (classes-joined c s n
    (omega arith))

-- ---- the loops, after i turns
unfoldable pub classes_laid : Members → ConstraintSet → ℕ → ConstraintSet
classes_laid ms s i = steps_to (join_chain ms) i s

unfoldable pub ranges_laid : List Entry → ConstraintSet → ℕ → ConstraintSet
ranges_laid l s i = steps_to (merge_range l) i s

unfoldable pub nulls_laid : List Bool → ConstraintSet → ℕ → ConstraintSet
nulls_laid l s i = steps_to (merge_non_null l) i s

unfoldable pub handles_laid : List ℕ → ConstraintSet → ℕ → ConstraintSet
handles_laid l s i = steps_to (merge_residual l) i s

-- the classes of another set
pub classes-none : (m : Members) (s : ConstraintSet) → s ≡ classes_laid m s 0
unfolding classes_laid steps_to
classes-none m s = refl

pub classes-one : (ms : Members) (s t u : ConstraintSet) (i : ℕ) → t ≡ classes_laid ms s i → u ≡ join_chain ms i t → u ≡ classes_laid ms s (i + 1)
unfolding classes_laid
classes-one m s t u i v d = steps_next (join_chain m) s i t u v d

pub classes-done : (c : ValueEquivalenceClasses) (ms : Members) (s : ConstraintSet) (i : ℕ) → ms ≡ members_of c → i ≡ 128
    → classes_laid ms s i ≡ merge_classes s c
unfolding classes_laid merge_classes
classes-done c m s i em ei = rw (em, ei) (classes-joined c s 128 (omega arith))

-- its ranges
pub ranges-none : (l : List Entry) (s : ConstraintSet) → s ≡ ranges_laid l s 0
unfolding ranges_laid steps_to
ranges-none l s = refl

module _ (l : List Entry) (s t : ConstraintSet) (i : ℕ) where
  pub ranges-one : (r : ℕ) (u : ConstraintSet) → t ≡ ranges_laid l s i → (get_or l i blank).present ≡ true → r ≡ canonical_at t i
      → u ≡ lay_range t r (get_or l i blank).range → u ≡ ranges_laid l s (i + 1)
  unfolding ranges_laid
  ranges-one r u v e d p = steps_next (merge_range l) s i t u v (rw (e, ← d) p)

  pub ranges-idle : t ≡ ranges_laid l s i → (get_or l i blank).present ≡ false → t ≡ ranges_laid l s (i + 1)
  unfolding ranges_laid
  ranges-idle v e = steps_next (merge_range l) s i t t v (rw e)

pub ranges-done : (l : List Entry) (s : ConstraintSet) (i : ℕ) → i ≡ 128 → ranges_laid l s i ≡ merge_ranges s l
unfolding ranges_laid merge_ranges
ranges-done l s i e = rw e

-- the values that are not NULL
pub nulls-none : (l : List Bool) (s : ConstraintSet) → s ≡ nulls_laid l s 0
unfolding nulls_laid steps_to
nulls-none l s = refl

pub nulls-one : (l : List Bool) (s t : ConstraintSet) (i : ℕ) → t ≡ nulls_laid l s i
    → with_non_nulls t (set (non_nulls t) i (non_null_at t i || get_or l i false)) ≡ nulls_laid l s (i + 1)
unfolding nulls_laid put_non_null
nulls-one l s t i v = steps_next (merge_non_null l) s i t _ v (go (get_or l i false))
  where
    go : (b : Bool) → with_non_nulls t (set (non_nulls t) i (non_null_at t i || b)) ≡ cond b (put_non_null t i) t
    go true = ap (λ (x : Bool). with_non_nulls t (set (non_nulls t) i x)) (or-true (non_null_at t i))
    go false = ap (with_non_nulls t) (ap (set (non_nulls t) i) (or-false (non_null_at t i)) ∙ set-get_or (non_nulls t) i false)

pub nulls-done : (l : List Bool) (s : ConstraintSet) (i : ℕ) → i ≡ 128 → nulls_laid l s i ≡ merge_non_nulls s l
unfolding nulls_laid merge_non_nulls
nulls-done l s i e = rw e

-- its residuals, as far as there is room
pub handles-none : (l : List ℕ) (s : ConstraintSet) → s ≡ handles_laid l s 0
unfolding handles_laid steps_to
handles-none l s = refl

pub room-none : (l : List ℕ) (s : ConstraintSet) → room_to s l 0 ≡ true
unfolding room_to
room-none l s = refl

room-lost : (l : List ℕ) (s : ConstraintSet) (k n : ℕ) → room_to s l k ≡ false → k ≤ n → room_to s l n ≡ false
unfolding room_to
room-lost l s k zero e h = let z : k ≡ 0 = omega arith in rw z at e
room-lost l s k (suc n) e h = elim (ℕ_discrete k (suc n)) [
  | yes q ↦ rw q at e
  | no d ↦ ap (λ (x : Bool). x && room_for (steps_to (merge_residual l) n s) (get_or l n 0)) (room-lost l s k n e (omega arith))
]

module _ (t u : ConstraintSet) (h : ℕ) where
  room-told : (b : Bool) → applied_of u b ≡ add_residual t h → room_for t h ≡ not b
  unfolding add_residual
  room-told b e = go (room_for t h) b (ap (λ (x : Applied). x.refused) e)
    where
      go : (x b : Bool) → b ≡ (cond x (done (push_residual t h)) (refused_with t)).refused → x ≡ not b
      go true b q = ap not (sym q)
      go false b q = ap not (sym q)

  pushed : done u ≡ add_residual t h → u ≡ push_residual t h
  unfolding add_residual
  pushed e = ap (λ (x : Applied). x.constraints) e ∙ ap (λ (x : Bool). (cond x (done (push_residual t h)) (refused_with t)).constraints) (room-told false e)

-- the code goes through the first m of them
module _ (l : List ℕ) (s t u : ConstraintSet) (m i : ℕ) (low : i < length (take m l)) (v : t ≡ handles_laid l s i) where
  abbrev h : ℕ
  h = get_or (take m l) i 0

  below : i < m
  below = omega (arith, length-take {A = ℕ})

  this : h ≡ get_or l i 0
  this = get_or-take m l i 0 below

  pub handles-one : done u ≡ add_residual t h → u ≡ handles_laid l s (i + 1)
  unfolding handles_laid
  handles-one e = steps_next (merge_residual l) s i t u v (pushed t u h e ∙ ap (push_residual t) this)

  room-next : (b : Bool) → applied_of u b ≡ add_residual t h → room_to s l (i + 1) ≡ (room_to s l i && not b)
  unfolding handles_laid room_to
  room-next b e = rw (add-one, ← v, ← this, room-told t u h b e)

  pub room-one : room_to s l i ≡ true → done u ≡ add_residual t h → room_to s l (i + 1) ≡ true
  room-one r e = room-next false e ∙ ap (λ (x : Bool). x && true) r

  -- no room for one is no room for all
  pub room-refused : refused_with u ≡ add_residual t h → room_to s l m ≡ false
  room-refused e = room-lost l s (i + 1) m (room-next true e ∙ and-false (room_to s l i)) (omega (arith, below))

pub handles-done : (l : List ℕ) (s : ConstraintSet) (i n : ℕ) → i ≡ min n 64 → handles_laid l s i ≡ merge_residuals s l n
unfolding handles_laid merge_residuals
handles-done l s i n e = rw e

-- ---- the parts of a merge put together
module _ (a b t1 t2 t3 t4 t5 : ConstraintSet) (x : Bool) (e1 : t1 ≡ merge_classes (flag_if b.contradictory a) b.equivalence_classes)
    (e2 : t2 ≡ merge_literals t1 (literals b)) (e3 : t3 ≡ merge_ranges t2 b.ranges) (e4 : t4 ≡ merge_non_nulls t3 (non_nulls b))
    (ex : x ≡ not (room_to t4 (handles b) (min b.residuals 64))) where
  values : t4 ≡ merge_values a b
  values = rw (e4, e3, e2, e1)

  room : merge_room a b ≡ not x
  unfolding merge_room
  room = turn (room_to t4 (handles b) (min b.residuals 64)) x ex
      (ap (λ (t : ConstraintSet). room_to t (handles b) (min b.residuals 64)) (sym values))
    where
      turn : (y x : Bool) {z : Bool} → x ≡ not y → z ≡ y → z ≡ not x
      turn true x e d = d ∙ ap not (sym e)
      turn false x e d = d ∙ ap not (sym e)

  pub told-refused : x ≡ true → refused_with a ≡ merge_from a b
  told-refused e = sym (merge_refused a b (room ∙ ap not e))

  pub told-done : x ≡ false → t5 ≡ merge_residuals t4 (handles b) b.residuals → (n : ConstraintSet) → n ≡ normalized t5 → done n ≡ merge_from a b
  unfolding merged_set
  told-done e e5 n en =
      ap done (en ∙ ap normalized (e5 ∙ ap (λ (t : ConstraintSet). merge_residuals t (handles b) b.residuals) values))
      ∙ sym (merge_done a b (room ∙ ap not e))

-- what the loops need
pub ruleset members_loop = (chained-past, chained-done, chained-step)

pub ruleset classes_loop = (classes-none, classes-one, classes-done)

pub ruleset ranges_loop = (ranges-none, ranges-one, ranges-idle, ranges-done)

pub ruleset nulls_loop = (nulls-none, nulls-one, nulls-done)

pub ruleset handles_loop = (handles-none, room-none, handles-one, room-one, room-refused, handles-done)

pub ruleset merge_told = (told-refused, told-done)
