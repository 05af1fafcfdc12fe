-- Two ready sets merged are a ready set: whatever the five loops leave, `normalize` settles, and no step of them makes a bound that cannot be compared.
-- Assumes nothing.
use Prim.Native.Nat.{ℕ, zero, suc, ◌+◌, ◌<◌, ◌≤◌, min}
use mathlib.Core.Path.{◌≡◌, refl, sym, subst, ◌∙◌}
use mathlib.Core.Bool.{Bool, true, false, not, cond, ◌&&◌, false≢true}
use mathlib.Core.List.{List, [], ◌∷◌}
use mathlib.Core.Logic.{◌⊎◌, inl, inr}
use native.Mathlib.Decide.{ℕ_discrete}
use native.Mathlib.Omega.{arith}
use lib.Dec.{ltb, eqb}
use lib.ListN.{length, get_or, set, replicate, length-set, length-replicate, get_or-eq_default}
use lib.Ieee.Bits.{is_true}
use Rattle.laws.proofs.Bools.{cond_T_elim}
use Rattle.lists.proofs.RangeLaws.{below_or_not, any_none}
use Rattle.scalar.specs.Kinds.{is_null}
use Rattle.scalar.specs.declared.ScalarValue.{ScalarValue}
use Rattle.value_range.specs.Ranges.{unbounded_range}
use Rattle.value_range.specs.declared.ValueRange.{ValueRange}
use Rattle.value_classes.specs.Classes.{Whole, Falling, joined_classes}
use Rattle.value_classes.proofs.ClassLaws.{falling, falling-ok, joined-whole, joined-falling}
use Rattle.constraint_spec.specs.Sets.{none, no_entry, blank, entry_of, classes_of, non_nulls, literals, handles, non_null_at, literal_at, entry_at}
use Rattle.constraint_spec.specs.Sets.{handle_at, canonical_at, with_classes, with_non_nulls, with_literals, with_ranges, with_residuals, with_flag, flag_if}
use Rattle.constraint_spec.specs.Sets.{empty_set, put_non_null, put_literal, range_in, tighten_by, lay_range, put_range, crossed, crossed_at, cross_check}
use Rattle.constraint_spec.specs.Sets.{move_non_null, move_literal, move_range, non_nulls_moved, literals_moved, ranges_moved, normalized, union_values}
use Rattle.constraint_spec.specs.Sets.{add_literal, has_handle, push_residual, done, refused_with, join_member, join_class, merge_literal, merge_range}
use Rattle.constraint_spec.specs.Sets.{merge_non_null, merge_residual, merge_classes, merge_literals, merge_ranges, merge_non_nulls, merge_residuals}
use Rattle.constraint_spec.specs.Sets.{merge_values, merged_set, merge_room, merge_from}
use Rattle.constraint_spec.specs.declared.Holder.{Holder}
use Rattle.constraint_spec.specs.declared.Entry.{Entry}
use Rattle.constraint_spec.specs.declared.ConstraintSet.{ConstraintSet}
use Rattle.constraint_spec.specs.Answers.{Applied}
use Rattle.constraint_spec.proofs.Steps.{steps-good}
use Rattle.constraint_spec.proofs.Goods.{at-replicate}
use Rattle.constraint_spec.proofs.Empty.{empty-good}
use Rattle.constraint_spec.proofs.Operations.{union_one, union_two}
use Rattle.constraint_set.specs.Settled.{null_on, literal_on, range_on, range_bad}
use Rattle.constraint_set.proofs.Settling.{normalized-settled}
use Rattle.constraint_normal.specs.Ready.{Bounded, Ready}
use Rattle.apply_shared_laws.proofs.Tightening.{BothComparable, comparable_open, comparable_tightened}

-- ---- nothing is recorded
pub empty_ready : Ready empty_set
unfolding empty_set null_on literal_on range_on range_bad
empty_ready = record {
  settled = record {
    many = empty-good.long;
    ok = falling-ok (classes_of empty_set) empty-good.fall;
    nulls = record {
      long = length-replicate 128 false;
      away = λ i h d. at-replicate (λ (b : Bool). b ≡ false) false false refl i h;
      same = λ i h. refl;
    };
    equal = record {
      long = length-replicate 128 none;
      away = λ i h d. at-replicate (λ (x : Holder). x ≡ none) none none refl i h;
      same = λ i h. at-replicate (λ (x : Holder). literal_on none x ≡ x) none none refl i h;
    };
    within = record {
      long = length-replicate 128 no_entry;
      away = λ i h d. at-replicate (λ (e : Entry). e ≡ no_entry) no_entry blank refl i h;
      same = λ i h. at-replicate (λ (e : Entry). range_on no_entry e ≡ e) no_entry blank refl i h;
    };
    quiet = λ i h. at-replicate (λ (e : Entry). range_bad no_entry e ≡ true → false ≡ true) no_entry blank (λ z. z) i h;
    checked = any_none (crossed_at empty_set) 128 0 (λ j lo hi. uncrossed j (omega arith));
  };
  bounds = λ i h. at-replicate Bounded no_entry blank (λ z. absurd (false≢true z)) i h;
  room = length-replicate {A = ℕ} 64 0;
}
  where
    uncrossed : (i : ℕ) → i < 128 → crossed_at empty_set i ≡ false
    uncrossed i h = at-replicate (λ (x : Holder). crossed x (entry_at empty_set i) ≡ false) none none refl i h

-- ---- a list with one thing else
at_set : {A : Type 0} (P : A → Type 0) (l : List A) (r : ℕ) (x d : A) → P x → ((i : ℕ) → P (get_or l i d)) → (i : ℕ) → P (get_or (set l r x) i d)
at_set P [] r x d p f i = f i
at_set P (y ∷ l) zero x d p f zero = p
at_set P (y ∷ l) zero x d p f (suc i) = f (suc i)
at_set P (y ∷ l) (suc r) x d p f zero = f 0
at_set P (y ∷ l) (suc r) x d p f (suc i) = at_set P l r x d p (λ k. f (suc k)) i

at_replicated : {A : Type 0} (P : A → Type 0) (n : ℕ) (x d : A) → P x → P d → (i : ℕ) → P (get_or (replicate n x) i d)
at_replicated P zero x d p q i = q
at_replicated P (suc n) x d p q zero = p
at_replicated P (suc n) x d p q (suc i) = at_replicated P n x d p q i

-- ---- what `normalize` needs so that it leaves a ready set
pub record Sorted (s : ConstraintSet) : Type 0 where
  pub many : Whole (classes_of s)
  pub fall : Falling (classes_of s)
  pub room : length (handles s) ≡ 64
  pub bounds : (i : ℕ) → Bounded (entry_at s i)

blank-bounded : Bounded blank
blank-bounded z = absurd (false≢true z)

none-bounded : Bounded no_entry
none-bounded z = absurd (false≢true z)

pub ready_sorted : (s : ConstraintSet) → Ready s → Sorted s
ready_sorted s r = record { many = r.settled.many; fall = falling (classes_of s) r.settled.ok; room = r.room; bounds = λ i. go i (below_or_not i 128) }
  where
    go : (i : ℕ) → (i < 128) ⊎ (128 ≤ i) → Bounded (entry_at s i)
    go i (inl l) = r.bounds i l
    go i (inr l) = subst Bounded (sym (get_or-eq_default s.ranges blank (subst (λ (n : ℕ). n ≤ i) (sym r.settled.within.long) l))) blank-bounded

comparable_in : (e : Entry) → Bounded e → BothComparable (range_in e)
comparable_in e b = go e.present b
  where
    go : (p : Bool) → (p ≡ true → BothComparable e.range) → BothComparable (cond p e.range unbounded_range)
    go true h = h refl
    go false h = comparable_open

-- ---- one thing put
module _ (s : ConstraintSet) (g : Sorted s) where
  sorted_flag : (c : Bool) → Sorted (with_flag s c)
  sorted_flag c = record { many = g.many; fall = g.fall; room = g.room; bounds = g.bounds }

  sorted_null : (r : ℕ) → Sorted (put_non_null s r)
  unfolding put_non_null
  sorted_null r = record { many = g.many; fall = g.fall; room = g.room; bounds = g.bounds }

  sorted_literal : (r : ℕ) (l : ScalarValue) → Sorted (put_literal s r l)
  unfolding put_literal
  sorted_literal r l = record { many = g.many; fall = g.fall; room = g.room; bounds = g.bounds }

  sorted_check : Sorted (cross_check s)
  unfolding cross_check
  sorted_check = record { many = g.many; fall = g.fall; room = g.room; bounds = g.bounds }

  laid-bounded : (r : ℕ) (new : ValueRange) → BothComparable new → (i : ℕ) → Bounded
      (get_or (set s.ranges r (entry_of (tighten_by (range_in (entry_at s r)) new))) i blank)
  laid-bounded r new c =
      at_set Bounded s.ranges r (entry_of (tighten_by (range_in (entry_at s r)) new)) blank
      (λ z. comparable_tightened (range_in (entry_at s r)) new (comparable_in (entry_at s r) (g.bounds r)) c) g.bounds

  sorted_lay : (r : ℕ) (new : ValueRange) → BothComparable new → Sorted (lay_range s r new)
  unfolding lay_range
  sorted_lay r new c = record { many = g.many; fall = g.fall; room = g.room; bounds = laid-bounded r new c }

  sorted_range : (r : ℕ) (new : ValueRange) → BothComparable new → Sorted (put_range s r new)
  unfolding put_range lay_range
  sorted_range r new c = record { many = g.many; fall = g.fall; room = g.room; bounds = laid-bounded r new c }

  sorted_push : (h : ℕ) → Sorted (push_residual s h)
  unfolding push_residual
  sorted_push h =
      let u = with_residuals s (set (handles s) s.residuals h) (s.residuals + 1) in
      cond_T_elim Sorted (has_handle s h) s (cond (ltb s.residuals 64) u s) (λ t. g)
      (cond_T_elim Sorted (ltb s.residuals 64) u s
      (λ t. record { many = g.many; fall = g.fall; room = length-set (handles s) s.residuals h ∙ g.room; bounds = g.bounds }) g)

-- ---- the passes of `normalize`
module _ (s : ConstraintSet) (g : Sorted s) where
  nulls_sorted : Sorted (non_nulls_moved s)
  unfolding non_nulls_moved
  nulls_sorted =
      steps-good Sorted (move_non_null s) 128 (λ i h u e. cond_T_elim Sorted (non_null_at s i) (put_non_null u (canonical_at s i)) u
      (λ c. sorted_null u e (canonical_at s i)) e) 128 (omega arith)
      (with_non_nulls s (replicate 128 false)) (record { many = g.many; fall = g.fall; room = g.room; bounds = g.bounds })

  literals_sorted : Sorted (literals_moved s)
  unfolding literals_moved
  literals_sorted =
      steps-good Sorted (move_literal s) 128
      (λ i h u e. cond_T_elim Sorted (literal_at s i).present (put_literal u (canonical_at s i) (literal_at s i).value) u
      (λ c. sorted_literal u e (canonical_at s i) (literal_at s i).value) e) 128 (omega arith)
      (with_literals s (replicate 128 none)) (record { many = g.many; fall = g.fall; room = g.room; bounds = g.bounds })

  ranges_sorted : Sorted (ranges_moved s)
  unfolding ranges_moved
  ranges_sorted =
      steps-good Sorted (move_range s) 128
      (λ i h u e. cond_T_elim Sorted (entry_at s i).present (put_range u (canonical_at s i) (entry_at s i).range) u
      (λ c. sorted_range u e (canonical_at s i) (entry_at s i).range (g.bounds i (is_true (entry_at s i).present c))) e) 128 (omega arith)
      (with_ranges s (replicate 128 no_entry))
      (record { many = g.many; fall = g.fall; room = g.room; bounds = at_replicated Bounded 128 no_entry blank none-bounded blank-bounded })

sorted_normalized : (s : ConstraintSet) → Sorted s → Sorted (normalized s)
unfolding normalized
sorted_normalized s g =
    let s1 = non_nulls_moved s in
    let s2 = literals_moved s1 in
    let g2 = literals_sorted s1 (nulls_sorted s g) in
    sorted_check (ranges_moved s2) (ranges_sorted s2 g2)

pub normalized_ready : (s : ConstraintSet) → Sorted s → Ready (normalized s)
normalized_ready s g =
    let n = sorted_normalized s g in
    record { settled = normalized-settled s g.many (falling-ok (classes_of s) g.fall); bounds = λ i h. n.bounds i; room = n.room }

-- ---- the loops of a merge
sorted_union : (s : ConstraintSet) (i j : ℕ) → i < 128 → j < 128 → Sorted s → Sorted (union_values s i j)
sorted_union s i j hi hj g = elim (ℕ_discrete (canonical_at s i) (canonical_at s j)) [
  | yes e ↦ subst Sorted (sym (union_one s i j hi hj e)) g
  | no d ↦ subst Sorted (sym (union_two s i j hi hj d))
      (sorted_normalized (with_classes s (joined_classes (classes_of s) i j)) (record {
        many = joined-whole (classes_of s) i j g.many;
        fall = joined-falling (classes_of s) g.many g.fall i j hi hj;
        room = g.room;
        bounds = g.bounds;
      }))
]

sorted_add : (s : ConstraintSet) (i : ℕ) (l : ScalarValue) → Sorted s → Sorted (add_literal s i l)
unfolding add_literal
sorted_add s i l g =
    let r = canonical_at s i in
    let s1 = put_non_null s r in
    let s2 = put_literal s1 r l in
    cond_T_elim Sorted (ltb i 128) (cond (is_null l) (with_flag s true) (cross_check s2)) s
    (λ t. cond_T_elim Sorted (is_null l) (with_flag s true) (cross_check s2) (λ n. sorted_flag s g true)
    (sorted_check s2 (sorted_literal s1 (sorted_null s g r) r l))) g

module _ (a b : ConstraintSet) (ga : Sorted a) (gb : (i : ℕ) → Bounded (entry_at b i)) where
  values_sorted : Sorted (merge_values a b)
  unfolding merge_non_nulls merge_ranges merge_literals merge_classes
  values_sorted =
      steps-good Sorted (merge_non_null (non_nulls b)) 128 (λ i h t g. cond_T_elim Sorted (non_null_at b i) (put_non_null t i) t (λ c. sorted_null t g i) g) 128
      (omega arith) _
      (steps-good Sorted (merge_range b.ranges) 128
      (λ i h t g. cond_T_elim Sorted (entry_at b i).present (lay_range t (canonical_at t i) (entry_at b i).range) t
      (λ c. sorted_lay t g (canonical_at t i) (entry_at b i).range (gb i (is_true (entry_at b i).present c))) g) 128 (omega arith) _
      (steps-good Sorted (merge_literal (literals b)) 128
      (λ i h t g. cond_T_elim Sorted (literal_at b i).present (add_literal t i (literal_at b i).value) t (λ c. sorted_add t i (literal_at b i).value g) g) 128
      (omega arith) _
      (steps-good Sorted (join_class b.equivalence_classes) 128
      (λ q hq t g. steps-good Sorted (join_member b.equivalence_classes q) 128
      (λ i hi u w. cond_T_elim Sorted (eqb (canonical_at b i) q && not (eqb i q)) (union_values u q i) u (λ c. sorted_union u q i hq hi w) w)
      128 (omega arith) t g)
      128 (omega arith) (flag_if b.contradictory a) (sorted_flag a ga _))))

  merged_ready : Ready (merged_set a b)
  unfolding merged_set merge_residuals
  merged_ready =
      normalized_ready _
      (steps-good Sorted (merge_residual (handles b)) (min b.residuals 64) (λ k h t g. sorted_push t g (handle_at b k)) (min b.residuals 64) (omega arith)
      (merge_values a b) values_sorted)

-- both sets as one, or, where the residuals find no room, the first
pub merge_ready : (a b : ConstraintSet) → Ready a → Ready b → Ready (merge_from a b).constraints
unfolding merge_from
merge_ready a b ra rb =
    cond_T_elim (λ (x : Applied). Ready x.constraints) (merge_room a b) (done (merged_set a b)) (refused_with a)
    (λ t. merged_ready a b (ready_sorted a ra) (ready_sorted b rb).bounds) ra
