-- A change at one representative is what an action makes of the whole set. Assumes nothing.
use Rattle.std.proofs.Common.{Some, None, Option}
use Prim.Native.Nat.{ℕ, ◌<◌}
use mathlib.Core.Path.{◌≡◌, refl, sym, ap, subst, ◌∙◌}
use mathlib.Core.Bool.{Bool, true, false, cond, not, ◌&&◌, ◌||◌, or-false}
use mathlib.Core.List.{List}
use native.Mathlib.Decide.{ℕ_discrete}
use native.Mathlib.Omega.{arith}
use lib.Ieee.{Float}
use lib.ListN.{get_or, set}
use lib.Seq.{set-get_or, get_or-set_same, get_or-set_other}
use borrow.Author.Tests.{lt-ltb}
use Rattle.lists.specs.Ranges.{any_from}
use Rattle.scalar.specs.Kinds.{is_null}
use Rattle.scalar.specs.Scalars.{scalar_to_f64}
use Rattle.scalar.specs.declared.ScalarValue.{ScalarValue}
use Rattle.value_range.specs.Ranges.{unbounded_range, empty_range}
use Rattle.value_range.specs.declared.ValueRange.{ValueRange}
use Rattle.comparison.specs.Operators.{bounding}
use Rattle.comparison.specs.declared.BinaryOp.{BinaryOp}
use Rattle.constraint_spec.specs.Sets.{none, blank, held, entry_of, classes_of, non_nulls, literals, non_null_at, literal_at, entry_at}
use Rattle.constraint_spec.specs.Sets.{with_values, with_flag}
use Rattle.constraint_spec.specs.Sets.{flag_if, clashes, range_in, tighten_by, outside, crossed, crossed_at, cross_check, canonical_at}
use Rattle.constraint_spec.specs.Sets.{put_non_null, put_literal, put_range, lay_range, bounds_by, union_values, add_non_null, add_literal, add_bound}
use Rattle.constraint_spec.specs.Sets.{add_residual, done}
use Rattle.constraint_spec.specs.Answers.{Applied}
use Rattle.constraint_spec.specs.declared.Holder.{Holder}
use Rattle.constraint_spec.specs.declared.Entry as En
use Rattle.constraint_spec.specs.declared.ConstraintSet.{ConstraintSet}
use Rattle.constraint_spec.proofs.Operations.{union_one}
use Rattle.constraint_set.specs.Checked.{Checked}
use Rattle.constraint_set.proofs.Checking.{just_checked, unchecked, one-place_only, check_again}
use Rattle.apply_action.specs.Actions.{acted, first_of, second_of, is_checking, is_residual, joined_by, recorded_in, Proper}
use Rattle.apply_action.specs.Cells.{Long, cell_of, with_cell, flagged_cell, non_null_cell, literal_cell, bound_cell, entry_cell, cell_after, checked_after}
use Rattle.apply_action.specs.declared.Cell.{Cell}
use Rattle.apply_action.specs.declared.Action.{Action}
use Rattle.apply_action.specs.declared.Action.TheVariants.{Nothing, Contradiction, Residual, Same, Literal, Bound, Entry}

pub acted-is : (act : Action) (q : ConstraintSet) (h : ℕ)
    → acted act q h ≡ cond (is_residual act) (add_residual (recorded_in act (joined_by act q)) h) (done (recorded_in act (joined_by act q)))
acted-is Nothing q h = refl
acted-is Contradiction q h = refl
acted-is Residual q h = refl
acted-is (Same i j both) q h = refl
acted-is (Literal i v) q h = refl
acted-is (Bound i op x) q h = refl
acted-is (Entry i) q h = refl

-- only two identities of different classes are joined
pub joined-apart : (act : Action) (q : ConstraintSet) → (canonical_at q (first_of act) ≡ canonical_at q (second_of act) → ⊥) → union_values q
    (first_of act)
    (second_of act) ≡ joined_by act q
joined-apart Nothing q d = absurd (d refl)
joined-apart Contradiction q d = absurd (d refl)
joined-apart Residual q d = absurd (d refl)
joined-apart (Same i j both) q d = refl
joined-apart (Literal i v) q d = absurd (d refl)
joined-apart (Bound i op x) q d = absurd (d refl)
joined-apart (Entry i) q d = absurd (d refl)

pub joined-together : (act : Action) (q : ConstraintSet) → Proper act → canonical_at q (first_of act) ≡ canonical_at q (second_of act) → q ≡ joined_by
    act q
joined-together Nothing q p e = refl
joined-together Contradiction q p e = refl
joined-together Residual q p e = refl
joined-together (Same i j both) q p e = sym (union_one q i j p.0 p.1 e)
joined-together (Literal i v) q p e = refl
joined-together (Bound i op x) q p e = refl
joined-together (Entry i) q p e = refl

pub first-low : (act : Action) → Proper act → first_of act < 128
first-low Nothing p = p
first-low Contradiction p = p
first-low Residual p = p
first-low (Same i j both) p = p.0
first-low (Literal i v) p = p.0
first-low (Bound i op x) p = p.0
first-low (Entry i) p = p

-- the same of what `first` answers
pub first_small : (act : Action) (n : ℕ) → n ≡ first_of act → Proper act → n < 128
first_small act n e p = omega (arith, e, first-low act p)

pub second-low : (act : Action) → Proper act → second_of act < 128
second-low Nothing p = p
second-low Contradiction p = p
second-low Residual p = p
second-low (Same i j both) p = p.1
second-low (Literal i v) p = p.0
second-low (Bound i op x) p = p.0
second-low (Entry i) p = p

no_check : (b : Bool) → (not b && false) ≡ false
no_check true = refl
no_check false = refl

-- ---- a cell written back
module _ (u : ConstraintSet) (r : ℕ) where
  same-null : set (non_nulls u) r (non_null_at u r) ≡ non_nulls u
  same-null = set-get_or (non_nulls u) r false

  same-literal : set (literals u) r (literal_at u r) ≡ literals u
  same-literal = set-get_or (literals u) r none

  same-range : set u.ranges r (entry_at u r) ≡ u.ranges
  same-range = set-get_or u.ranges r blank

  -- the set with other lists and another flag
  abbrev rest : List Bool → List Holder → List En.Entry → Bool → ConstraintSet
  rest n l e f = with_values u (classes_of u) n l e f

  pub cell_same : with_cell u r (cell_of u r) ≡ u
  unfolding with_cell
  cell_same = λ i. rest (same-null i) (same-literal i) (same-range i) u.contradictory

  pub cell-flagged : with_cell u r (flagged_cell (cell_of u r)) ≡ with_flag u true
  unfolding with_cell
  cell-flagged = λ i. rest (same-null i) (same-literal i) (same-range i) true

  pub cell-null : with_cell u r (non_null_cell (cell_of u r)) ≡ put_non_null u r
  unfolding with_cell put_non_null
  cell-null = λ i. rest (set (non_nulls u) r true) (same-literal i) (same-range i) u.contradictory

  pub cell-entry : with_cell u r (entry_cell (cell_of u r)) ≡ lay_range (put_non_null u r) r unbounded_range
  unfolding with_cell entry_cell lay_range put_non_null
  cell-entry = λ i. rest (set (non_nulls u) r true) (same-literal i) (set u.ranges r (entry_of (range_in (entry_at u r)))) u.contradictory

  module _ (low : r < 128) (long : Long u) where
    -- a literal
    module _ (v : ScalarValue) where
      abbrev literal_in : ConstraintSet
      literal_in = put_literal (put_non_null u r) r v

      literal-crossed : crossed_at literal_in r ≡ crossed (cond (clashes (literal_at u r) v) (literal_at u r) (held v)) (entry_at u r)
      unfolding put_literal put_non_null
      literal-crossed = ap (λ (x : Holder). crossed x (entry_at u r)) (get_or-set_same (literals u) r _ none (omega (arith, long.0)))

      cell-literal : with_cell u r (literal_cell (cell_of u r) v) ≡ flag_if (crossed_at literal_in r) literal_in
      unfolding with_cell literal_cell put_literal put_non_null
      cell-literal = λ i. rest (set (non_nulls u) r true) (set (literals u) r (cond (clashes (literal_at u r) v) (literal_at u r) (held v)))
          (same-range i)
          ((u.contradictory || clashes (literal_at u r) v) || sym literal-crossed i)

      literal-other : (k : ℕ) → (k ≡ r → ⊥) → crossed_at literal_in k ≡ crossed_at u k
      unfolding put_literal put_non_null
      literal-other k d = ap (λ (x : Holder). crossed x (entry_at u k)) (get_or-set_other (literals u) r k _ none d)

      literal-stays : u.contradictory ≡ true → literal_in.contradictory ≡ true
      unfolding put_literal put_non_null
      literal-stays e = ap (λ (b : Bool). b || clashes (literal_at u r) v) e

    -- a bound
    module _ (op : BinaryOp) (x : Float) where
      abbrev bound_in : ConstraintSet
      bound_in = put_range (put_non_null u r) r (bounds_by op x)

      bound-crossed : crossed_at bound_in r ≡ crossed (literal_at u r) (bound_cell (cell_of u r) op x).entry
      unfolding put_range lay_range put_non_null bound_cell
      bound-crossed = ap (crossed (literal_at u r)) (get_or-set_same u.ranges r _ blank (omega (arith, long.1)))

      cell-bound : with_cell u r (bound_cell (cell_of u r) op x) ≡ flag_if (crossed_at bound_in r) bound_in
      unfolding with_cell bound_cell put_range lay_range put_non_null
      cell-bound = λ i. rest (set (non_nulls u) r true) (same-literal i) (set u.ranges r (entry_of (tighten_by (range_in (entry_at u r)) (bounds_by op
          x))))
          ((u.contradictory || empty_range (tighten_by (range_in (entry_at u r)) (bounds_by op x))) || sym bound-crossed i)

      bound-other : (k : ℕ) → (k ≡ r → ⊥) → crossed_at bound_in k ≡ crossed_at u k
      unfolding put_range lay_range put_non_null
      bound-other k d = ap (crossed (literal_at u k)) (get_or-set_other u.ranges r k _ blank d)

      bound-stays : u.contradictory ≡ true → bound_in.contradictory ≡ true
      unfolding put_range lay_range put_non_null
      bound-stays e = ap (λ (b : Bool). b || empty_range (tighten_by (range_in (entry_at u r)) (bounds_by op x))) e

    -- the check after it, of the one place or of all
    checked-so : (checked : Bool) (t v : ConstraintSet) → (checked ≡ true → Checked u) → v ≡ flag_if (crossed_at t r) t
        → ((k : ℕ) → (k ≡ r → ⊥) → crossed_at t k ≡ crossed_at u k) → (u.contradictory ≡ true → t.contradictory ≡ true) → cond (not checked && true)
        (cross_check v) v ≡ cross_check t
    checked-so true t v c e o s = e ∙ sym (one-place_only u t (c refl) r low o s)
    checked-so false t v c e o s = ap cross_check e ∙ check_again t r low

-- ---- what the code writes for an action is what the action records
abbrev pub written : Bool → Action → ConstraintSet → ConstraintSet
written = checked_after

module _ (checked : Bool) (u : ConstraintSet) (long : Long u) (c : checked ≡ true → Checked u) where
  unchanged : (v : ConstraintSet) → cond (not checked && false) (cross_check v) v ≡ v
  unchanged v = ap (λ (b : Bool). cond b (cross_check v) v) (no_check checked)

  literal_in_lem : (i r : ℕ) (v : ScalarValue) → i < 128 → is_null v ≡ false → r ≡ canonical_at u i → cross_check (put_literal (put_non_null u r) r v)
      ≡ add_literal u i v
  unfolding add_literal
  literal_in_lem i r v h n e = rw (lt-ltb i 128 h, n, e)

  bound_in_lem : (i r : ℕ) (op : BinaryOp) (x : Float) → i < 128 → bounding op ≡ true → r ≡ canonical_at u i → cross_check
      (put_range (put_non_null u r) r (bounds_by op x)) ≡ add_bound u i op x
  unfolding add_bound
  bound_in_lem i r op x h b e = rw (lt-ltb i 128 h, b, e)

  null_in : (both : Bool) (i r : ℕ) → i < 128 → r ≡ canonical_at u i → with_cell u r (cond both (non_null_cell (cell_of u r)) (cell_of u r)) ≡ cond
      both
      (add_non_null u i) u
  unfolding add_non_null
  null_in true i r h e = rw (lt-ltb i 128 h) (cell-null u r ∙ ap (put_non_null u) e)
  null_in false i r h e = cell_same u r

  pub written_is : (act : Action) (r : ℕ) → Proper act → r < 128 → r ≡ canonical_at u (first_of act) → written checked act
      (with_cell u r (cell_after (cell_of u r) act)) ≡ recorded_in act u
  written_is Nothing r p low e = unchanged _ ∙ cell_same u r
  written_is Contradiction r p low e = unchanged _ ∙ cell-flagged u r
  written_is Residual r p low e = unchanged _ ∙ cell_same u r
  written_is (Same i j both) r p low e = unchanged _ ∙ null_in both i r p.0 e
  written_is (Literal i v) r p low e =
      checked-so u r low long checked (put_literal (put_non_null u r) r v) _ c (cell-literal u r low long v) (literal-other u r low long v)
      (literal-stays u r low long v)
      ∙ literal_in_lem i r v p.0 p.1 e
  written_is (Bound i op x) r p low e =
      checked-so u r low long checked (put_range (put_non_null u r) r (bounds_by op x)) _ c (cell-bound u r low long op x) (bound-other u r low long
      op x)
      (bound-stays u r low long op x)
      ∙ bound_in_lem i r op x p.0 p.1 e
  written_is (Entry i) r p low e = unchanged _ ∙ cell-entry u r ∙ ap (λ (k : ℕ). lay_range (put_non_null u k) k unbounded_range) e

-- the two ways through `record`: the check of all literals, or none, as all are checked or nothing of them changed
module _ (u v w : ConstraintSet) (old new : Cell) (act : Action) (r : ℕ) (checked : Bool) (er : r ≡ canonical_at u (first_of act)) (low : r < 128)
    (p : Proper act) (c : checked ≡ true → Checked u) (long : Long u) (eo : old ≡ cell_of u r) (en : new ≡ cell_after old act)
    (ev : v ≡ with_cell u r new) where
  by_test : (b : Bool) → (not checked && is_checking act) ≡ b → w ≡ cond b (cross_check v) v → w ≡ recorded_in act u
  by_test b e ew =
      ew ∙ sym (ap (λ (t : Bool). cond t (cross_check v) v) e)
      ∙ ap (written checked act) (ev ∙ ap (with_cell u r) (en ∙ ap (λ (o : Cell). cell_after o act) eo))
      ∙ written_is checked u long c act r p low er

  pub when_all_checked : checked ≡ false → is_checking act ≡ true → w ≡ cross_check v → w ≡ recorded_in act u
  when_all_checked e f = by_test true (λ i. not (e i) && f i)

  pub when_checked : checked ≡ true → w ≡ v → w ≡ recorded_in act u
  when_checked e = by_test false (ap (λ (b : Bool). not b && is_checking act) e)

  pub when_nothing_to_check : is_checking act ≡ false → w ≡ v → w ≡ recorded_in act u
  when_nothing_to_check e = by_test false (ap (λ (b : Bool). not checked && b) e ∙ no_check checked)

-- the ways through `record`
pub ruleset record_cases = (when_all_checked, when_checked, when_nothing_to_check)

-- ---- a set that was checked stays so
none-outside : (n : Option Float) → outside n unbounded_range ≡ false
none-outside None = refl
none-outside (Some x) = refl

-- an entry without bounds is crossed by nothing
entry-crossed : (h : Holder) (present : Bool) (t : ValueRange) → crossed h (entry_of (cond present t unbounded_range)) ≡ crossed h
    (record { present = present; range = t })
entry-crossed h true t = refl
entry-crossed h false t = ap (λ (b : Bool). h.present && b) (none-outside (scalar_to_f64 h.value))

module _ (u : ConstraintSet) (long : Long u) where
  entry-places : (r : ℕ) → r < 128 → (k : ℕ) → crossed_at (lay_range (put_non_null u r) r unbounded_range) k ≡ crossed_at u k
  unfolding lay_range put_non_null
  entry-places r low k = elim (ℕ_discrete k r) [
    | yes e ↦ subst (λ (x : ℕ). crossed (literal_at u x) (get_or (set u.ranges r (entry_of (range_in (entry_at u r)))) x blank) ≡ crossed_at u x) (sym
        e)
        (ap (crossed (literal_at u r)) (get_or-set_same u.ranges r (entry_of (range_in (entry_at u r))) blank (omega (arith, long.1)))
        ∙ entry-crossed (literal_at u r) (entry_at u r).present (entry_at u r).range)
    | no d ↦ ap (crossed (literal_at u k)) (get_or-set_other u.ranges r k (entry_of (range_in (entry_at u r))) blank d)
  ]

  entry-checked : (r : ℕ) → r < 128 → Checked u → Checked (lay_range (put_non_null u r) r unbounded_range)
  unfolding lay_range put_non_null
  entry-checked r low c = ap (λ (f : ℕ → Bool). u.contradictory || any_from f 0 128) (λ i k. entry-places r low k i) ∙ c

  null-checked : (both : Bool) (i : ℕ) → i < 128 → Checked u → Checked (cond both (add_non_null u i) u)
  unfolding add_non_null put_non_null
  null-checked true i h c = rw (lt-ltb i 128 h) c
  null-checked false i h c = c

  -- it is checked before or by the action itself
  pub recorded-checked : (checked : Bool) (act : Action) → Proper act → canonical_at u (first_of act) < 128 → (checked ≡ true → Checked u)
      → (checked || is_checking act) ≡ true → Checked (recorded_in act u)
  recorded-checked checked Nothing p low c e = c (sym (or-false checked) ∙ e)
  recorded-checked checked Contradiction p low c e = refl
  recorded-checked checked Residual p low c e = c (sym (or-false checked) ∙ e)
  recorded-checked checked (Same i j both) p low c e = null-checked both i p.0 (c (sym (or-false checked) ∙ e))
  recorded-checked checked (Literal i v) p low c e =
      subst Checked (literal_in_lem false u long (unchecked u) i (canonical_at u i) v p.0 p.1 refl) (just_checked _)
  recorded-checked checked (Bound i op x) p low c e =
      subst Checked (bound_in_lem false u long (unchecked u) i (canonical_at u i) op x p.0 p.1 refl) (just_checked _)
  recorded-checked checked (Entry i) p low c e = entry-checked (canonical_at u i) low (c (sym (or-false checked) ∙ e))

-- ---- one conjunct: its classes joined, what it records at the representative, and its handle kept where it is residual
module _ (act : Action) (h : ℕ) (q u w : ConstraintSet) (eu : u ≡ joined_by act q) (ew : w ≡ recorded_in act u) where
  w_is : w ≡ recorded_in act (joined_by act q)
  w_is = ew ∙ ap (recorded_in act) eu

  pub when_residual : is_residual act ≡ true → (a : Applied) → a ≡ add_residual w h → a ≡ acted act q h
  when_residual e a ea =
      ea ∙ ap (λ (t : ConstraintSet). add_residual t h) w_is
      ∙ sym (acted-is act q h ∙ ap (λ (b : Bool). cond b (add_residual (recorded_in act (joined_by act q)) h) (done (recorded_in act (joined_by act q)))) e)

  pub when_not_residual : is_residual act ≡ false → done w ≡ acted act q h
  when_not_residual e =
      ap done w_is
      ∙ sym (acted-is act q h ∙ ap (λ (b : Bool). cond b (add_residual (recorded_in act (joined_by act q)) h) (done (recorded_in act (joined_by act q)))) e)
