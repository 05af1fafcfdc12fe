-- A check of one place where the others were checked before. Assumes nothing.
use mathlib.Core.Path.{◌≡◌, refl, sym, ap, subst, ◌∙◌}
use mathlib.Core.Bool.{Bool, true, false, cond, ◌||◌}
use mathlib.Core.Logic.{◌⊎◌, inl, inr, ⊎_elim}
use Prim.Native.Nat.{ℕ, ◌<◌, ◌≤◌}
use native.Mathlib.Decide.{ℕ_discrete}
use native.Mathlib.Omega.{arith}
use lib.Dec.{T}
use lib.Seq.{get_or-set_other}
use borrow.Author.Tests.{lt-ltb, le-ltb}
use lib.Ieee.Bits.{is_true}
use Rattle.laws.proofs.Bools.{or_inr}
use Rattle.lists.specs.Ranges.{any_from}
use Rattle.lists.proofs.RangeLaws.{any_of}
use Rattle.scalar.specs.Kinds.{is_null}
use Rattle.scalar.specs.declared.ScalarValue.{ScalarValue}
use Rattle.constraint_spec.specs.Sets.{none, literals, literal_at, entry_at, crossed, crossed_at, cross_check, with_flag, flag_if, clashes, canonical_at}
use Rattle.constraint_spec.specs.Sets.{put_non_null, put_literal, add_literal}
use Rattle.constraint_spec.specs.declared.Holder.{Holder}
use Rattle.constraint_spec.specs.declared.ConstraintSet.{ConstraintSet}
use Rattle.constraint_spec.proofs.Operations.{T-any-at}
use Rattle.constraint_set.specs.Checked.{Checked}
use Rattle.constraint_set.proofs.Loops.{literal-added}

-- ---- a test that passes somewhere
-- the flag stays where a test is replaced by another that says the same where the flag is clear
same_or : (f a x : Bool) → (a ≡ true → (f ≡ true) ⊎ (x ≡ true)) → (x ≡ true → a ≡ true) → (f || a) ≡ (f || x)
same_or true a x p q = refl
same_or false true x p q = ⊎_elim (λ e. cc) (λ e. sym e) (p refl)
same_or false false true p q = q refl
same_or false false false p q = refl

-- a set that was just checked
pub just_checked : (s : ConstraintSet) → Checked (cross_check s)
unfolding cross_check
just_checked s = twice s.contradictory (any_from (crossed_at s) 0 128)
  where
    twice : (a b : Bool) → ((a || b) || b) ≡ (a || b)
    twice true b = refl
    twice false true = refl
    twice false false = refl

-- and one to which a literal was added
pub added-checked : (s : ConstraintSet) (i : ℕ) (l : ScalarValue) (q : ConstraintSet) → i < 128 → q ≡ add_literal s i l → Checked q
unfolding add_literal
added-checked s i l q h e = subst Checked (sym (e ∙ ap (λ (b : Bool). cond b (whole (is_null l)) s) (lt-ltb i 128 h))) (go (is_null l))
  where
    whole : Bool → ConstraintSet
    whole b = cond b (with_flag s true) (cross_check (put_literal (put_non_null s (canonical_at s i)) (canonical_at s i) l))

    go : (b : Bool) → Checked (whole b)
    go true = refl
    go false = just_checked (put_literal (put_non_null s (canonical_at s i)) (canonical_at s i) l)

-- ---- a literal in a set that was checked
-- the check of a set is that of the one place r, where every other place that is crossed has set the flag
module _ (u : ConstraintSet) (r : ℕ) (low : r < 128) (others : (k : ℕ) → k < 128 → (k ≡ r → ⊥) → crossed_at u k ≡ true → u.contradictory ≡ true) where
  forth : any_from (crossed_at u) 0 128 ≡ true → (u.contradictory ≡ true) ⊎ (crossed_at u r ≡ true)
  forth e =
      let w = T-any-at (crossed_at u) 128 0 (subst T (sym e) tt) in
      elim (ℕ_discrete w.0 r) [
        | yes q ↦ inr (subst (λ (k : ℕ). crossed_at u k ≡ true) q (is_true _ w.3))
        | no d ↦ inl (others w.0 (omega arith) d (is_true _ w.3))
      ]

  pub check_one : cross_check u ≡ flag_if (crossed_at u r) u
  unfolding cross_check
  check_one =
      ap (λ (b : Bool). with_flag u b)
      (same_or u.contradictory (any_from (crossed_at u) 0 128) (crossed_at u r) forth (any_of (crossed_at u) 128 0 r (omega arith) (omega arith)))

-- the flag of a checked set that is crossed somewhere
pub crossed-flagged : (s : ConstraintSet) → Checked s → (k : ℕ) → k < 128 → crossed_at s k ≡ true → s.contradictory ≡ true
crossed-flagged s c k h e = sym c ∙ or_inr s.contradictory _ (any_of (crossed_at s) 128 0 k (omega arith) (omega arith) e)

-- t is s with something else at r, and with s's flag if that was set
pub one-place_only : (s t : ConstraintSet) → Checked s → (r : ℕ) → r < 128 → ((k : ℕ) → (k ≡ r → ⊥) → crossed_at t k ≡ crossed_at s k)
    → (s.contradictory ≡ true → t.contradictory ≡ true)
    → cross_check t ≡ flag_if (crossed_at t r) t
one-place_only s t c r low other stays = check_one t r low (λ k h d e. stays (crossed-flagged s c k h (sym (other k d) ∙ e)))

-- a check of all places finds what a check of one found
pub check_again : (t : ConstraintSet) (r : ℕ) → r < 128 → cross_check (flag_if (crossed_at t r) t) ≡ cross_check t
unfolding cross_check
check_again t r low = ap (λ (b : Bool). with_flag t b)
    (both t.contradictory (crossed_at t r) (any_from (crossed_at t) 0 128) (any_of (crossed_at t) 128 0 r (omega arith) (omega arith)))
  where
    both : (f x a : Bool) → (x ≡ true → a ≡ true) → ((f || x) || a) ≡ (f || a)
    both true x a h = refl
    both false true a h = sym (h refl)
    both false false a h = refl

module _ (s : ConstraintSet) (c : Checked s) (r : ℕ) (low : r < 128) (l : ScalarValue) where
  abbrev after : ConstraintSet
  after = put_literal (put_non_null s r) r l

  other : (k : ℕ) → (k ≡ r → ⊥) → crossed_at after k ≡ crossed_at s k
  unfolding put_literal put_non_null
  other k d = ap (λ (h : Holder). crossed h (entry_at s k)) (get_or-set_other (literals s) r k _ none d)

  stays : s.contradictory ≡ true → after.contradictory ≡ true
  unfolding put_literal put_non_null
  stays e = ap (λ (b : Bool). b || clashes (literal_at s r) l) e

  -- its check is that of the one place
  pub one_place : cross_check after ≡ flag_if (crossed_at after r) after
  one_place = one-place_only s after c r low other stays

  pub literal-checked : (i : ℕ) → i < 128 → r ≡ canonical_at s i → is_null l ≡ false → (u : ConstraintSet) (x : Bool) → u ≡ after → x ≡ crossed_at u r
      → flag_if x
      u ≡ add_literal s i l
  literal-checked i h d n u x eu ex =
      ap (λ (b : Bool). flag_if b u) ex ∙ ap (λ (v : ConstraintSet). flag_if (crossed_at v r) v) eu ∙ sym one_place
      ∙ literal-added s i h r d l after (cross_check after) n refl refl

-- ---- the flag `checked` of the code
pub unchecked : (s : ConstraintSet) → false ≡ true → Checked s
unchecked s e = absurd (subst T (sym e) tt)

-- ---- a literal past the identities, a NULL, and any other
pub past_literal : (s : ConstraintSet) (i : ℕ) (l : ScalarValue) → 128 ≤ i → s ≡ add_literal s i l
unfolding add_literal
past_literal s i l h = rw (le-ltb _ _ h)

pub null_literal : (s : ConstraintSet) (i : ℕ) (l : ScalarValue) → i < 128 → is_null l ≡ true → with_flag s true ≡ add_literal s i l
unfolding add_literal
null_literal s i l h e = rw (lt-ltb _ _ h, e)

pub ruleset literal_laid = (null_literal, literal-checked, literal-added)

pub ruleset checked_loop = (unchecked, added-checked)
