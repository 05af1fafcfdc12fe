-- What the loop of `is_ready` comes to, on plain values. Assumes nothing.
use mathlib.Core.Path.{◌≡◌, sym, ap, subst, ◌∙◌}
use mathlib.Core.Bool.{Bool, true}
use Prim.Native.Nat.{ℕ, ◌-◌, ◌≤◌, ◌<◌}
use native.Mathlib.Decide.{dec_lt}
use native.Mathlib.Omega.{arith}
use lib.Dec.{eqb}
use lib.Ieee.{fits}
use lib.ListN.{length, get_or, get_or-eq_default}
use Rattle.laws.proofs.Bools.{and_both}
use Rattle.lists.specs.Ranges.{all_from}
use Rattle.lists.proofs.RangeLaws.{all_done}
use Rattle.value_classes.specs.Classes.{Whole, classes_ok}
use Rattle.value_classes.specs.Listed.{roots_of}
use Rattle.value_classes.specs.declared.Roots.{Roots}
use Rattle.value_classes.proofs.MemberLaws.{roots_at}
use Rattle.constraint_spec.specs.Sets.{blank, classes_of, non_nulls, handles, non_null_at, literal_at, entry_at}
use Rattle.constraint_spec.specs.declared.ConstraintSet.{ConstraintSet}
use Rattle.constraint_normal.specs.Held.{FitsEntry, HeldAt, Held}
use Rattle.constraint_normal.specs.Ready.{Ready}
use Rattle.constraint_normal.specs.ReadyPlaces.{ready_place, ready_at, ready_of}
use Rattle.constraint_normal.proofs.Settling.{ready_set}

-- a place, its representative looked up
pub place_here : (s : ConstraintSet) (i : ℕ) (roots : Roots) (t : Bool) → i < 128 → roots ≡ roots_of s.equivalence_classes
    → t ≡ ready_place (eqb (get_or roots.of i 0) i) s.contradictory (non_null_at s i) (literal_at s i) (entry_at s i) → ready_at s i ≡ t
unfolding ready_at
place_here s i roots t h er et =
    ap (λ (r : ℕ). ready_place (eqb r i) s.contradictory (non_null_at s i) (literal_at s i) (entry_at s i))
    (sym (ap (λ (k : Roots). get_or k.of i 0) er ∙ roots_at (classes_of s) i h))
    ∙ sym et

-- a set of which each place was read
pub all-held : (s : ConstraintSet) → Whole (classes_of s) → length (non_nulls s) ≡ 128 → length (handles s) ≡ 64
    → ((k : ℕ) → k < 128 → HeldAt s k) → Held s
unfolding fits
all-held s many nulls room at = record {
  many = many;
  nulls_long = nulls;
  literals_long = (at 0 (omega arith)).literals_long;
  ranges_long = (at 0 (omega arith)).ranges_long;
  handles_long = room;
  fit = λ i. elim (dec_lt i 128) [
    | yes h ↦ (at i h).fit
    | no n ↦ subst FitsEntry (sym (get_or-eq_default s.ranges blank (omega (arith, (at 0 (omega arith)).ranges_long)))) (tt, tt)
  ];
}

-- and each found to be ready, when the loop has come to its end
pub read-ready : (s : ConstraintSet) (i : ℕ) → Whole (classes_of s) → length (non_nulls s) ≡ 128 → length (handles s) ≡ 64
    → classes_ok (classes_of s) ≡ true → all_from (ready_at s) 0 128 ≡ all_from (ready_at s) i (128 - i) → ((k : ℕ) → k < i → HeldAt s k)
    → 128 ≤ i → Ready s
read-ready s i many nulls room ok v at h =
    ready_set s (all-held s many nulls room (λ k l. at k (omega arith)))
    (unfold ready_of in and_both (classes_ok (classes_of s)) _ ok (v ∙ all_done (ready_at s) i 128 h))
