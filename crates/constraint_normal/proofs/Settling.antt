-- A set that a program holds is ready exactly where the code says so. Assumes nothing.
use mathlib.Core.Path.{◌≡◌, refl, sym, subst, ◌∙◌}
use mathlib.Core.Bool.{Bool, true, false, ◌||◌, ◌&&◌}
use Prim.Native.Nat.{ℕ, ◌<◌}
use native.Mathlib.Omega.{arith}
use borrow.Author.Tests.{eqb-false, eq-eqb, ne_eqb}
use lib.Dec.{eqb}
use Rattle.laws.proofs.Bools.{and_left, and_right, and_both}
use Rattle.lists.specs.Ranges.{any_from}
use Rattle.lists.proofs.RangeLaws.{table, all_of, any_none}
use Rattle.value_classes.specs.Classes.{classes_ok, empty_classes}
use Rattle.value_classes.proofs.ClassLaws.{falling-ok, alone_canonical}
use Rattle.value_classes.proofs.Chains.{empty-sound}
use Rattle.constraint_spec.specs.Sets.{none, no_entry, blank, classes_of, non_nulls, literals, non_null_at, literal_at, entry_at, canonical_at}
use Rattle.constraint_spec.specs.Sets.{crossed_at, empty_set}
use Rattle.constraint_spec.specs.declared.Holder.{Holder}
use Rattle.constraint_spec.specs.declared.Entry.{Entry}
use Rattle.constraint_spec.specs.declared.ConstraintSet.{ConstraintSet}
use Rattle.constraint_spec.proofs.Goods.{at-replicate}
use Rattle.constraint_set.specs.Checked.{Checked}
use Rattle.constraint_set.specs.Settled.{null_on, literal_on, range_on, range_bad, Stands, Settled}
use Rattle.constraint_set.proofs.Checking.{crossed-flagged}
use Rattle.constraint_normal.specs.Ready.{Ready}
use Rattle.constraint_normal.specs.ReadyPlaces.{blank_scalar, ready_holder, blank_bound, ready_entry, quiet_place, ready_place, ready_at, ready_of}
use Rattle.constraint_normal.proofs.Floats.{zero_bits}
use Rattle.constraint_normal.specs.Held.{Held}
use Rattle.constraint_normal.proofs.Contents.{holder-away, holder-same, holder-back, entry-away, entry-same, entry-bounded, entry-back}
use Rattle.constraint_normal.proofs.Contents.{same-empty, Parts, parts, whole, null-away, null-back, flagged, uncrossed, quiet-back}

abbrev is_root : ConstraintSet → ℕ → Bool
is_root s i = eqb (canonical_at s i) i

abbrev PartsAt : ConstraintSet → ℕ → Bool → Type 0
PartsAt s i root = Parts root s.contradictory (non_null_at s i) (literal_at s i) (entry_at s i)

-- ---- where the test passes
module _ (s : ConstraintSet) (k : Held s) (ok : classes_ok (classes_of s) ≡ true) (here : (i : ℕ) → i < 128 → PartsAt s i (is_root s i)) where
  away : (i : ℕ) → i < 128 → (canonical_at s i ≡ i → ⊥) → PartsAt s i false
  away i h d = subst (PartsAt s i) (ne_eqb (canonical_at s i) i d) (here i h)

  same-entry : (i : ℕ) → i < 128 → range_on no_entry (entry_at s i) ≡ entry_at s i
  same-entry i h = entry-same (is_root s i) (entry_at s i) (k.fit i) (here i h).range

  nulls : Stands false null_on (canonical_at s) false (non_nulls s)
  unfolding null_on
  nulls = record { long = k.nulls_long; away = λ i h d. null-away (non_null_at s i) (away i h d).null; same = λ i h. refl }

  equal : Stands none literal_on (canonical_at s) none (literals s)
  equal = record {
    long = k.literals_long;
    away = λ i h d. holder-away (literal_at s i) (away i h d).literal;
    same = λ i h. holder-same (is_root s i) (literal_at s i) (here i h).literal;
  }

  within : Stands no_entry range_on (canonical_at s) blank s.ranges
  within = record {
    long = k.ranges_long;
    away = λ i h d. entry-away (entry_at s i) (k.fit i) (away i h d).range;
    same = same-entry;
  }

  quiet : (i : ℕ) → i < 128 → range_bad no_entry (entry_at s i) ≡ true → s.contradictory ≡ true
  quiet i h e =
      flagged s.contradictory (literal_at s i) (entry_at s i) (here i h).quiet (sym (same-empty (entry_at s i) (same-entry i h)) ∙ e)

  checked : Checked s
  checked = go s.contradictory refl
    where
      go : (f : Bool) → s.contradictory ≡ f → (f || any_from (crossed_at s) 0 128) ≡ f
      go true e = refl
      go false e =
          any_none (crossed_at s) 128 0
          (λ j lo hi. uncrossed s.contradictory (literal_at s j) (entry_at s j) (here j (omega arith)).quiet e)

  all_ready : Ready s
  all_ready = record {
    settled = record { many = k.many; ok = ok; nulls = nulls; equal = equal; within = within; quiet = quiet; checked = checked };
    bounds = λ i h. entry-bounded (is_root s i) (entry_at s i) (here i h).range;
    room = k.handles_long;
  }

-- a set of which a program says so is ready
pub ready_set : (s : ConstraintSet) → Held s → ready_of s ≡ true → Ready s
unfolding ready_of ready_at
ready_set s k e =
    all_ready s k (and_left _ _ e)
    (λ i h. parts (is_root s i) s.contradictory (non_null_at s i) (literal_at s i) (entry_at s i)
    (table (ready_at s) 128 (and_right (classes_ok (classes_of s)) _ e) i h))

-- ---- and of every set that is ready it says so
module _ (s : ConstraintSet) (r : Ready s) (i : ℕ) (h : i < 128) where
  abbrev t : Settled s
  t = r.settled

  place : (root : Bool) → is_root s i ≡ root → PartsAt s i root
  place root e =
      let far : root ≡ false → canonical_at s i ≡ i → ⊥ = λ f. eqb-false (canonical_at s i) i (e ∙ f) in
      let same = t.within.same i h in
      record {
        null = null-back root (non_null_at s i) (λ f. t.nulls.away i h (far f));
        literal = holder-back root (literal_at s i) (λ f. t.equal.away i h (far f)) (t.equal.same i h);
        range = entry-back root (entry_at s i) (λ f. t.within.away i h (far f)) same (r.bounds i h);
        quiet =
            quiet-back s.contradictory (literal_at s i) (entry_at s i) (λ b. t.quiet i h (same-empty (entry_at s i) same ∙ b))
            (crossed-flagged s t.checked i h);
      }

pub ready_said : (s : ConstraintSet) → Ready s → ready_of s ≡ true
unfolding ready_of ready_at
ready_said s r =
    and_both (classes_ok (classes_of s)) _ r.settled.ok
    (all_of (ready_at s) 128 0
    (λ j lo hi. whole (is_root s j) s.contradictory (non_null_at s j) (literal_at s j) (entry_at s j) (place s r j (omega arith) (is_root s j) refl)))

-- ---- the set in which nothing is recorded is one
alone : (i : ℕ) → i < 128 → is_root empty_set i ≡ true
unfolding empty_set
alone i h = eq-eqb _ _ (alone_canonical i h)

nothing-there : ready_place true false false none no_entry ≡ true
unfolding ready_place ready_holder blank_scalar ready_entry blank_bound quiet_place
nothing-there = λ i. (zero_bits i && zero_bits i) && true

fresh_at : (i : ℕ) → i < 128 → ready_at empty_set i ≡ true
unfolding ready_at empty_set
fresh_at i h =
    subst (λ (b : Bool). ready_place b false (non_null_at empty_set i) (literal_at empty_set i) (entry_at empty_set i) ≡ true) (sym (alone i h))
    (at-replicate (λ (n : Bool). ready_place true false n (literal_at empty_set i) (entry_at empty_set i) ≡ true) false false
    (at-replicate (λ (x : Holder). ready_place true false false x (entry_at empty_set i) ≡ true) none none
    (at-replicate (λ (e : Entry). ready_place true false false none e ≡ true) no_entry blank nothing-there i h) i h) i h)

fresh_parents : classes_ok (classes_of empty_set) ≡ true
unfolding empty_set
fresh_parents = falling-ok empty_classes empty-sound.1

pub fresh_ready : ready_of empty_set ≡ true
unfolding ready_of
fresh_ready = and_both (classes_ok (classes_of empty_set)) _ fresh_parents (all_of (ready_at empty_set) 128 0 (λ j lo hi. fresh_at j (omega arith)))
