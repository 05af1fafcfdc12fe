-- A good set with one field anew is good where the new field is, and asks of a row what the old one did in the other fields. Assumes nothing.
use mathlib.Core.Path.{◌≡◌, sym, subst}
use mathlib.Core.Bool.{Bool, false, not}
use mathlib.Core.List.{List}
use Prim.Native.Nat.{ℕ, ◌≤◌, ◌<◌}
use lib.Dec.{T}
use lib.ListN.{length, get_or, replicate, get_or-replicate}
use Rattle.scalar.specs.declared.ScalarValue.{ScalarValue}
use Rattle.value_classes.specs.Classes.{Whole, Falling}
use Rattle.value_classes.specs.declared.ValueEquivalenceClasses.{ValueEquivalenceClasses}
use Rattle.constraint_spec.specs.Sets.{none, blank, with_classes, with_non_nulls, with_literals, with_ranges, with_residuals, with_flag}
use Rattle.constraint_spec.specs.Meets.{null_ok, literal_ok, entry_ok, Each, Core, SoundHolder, SoundEntry, Good}
use Rattle.constraint_spec.specs.declared.Holder.{Holder}
use Rattle.constraint_spec.specs.declared.Entry.{Entry}
use Rattle.constraint_spec.specs.declared.ConstraintSet.{ConstraintSet}

module _ (s : ConstraintSet) (g : Good s) where
  pub classes-good : (k : ValueEquivalenceClasses) → Whole k → Falling k → Good (with_classes s k)
  classes-good k l f = record {
    long = l;
    fall = f;
    nulls_long = g.nulls_long;
    literals_long = g.literals_long;
    ranges_long = g.ranges_long;
    handles_long = g.handles_long;
    few = g.few;
    typed = g.typed;
    sound = g.sound;
  }

  pub nulls-good : (n : List Bool) → length n ≡ 128 → Good (with_non_nulls s n)
  nulls-good n l = record {
    long = g.long;
    fall = g.fall;
    nulls_long = l;
    literals_long = g.literals_long;
    ranges_long = g.ranges_long;
    handles_long = g.handles_long;
    few = g.few;
    typed = g.typed;
    sound = g.sound;
  }

  pub literals-good : (n : List Holder) → length n ≡ 128 → ((i : ℕ) → i < 128 → SoundHolder (get_or n i none)) → Good (with_literals s n)
  literals-good n l h = record {
    long = g.long;
    fall = g.fall;
    nulls_long = g.nulls_long;
    literals_long = l;
    ranges_long = g.ranges_long;
    handles_long = g.handles_long;
    few = g.few;
    typed = h;
    sound = g.sound;
  }

  pub ranges_good : (n : List Entry) → length n ≡ 128 → ((i : ℕ) → i < 128 → SoundEntry (get_or n i blank)) → Good (with_ranges s n)
  ranges_good n l h = record {
    long = g.long;
    fall = g.fall;
    nulls_long = g.nulls_long;
    literals_long = g.literals_long;
    ranges_long = l;
    handles_long = g.handles_long;
    few = g.few;
    typed = g.typed;
    sound = h;
  }

  pub residuals-good : (n : List ℕ) (k : ℕ) → length n ≡ 64 → k ≤ 64 → Good (with_residuals s n k)
  residuals-good n k l h = record {
    long = g.long;
    fall = g.fall;
    nulls_long = g.nulls_long;
    literals_long = g.literals_long;
    ranges_long = g.ranges_long;
    handles_long = l;
    few = h;
    typed = g.typed;
    sound = g.sound;
  }

  pub flag-good : (c : Bool) → Good (with_flag s c)
  flag-good c = record {
    long = g.long;
    fall = g.fall;
    nulls_long = g.nulls_long;
    literals_long = g.literals_long;
    ranges_long = g.ranges_long;
    handles_long = g.handles_long;
    few = g.few;
    typed = g.typed;
    sound = g.sound;
  }

-- ---- what a set asks of a row, with one part anew
module _ {v : ℕ → ScalarValue} {s : ConstraintSet} (m : Core v s) where
  pub core-nulls : (n : List Bool) → Each (λ (i : ℕ) (b : Bool). null_ok (v i) b) false n → Core v (with_non_nulls s n)
  core-nulls n e = record { clear = m.clear; nulls = e; equal = m.equal; within = m.within }

  pub core-literals : (n : List Holder) → Each (λ (i : ℕ) (h : Holder). literal_ok (v i) h) none n → Core v (with_literals s n)
  core-literals n e = record { clear = m.clear; nulls = m.nulls; equal = e; within = m.within }

  pub core_ranges : (n : List Entry) → Each (λ (i : ℕ) (x : Entry). entry_ok (v i) x) blank n → Core v (with_ranges s n)
  core_ranges n e = record { clear = m.clear; nulls = m.nulls; equal = m.equal; within = e }

  pub core-flag : (c : Bool) → T (not c) → Core v (with_flag s c)
  core-flag c t = record { clear = t; nulls = m.nulls; equal = m.equal; within = m.within }

-- ---- a list of the same entry 128 times
pub at-replicate : {A : Type 0} (S : A → Type 0) (x d : A) → S x → (i : ℕ) → i < 128 → S (get_or (replicate 128 x) i d)
at-replicate S x d t i h = subst S (sym (get_or-replicate 128 i x d h)) t
