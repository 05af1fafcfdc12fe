-- Every row meets the empty set, from which the operations start. Assumes nothing.
use mathlib.Core.Path.{◌≡◌, sym}
use mathlib.Core.Bool.{Bool, true, false}
use mathlib.Core.Logic.{inl}
use Prim.Native.Nat.{ℕ}
use native.Mathlib.Omega.{arith}
use lib.Dec.{T}
use lib.ListN.{length-replicate}
use Rattle.scalar.specs.declared.ScalarValue.{ScalarValue}
use Rattle.value_classes.specs.Classes.{empty_classes}
use Rattle.value_classes.proofs.ClassLaws.{falling-ok, alone_canonical}
use Rattle.value_classes.proofs.Chains.{empty-sound}
use Rattle.constraint_spec.specs.Sets.{none, blank, no_entry, set_ok, empty_set}
use Rattle.constraint_spec.specs.Meets.{null_ok, literal_ok, entry_ok, Meets, SoundHolder, SoundEntry, Good}
use Rattle.constraint_spec.specs.declared.Holder.{Holder}
use Rattle.constraint_spec.specs.declared.Entry.{Entry}
use Rattle.constraint_spec.proofs.Goods.{at-replicate}

-- the empty set is good
pub empty-good : Good empty_set
unfolding empty_set
empty-good = record {
  long = empty-sound.0;
  fall = empty-sound.1;
  nulls_long = length-replicate 128 false;
  literals_long = length-replicate 128 none;
  ranges_long = length-replicate 128 no_entry;
  handles_long = length-replicate {A = ℕ} 64 0;
  few = omega arith;
  typed = at-replicate SoundHolder none none (λ t. absurd t);
  sound = at-replicate SoundEntry no_entry blank (λ t. absurd t);
}

-- every row meets it
pub empty-meets : (on : ℕ → Type 0) (v : ℕ → ScalarValue) → Meets on v empty_set
unfolding empty_set
empty-meets on v = record {
  core = record {
    clear = tt;
    nulls = λ i h. at-replicate (λ (b : Bool). T (null_ok (v i) b)) false false tt i h;
    equal = λ i h. at-replicate (λ (x : Holder). T (literal_ok (v i) x)) none none tt i h;
    within = λ i h. at-replicate (λ (e : Entry). T (entry_ok (v i) e)) no_entry blank tt i h;
  };
  together = λ i h. inl (sym (alone_canonical i h));
  residual = λ k h. absurd (omega arith);
}

-- it keeps the rules
pub empty-ok : set_ok empty_set ≡ true
unfolding set_ok empty_set
empty-ok = rw (falling-ok empty_classes empty-sound.1)
