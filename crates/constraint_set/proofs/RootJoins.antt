-- A union of two identities in a settled set joins their representatives, the higher to the lower. Assumes nothing.
use Prim.Native.Nat.{ℕ, ◌<◌, ◌≤◌, min, max}
use native.Mathlib.Decide.{dec_lt, ℕ_discrete}
use borrow.Author.Tests.{lt-ltb, le-ltb, eq-eqb, ne_eqb}
use mathlib.Core.Path.{◌≡◌, refl, sym, ap, ap₂, ◌∙◌}
use native.Mathlib.Omega.{arith}
use Rattle.value_classes.specs.Classes.{joined_classes, roots_joined}
use Rattle.value_classes.specs.declared.ValueEquivalenceClasses.{ValueEquivalenceClasses}
use Rattle.value_classes.proofs.ClassLaws.{falling, canonical_small, canonical_idempotent, joined-to-left, joined-to-right}
use Rattle.value_classes.proofs.Unions.{left_out, right-out}
use Rattle.constraint_spec.specs.Sets.{classes_of, canonical_at, with_classes, normalized, union_values}
use Rattle.constraint_spec.specs.declared.ConstraintSet.{ConstraintSet}
use Rattle.constraint_spec.proofs.Operations.{union_one, union_two}
use Rattle.constraint_set.specs.Settled.{Settled, united_roots, union_settled}
use Rattle.constraint_set.proofs.Settling.{joined-normalized}

module _ (s : ConstraintSet) (g : Settled s) where
  pub canonical_low : (k : ℕ) → k < 128 → canonical_at s k < 128
  canonical_low k h = canonical_small (classes_of s) k (canonical_at s k) g.many refl h

  pub canonical_own : (k : ℕ) → canonical_at s (canonical_at s k) ≡ canonical_at s k
  canonical_own k = canonical_idempotent (classes_of s) (falling (classes_of s) g.ok) k

  module _ (i j : ℕ) (hi : i < 128) (hj : j < 128) where
    abbrev x : ℕ
    x = canonical_at s i

    abbrev y : ℕ
    y = canonical_at s j

    united-is : (a b : ℕ) → a < b → b < 128 → canonical_at s a ≡ a → joined_classes (classes_of s) i j ≡ roots_joined (classes_of s) a b → (x ≡ y → ⊥)
        → united_roots s a b ≡ union_values s i j
    united-is a b less high o e d =
        sym (union_two s i j hi hj d ∙ ap (λ (q : ValueEquivalenceClasses). normalized (with_classes s q)) e ∙ joined-normalized s g a b less high o)

    pub united-left : x < y → united_roots s x y ≡ union_values s i j
    united-left h =
        united-is x y h (canonical_low j hj) (canonical_own i) (joined-to-left (classes_of s) i j x y refl refl (omega arith)) (λ z. omega arith)

    pub united-right : y < x → united_roots s y x ≡ union_values s i j
    united-right h =
        united-is y x h (canonical_low i hi) (canonical_own j) (joined-to-right (classes_of s) i j x y refl refl (omega arith)) (λ z. omega arith)

-- a union of what is no identity changes nothing. Assumes nothing
module _ (s : ConstraintSet) (i j : ℕ) where
  pub past_left : 128 ≤ i → s ≡ union_values s i j
  unfolding union_values
  past_left h = rw (← left_out (classes_of s) i j h)

  pub past_right : i < 128 → 128 ≤ j → s ≡ union_values s i j
  unfolding union_values
  past_right l h = rw (← right-out (classes_of s) i j l h)

-- what one union makes of the representatives a and b of two identities, in a set in which everything stands at the representatives. Assumes nothing
module _ (s : ConstraintSet) (g : Settled s) (i j : ℕ) (hi : i < 128) (hj : j < 128) (a b : ℕ) (ea : a ≡ canonical_at s i) (eb : b ≡ canonical_at s j) where
  pub union-apart : (u : ConstraintSet) (low high : ℕ) → (a ≡ b → ⊥) → low ≡ min a b → high ≡ max a b → u ≡ united_roots s low high → u ≡ union_values s i j
  union-apart u low high n el eh e = elim (dec_lt a b) [
    | yes h ↦ (
        let l : low ≡ canonical_at s i = omega arith in
        let k : high ≡ canonical_at s j = omega arith in
        e ∙ ap₂ (united_roots s) l k ∙ united-left s g i j hi hj (omega arith))
    | no h ↦ (
        let l : low ≡ canonical_at s j = omega arith in
        let k : high ≡ canonical_at s i = omega arith in
        e ∙ ap₂ (united_roots s) l k ∙ united-right s g i j hi hj (omega arith))
  ]

  pub union-same : a ≡ b → s ≡ union_values s i j
  union-same e = sym (union_one s i j hi hj (sym ea ∙ e ∙ eb))

pub ruleset settled_union = (union-apart, union-same)

-- and of any two numbers: the union is what `union_settled` says. Assumes nothing
module _ (s : ConstraintSet) (g : Settled s) (i j : ℕ) where
  abbrev a : ℕ
  a = canonical_at s i

  abbrev b : ℕ
  b = canonical_at s j

  roots_one : i < 128 → j < 128 → (a ≡ b → ⊥) → united_roots s (min a b) (max a b) ≡ union_values s i j
  roots_one hi hj n = union-apart s g i j hi hj a b refl refl _ _ _ n refl refl refl

  pub settled_is_union : union_settled s i j ≡ union_values s i j
  unfolding union_settled
  settled_is_union = elim (dec_lt i 128) [
    | yes hi ↦ elim (dec_lt j 128) [
      | yes hj ↦ elim (ℕ_discrete a b) [
        | yes e ↦ rw (lt-ltb _ _ hi, lt-ltb _ _ hj, eq-eqb _ _ e) (union-same s g i j hi hj a b refl refl e)
        | no n ↦ rw (lt-ltb _ _ hi, lt-ltb _ _ hj, ne_eqb _ _ n) (roots_one hi hj n)
      ]
      | no hj ↦ rw (lt-ltb i 128 hi, le-ltb j 128 (omega arith)) (past_right s i j hi (omega arith))
    ]
    | no hi ↦ rw (le-ltb i 128 (omega arith)) (past_left s i j (omega arith))
  ]
