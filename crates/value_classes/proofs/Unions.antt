-- What `union_of` comes to on each way through the code of `union`, and what a union keeps. Assumes nothing.
use Prim.Native.Nat.{ℕ, ◌≤◌, ◌<◌}
use mathlib.Core.Bool.{Bool, true, false, cond, ◌&&◌}
use mathlib.Core.Path.{◌≡◌, refl, sym, ap, ◌∙◌}
use native.Mathlib.Decide.{ℕ_discrete}
use native.Mathlib.Omega.{arith}
use lib.Dec.{ltb}
use borrow.Author.Tests.{le-ltb, lt-ltb, eq-eqb, ne_eqb}
use Rattle.value_classes.specs.Classes.{classes_by, Whole, Falling, canonical_of, same_class, joined_classes, union_of}
use Rattle.value_classes.specs.declared.ValueEquivalenceClasses.{ValueEquivalenceClasses}
use Rattle.value_classes.specs.Answers.{United, united}
use Rattle.value_classes.proofs.RootLaws.{joined_same}

module _ (c : ValueEquivalenceClasses) (l r : ℕ) where
  pub left_out : 128 ≤ l → united c false ≡ union_of c l r
  unfolding union_of
  left_out h = rw (le-ltb _ _ h)

  pub right-out : l < 128 → 128 ≤ r → united c false ≡ union_of c l r
  unfolding union_of
  right-out g h = rw (lt-ltb _ _ g, le-ltb _ _ h)

-- ---- a union of two identities
module _ (c : ValueEquivalenceClasses) (l r : ℕ) (hl : l < 128) (hr : r < 128) where
  -- whether two classes became one. Assumes nothing
  pub union_joined : (canonical_of c l ≡ canonical_of c r → ⊥) → union_of c l r ≡ united (joined_classes c l r) true
  unfolding union_of
  union_joined d = rw (lt-ltb _ _ hl, lt-ltb _ _ hr, ne_eqb _ _ d)

  pub union_same : canonical_of c l ≡ canonical_of c r → union_of c l r ≡ united c false
  unfolding union_of
  union_same e = rw (lt-ltb _ _ hl, lt-ltb _ _ hr, eq-eqb _ _ e)

  -- the classes are the joined ones in both cases. Assumes 128 parents that fall
  pub union_classes : Whole c → Falling c → (union_of c l r).classes ≡ joined_classes c l r
  union_classes long f = elim (ℕ_discrete (canonical_of c l) (canonical_of c r)) [
    | yes e ↦ rw (union_same e) (λ i. classes_by (sym (joined_same c.parents f l r (omega arith) (omega arith) e) i))
    | no n ↦ rw (union_joined n)
  ]

-- nothing changes where no two became one. Assumes nothing
pub union_kept : (c : ValueEquivalenceClasses) (l r : ℕ) (k : ValueEquivalenceClasses) (b : Bool) → united k b ≡ union_of c l r → b ≡ false → k ≡ c
unfolding union_of
union_kept c l r k b e f =
    ap (λ (u : United). u.classes) e ∙ go (ltb l 128 && ltb r 128) (same_class c l r) (sym (ap (λ (u : United). u.joined) e) ∙ f)
  where
    by : Bool → Bool → United
    by t s = cond t (cond s (united c false) (united (joined_classes c l r) true)) (united c false)

    go : (t s : Bool) → (by t s).joined ≡ false → (by t s).classes ≡ c
    go true true q = refl
    go true false q = cc
    go false s q = refl
