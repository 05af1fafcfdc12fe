-- A union keeps a set settled, and what the code knows of one that it joins for the first time. Assumes nothing.
use mathlib.Core.Path.{◌≡◌, refl, sym, subst, ◌∙◌}
use mathlib.Core.Bool.{Bool, true, false}
use Prim.Native.Nat.{ℕ, ◌<◌}
use native.Mathlib.Decide.{dec_lt}
use native.Mathlib.Omega.{arith}
use Rattle.value_classes.specs.Classes.{Whole, classes_ok}
use Rattle.value_classes.specs.declared.ValueEquivalenceClasses.{ValueEquivalenceClasses}
use Rattle.constraint_spec.specs.Sets.{canonical_at, with_classes, normalized, union_values}
use Rattle.constraint_spec.specs.declared.ConstraintSet.{ConstraintSet}
use Rattle.constraint_spec.proofs.Operations.{union_one}
use Rattle.constraint_set.specs.Settled.{Settled, union_settled}
use Rattle.constraint_set.proofs.RootJoins.{canonical_low, canonical_own, united-left, united-right, past_left, past_right, settled_is_union}
use Rattle.constraint_set.proofs.Settling.{normalized-settled, united-settled}
use Rattle.constraint_merge.specs.Joined.{values_joined}

-- a union keeps a set settled. Assumes nothing
pub union-settled : (s u : ConstraintSet) (l r : ℕ) → Settled s → u ≡ union_values s l r → Settled u
union-settled s u l r g e = subst Settled (sym e) after
  where
    x : ℕ
    x = canonical_at s l

    y : ℕ
    y = canonical_at s r

    low : l < 128 → r < 128 → Settled (union_values s l r)
    low hl hr = elim (dec_lt x y) [
      | yes h ↦ subst Settled (united-left s g l r hl hr h) (united-settled s g x y h (canonical_low s g r hr) (canonical_own s g l))
      | no n ↦ elim (dec_lt y x) [
        | yes h ↦ subst Settled (united-right s g l r hl hr h) (united-settled s g y x h (canonical_low s g l hl) (canonical_own s g r))
        | no m ↦ subst Settled (sym (union_one s l r hl hr (omega arith))) g
      ]
    ]

    after : Settled (union_values s l r)
    after = elim (dec_lt l 128) [
      | yes hl ↦ elim (dec_lt r 128) [
        | yes hr ↦ low hl hr
        | no n ↦ subst Settled (past_right s l r hl (omega arith)) g
      ]
      | no n ↦ subst Settled (past_left s l r (omega arith)) g
    ]

-- the first union that joins two classes, where no parent is above its child
pub first-settled : (s u : ConstraintSet) (k : ValueEquivalenceClasses) (ok : Bool) → Whole k → ok ≡ classes_ok k → u ≡ normalized (with_classes s k)
    → ok ≡ true → Settled u
first-settled s u k ok long eo eu q = subst Settled (sym eu) (normalized-settled (with_classes s k) long (sym eo ∙ q))

-- what joining in a set is, where what it is told of the set is right: the union
pub joined_is_union : (s : ConstraintSet) (l r : ℕ) (settled : Bool) → (settled ≡ true → Settled s) → values_joined settled s l r ≡ union_values s l r
unfolding values_joined
joined_is_union s l r true g = settled_is_union s (g refl) l r
joined_is_union s l r false g = refl

-- which stays settled
pub joined-settled : (s u : ConstraintSet) (l r : ℕ) → Settled s → u ≡ union_settled s l r → Settled u
joined-settled s u l r g e = union-settled s u l r g (e ∙ settled_is_union s g l r)

pub union-joined : (s u : ConstraintSet) (l r : ℕ) (settled : Bool) → (settled ≡ true → Settled s) → u ≡ values_joined settled s l r → u ≡ union_values s l r
union-joined s u l r settled g e = e ∙ joined_is_union s l r settled g
