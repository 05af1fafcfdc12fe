-- The laws of classes as crates above cite them, over the record: they name no parent. Assumes nothing.
use Prim.Native.Nat.{ℕ, ◌≤◌, ◌<◌, min, max}
use mathlib.Core.Bool.{true, cond, ◌&&◌}
use mathlib.Core.Logic.{◌↔◌}
use mathlib.Core.Path.{◌≡◌, refl, ap, subst, ◌∙◌}
use native.Mathlib.Decide.{ℕ_discrete}
use native.Mathlib.Omega.{arith}
use borrow.Author.Tests.{lt-ltb}
use lib.Dec.{ltb}
use lib.ListN.{length-set}
use lib.Seq.{get_or-set_same, get_or-set_other}
use Rattle.value_classes.specs.Parents.{parent_in, joined}
use Rattle.value_classes.specs.Classes.{Whole, Falling, classes_ok, empty_classes, canonical_of, joined_classes, roots_joined}
use Rattle.value_classes.specs.declared.ValueEquivalenceClasses.{ValueEquivalenceClasses}
use Rattle.value_classes.proofs.RootLaws.{falls, falls-ok, parent_in_lem, root_below, root-of-own, root-own, root-step, root_le, root_idempotent}
use Rattle.value_classes.proofs.RootLaws.{Met, joined-falls, joined-exact, joined_length, own_root}

-- ---- representatives
module _ (c : ValueEquivalenceClasses) where
  -- the test says that the parents fall. Assumes nothing
  pub falling : classes_ok c ≡ true → Falling c
  falling e = falls c.parents e

  pub falling-ok : Falling c → classes_ok c ≡ true
  falling-ok f = falls-ok c.parents f

  -- the representative of an identity is one, whatever the parents are
  pub canonical_small : (i x : ℕ) → Whole c → x ≡ canonical_of c i → i < 128 → x < 128
  canonical_small i x w e h = root_below c.parents 128 i x w e h

  module _ (f : Falling c) where
    pub canonical_le : (i : ℕ) → canonical_of c i ≤ i
    canonical_le i = root_le c.parents f i

    pub canonical_idempotent : (i : ℕ) → canonical_of c (canonical_of c i) ≡ canonical_of c i
    canonical_idempotent i = root_idempotent c.parents f i

-- in the empty classes each is its own representative
pub alone_canonical : (i : ℕ) → i < 128 → canonical_of empty_classes i ≡ i
unfolding empty_classes
alone_canonical i h = own_root 128 i h

-- ---- two classes made one
pub joined-whole : (c : ValueEquivalenceClasses) (l r : ℕ) → Whole c → Whole (joined_classes c l r)
joined-whole c l r w = joined_length c.parents l r ∙ w

module _ (c : ValueEquivalenceClasses) (w : Whole c) (f : Falling c) (l r : ℕ) (hl : l < 128) (hr : r < 128) where
  -- joining keeps the rule. Assumes 128 parents that fall
  pub joined-falling : Falling (joined_classes c l r)
  joined-falling = joined-falls c.parents f l r (omega arith) (omega arith)

  -- after joining l and r two are in one class exactly if they were, or one was with l and the other with r. Assumes 128 parents that fall
  pub joined-met : (a b : ℕ) → (canonical_of (joined_classes c l r) a ≡ canonical_of (joined_classes c l r) b) ↔ Met (canonical_of c l) (canonical_of c r)
      (canonical_of c a) (canonical_of c b)
  joined-met a b = joined-exact c.parents f l r (omega arith) (omega arith) a b

-- that the lower representative becomes the parent of the higher one joins the two classes. Assumes nothing
pub joined_roots : (c : ValueEquivalenceClasses) (l r : ℕ) → joined_classes c l r ≡ roots_joined c (min (canonical_of c l) (canonical_of c r))
    (max (canonical_of c l) (canonical_of c r))
unfolding joined
joined_roots c l r = refl

module _ (c : ValueEquivalenceClasses) (l r x y : ℕ) (ex : x ≡ canonical_of c l) (ey : y ≡ canonical_of c r) where
  pub joined-to-left : x ≤ y → joined_classes c l r ≡ roots_joined c x y
  joined-to-left h =
      let m : max x y ≡ y = omega arith in
      let n : min x y ≡ x = omega arith in
      joined_roots c l r ∙ rw (← ex, ← ey, m, n)

  pub joined-to-right : y ≤ x → joined_classes c l r ≡ roots_joined c y x
  joined-to-right h =
      let m : max x y ≡ x = omega arith in
      let n : min x y ≡ y = omega arith in
      joined_roots c l r ∙ rw (← ex, ← ey, m, n)

-- ---- what `join_roots` answers
module _ (c : ValueEquivalenceClasses) (a b : ℕ) where
  abbrev pub roots_answered : ValueEquivalenceClasses
  roots_answered = cond (ltb a 128 && ltb b 128) (roots_joined c a b) c

  pub roots_answered_lem : a < 128 → b < 128 → roots_answered ≡ roots_joined c a b
  roots_answered_lem g h = rw (lt-ltb _ _ g, lt-ltb _ _ h)

-- ---- representatives after b has got a as its parent
pub roots_whole : (c : ValueEquivalenceClasses) (a b : ℕ) → Whole c → Whole (roots_joined c a b)
roots_whole c a b w = length-set c.parents b a ∙ w

module _ (c : ValueEquivalenceClasses) (w : Whole c) (f : Falling c) (a b : ℕ) (less : a < b) (high : b < 128) (own-a : canonical_of c a ≡ a) where
  abbrev k : ValueEquivalenceClasses
  k = roots_joined c a b

  pub roots_falling : Falling (roots_joined c a b)
  roots_falling i h = elim (ℕ_discrete i b) [
    | yes e ↦ rw (e, get_or-set_same c.parents b a 0 (omega arith)) (omega arith)
    | no n ↦ rw (get_or-set_other c.parents b i a 0 n) (f i (omega (arith, length-set c.parents b a)))
  ]

  -- another representative stays one
  pub root-stays : (i : ℕ) → canonical_of c i ≡ i → (i ≡ b → ⊥) → canonical_of (roots_joined c a b) i ≡ i
  root-stays i e n = root-of-own k.parents i (other ∙ subst (λ (x : ℕ). parent_in c.parents x ≡ x) e (root-own c.parents f i))
    where
      other : parent_in k.parents i ≡ parent_in c.parents i
      other = unfold parent_in in rw (length-set c.parents b a, get_or-set_other c.parents b i a 0 n)

  -- and that of b is a
  pub root-goes : canonical_of (roots_joined c a b) b ≡ a
  root-goes =
      let e = get_or-set_same c.parents b a 0 (omega arith) in
      let l = length-set c.parents b a in
      root-step k.parents roots_falling b ∙ ap (canonical_of k) (parent_in_lem k.parents b (omega arith) (omega arith) ∙ e)
      ∙ root-stays a own-a (omega arith)
