-- The order of columns by table, then name, then column number is a strict total order. Assumes nothing.
use Prim.Native.Nat.{ℕ, ◌<◌}
use mathlib.Core.Path.{◌≡◌, refl, sym, ◌∙◌}
use mathlib.Core.Bool.{Bool, true, false, false≢true}
use mathlib.Core.Logic.{◌⊎◌, inl, inr, ⊎_elim}
use native.Mathlib.Omega.{arith}
use lib.Dec.{ltb, eqb}
use borrow.Author.Tests.{ltb-true, ltb-false, lt-ltb, le-ltb, eqb-true, eq-eqb}
use Rattle.plan.specs.declared.Plan.{Plan}
use Rattle.plan_identities.specs.Identities.{by_key, before}
use Rattle.plan_identities.proofs.PlaceLaws.{by-test}

-- a test of two numbers that is a strict total order: none comes before itself, what comes before what comes before c comes before c, and of two
-- different ones one comes before the other
pub record Strict (lt : ℕ → ℕ → Bool) : Type 0 where
  pub irreflexive : (a : ℕ) → lt a a ≡ false
  pub transitive : (a b c : ℕ) → lt a b ≡ true → lt b c ≡ true → lt a c ≡ true
  pub total : (a b : ℕ) → (a ≡ b → ⊥) → (lt a b ≡ true) ⊎ (lt b a ≡ true)

-- the order of numbers is one
pub numbers : Strict ltb
numbers =
    record {
      irreflexive = λ a. le-ltb a a (omega arith);
      transitive = λ a b c p q. lt-ltb a c (omega (arith, ltb-true a b p, ltb-true b c q));
      total = λ a b n.
          by-test (ltb a b) inl
          (λ e. by-test (ltb b a) inr (λ f. absurd (n (omega (arith, ltb-false a b e, ltb-false b a f)))));
    }

module _ (key : ℕ → ℕ) (rest : ℕ → ℕ → Bool) where
  -- by a key: the key is smaller, or it is the same and the rest says so
  pub key-says : (a b : ℕ) → by_key key rest a b ≡ true → (key a < key b) ⊎ ((key a ≡ key b) × (rest a b ≡ true))
  unfolding by_key
  key-says a b e =
      by-test (ltb (key a) (key b)) (λ l. inl (ltb-true (key a) (key b) l))
      (λ l. by-test (eqb (key a) (key b)) (λ q. inr (eqb-true (key a) (key b) q, rw (l, q) at e)) (λ q. absurd (false≢true (rw (l, q) at e))))

  pub key-less : (a b : ℕ) → key a < key b → by_key key rest a b ≡ true
  unfolding by_key
  key-less a b h = rw (lt-ltb (key a) (key b) h)

  pub key-equal : (a b : ℕ) → key a ≡ key b → by_key key rest a b ≡ rest a b
  unfolding by_key
  key-equal a b e = rw (le-ltb (key a) (key b) (omega arith), eq-eqb (key a) (key b) e)

  -- by a key, and by a strict total order where the keys are the same
  pub keyed : Strict rest → Strict (by_key key rest)
  keyed s =
      record {
        irreflexive = λ a. key-equal a a refl ∙ s.irreflexive a;
        transitive = λ a b c p q.
            ⊎_elim
            (λ l. ⊎_elim (λ m. key-less a c (omega arith)) (λ m. key-less a c (omega (arith, m.0))) (key-says b c q))
            (λ l. ⊎_elim (λ m. key-less a c (omega (arith, l.0)))
            (λ m. key-equal a c (l.0 ∙ m.0) ∙ s.transitive a b c l.1 m.1) (key-says b c q))
            (key-says a b p);
        total = λ a b n.
            by-test (ltb (key a) (key b)) (λ l. inl (key-less a b (ltb-true _ _ l)))
            (λ l. by-test (ltb (key b) (key a)) (λ m. inr (key-less b a (ltb-true _ _ m)))
            (λ m. let e : key a ≡ key b = omega (arith, ltb-false (key a) (key b) l, ltb-false (key b) (key a) m) in
            ⊎_elim (λ r. inl (key-equal a b e ∙ r)) (λ r. inr (key-equal b a (sym e) ∙ r)) (s.total a b n)));
      }

-- the order of a plan's columns
pub columns-ordered : (p : Plan) → Strict (before p)
columns-ordered p = keyed _ _ (keyed _ _ numbers)
