-- Columns overridden one by one, as the loop goes through them. Assumes nothing.
use Rattle.std.proofs.Common.{◌≡◌, ℕ, ◌+◌, List, get_or, set, refl, ap, ◌∙◌, ◌≤◌, arith, add-one}
use borrow.Author.Tests.{eq-eqb, ne_eqb}
use Rattle.constraint_spec.specs.Sets.{steps_to}
use Rattle.apply_spec.specs.Entries.{override, overridden}

-- the first c columns overridden
unfoldable pub over_to : List ℕ → List ℕ → ℕ → List ℕ
over_to l r c = steps_to (override r) c l

pub over_none : (l r : List ℕ) → over_to l r 0 ≡ l
unfolding over_to steps_to
over_none l r = refl

over_next : (l r : List ℕ) (c : ℕ) → over_to l r (c + 1) ≡ override r c (over_to l r c)
unfolding over_to steps_to
over_next l r c = ap (λ (n : ℕ). steps_to (override r) n l) (add-one c)

-- a column of which the right has nothing stays, and what the right has of a column stands
pub over_stays : (l r : List ℕ) (c : ℕ) → get_or r c 0 ≡ 0 → over_to l r (c + 1) ≡ over_to l r c
over_stays l r c e = over_next l r c ∙ rw (eq-eqb _ _ e) refl

pub over_stands : (l r : List ℕ) (c : ℕ) → (get_or r c 0 ≡ 0 → ⊥) → over_to l r (c + 1) ≡ set (over_to l r c) c (get_or r c 0)
over_stands l r c n = over_next l r c ∙ rw (ne_eqb _ _ n) refl

pub over_all : (l r : List ℕ) (c : ℕ) → c ≤ 64 → 64 ≤ c → over_to l r c ≡ overridden l r
unfolding over_to overridden
over_all l r c few all = let e : c ≡ 64 = omega arith in rw e refl

pub ruleset override_loop = (over_none, over_stays, over_stands, over_all)
