-- A list without some of the handles that stand both before and after: each keeps at least its first and its last place. Assumes nothing.
use Rattle.std.specs.Prelude.{ℕ, ◌≡◌, Bool, true, false, ◌&&◌, ◌||◌, List, [], ◌∷◌, ◌++◌, ◌⊎◌, eqb}

unfoldable pub is_in : ℕ → List ℕ → Bool
is_in h [] = false
is_in h (x ∷ xs) = eqb x h || is_in h xs

-- ks begins with h, and P holds of the others
pub record Begins (h : ℕ) (ks : List ℕ) (P : List ℕ → Type 0) : Type 0 where
  pub others : List ℕ
  pub is : ks ≡ h ∷ others
  pub rest : P others

-- ks is a list, after the handles `old`, of which only such handles were left out that are in `old` or stand before, and stand again after
abbrev pub Thinned : List ℕ → List ℕ → List ℕ → Type 0
Thinned old [] ks = ks ≡ []
Thinned old (h ∷ hs) ks = (((is_in h old && is_in h hs) ≡ true) × Thinned old hs ks) ⊎ Begins h ks (Thinned (old ++ (h ∷ [])) hs)
