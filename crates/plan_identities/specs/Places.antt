-- The first place of a run that passes a test, and a table filled from its start. Assumes nothing.
use Rattle.std.specs.Prelude.{ℕ, zero, suc, Bool, cond, List, set, replicate}

-- what g has at the first of the n places from i where the test f passes, and d where it passes at none of them
unfoldable pub first_from : (ℕ → Bool) → (ℕ → ℕ) → ℕ → ℕ → ℕ → ℕ
first_from f g d i zero = d
first_from f g d i (suc n) = cond (f i) (g i) (first_from f g d (suc i) n)

-- a table of 64 zeros, with f 0, f 1, .. at its first n places
unfoldable pub filled : (ℕ → ℕ) → ℕ → List ℕ
filled f zero = replicate 64 0
filled f (suc n) = set (filled f n) n (f n)
