-- What a run of places has: a test that passes at each of them, at one of them, and at how many. Assumes nothing.
use Rattle.std.specs.Prelude.{ℕ, zero, suc, ◌+◌, Bool, true, false, cond, ◌&&◌, ◌||◌}

-- the test f passes at each of the n places from i
unfoldable pub all_from : (ℕ → Bool) → ℕ → ℕ → Bool
all_from f i zero = true
all_from f i (suc n) = f i && all_from f (suc i) n

-- the test f passes at one of the n places from i
unfoldable pub any_from : (ℕ → Bool) → ℕ → ℕ → Bool
any_from f i zero = false
any_from f i (suc n) = f i || any_from f (suc i) n

-- at how many of the n places from i the test f passes
unfoldable pub count_from : (ℕ → Bool) → ℕ → ℕ → ℕ
count_from f i zero = 0
count_from f i (suc n) = cond (f i) 1 0 + count_from f (suc i) n
