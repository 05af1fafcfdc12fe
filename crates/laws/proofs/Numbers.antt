-- Laws of numbers that several crates need. Assumes nothing.
use Prim.Native.Nat.{ℕ, zero, suc, ◌+◌, ◌-◌, ◌<◌, ◌≤◌}
use mathlib.Core.Path.{◌≡◌, subst}
use native.Mathlib.Decide.{dec_lt}
use native.Mathlib.Omega.{arith}

-- what is left of a run from i up to e
pub sub_suc-of-lt : (i e : ℕ) → i < e → e - i ≡ suc (e - (i + 1))
sub_suc-of-lt i e lt = omega arith

-- a number of which only n is left
pub eq-of_le_lt_add_one : (n i : ℕ) → n ≤ i → i < n + 1 → n ≡ i
eq-of_le_lt_add_one n i a b = omega arith

-- what holds of a number where it holds of all before it holds of every number
pub before-all : (P : ℕ → Type 0) → ((h : ℕ) → ((e : ℕ) → e < h → P e) → P h) → (h : ℕ) → P h
before-all P step h = step h (go h)
  where
    go : (n e : ℕ) → e < n → P e
    go zero e l = absurd (omega arith)
    go (suc n) e l = step e (λ x k. go n x (omega arith))

-- what holds below n and at n holds below its successor
pub all-below-suc : (P : ℕ → Type 0) (n : ℕ) → ((j : ℕ) → j < n → P j) → P n → (j : ℕ) → j < suc n → P j
all-below-suc P n low here j h = elim (dec_lt j n) [
  | yes l ↦ low j l
  | no g ↦ (let q : n ≡ j = omega arith in subst P q here)
]
