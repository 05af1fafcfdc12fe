-- A run of places, one place fewer at a time, as a loop goes through it; and what a passed test says of one place. Assumes nothing.
use mathlib.Core.Path.{◌≡◌, refl, subst, ap}
use mathlib.Core.Bool.{Bool, true, false, cond, ◌&&◌, ◌||◌}
use mathlib.Core.Logic.{◌⊎◌, inl, inr, ⊎_elim}
use lib.Dec.{ltb}
use borrow.Author.Tests.{ltb-true, ltb-false}
use Prim.Native.Nat.{ℕ, zero, suc, ◌+◌, ◌-◌, ◌<◌, ◌≤◌}
use native.Mathlib.Nat.{eq-or-lt_of_le, sub-eq-zero_of_le}
use native.Mathlib.Omega.{arith}
use native.Mathlib.Numerals.{add-one}
use native.Mathlib.Decide.{ℕ_discrete}
use Rattle.laws.proofs.Bools.{and_left, and_right, and_both, cond-one_le, or_inr}
use Rattle.laws.proofs.Numbers.{sub_suc-of-lt}
use Rattle.lists.specs.Ranges.{all_from, any_from, count_from}

-- a number is below another or not
pub below_or_not : (i n : ℕ) → (i < n) ⊎ (n ≤ i)
below_or_not i n = go (ltb i n) refl
  where
    go : (t : Bool) → ltb i n ≡ t → (i < n) ⊎ (n ≤ i)
    go true e = inl (ltb-true i n e)
    go false e = inr (ltb-false i n e)

-- a test that passes everywhere passes at a place
pub all-at : (f : ℕ → Bool) (n i : ℕ) → all_from f i n ≡ true → (j : ℕ) → i ≤ j → j < i + n → f j ≡ true
unfolding all_from
all-at f zero i e j lo hi = absurd (omega arith)
all-at f (suc n) i e j lo hi =
    ⊎_elim (λ p. subst (λ (k : ℕ). f k ≡ true) p (and_left (f i) (all_from f (suc i) n) e))
    (λ l. all-at f n (suc i) (and_right (f i) (all_from f (suc i) n) e) j l (omega arith)) (eq-or-lt_of_le lo)

-- and the other way round
pub all_of : (f : ℕ → Bool) (n i : ℕ) → ((j : ℕ) → i ≤ j → j < i + n → f j ≡ true) → all_from f i n ≡ true
unfolding all_from
all_of f zero i h = refl
all_of f (suc n) i h =
    and_both (f i) (all_from f (suc i) n) (h i (omega arith) (omega arith)) (all_of f n (suc i) (λ j lo hi. h j (omega arith) (omega arith)))

-- a rule of a table of numbers: a test that antt computes at each place below n
pub table : (f : ℕ → Bool) (n : ℕ) → all_from f 0 n ≡ true → (j : ℕ) → j < n → f j ≡ true
table f n e j h = all-at f n 0 e j (omega arith) (omega arith)

-- a grid: the same twice
pub grid : (f : ℕ → ℕ → Bool) (n m : ℕ) → all_from (λ (i : ℕ). all_from (f i) 0 m) 0 n ≡ true → (i j : ℕ) → i < n → j < m → f i j ≡ true
grid f n m e i j hi hj = table (f i) m (table (λ (k : ℕ). all_from (f k) 0 m) n e i hi) j hj

-- a run from i, of n places, ends at i + n
pub run-whole : (i n : ℕ) → n ≡ i + n - i
run-whole i n = omega arith

-- a count that starts with none found and all places left
pub run-start : (g : ℕ → ℕ) (n : ℕ) → g n ≡ 0 + g (n - 0)
run-start g n = let e : n - 0 ≡ n = omega arith in rw e (omega arith)

pub all-step : (f : ℕ → Bool) (i e : ℕ) → i < e → all_from f i (e - i) ≡ (f i && all_from f (i + 1) (e - (i + 1)))
unfolding all_from
all-step f i e lt = rw (sub_suc-of-lt i e lt, add-one)

pub all_done : (f : ℕ → Bool) (i e : ℕ) → e ≤ i → all_from f i (e - i) ≡ true
unfolding all_from
all_done f i e le = rw (sub-eq-zero_of_le le)

pub all-fails : (f : ℕ → Bool) (i e : ℕ) → i < e → f i ≡ false → all_from f i (e - i) ≡ false
all-fails f i e lt q = rw (all-step f i e lt, q)

pub all-passes : (f : ℕ → Bool) (i e : ℕ) → i < e → f i ≡ true → all_from f i (e - i) ≡ all_from f (i + 1) (e - (i + 1))
all-passes f i e lt q = rw (all-step f i e lt, q)

pub any_step : (f : ℕ → Bool) (i e : ℕ) → i < e → any_from f i (e - i) ≡ (f i || any_from f (i + 1) (e - (i + 1)))
unfolding any_from
any_step f i e lt = rw (sub_suc-of-lt i e lt, add-one)

pub any-done : (f : ℕ → Bool) (i e : ℕ) → e ≤ i → any_from f i (e - i) ≡ false
unfolding any_from
any-done f i e le = rw (sub-eq-zero_of_le le)

pub any_found : (f : ℕ → Bool) (i e : ℕ) → i < e → f i ≡ true → any_from f i (e - i) ≡ true
any_found f i e lt q = rw (any_step f i e lt, q)

pub any_missed : (f : ℕ → Bool) (i e : ℕ) → i < e → f i ≡ false → any_from f i (e - i) ≡ any_from f (i + 1) (e - (i + 1))
any_missed f i e lt q = rw (any_step f i e lt, q)

pub count-step : (f : ℕ → Bool) (i e : ℕ) → i < e → count_from f i (e - i) ≡ cond (f i) 1 0 + count_from f (i + 1) (e - (i + 1))
unfolding count_from
count-step f i e lt = rw (sub_suc-of-lt i e lt, add-one)

pub count-done : (f : ℕ → Bool) (i e : ℕ) → e ≤ i → count_from f i (e - i) ≡ 0
unfolding count_from
count-done f i e le = rw (sub-eq-zero_of_le le)

pub count-found : (f : ℕ → Bool) (i e : ℕ) → i < e → f i ≡ true → count_from f i (e - i) ≡ 1 + count_from f (i + 1) (e - (i + 1))
count-found f i e lt q = rw (count-step f i e lt, q)

pub count_missed : (f : ℕ → Bool) (i e : ℕ) → i < e → f i ≡ false → count_from f i (e - i) ≡ count_from f (i + 1) (e - (i + 1))
count_missed f i e lt q = rw (count-step f i e lt, q) (omega arith)

-- no more places pass than there are
pub count_most : (f : ℕ → Bool) (n i : ℕ) → count_from f i n ≤ n
unfolding count_from
count_most f zero i = omega arith
count_most f (suc n) i = omega (arith, count_most f n (suc i), cond-one_le (f i))

-- what passes one test passes another, where each place says so
pub all_mono :
    (f g : ℕ → Bool) (i n : ℕ) → ((j : ℕ) → i ≤ j → j < i + n → f j ≡ true → g j ≡ true) → all_from f i n ≡ true → all_from g i n ≡ true
all_mono f g i n h e = all_of g n i (λ j lo hi. h j lo hi (all-at f n i e j lo hi))

-- two tests that agree at each place
pub any_same : (f g : ℕ → Bool) (n i : ℕ) → ((j : ℕ) → i ≤ j → j < i + n → f j ≡ g j) → any_from f i n ≡ any_from g i n
unfolding any_from
any_same f g zero i h = refl
any_same f g (suc n) i h =
    λ k. h i (omega arith) (omega arith) k || any_same f g n (suc i) (λ j lo hi. h j (omega arith) (omega arith)) k

pub count_same : (f g : ℕ → Bool) (n i : ℕ) → ((j : ℕ) → i ≤ j → j < i + n → f j ≡ g j) → count_from f i n ≡ count_from g i n
unfolding count_from
count_same f g zero i h = refl
count_same f g (suc n) i h =
    λ k. cond (h i (omega arith) (omega arith) k) 1 0 + count_same f g n (suc i) (λ j lo hi. h j (omega arith) (omega arith)) k

pub any_none : (f : ℕ → Bool) (n i : ℕ) → ((j : ℕ) → i ≤ j → j < i + n → f j ≡ false) → any_from f i n ≡ false
unfolding any_from
any_none f zero i h = refl
any_none f (suc n) i h = rw (h i (omega arith) (omega arith)) (any_none f n (suc i) (λ j lo hi. h j (omega arith) (omega arith)))

pub count_none : (f : ℕ → Bool) (n i : ℕ) → ((j : ℕ) → i ≤ j → j < i + n → f j ≡ false) → count_from f i n ≡ 0
unfolding count_from
count_none f zero i h = refl
count_none f (suc n) i h = rw (h i (omega arith) (omega arith)) (omega (arith, count_none f n (suc i) (λ j lo hi. h j (omega arith) (omega arith))))

-- one place more, at the end
pub count-last : (f : ℕ → Bool) (n i : ℕ) → count_from f i (suc n) ≡ count_from f i n + cond (f (i + n)) 1 0
unfolding count_from
count-last f zero i = let e : i + 0 ≡ i = omega arith in rw e (omega arith)
count-last f (suc n) i = let e : i + suc n ≡ suc i + n = omega arith in rw e (omega (arith, count-last f n (suc i)))

-- a test that passes at a place passes somewhere
pub any_of : (f : ℕ → Bool) (n i k : ℕ) → i ≤ k → k < i + n → f k ≡ true → any_from f i n ≡ true
unfolding any_from
any_of f zero i k lo hi e = absurd (omega arith)
any_of f (suc n) i k lo hi e = elim (ℕ_discrete k i) [
  | yes q ↦ ap (λ (b : Bool). b || any_from f (suc i) n) (subst (λ (j : ℕ). f j ≡ true) q e)
  | no d ↦ or_inr (f i) (any_from f (suc i) n) (any_of f n (suc i) k (omega arith) (omega arith) e)
]

-- what a loop over a run of places needs, one place at a time: whether all pass, whether one passes, how many pass
pub ruleset all_loop = (all-fails, all-passes, all_done)

pub ruleset any_loop = (any_found, any_missed, any-done)

pub ruleset count_loop = (count-found, count_missed, count-done)
