-- The first place that passes a test, one place fewer at a time, as a loop goes through it; and what stands in a table filled from its start.
-- Assumes nothing.
use Prim.Native.Nat.{ℕ, zero, suc, ◌+◌, ◌-◌, ◌<◌, ◌≤◌}
use mathlib.Core.Path.{◌≡◌, refl, ap, subst, ◌∙◌}
use mathlib.Core.Bool.{Bool, true, false, cond, false≢true}
use mathlib.Core.List.{List}
use mathlib.Core.Logic.{◌⊎◌, ⊎_elim}
use native.Mathlib.Nat.{eq-or-lt_of_le, sub-eq-zero_of_le}
use native.Mathlib.Omega.{arith}
use native.Mathlib.Numerals.{add-one}
use lib.ListN.{length, get_or, set, replicate, length-set}
use lib.Seq.{get_or-set_same, get_or-set_other}
use Rattle.laws.proofs.Numbers.{sub_suc-of-lt}
use Rattle.lists.specs.Ranges.{any_from}
use Rattle.plan_identities.specs.Places.{first_from, filled}

-- a test passes or fails
pub by-test : {P : Type 0} (t : Bool) → (t ≡ true → P) → (t ≡ false → P) → P
by-test true yes_way no_way = yes_way refl
by-test false yes_way no_way = no_way refl

last_or_less : (c n : ℕ) → c < suc n → (c ≡ n) ⊎ (c < n)
last_or_less c n lt = eq-or-lt_of_le (omega arith)

module _ (f : ℕ → Bool) (g : ℕ → ℕ) (d : ℕ) where
  pub first_step : (i e : ℕ) → i < e → first_from f g d i (e - i) ≡ cond (f i) (g i) (first_from f g d (i + 1) (e - (i + 1)))
  unfolding first_from
  first_step i e lt = rw (sub_suc-of-lt i e lt, add-one)

  pub first_found : (i e : ℕ) → i < e → f i ≡ true → first_from f g d i (e - i) ≡ g i
  first_found i e lt q = rw (first_step i e lt, q)

  pub first_missed : (i e : ℕ) → i < e → f i ≡ false → first_from f g d i (e - i) ≡ first_from f g d (i + 1) (e - (i + 1))
  first_missed i e lt q = rw (first_step i e lt, q)

  pub first_done : (i e : ℕ) → e ≤ i → first_from f g d i (e - i) ≡ d
  unfolding first_from
  first_done i e le = rw (sub-eq-zero_of_le le)

  -- where the test passes at one place alone, that is the first
  pub first_only :
      (n i k : ℕ) → i ≤ k → k < i + n → f k ≡ true → ((j : ℕ) → i ≤ j → j < i + n → f j ≡ true → j ≡ k) → first_from f g d i n ≡ g k
  unfolding first_from
  first_only zero i k lo hi q only = absurd (omega arith)
  first_only (suc n) i k lo hi q only =
      by-test (f i) (λ e. rw e (ap g (only i (omega arith) (omega arith) e)))
      (λ e. rw e (⊎_elim (λ z. let y = subst (λ (j : ℕ). f j ≡ false) z e in cc)
      (λ l. first_only n (suc i) k l (omega arith) q (λ j a b. only j (omega arith) (omega arith))) (eq-or-lt_of_le lo)))

-- where it passes nowhere there is none
pub first-none : (f : ℕ → Bool) (g : ℕ → ℕ) (d n i : ℕ) → ((j : ℕ) → i ≤ j → j < i + n → f j ≡ false) → first_from f g d i n ≡ d
unfolding first_from
first-none f g d zero i h = refl
first-none f g d (suc n) i h = rw (h i (omega arith) (omega arith)) (first-none f g d n (suc i) (λ j lo hi. h j (omega arith) (omega arith)))

-- two tests that agree at each place
pub first-same :
    (f f2 : ℕ → Bool) (g : ℕ → ℕ) (d n i : ℕ) → ((j : ℕ) → i ≤ j → j < i + n → f j ≡ f2 j) → first_from f g d i n ≡ first_from f2 g d i n
unfolding first_from
first-same f f2 g d zero i h = refl
first-same f f2 g d (suc n) i h =
    λ k. cond (h i (omega arith) (omega arith) k) (g i) (first-same f f2 g d n (suc i) (λ j lo hi. h j (omega arith) (omega arith)) k)

-- the first place that passes, where one does: it passes, and it is one of the run
pub record Found (f : ℕ → Bool) (i n k : ℕ) : Type 0 where
  pub passes : f k ≡ true
  pub from : i ≤ k
  pub within : k < i + n

pub first_passes : (f : ℕ → Bool) (d n i : ℕ) → any_from f i n ≡ true → Found f i n (first_from f (λ (c : ℕ). c) d i n)
unfolding first_from any_from
first_passes f d zero i e = absurd (false≢true e)
first_passes f d (suc n) i e =
    by-test (f i) (λ q. rw q (record { passes = q; from = omega arith; within = omega arith }))
    (λ q. rw q (let r = first_passes f d n (suc i) (rw q at e) in record { passes = r.passes; from = omega arith; within = omega arith }))

-- a table filled from its start: its length, what stands there, and that it depends on nothing else
pub filled-table-length : (f : ℕ → ℕ) (n : ℕ) → length (filled f n) ≡ 64
unfolding filled
filled-table-length f zero = refl
filled-table-length f (suc n) = simp length-set (filled-table-length f n)

pub filled-table-at : (f : ℕ → ℕ) (n c : ℕ) → n ≤ 64 → c < n → get_or (filled f n) c 0 ≡ f c
unfolding filled
filled-table-at f zero c le lt = absurd (omega arith)
filled-table-at f (suc n) c le lt =
    ⊎_elim (λ (z : c ≡ n). rw z (get_or-set_same (filled f n) n (f n) 0 (omega (arith, filled-table-length f n))))
    (λ l. get_or-set_other (filled f n) n c (f n) 0 (λ z. omega arith) ∙ filled-table-at f n c (omega arith) l) (last_or_less c n lt)

pub filled-same : (f g : ℕ → ℕ) (n : ℕ) → ((c : ℕ) → c < n → f c ≡ g c) → filled f n ≡ filled g n
unfolding filled
filled-same f g zero h = refl
filled-same f g (suc n) h = rw (filled-same f g n (λ c l. h c (omega arith)), h n (omega arith))

-- one entry more
pub filled_more : (f : ℕ → ℕ) (t : List ℕ) (i x : ℕ) → x ≡ f i → t ≡ filled f i → set t i x ≡ filled f (i + 1)
unfolding filled
filled_more f t i x e q = rw (add-one, e, q)

-- what a loop needs that goes to the first place that passes
pub ruleset first_loop = (first_found, first_missed, first_done)

-- and one that fills a table
pub filled_none : (f : ℕ → ℕ) → replicate 64 0 ≡ filled f 0
unfolding filled
filled_none f = refl

pub ruleset fill_loop = (filled_none, filled_more)
