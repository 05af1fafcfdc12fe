-- A run of steps, each of which asks one thing more of a row, asks all of them. Assumes nothing.
use mathlib.Core.Path.{◌≡◌, ◌∙◌, subst}
use mathlib.Core.Bool.{Bool, true, false, not, ◌||◌, cond}
use mathlib.Core.Logic.{◌↔◌}
use Prim.Native.Nat.{ℕ, zero, suc, ◌+◌, ◌≤◌, ◌<◌}
use native.Mathlib.Decide.{dec_lt, ℕ_discrete}
use native.Mathlib.Numerals.{add-one}
use native.Mathlib.Omega.{arith}
use lib.Dec.{T}
use Rattle.constraint_spec.specs.Sets.{steps_to}

module _ {A : Type 0} where
  pub steps-good : (G : A → Type 0) (f : ℕ → A → A) (n : ℕ) → ((k : ℕ) → k < n → (t : A) → G t → G (f k t))
      → (k : ℕ) → k ≤ n → (s : A) → G s → G (steps_to f k s)
  unfolding steps_to
  steps-good G f n step zero h s g = g
  steps-good G f n step (suc k) h s g = step k (omega arith) (steps_to f k s) (steps-good G f n step k (omega arith) s g)

  -- a loop that has made i of the steps makes one more
  pub steps_next : (f : ℕ → A → A) (s : A) (i : ℕ) (t u : A) → t ≡ steps_to f i s → u ≡ f i t → u ≡ steps_to f (i + 1) s
  unfolding steps_to
  steps_next f s i t u e d = rw (add-one, ← e) d

  -- M asks Q k more after the step k
  pub steps-iff : (G M : A → Type 0) (f : ℕ → A → A) (Q : ℕ → Type 0) (n : ℕ)
      → ((k : ℕ) → k < n → (t : A) → G t → G (f k t)) → ((k : ℕ) → k < n → (t : A) → G t → M (f k t) ↔ (M t × Q k))
      → (k : ℕ) → k ≤ n → (s : A) → G s → M (steps_to f k s) ↔ (M s × ((i : ℕ) → i < k → Q i))
  unfolding steps_to
  steps-iff G M f Q n keep step zero h s g = (λ m. (m, λ i b. absurd (omega arith)), λ m. m.0)
  steps-iff G M f Q n keep step (suc k) h s g =
      let one = step k (omega arith) (steps_to f k s) (steps-good G f n keep k (omega arith) s g) in
      let rest = steps-iff G M f Q n keep step k (omega arith) s g in (
        λ m.
            let a = one.0 m in
            let b = rest.0 a.0 in
            (b.0, λ i l. elim (dec_lt i k) [ yes c ↦ b.1 i c | no c ↦ subst Q (omega arith) a.1 ]),
        λ m. one.1 (rest.1 (m.0, λ i l. m.1 i (omega arith)), m.1 k (omega arith)),
      )

  -- steps that change nothing can be left out
  pub steps-skip : (f : ℕ → A → A) (s : A) (n k : ℕ) → k ≤ n → ((j : ℕ) → k ≤ j → j < n → (t : A) → f j t ≡ t) → steps_to f n s ≡ steps_to f k s
  unfolding steps_to
  steps-skip f s zero k h idle = let e : k ≡ 0 = omega arith in rw e
  steps-skip f s (suc n) k h idle = elim (ℕ_discrete k (suc n)) [
    | yes e ↦ rw e
    | no d ↦ idle n (omega arith) (omega arith) (steps_to f n s) ∙ steps-skip f s n k (omega arith) (λ j lo hi t. idle j lo (omega arith) t)
  ]

  -- a step that is made or not
  pub pick-iff : (M : A → Type 0) (b q : Bool) (a t : A) → (T b → M a ↔ (M t × T q)) → M (cond b a t) ↔ (M t × T (not b || q))
  pick-iff M true q a t f = f tt
  pick-iff M false q a t f = (λ m. (m, tt), λ m. m.0)

  pub pick_if : (M : A → Type 0) (b : Bool) (Q : Type 0) (a t : A) → (T b → M a ↔ (M t × Q)) → M (cond b a t) ↔ (M t × (T b → Q))
  pick_if M true Q a t f = (λ m. let k = (f tt).0 m in (k.0, λ u. k.1), λ m. (f tt).1 (m.0, m.1 tt))
  pick_if M false Q a t f = (λ m. (m, λ u. absurd u), λ m. m.0)
