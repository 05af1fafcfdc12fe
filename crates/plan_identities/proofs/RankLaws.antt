-- Counting the smaller ones numbers any strict total order: it keeps the order, and the numbers are those below the count, each once.
-- Assumes nothing.
use Prim.Native.Nat.{ℕ, zero, suc, ◌+◌, ◌-◌, ◌<◌, ◌≤◌}
use mathlib.Core.Path.{◌≡◌, refl, sym, subst, ◌∙◌}
use mathlib.Core.Bool.{Bool, true, false, cond, false≢true}
use mathlib.Core.Logic.{◌⊎◌, inl, inr, ⊎_elim}
use native.Mathlib.Nat.{eq-or-lt_of_le, le_refl}
use native.Mathlib.Omega.{arith}
use lib.Dec.{ltb, eqb}
use borrow.Author.Tests.{lt-ltb, le-ltb, eqb-true, eqb-false, eq-eqb, ne_eqb}
use Rattle.lists.specs.Ranges.{any_from, count_from}
use Rattle.lists.proofs.RangeLaws.{count_none, below_or_not}
use Rattle.plan_identities.proofs.PlaceLaws.{by-test}
use Rattle.plan_identities.proofs.OrderLaws.{Strict}

same_or_not : (a b : ℕ) → (a ≡ b) ⊎ (a ≡ b → ⊥)
same_or_not a b = by-test (eqb a b) (λ e. inl (eqb-true a b e)) (λ e. inr (eqb-false a b e))

one_mono : (a b : Bool) → (a ≡ true → b ≡ true) → cond a 1 0 ≤ cond b 1 0
one_mono true b h = rw (h refl) (omega arith)
one_mono false b h = omega arith

-- what passes one test passes the other: no more pass the one
count_mono : (f g : ℕ → Bool) (n i : ℕ) → ((j : ℕ) → i ≤ j → j < i + n → f j ≡ true → g j ≡ true) → count_from f i n ≤ count_from g i n
unfolding count_from
count_mono f g zero i h = omega arith
count_mono f g (suc n) i h =
    omega (arith, one_mono (f i) (g i) (h i (omega arith) (omega arith)), count_mono f g n (suc i) (λ j lo hi. h j (omega arith) (omega arith)))

-- and fewer, where a place passes the other alone
pub count_less :
    (f g : ℕ → Bool) (n i k : ℕ) → ((j : ℕ) → i ≤ j → j < i + n → f j ≡ true → g j ≡ true)
    → i ≤ k → k < i + n → f k ≡ false → g k ≡ true → count_from f i n < count_from g i n
unfolding count_from
count_less f g zero i k h lo hi p q = absurd (omega arith)
count_less f g (suc n) i k h lo hi p q =
    ⊎_elim
    (λ (z : i ≡ k). rw (subst (λ (j : ℕ). f j ≡ false) (sym z) p, subst (λ (j : ℕ). g j ≡ true) (sym z) q)
    (omega (arith, count_mono f g n (suc i) (λ j a b. h j (omega arith) (omega arith)))))
    (λ l. omega (
      arith,
      one_mono (f i) (g i) (h i (omega arith) (omega arith)),
      count_less f g n (suc i) k (λ j a b. h j (omega arith) (omega arith)) l
          (omega arith) p q,
    ))
    (eq-or-lt_of_le lo)

-- at most one passes where two that pass are the same
count-one : (f : ℕ → Bool) (n i : ℕ) → ((j k : ℕ) → i ≤ j → j < i + n → i ≤ k → k < i + n → f j ≡ true → f k ≡ true → j ≡ k) → count_from f i n ≤ 1
unfolding count_from
count-one f zero i h = omega arith
count-one f (suc n) i h =
    by-test (f i)
    (λ e. rw (
      e,
      count_none f n (suc i)
          (λ j lo hi. by-test (f j) (λ t. absurd (omega (arith, h i j (omega arith) (omega arith) (omega arith) (omega arith) e t))) (λ t. t)),
    ) (omega arith))
    (λ e. rw e (omega (arith, count-one f n (suc i) (λ j k a b c d. h j k (omega arith) (omega arith) (omega arith) (omega arith)))))

-- one at least passes where one is known to
count-some : (f : ℕ → Bool) (n i k : ℕ) → i ≤ k → k < i + n → f k ≡ true → 1 ≤ count_from f i n
count-some f n i k lo hi e =
    omega (arith, count_less (λ (j : ℕ). false) f n i k (λ j a b q. absurd (false≢true q)) lo hi refl e)

-- two that pass are the same, where at most one passes
pub count-two : (f : ℕ → Bool) (n j k : ℕ) → j < n → k < n → count_from f 0 n ≤ 1 → f j ≡ true → f k ≡ true → j ≡ k
count-two f n j k hj hk most p q =
    ⊎_elim (λ e. e)
    (λ d. absurd (omega (
      arith,
      count-some (λ (i : ℕ). eqb i j) n 0 j (omega arith) (omega arith) (eq-eqb j j refl),
      count_less (λ (i : ℕ). eqb i j) f n 0 k (λ i a b t. rw (eqb-true i j t) p) (omega arith) (omega arith) (ne_eqb k j (λ e. d (sym e))) q,
    ))) (same_or_not j k)

-- one passes where the count is not 0
count-any : (f : ℕ → Bool) (n i : ℕ) → 1 ≤ count_from f i n → any_from f i n ≡ true
unfolding count_from any_from
count-any f zero i h = absurd (omega arith)
count-any f (suc n) i h = by-test (f i) (λ e. rw e) (λ e. rw e (count-any f n (suc i) (omega (arith, rw e at h))))

-- all pass
count-all : (f : ℕ → Bool) (n i : ℕ) → ((j : ℕ) → i ≤ j → j < i + n → f j ≡ true) → count_from f i n ≡ n
unfolding count_from
count-all f zero i h = refl
count-all f (suc n) i h = rw (h i (omega arith) (omega arith)) (omega (arith, count-all f n (suc i) (λ j lo hi. h j (omega arith) (omega arith))))

-- the numbers up to m are those below m, and m
up_to : (x m : ℕ) → cond (ltb x (suc m)) 1 0 ≡ cond (ltb x m) 1 0 + cond (eqb x m) 1 0
up_to x m =
    ⊎_elim (λ l. rw (lt-ltb x (suc m) (omega arith), lt-ltb x m l, ne_eqb x m (λ e. omega arith)))
    (λ g. ⊎_elim (λ (e : m ≡ x). rw (lt-ltb x (suc m) (omega arith), le-ltb x m g, eq-eqb x m (sym e)))
    (λ l. rw (le-ltb x (suc m) l, le-ltb x m g, ne_eqb x m (λ e. omega arith))) (eq-or-lt_of_le g)) (below_or_not x m)

count-up-to : (r : ℕ → ℕ) (m n i : ℕ) → count_from (λ (c : ℕ). ltb (r c) (suc m)) i n ≡ count_from (λ (c : ℕ). ltb (r c) m) i n + count_from
    (λ (c : ℕ). eqb (r c) m) i n
unfolding count_from
count-up-to r m zero i = refl
count-up-to r m (suc n) i = omega (arith, up_to (r i) m, count-up-to r m n (suc i))

-- n different numbers below n: each number below n is one of them
module _ (r : ℕ → ℕ) (n : ℕ) (small : (c : ℕ) → c < n → r c < n) (differ : (a b : ℕ) → a < n → b < n → r a ≡ r b → a ≡ b) where
  at_most_one : (m : ℕ) → count_from (λ (c : ℕ). eqb (r c) m) 0 n ≤ 1
  at_most_one m =
      count-one (λ (c : ℕ). eqb (r c) m) n 0 (λ j k a b c d e f. differ j k (omega arith) (omega arith) (eqb-true (r j) m e ∙ sym (eqb-true (r k) m f)))

  below_most : (m : ℕ) → count_from (λ (c : ℕ). ltb (r c) m) 0 n ≤ m
  below_most zero = omega (arith, count_none (λ (c : ℕ). ltb (r c) 0) n 0 (λ j lo hi. le-ltb (r j) 0 (omega arith)))
  below_most (suc m) = omega (arith, count-up-to r m n 0, at_most_one m, below_most m)

  more_most : (d m e : ℕ) → e ≡ m + d → count_from (λ (c : ℕ). ltb (r c) e) 0 n ≤ count_from (λ (c : ℕ). ltb (r c) m) 0 n + d
  more_most zero m e q = let z : e ≡ m = omega arith in rw z (omega arith)
  more_most (suc d) m e q =
      let z : e ≡ suc (m + d) = omega arith in
      rw z (omega (arith, count-up-to r (m + d) n 0, at_most_one (m + d), more_most d m (m + d) refl))

  pub onto : (k : ℕ) → k < n → any_from (λ (c : ℕ). eqb (r c) k) 0 n ≡ true
  onto k h =
      count-any (λ (c : ℕ). eqb (r c) k) n 0
      (omega (
        arith,
        count-all (λ (c : ℕ). ltb (r c) n) n 0 (λ j lo hi. lt-ltb (r j) n (small j (omega arith))),
        more_most (n - suc k) (suc k) n (omega arith),
        count-up-to r k n 0,
        below_most k,
      ))

-- ---- the rank of c: how many of n come before it
module _ (lt : ℕ → ℕ → Bool) (s : Strict lt) (n : ℕ) where
  abbrev pub rank : ℕ → ℕ
  rank c = count_from (λ (b : ℕ). lt b c) 0 n

  -- what comes before has the smaller rank
  rank_less : (a b : ℕ) → a < n → lt a b ≡ true → rank a < rank b
  rank_less a b h e =
      count_less (λ (c : ℕ). lt c a) (λ (c : ℕ). lt c b) n 0 a (λ j lo hi q. s.transitive j a b q e) (omega arith) (omega arith) (s.irreflexive a) e

  -- and what has the smaller rank comes before
  pub rank_order : (a b : ℕ) → a < n → b < n → lt a b ≡ ltb (rank a) (rank b)
  rank_order a b ha hb =
      ⊎_elim (λ (e : a ≡ b). subst (λ (c : ℕ). lt a c ≡ ltb (rank a) (rank c)) e (s.irreflexive a ∙ sym (le-ltb (rank a) (rank a) (le_refl (rank a)))))
      (λ d. ⊎_elim (λ l. l ∙ sym (lt-ltb (rank a) (rank b) (rank_less a b ha l)))
      (λ l. not-both l ∙ sym (le-ltb (rank a) (rank b) (omega (arith, rank_less b a hb l)))) (s.total a b d)) (same_or_not a b)
    where
      not-both : lt b a ≡ true → lt a b ≡ false
      not-both l = by-test (lt a b) (λ m. absurd (omega (arith, rank_less a b ha m, rank_less b a hb l))) (λ m. m)

  -- no two have the same rank
  pub rank_differs : (a b : ℕ) → a < n → b < n → rank a ≡ rank b → a ≡ b
  rank_differs a b ha hb e =
      ⊎_elim (λ q. q)
      (λ d. ⊎_elim (λ l. absurd (omega (arith, rank_less a b ha l))) (λ l. absurd (omega (arith, rank_less b a hb l))) (s.total a b d)) (same_or_not a b)

  -- a rank is below n
  pub rank-small : (c : ℕ) → c < n → rank c < n
  rank-small c h =
      omega (
        arith,
        count_less (λ (b : ℕ). lt b c) (λ (b : ℕ). true) n 0 c (λ j lo hi q. refl) (omega arith) (omega arith) (s.irreflexive c) refl,
        count-all
            (λ (b : ℕ). true) n 0 (λ j lo hi. refl),
      )

  -- and each number below n is a rank
  pub rank-onto : (k : ℕ) → k < n → any_from (λ (c : ℕ). eqb (rank c) k) 0 n ≡ true
  rank-onto = onto rank n rank-small rank_differs
