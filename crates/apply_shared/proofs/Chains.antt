-- The frames of a walk, each covered: what its And has is there already, or to come in the frame, or had by the And of the frame above. Assumes
-- nothing.
use Prim.Native.Nat.{ℕ, zero, suc, ◌<◌}
use mathlib.Core.Path.{◌≡◌, sym, subst}
use mathlib.Core.List.{List, [], ◌++◌}
use native.Mathlib.Omega.{arith}
use Rattle.apply_shared.specs.Turns.{Within, Chain}
use Rattle.apply_shared.proofs.Within.{within_none, within-left, within-right, within_both}

-- a list within three that stand one after the other
within-three : (there run more all : List ℕ) → Within there all → Within run all → Within more all → Within (there ++ (run ++ more)) all
within-three there run more all p q r = within_both there (run ++ more) all p (within_both run more all q r)

module _ (there run more : List ℕ) where
  abbrev all : List ℕ
  all = there ++ (run ++ more)

  in_there : Within there all
  in_there = within-left there (run ++ more)

  in_run : Within run all
  in_run h p = within-right there (run ++ more) h (within-left run more h p)

  in_more : Within more all
  in_more h p = within-right there (run ++ more) h (within-right run more h p)

-- the same frames, with more there
chain_same : (there there2 : List ℕ) (own run own2 run2 : ℕ → List ℕ) → Within there there2 → (n : ℕ) → ((j : ℕ) → j < n → own2 j ≡ own j)
    → ((j : ℕ) → j < n → run2 j ≡ run j) → (more : List ℕ) → Chain there own run n more → Chain there2 own2 run2 n more
unfolding Chain
chain_same there there2 own run own2 run2 f zero p q more c = tt
chain_same there there2 own run own2 run2 f (suc k) p q more c =
    rw (p k (omega arith), q k (omega arith)) (
      (λ h i.
          within-three there (run k) more (there2 ++ (run k ++ more)) (λ x y. in_there there2 (run k) more x (f x y)) (in_run there2 (run k) more)
          (in_more there2 (run k) more) h
          (c.0 h i)),
      chain_same there there2 own run own2 run2 f k (λ j l. p j (omega arith)) (λ j l. q j (omega arith)) (own k) c.1,
    )

-- what comes from above is there
chain_less : (there : List ℕ) (own run : ℕ → List ℕ) (n : ℕ) (more : List ℕ) → Within more there → Chain there own run n more → Chain there own run n []
unfolding Chain
chain_less there own run zero more f c = tt
chain_less there own run (suc k) more f c = (
  (λ h i.
      within-three there (run k) more (there ++ (run k ++ [])) (in_there there (run k) []) (in_run there (run k) [])
      (λ x y. in_there there (run k) [] x (f x y)) h
      (c.0 h i)),
  c.1,
)

-- the frame on top is done: all of its And is there
module _ (there : List ℕ) (own run : ℕ → List ℕ) (k : ℕ) (done : run k ≡ []) (c : Chain there own run (suc k) []) where
  pub done-within : Within (own k) there
  unfolding Chain
  done-within h i =
      within-three there (run k) [] there (λ x y. y) (subst (λ (l : List ℕ). Within l there) (sym done) (within_none there)) (within_none there) h (c.0 h i)

  pub done_chain : Chain there own run k []
  unfolding Chain
  done_chain = chain_less there own run k (own k) done-within c.1

-- the frame on top has an operand less, of which everything is there now; the others are as they were
module _ (there there2 : List ℕ) (own run own2 run2 : ℕ → List ℕ) (k : ℕ) (first : List ℕ) (top : own2 k ≡ own k) (split : run k ≡ first ++ run2 k)
    (owns : (j : ℕ) → j < k → own2 j ≡ own j) (runs : (j : ℕ) → j < k → run2 j ≡ run j) (c : Chain there own run (suc k) []) where
  pub passed_chain : Within there there2 → Within first there2 → Chain there2 own2 run2 (suc k) []
  unfolding Chain
  passed_chain grows known =
      rw top (
        (λ h i.
            within-three there (run k) [] goal (λ x y. in_there there2 (run2 k) [] x (grows x y)) in_run_k (within_none goal) h
            (c.0 h i)),
        chain_same there there2 own run own2 run2 grows k owns runs (own k) c.1,
      )
    where
      goal : List ℕ
      goal = there2 ++ (run2 k ++ [])

      in_run_k : Within (run k) goal
      in_run_k =
          subst (λ (l : List ℕ). Within l goal) (sym split)
          (within_both first (run2 k) goal (λ x y. in_there there2 (run2 k) [] x (known x y)) (in_run there2 (run2 k) []))

  -- or what it had comes in a frame of its own
  pub entered_chain : own2 (suc k) ≡ first → run2 (suc k) ≡ first → Chain there own2 run2 (suc (suc k)) []
  unfolding Chain
  entered_chain mine all-of-it =
      rw (mine, all-of-it, top) (
        in_run there first [],
        (
          (λ h i.
              within-three there (run k) [] (there ++ (run2 k ++ first)) (in_there there (run2 k) first)
              (subst (λ (l : List ℕ). Within l (there ++ (run2 k ++ first))) (sym split)
              (within_both first (run2 k) (there ++ (run2 k ++ first)) (in_more there (run2 k) first) (in_run there (run2 k) first)))
              (within_none (there ++ (run2 k ++ first))) h (c.0 h i)),
          chain_same there there own run own2 run2 (λ x y. y) k owns runs (own k) c.1,
        ),
      )

-- the first frame
pub first_chain : (own run : ℕ → List ℕ) → own 0 ≡ run 0 → Chain [] own run 1 []
unfolding Chain
first_chain own run e = (subst (λ (l : List ℕ). Within l ([] ++ (run 0 ++ []))) (sym e) (in_run [] (run 0) []), tt)
