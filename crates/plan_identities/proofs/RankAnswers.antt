-- The ranks that the code counts from a table of tables are the Base numbers of the plan. Assumes nothing.
use Prim.Native.Nat.{ℕ, ◌<◌}
use mathlib.Core.Path.{◌≡◌, ap, ◌∙◌}
use mathlib.Core.Bool.{Bool, ◌&&◌, ◌||◌}
use mathlib.Core.List.{List}
use native.Mathlib.Omega.{arith}
use lib.Dec.{ltb, eqb}
use lib.ListN.{get_or}
use Rattle.lists.specs.Ranges.{count_from}
use Rattle.lists.proofs.RangeLaws.{count_same}
use Rattle.plan.specs.declared.Plan.{Plan}
use Rattle.plan_identities.specs.declared.Identities.{Identities}
use Rattle.plan_identities.specs.Places.{filled}
use Rattle.plan_identities.specs.Identities.{table_of, name_of, by_key, before, columns_of, base_of, identities_of}
use Rattle.plan_identities.specs.Identities.{rank_in}
use Rattle.plan_identities.proofs.PlaceLaws.{filled-table-at, filled-same}

-- an order by keys that are the same is the same
key-same : (k l : ℕ → ℕ) (rest : ℕ → ℕ → Bool) (a b : ℕ) → k a ≡ l a → k b ≡ l b → by_key k rest a b ≡ by_key l rest a b
unfolding by_key
key-same k l rest a b p q = λ i. ltb (p i) (q i) || (eqb (p i) (q i) && rest a b)

-- a table of the tables gives each column its number
pub rank-base : (p : Plan) (n : ℕ) (ts : List ℕ) → n ≡ columns_of p → ts ≡ filled (table_of p) n → (c : ℕ) → c < n → rank_in ts p.columns.name n c ≡ base_of p c
unfolding rank_in base_of
rank-base p n ts s e c h =
    count_same _ _ n 0
    (λ b lo hi. key-same (λ (j : ℕ). get_or ts j 0) (table_of p) (by_key (name_of p) ltb) b c (at b (omega arith)) (at c h))
    ∙ ap (λ (m : ℕ). count_from (λ (b : ℕ). before p b c) 0 m) s
  where
    at : (j : ℕ) → j < n → get_or ts j 0 ≡ table_of p j
    at j l = rw e (filled-table-at (table_of p) n j (omega arith) l)

pub all_numbered :
    (p : Plan) (n : ℕ) (ts bs : List ℕ) → n ≡ columns_of p → ts ≡ filled (table_of p) n → bs ≡ filled (rank_in ts p.columns.name n) n
    → ◌≡◌ {A = Identities} (record { base = bs; columns = n }) (identities_of p)
unfolding identities_of
all_numbered p n ts bs s e q =
    let b : bs ≡ filled (base_of p) (columns_of p) = q ∙ filled-same _ _ n (rank-base p n ts s e) ∙ ap (filled (base_of p)) s in
    λ i. record { base = b i; columns = s i }
