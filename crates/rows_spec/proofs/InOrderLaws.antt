-- A list made entry by entry: each entry is made from those before it, and past the last stands the default. Assumes nothing.
use mathlib.Core.Path.{◌≡◌, refl}
use mathlib.Core.List.{List, [], ◌∷◌, ◌++◌}
use Prim.Native.Nat.{ℕ, suc, ◌<◌, ◌≤◌}
use lib.ListN.{get_or}
use Rattle.laws.proofs.Lists.{table_at, table-past}
use Rattle.rows_spec.specs.InOrder.{in_order}

module _ {A : Type 0} (entry : List A → ℕ → A) where
  abbrev next : ℕ → A
  next n = entry (in_order entry n) n

  starts : in_order entry 0 ≡ []
  unfolding in_order
  starts = refl

  grows : (n : ℕ) → in_order entry (suc n) ≡ in_order entry n ++ (next n ∷ [])
  unfolding in_order
  grows n = refl

  -- an entry is made from those before it
  pub in_order_at : (d : A) (n h : ℕ) → h < n → get_or (in_order entry n) h d ≡ entry (in_order entry h) h
  in_order_at d n h lt = table_at d (in_order entry) next starts grows n h lt

  -- past the last entry stands the default
  pub in_order_past : (d : A) (n h : ℕ) → n ≤ h → get_or (in_order entry n) h d ≡ d
  in_order_past d n h le = table-past d (in_order entry) next starts grows n h le
