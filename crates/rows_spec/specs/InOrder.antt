-- A list made entry by entry. Assumes nothing.
use Rattle.std.specs.Prelude.{List, [], ◌∷◌, ◌++◌, ℕ, zero, suc}

-- one entry more: that of the place n, made from the entries before it
abbrev pub with_next : {A : Type 0} → (List A → ℕ → A) → ℕ → List A → List A
with_next entry n l = l ++ (entry l n ∷ [])

-- the first n entries
unfoldable pub in_order : {A : Type 0} → (List A → ℕ → A) → ℕ → List A
in_order entry zero = []
in_order entry (suc n) = with_next entry n (in_order entry n)
