-- The residual handles by themselves: a list with a count. Assumes nothing.
use Rattle.std.specs.Prelude.{ℕ, ◌+◌, min, Bool, true, false, cond, List, ltb, eqb, get_or, set}
use Rattle.lists.specs.Ranges.{any_from}

-- the handles with one more, or as they were, with or without room for it
pub record Kept : Type 0 where
  pub list : List ℕ
  pub count : ℕ
  pub refused : Bool

abbrev pub has_in : List ℕ → ℕ → ℕ → Bool
has_in l n h = any_from (λ (k : ℕ). eqb (get_or l k 0) h) 0 (min n 64)

-- a handle at the end, once for each, where there is room
unfoldable pub kept_by : List ℕ → ℕ → ℕ → Kept
kept_by l n h =
    cond (has_in l n h) (record { list = l; count = n; refused = false })
    (cond (ltb n 64) (record { list = set l n h; count = n + 1; refused = false }) (record { list = l; count = n; refused = true }))
