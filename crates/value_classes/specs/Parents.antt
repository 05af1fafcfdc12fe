-- Identities with parents: the walk up to a representative, and the rule that makes it end there. Assumes nothing.
use Rattle.std.specs.Prelude.{ℕ, zero, suc, ◌≤◌, ◌<◌, min, max, Bool, cond, ◌&&◌, List, [], ◌∷◌, ◌++◌, leb, ltb, length, get_or, set}
use Rattle.lists.specs.Ranges.{all_from}

-- the parent of i: what p has there, where both are identities, and else i itself
unfoldable pub parent_in : List ℕ → ℕ → ℕ
parent_in p i = cond (ltb i (length p) && ltb (get_or p i 0) (length p)) (get_or p i 0) i

-- the k-th parent of i
unfoldable pub climb : List ℕ → ℕ → ℕ → ℕ
climb p zero i = i
climb p (suc k) i = climb p k (parent_in p i)

-- the representative of i, where as many steps as there are identities lead. Where no parent is above its child that is one that is its
-- own parent; where a chain goes in a circle it is one of the circle
unfoldable pub root_of : List ℕ → ℕ → ℕ
root_of p i = climb p (length p) i

-- the rule: no parent is above its child; in words, and as a test
abbrev pub Falls : List ℕ → Type 0
Falls p = (i : ℕ) → i < length p → get_or p i 0 ≤ i

unfoldable pub parents_ok : List ℕ → Bool
parents_ok p = all_from (λ (i : ℕ). leb (get_or p i 0) i) 0 (length p)

-- l joined with r: the larger of the two representatives gets the smaller one as its parent
unfoldable pub joined : List ℕ → ℕ → ℕ → List ℕ
joined p l r = set p (max (root_of p l) (root_of p r)) (min (root_of p l) (root_of p r))

-- f 0, f 1, .. , n of them
unfoldable pub each : (ℕ → ℕ) → ℕ → List ℕ
each f zero = []
each f (suc k) = each f k ++ (f k ∷ [])
