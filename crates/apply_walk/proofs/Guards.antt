-- What the tests of a frame say where they fail. Assumes nothing.
use Prim.Native.Nat.{ℕ, zero, suc, ◌<◌, ◌≤◌}
use mathlib.Core.Path.{◌≡◌, refl, sym, ◌∙◌}
use mathlib.Core.Bool.{true, false, ◌||◌}
use mathlib.Core.Logic.{⊎_elim}
use native.Mathlib.Omega.{arith}
use lib.Dec.{leb, eqb}
use lib.ListN.{length, get_or, get_or-eq_default}
use borrow.Author.Tests.{leb-false, eqb-true, eqb-false}
use Rattle.laws.proofs.Bools.{and_left, or_false-left, or_false-right}
use Rattle.lists.proofs.RangeLaws.{below_or_not}
use Rattle.plan.specs.declared.Expressions.{Expressions}
use Rattle.apply_walk.specs.Walks.{and_in}

more_than_none : (n : ℕ) → (n ≡ 0 → ⊥) → 1 ≤ n
more_than_none zero h = absurd (h refl)
more_than_none (suc n) h = omega arith

pub not_none : (n : ℕ) → eqb n 0 ≡ false → 1 ≤ n
not_none n e = more_than_none n (eqb-false n 0 e)

-- a frame has an operand left, and it stands among the items
pub goes_on : (left at : ℕ) → (eqb left 0 || leb 2048 at) ≡ false → (1 ≤ left) × (at < 2048)
goes_on left at e = (not_none left (or_false-left _ _ e), leb-false 2048 at (or_false-right (eqb left 0) _ e))

-- an And stands in the table
pub and_within : (t : Expressions) (e : ℕ) → and_in t e ≡ true → length t.kind ≡ 1024 → e < 1024
and_within t e y short = ⊎_elim (λ l. l) (λ m. absurd (past m)) (below_or_not e 1024)
  where
    past : 1024 ≤ e → ⊥
    past m =
        let z : ◌≡◌ {A = ℕ} 0 0x23 = sym (get_or-eq_default t.kind 0 {n = e} (omega arith)) ∙ eqb-true (get_or t.kind e 0) 0x23 (and_left _ _ y) in omega arith
