-- A set that keeps what another has: each class whole, at each representative what was there, and the residuals. What an action was done for it
-- then keeps too. Assumes nothing.
use Prim.Native.Nat.{ℕ, ◌<◌}
use mathlib.Core.Path.{◌≡◌}
use mathlib.Core.Bool.{true}
use Rattle.constraint_spec.specs.Sets.{handles, non_null_at, canonical_at}
use Rattle.constraint_spec.specs.declared.ConstraintSet.{ConstraintSet}
use Rattle.constraint_set.specs.Kept.{has_in}
use Rattle.apply_action.specs.Actions.{first_of, second_of, Proper}
use Rattle.apply_action.specs.Cells.{cell_of}
use Rattle.apply_action.specs.declared.Action.{Action}
use Rattle.apply_action.proofs.CellLaws.{first-low}
use Rattle.apply_shared_laws.specs.Has.{HasCell, Has}
use Rattle.apply_shared_laws.proofs.Growing.{Grows, grown-has, grows-flag}

pub record Keeps (s t : ConstraintSet) : Type 0 where
  pub classes : (i j : ℕ) → canonical_at s i ≡ canonical_at s j → canonical_at t i ≡ canonical_at t j
  pub cells : (i : ℕ) → i < 128 → Grows (cell_of s (canonical_at s i)) (cell_of t (canonical_at t i))
  pub handled : (h : ℕ) → has_in (handles s) s.residuals h ≡ true → has_in (handles t) t.residuals h ≡ true

-- what is kept of the place of an action
pub keeps-cell : (s t : ConstraintSet) → Keeps s t → (act : Action) → Proper act → HasCell act (cell_of s (canonical_at s (first_of act))) → HasCell act
    (cell_of t (canonical_at t (first_of act)))
keeps-cell s t k act p h = grown-has act (cell_of s (canonical_at s (first_of act))) (cell_of t (canonical_at t (first_of act)))
    (k.cells (first_of act) (first-low act p)) h

pub keeps-has : (s t : ConstraintSet) → Keeps s t → (act : Action) (h : ℕ) → Proper act → Has act h s → Has act h t
keeps-has s t k act h p x = record {
  cell = keeps-cell s t k act p x.cell;
  one_class = k.classes (first_of act) (second_of act) x.one_class;
  residual = λ e. k.handled h (x.residual e);
}

pub keeps_self : (s : ConstraintSet) → Keeps s s
keeps_self s = record {
  classes = λ i j e. e;
  cells = λ i h. grows-flag (cell_of s (canonical_at s i)) (non_null_at s (canonical_at s i)) s.contradictory (λ e. e) (λ e. e);
  handled = λ h e. e;
}
