-- What the loops over the items of a list come to. Assumes nothing.
use Prim.Native.Nat.{ℕ}
use mathlib.Core.Path.{◌≡◌, refl}
use Rattle.constraint_spec.specs.Sets.{steps_to}
use Rattle.constraint_spec.proofs.Steps.{steps_next}

module _ {A : Type 0} (f : ℕ → A → A) (x : A) where
  pub steps-none : x ≡ steps_to f 0 x
  unfolding steps_to
  steps-none = refl

  -- the loop's end: its number has reached n
  pub steps_all : (n i : ℕ) (y : A) → y ≡ steps_to f i x → i ≡ n → y ≡ steps_to f n x
  steps_all n i y g e = rw e at g

pub ruleset steps_loop = (steps-none, steps_next, steps_all)
