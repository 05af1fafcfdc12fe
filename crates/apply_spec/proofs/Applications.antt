-- What is refused stays refused, whatever conjuncts come after. Assumes nothing.
use mathlib.Core.Path.{◌≡◌, refl, ap, ◌∙◌}
use mathlib.Core.Bool.{Bool, true, cond}
use mathlib.Core.List.{List, [], ◌∷◌}
use Prim.Native.Nat.{ℕ}
use Rattle.constraint_spec.specs.declared.ConstraintSet.{ConstraintSet}
use Rattle.constraint_spec.specs.Answers.{Applied}
use Rattle.apply_spec.specs.Apply.{all_applied}

pub refused-stays : (apply : ConstraintSet → ℕ → Applied) (hs : List ℕ) (a : Applied) → a.refused ≡ true → all_applied apply hs a ≡ a
unfolding all_applied
refused-stays apply [] a e = refl
refused-stays apply (h ∷ hs) a e = ap (λ (t : Bool). all_applied apply hs (cond t a (apply a.constraints h))) e ∙ refused-stays apply hs a e
