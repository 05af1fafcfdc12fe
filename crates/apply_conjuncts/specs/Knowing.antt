-- What is known of a set while conjuncts are applied to it. Assumes nothing.
use Rattle.std.specs.Prelude.{◌≡◌, true}
use Rattle.value_classes.specs.Classes.{Whole}
use Rattle.value_classes.specs.Listed.{roots_of}
use Rattle.constraint_spec.specs.declared.ConstraintSet.{ConstraintSet}
use Rattle.constraint_set.specs.Checked.{Checked}
use Rattle.constraint_set.specs.Settled.{Settled}
use Rattle.apply_conjuncts.specs.declared.Known.{Known}

pub record Knows (s : ConstraintSet) (k : Known) : Type 0 where
  pub whole : Whole s.equivalence_classes
  pub rooted : k.roots ≡ roots_of s.equivalence_classes
  pub settles : k.settled ≡ true → Settled s
  pub told : k.checked ≡ true → Checked s
