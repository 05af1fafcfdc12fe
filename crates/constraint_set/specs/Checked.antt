-- A set whose flag says already what a check of its literals against its ranges would find. Assumes nothing.
use Rattle.std.specs.Prelude.{◌||◌, ◌≡◌}
use Rattle.lists.specs.Ranges.{any_from}
use Rattle.constraint_spec.specs.Sets.{crossed_at}
use Rattle.constraint_spec.specs.declared.ConstraintSet.{ConstraintSet}

abbrev pub Checked : ConstraintSet → Type 0
Checked s = (s.contradictory || any_from (crossed_at s) 0 128) ≡ s.contradictory
