-- A refusal hands back the set that was given, whatever was recorded before it. Assumes nothing.
use Rattle.std.specs.Prelude.{cond}
use Rattle.constraint_spec.specs.Sets.{refused_with}
use Rattle.constraint_spec.specs.declared.ConstraintSet.{ConstraintSet}
use Rattle.constraint_spec.specs.Answers.{Applied}

abbrev pub or_given : ConstraintSet → Applied → Applied
or_given s a = cond a.refused (refused_with s) a
