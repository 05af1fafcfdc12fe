-- What joining two classes answers. Assumes nothing.
use Rattle.std.specs.Prelude.{Bool}
use Rattle.value_classes.specs.declared.ValueEquivalenceClasses.{ValueEquivalenceClasses}

-- the classes after a union, and whether two became one
pub record United : Type 0 where
  pub classes : ValueEquivalenceClasses
  pub joined : Bool

abbrev pub united : ValueEquivalenceClasses → Bool → United
united k b = record { classes = k; joined = b }
