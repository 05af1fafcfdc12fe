-- Facts as a program has them: a list in a definition may hold any number, an array holds what fits its elements' type. Assumes nothing.
use Rattle.std.specs.Prelude.{ℕ, ◌<◌, get_or}
use Rattle.scalar.specs.Scalars.{Typed}
use Rattle.constraint_spec.specs.Sets.{literal_at, handle_at}
use Rattle.apply_spec.specs.declared.LogicalFacts.{LogicalFacts}

pub record TypedFacts (f : LogicalFacts) : Type 0 where
  pub lineage : (c : ℕ) → get_or f.lineage c 0 < 256
  pub definitions : (c : ℕ) → get_or f.definitions c 0 < 65536
  pub handles : (k : ℕ) → handle_at f.constraints k < 65536
  pub literals : (i : ℕ) → Typed (literal_at f.constraints i).value
