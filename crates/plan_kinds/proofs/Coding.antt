-- Sorts in numbers, one by one. Assumes nothing.
use Prim.Native.Nat.{ℕ}
use mathlib.Core.Path.{◌≡◌}
use mathlib.Core.List.{List}
use lib.ListN.{get_or, get_or-map}
use Rattle.std.proofs.Common.{map}
use Rattle.plan_kinds.specs.Coding.{field_code}
use Rattle.plan_kinds.specs.declared.Field.{Field}
use Rattle.plan_kinds.specs.declared.Field.TheVariants as F

pub code_at : (fields : List Field) (i : ℕ) → get_or (map field_code fields) i 0 ≡ field_code (get_or fields i F.None)
code_at fields i = get_or-map field_code fields i F.None
