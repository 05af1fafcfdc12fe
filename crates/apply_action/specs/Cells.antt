-- What is recorded of one representative, and what each action makes of it where the rest of the set was held against its literals before. Assumes nothing.
use Rattle.std.specs.Prelude.{ℕ, Bool, true, not, cond, ◌≡◌, ◌&&◌, ◌||◌, Float, ltb, length, set}
use Rattle.scalar.specs.declared.ScalarValue.{ScalarValue}
use Rattle.value_range.specs.Ranges.{empty_range}
use Rattle.value_range.specs.declared.ValueRange.{ValueRange}
use Rattle.comparison.specs.declared.BinaryOp.{BinaryOp}
use Rattle.constraint_spec.specs.Sets.{held, entry_of, classes_of, non_nulls, literals, non_null_at, literal_at, entry_at, with_values, clashes}
use Rattle.constraint_spec.specs.Sets.{range_in, tighten_by}
use Rattle.constraint_spec.specs.Sets.{crossed, cross_check, bounds_by}
use Rattle.constraint_spec.specs.declared.ConstraintSet.{ConstraintSet}
use Rattle.apply_action.specs.declared.Action.{Action}
use Rattle.apply_action.specs.declared.Action.TheVariants.{Nothing, Contradiction, Residual, Same, Literal, Bound, Entry}
use Rattle.apply_action.specs.declared.Cell.{Cell}
use Rattle.apply_action.specs.Actions.{is_checking}

-- the lists of a set have an entry for each identity
abbrev pub Long : ConstraintSet → Type 0
Long s = (length (literals s) ≡ 128) × (length s.ranges ≡ 128)

-- what s has at r, with the flag
abbrev pub cell_of : ConstraintSet → ℕ → Cell
cell_of s r = record { non_null = non_null_at s r; literal = literal_at s r; entry = entry_at s r; contradictory = s.contradictory }

-- s with that anew
unfoldable pub with_cell : ConstraintSet → ℕ → Cell → ConstraintSet
with_cell s r c =
    with_values s (classes_of s) (set (non_nulls s) r c.non_null) (set (literals s) r c.literal) (set s.ranges r c.entry) c.contradictory

-- not NULL
abbrev pub non_null_cell : Cell → Cell
non_null_cell c = record { non_null = true; literal = c.literal; entry = c.entry; contradictory = c.contradictory }

-- the flag
abbrev pub flagged_cell : Cell → Cell
flagged_cell c = record { non_null = c.non_null; literal = c.literal; entry = c.entry; contradictory = true }

-- a literal, as put_literal has it, held against the range
unfoldable pub literal_cell : Cell → ScalarValue → Cell
literal_cell c v =
    record {
      non_null = true;
      literal = cond (clashes c.literal v) c.literal (held v);
      entry = c.entry;
      contradictory = (c.contradictory || clashes c.literal v) || crossed (cond (clashes c.literal v) c.literal (held v)) c.entry;
    }

-- a range, as put_range has it, the literal held against it
abbrev pub ranged_cell : Cell → ValueRange → Cell
ranged_cell c t =
    record {
      non_null = true;
      literal = c.literal;
      entry = entry_of t;
      contradictory = (c.contradictory || empty_range t) || crossed c.literal
          (entry_of t);
    }

unfoldable pub bound_cell : Cell → BinaryOp → Float → Cell
bound_cell c op x = ranged_cell c (tighten_by (range_in c.entry) (bounds_by op x))

-- an entry is there
unfoldable pub entry_cell : Cell → Cell
entry_cell c = record { non_null = true; literal = c.literal; entry = entry_of (range_in c.entry); contradictory = c.contradictory }

abbrev pub cell_after : Cell → Action → Cell
cell_after c Nothing = c
cell_after c Contradiction = flagged_cell c
cell_after c Residual = c
cell_after c (Same i j both) = cond both (non_null_cell c) c
cell_after c (Literal i v) = literal_cell c v
cell_after c (Bound i op x) = bound_cell c op x
cell_after c (Entry i) = entry_cell c

-- ---- an action written at the place r
-- literals are held against ranges after a literal or a bound, but where the set is known to be checked
abbrev pub checked_after : Bool → Action → ConstraintSet → ConstraintSet
checked_after checked a s = cond (not checked && is_checking a) (cross_check s) s

-- past the identities there is no place, and nothing changes
unfoldable pub record_at : Bool → Action → ℕ → ConstraintSet → ConstraintSet
record_at checked a r s = cond (ltb r 128) (checked_after checked a (with_cell s r (cell_after (cell_of s r) a))) s
