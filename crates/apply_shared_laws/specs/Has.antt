-- What a set has once a conjunct was applied to it: to apply it again changes nothing but, where it is an equality with a literal, the sign of a zero or the
-- flag. Assumes nothing.
use Rattle.std.specs.Prelude.{ℕ, ◌<◌, ◌≡◌, Bool, true, false, ◌⊎◌, Float}
use Rattle.std.specs.Float.Ieee.{is_nan}
use Rattle.scalar.specs.Scalars.{same_scalar, holds_nan}
use Rattle.scalar.specs.declared.ScalarValue.{ScalarValue}
use Rattle.value_range.specs.Ranges.{takes_lower, takes_upper}
use Rattle.value_range.specs.declared.ValueRange.{ValueRange}
use Rattle.comparison.specs.declared.BinaryOp.{BinaryOp}
use Rattle.comparison.specs.declared.BinaryOp.TheVariants.{Eq, NotEq, Lt, LtEq, Gt, GtEq, IsNotDistinctFrom}
use Rattle.constraint_spec.specs.Sets.{canonical_at, handles}
use Rattle.constraint_spec.specs.declared.ConstraintSet.{ConstraintSet}
use Rattle.constraint_set.specs.Kept.{has_in}
use Rattle.apply_action.specs.Actions.{first_of, second_of, is_residual}
use Rattle.apply_action.specs.Cells.{cell_of}
use Rattle.apply_action.specs.declared.Action.{Action}
use Rattle.apply_action.specs.declared.Action.TheVariants.{Nothing, Contradiction, Residual, Same, Literal, Bound, Entry}
use Rattle.apply_action.specs.declared.Cell.{Cell}

-- an action whose bound, if it has one, can be compared
abbrev pub Numbered : Action → Type 0
Numbered Nothing = 0 < 1
Numbered Contradiction = 0 < 1
Numbered Residual = 0 < 1
Numbered (Same i j both) = 0 < 1
Numbered (Literal i v) = 0 < 1
Numbered (Bound i op x) = is_nan x ≡ false
Numbered (Entry i) = 0 < 1

-- ---- what is recorded of one representative
-- the literal w is v, by the Rust's `==`, or v is NaN, which no literal is
abbrev pub Alike : ScalarValue → ScalarValue → Type 0
Alike w v = (same_scalar w v ≡ true) ⊎ (holds_nan v ≡ true)

-- the literal, or another and the flag; where it is NaN, any
abbrev pub HasLiteral : ScalarValue → Cell → Type 0
HasLiteral v c = (c.literal.present ≡ true) × (Alike c.literal.value v ⊎ (c.contradictory ≡ true))

-- the bound that a comparison with x gives would replace one of r's
abbrev pub taken_by : BinaryOp → Float → ValueRange → Bool
taken_by Eq x r = false
taken_by NotEq x r = false
taken_by Lt x r = takes_upper r.upper x false
taken_by LtEq x r = takes_upper r.upper x true
taken_by Gt x r = takes_lower r.lower x false
taken_by GtEq x r = takes_lower r.lower x true
taken_by IsNotDistinctFrom x r = false

abbrev pub HasBound : BinaryOp → Float → Cell → Type 0
HasBound op x c = (c.entry.present ≡ true) × (taken_by op x c.entry.range ≡ false)

abbrev pub HasCell : Action → Cell → Type 0
HasCell Nothing c = 0 < 1
HasCell Contradiction c = c.contradictory ≡ true
HasCell Residual c = 0 < 1
HasCell (Same i j both) c = both ≡ true → c.non_null ≡ true
HasCell (Literal i v) c = (c.non_null ≡ true) × HasLiteral v c
HasCell (Bound i op x) c = (c.non_null ≡ true) × HasBound op x c
HasCell (Entry i) c = (c.non_null ≡ true) × (c.entry.present ≡ true)

-- ---- and of the action of the conjunct h in the whole set
pub record Has (act : Action) (h : ℕ) (s : ConstraintSet) : Type 0 where
  pub cell : HasCell act (cell_of s (canonical_at s (first_of act)))
  pub one_class : canonical_at s (first_of act) ≡ canonical_at s (second_of act)
  pub residual : is_residual act ≡ true → has_in (handles s) s.residuals h ≡ true
