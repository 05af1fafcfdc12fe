-- What a conjunct asks of a constraint set, without the set: `conjunct_applied` in two halves, so that reading a conjunct out of a plan carries no
-- set. Assumes nothing.
use Rattle.std.specs.Prelude.{ℕ, ◌<◌, ◌≡◌, Bool, true, false, cond, List, ltb, Some, None, Option, Float}
use Rattle.scalar.specs.Kinds.{is_null}
use Rattle.scalar.specs.Scalars.{scalar_to_f64}
use Rattle.scalar.specs.declared.ScalarValue.{ScalarValue}
use Rattle.value_range.specs.Ranges.{unbounded_range}
use Rattle.comparison.specs.Operators.{bounding}
use Rattle.comparison.specs.declared.BinaryOp.{BinaryOp}
use Rattle.constraint_spec.specs.Sets.{canonical_at, with_flag, put_non_null, lay_range, union_values, add_non_null, add_literal, add_bound, add_residual, done}
use Rattle.constraint_spec.specs.declared.ConstraintSet.{ConstraintSet}
use Rattle.constraint_spec.specs.Answers.{Applied}
use Rattle.plan_data.specs.declared.ExprData.{ExprData}
use Rattle.apply_spec.specs.Apply.{Recording, pair_by, bound_by, reversed_by, operands_by, comparison_by, literal_by, node_by}
use Rattle.apply_spec.specs.declared.Seen.{Seen}
use Rattle.apply_action.specs.declared.Action.{Action}
use Rattle.apply_action.specs.declared.Action.TheVariants.{Nothing, Contradiction, Residual, Same, Literal, Bound, Entry}

-- ---- what an action makes of a set, for the conjunct h
abbrev pub acted : Action → ConstraintSet → ℕ → Applied
acted Nothing s h = done s
acted Contradiction s h = done (with_flag s true)
acted Residual s h = add_residual s h
acted (Same i j both) s h = done (cond both (add_non_null (union_values s i j) i) (union_values s i j))
acted (Literal i v) s h = done (add_literal s i v)
acted (Bound i op x) s h = done (add_bound s i op x)
acted (Entry i) s h = add_residual (lay_range (put_non_null s (canonical_at s i)) (canonical_at s i) unbounded_range) h

-- ---- which action a conjunct is. A number past the identities records nothing
unfoldable pub same_action : ℕ → ℕ → Bool → Action
same_action i j both = cond (ltb i 128) (cond (ltb j 128) (Same i j both) (Same i i both)) Nothing

-- a comparison with a number: one that bounds is recorded, any other makes an entry and is residual
unfoldable pub bounded_by : BinaryOp → ℕ → Option Float → Action
bounded_by op i None = Residual
bounded_by op i (Some x) = cond (bounding op) (cond (ltb i 128) (Bound i op x) Nothing) (cond (ltb i 128) (Entry i) Residual)

abbrev pub range_action : BinaryOp → ℕ → ScalarValue → Action
range_action op i v = bounded_by op i (scalar_to_f64 v)

unfoldable pub literal_action : ℕ → ScalarValue → Action
literal_action i v = cond (ltb i 128) (cond (is_null v) Contradiction (Literal i v)) Nothing

-- the table of apply_spec/specs/Apply.antt, with an action for each way
abbrev pub actions : Recording Action
actions = record {
  nothing = Nothing;
  contradiction = Contradiction;
  residual = Residual;
  same = same_action;
  literal = literal_action;
  range = range_action;
}

abbrev pub pair_action : BinaryOp → ℕ → ℕ → Action
pair_action = pair_by actions

abbrev pub bound_action : BinaryOp → ℕ → ScalarValue → Action
bound_action = bound_by actions

abbrev pub reversed_action : BinaryOp → ℕ → ScalarValue → Action
reversed_action = reversed_by actions

abbrev pub operands_action : BinaryOp → Seen → Seen → Action
operands_action = operands_by actions

abbrev pub comparison_action : BinaryOp → Seen → Seen → Action
comparison_action = comparison_by actions

abbrev pub constant_action : ScalarValue → Action
constant_action = literal_by actions

abbrev pub node_action : List ℕ → (ℕ → ExprData) → ExprData → Action
node_action = node_by actions

unfoldable pub action_of : List ℕ → (ℕ → ExprData) → ℕ → Action
action_of lineage node h = node_action lineage node (node h)

-- ---- what the code asks of an action
-- the identity that it is about, and the one that is to be in its class; 0 where there is none
abbrev pub first_of : Action → ℕ
first_of Nothing = 0
first_of Contradiction = 0
first_of Residual = 0
first_of (Same i j both) = i
first_of (Literal i v) = i
first_of (Bound i op x) = i
first_of (Entry i) = i

abbrev pub second_of : Action → ℕ
second_of Nothing = 0
second_of Contradiction = 0
second_of Residual = 0
second_of (Same i j both) = j
second_of (Literal i v) = i
second_of (Bound i op x) = i
second_of (Entry i) = i

-- literals are held against ranges after it
abbrev pub is_checking : Action → Bool
is_checking Nothing = false
is_checking Contradiction = false
is_checking Residual = false
is_checking (Same i j both) = false
is_checking (Literal i v) = true
is_checking (Bound i op x) = true
is_checking (Entry i) = false

-- the conjunct is residual
abbrev pub is_residual : Action → Bool
is_residual Nothing = false
is_residual Contradiction = false
is_residual Residual = true
is_residual (Same i j both) = false
is_residual (Literal i v) = false
is_residual (Bound i op x) = false
is_residual (Entry i) = true

-- ---- what it makes of a set, in two steps
-- the classes of its identities are one
abbrev pub joined_by : Action → ConstraintSet → ConstraintSet
joined_by Nothing q = q
joined_by Contradiction q = q
joined_by Residual q = q
joined_by (Same i j both) q = union_values q i j
joined_by (Literal i v) q = q
joined_by (Bound i op x) q = q
joined_by (Entry i) q = q

-- what an action records in u, in which its two identities are in one class already
abbrev pub recorded_in : Action → ConstraintSet → ConstraintSet
recorded_in Nothing u = u
recorded_in Contradiction u = with_flag u true
recorded_in Residual u = u
recorded_in (Same i j both) u = cond both (add_non_null u i) u
recorded_in (Literal i v) u = add_literal u i v
recorded_in (Bound i op x) u = add_bound u i op x
recorded_in (Entry i) u = lay_range (put_non_null u (canonical_at u i)) (canonical_at u i) unbounded_range

-- as `action_of` makes them: every number is an identity's, no literal is NULL, and a bound bounds
abbrev pub Proper : Action → Type 0
Proper Nothing = 0 < 128
Proper Contradiction = 0 < 128
Proper Residual = 0 < 128
Proper (Same i j both) = (i < 128) × (j < 128)
Proper (Literal i v) = (i < 128) × (is_null v ≡ false)
Proper (Bound i op x) = (i < 128) × (bounding op ≡ true)
Proper (Entry i) = i < 128
