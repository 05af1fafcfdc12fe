-- `apply_predicate`, to be read beside the Rust: the table of what one conjunct records, what that makes of a set, and a run of conjuncts. Assumes nothing.
use Rattle.std.specs.Prelude.{ℕ, Bool, true, false, cond, ◌&&◌, ◌||◌, List, [], ◌∷◌}
use Rattle.scalar.specs.Kinds.{is_null}
use Rattle.scalar.specs.declared.ScalarValue.{ScalarValue}
use Rattle.scalar.specs.declared.ScalarValue.TheVariants as S
use Rattle.comparison.specs.Operators.{ordinary}
use Rattle.comparison.specs.declared.BinaryOp.{BinaryOp}
use Rattle.comparison.specs.declared.BinaryOp.TheVariants.{Eq, NotEq, Lt, LtEq, Gt, GtEq, IsNotDistinctFrom}
use Rattle.constraint_spec.specs.Sets.{with_flag, union_values, add_non_null, add_literal, add_range, add_residual, done}
use Rattle.constraint_spec.specs.declared.ConstraintSet.{ConstraintSet}
use Rattle.constraint_spec.specs.Answers.{Ranged}
use Rattle.constraint_spec.specs.Answers.{Applied}
use Rattle.plan_data.specs.declared.ExprData.{ExprData}
use Rattle.plan_data.specs.declared.ExprData.TheVariants.{Literal, ColumnRef, Unary, Binary, Nary}
use Rattle.apply_spec.specs.Facts.{has_lineage, identity_of}
use Rattle.apply_spec.specs.declared.Seen.{Seen}
use Rattle.apply_spec.specs.declared.Seen.TheVariants.{Identity, Constant, Unseen}

-- what an operand is: a column with lineage is its identity, a literal is itself
abbrev pub seen_of : List ℕ → ExprData → Seen
seen_of lineage (Literal v) = Constant v
seen_of lineage (ColumnRef c) = cond (has_lineage lineage c.0) (Identity (identity_of lineage c.0)) Unseen
seen_of lineage (Unary op e) = Unseen
seen_of lineage (Binary op l r) = Unseen
seen_of lineage (Nary op r) = Unseen

abbrev pub is_null_literal : Seen → Bool
is_null_literal (Identity i) = false
is_null_literal (Constant v) = is_null v
is_null_literal Unseen = false

-- ---- the table: in which way a conjunct is recorded, whatever a way makes of it
pub record Recording (R : Type 0) : Type 0 where
  pub nothing : R
  pub contradiction : R
  pub residual : R
  -- two identities in one class, and not NULL where the flag says so
  pub same : ℕ → ℕ → Bool → R
  pub literal : ℕ → ScalarValue → R
  pub range : BinaryOp → ℕ → ScalarValue → R

module _ {R : Type 0} (ways : Recording R) where
  -- two columns with lineage: Eq joins their classes and records non-null, IsNotDistinctFrom joins them only
  abbrev pub pair_by : BinaryOp → ℕ → ℕ → R
  pair_by Eq i j = ways.same i j true
  pair_by NotEq i j = ways.residual
  pair_by Lt i j = ways.residual
  pair_by LtEq i j = ways.residual
  pair_by Gt i j = ways.residual
  pair_by GtEq i j = ways.residual
  pair_by IsNotDistinctFrom i j = ways.same i j false

  -- a column with lineage on the left of a literal
  abbrev pub bound_by : BinaryOp → ℕ → ScalarValue → R
  bound_by Eq i v = ways.literal i v
  bound_by NotEq i v = ways.range NotEq i v
  bound_by Lt i v = ways.range Lt i v
  bound_by LtEq i v = ways.range LtEq i v
  bound_by Gt i v = ways.range Gt i v
  bound_by GtEq i v = ways.range GtEq i v
  bound_by IsNotDistinctFrom i v = ways.range IsNotDistinctFrom i v

  -- and on its right: only the four that bound are turned round
  abbrev pub reversed_by : BinaryOp → ℕ → ScalarValue → R
  reversed_by Eq i v = ways.literal i v
  reversed_by NotEq i v = ways.residual
  reversed_by Lt i v = ways.range Gt i v
  reversed_by LtEq i v = ways.range GtEq i v
  reversed_by Gt i v = ways.range Lt i v
  reversed_by GtEq i v = ways.range LtEq i v
  reversed_by IsNotDistinctFrom i v = ways.residual

  abbrev pub operands_by : BinaryOp → Seen → Seen → R
  operands_by op (Identity i) (Identity j) = pair_by op i j
  operands_by op (Identity i) (Constant v) = bound_by op i v
  operands_by op (Identity i) Unseen = ways.residual
  operands_by op (Constant v) (Identity j) = reversed_by op j v
  operands_by op (Constant v) (Constant w) = ways.residual
  operands_by op (Constant v) Unseen = ways.residual
  operands_by op Unseen (Identity j) = ways.residual
  operands_by op Unseen (Constant w) = ways.residual
  operands_by op Unseen Unseen = ways.residual

  -- one of the six ordinary comparisons with a Null literal on either side sets the flag and records nothing more
  unfoldable pub comparison_by : BinaryOp → Seen → Seen → R
  comparison_by op l r = cond (ordinary op && (is_null_literal l || is_null_literal r)) ways.contradiction (operands_by op l r)

  -- a literal: true records nothing, false or Null sets the flag, any other is residual
  abbrev pub literal_by : ScalarValue → R
  literal_by (S.Null k) = ways.contradiction
  literal_by (S.Boolean true) = ways.nothing
  literal_by (S.Boolean false) = ways.contradiction
  literal_by (S.Int32 n) = ways.residual
  literal_by (S.Int64 n) = ways.residual
  literal_by (S.Float64 x) = ways.residual
  literal_by (S.Date32 n) = ways.residual

  -- one conjunct; anything not recorded otherwise is residual
  abbrev pub node_by : List ℕ → (ℕ → ExprData) → ExprData → R
  node_by lineage node (Literal v) = literal_by v
  node_by lineage node (ColumnRef c) = ways.residual
  node_by lineage node (Unary op e) = ways.residual
  node_by lineage node (Binary op l r) = comparison_by op (seen_of lineage (node l.0)) (seen_of lineage (node r.0))
  node_by lineage node (Nary op r) = ways.residual

-- ---- what each way makes of a set, for the conjunct of the handle h
-- `add_range` answers whether the comparison is recorded; else it is residual
abbrev pub range_applied : ℕ → Ranged → Applied
range_applied h r = cond r.recorded (done r.constraints) (add_residual r.constraints h)

abbrev pub recorded : ConstraintSet → ℕ → Recording Applied
recorded s h = record {
  nothing = done s;
  contradiction = done (with_flag s true);
  residual = add_residual s h;
  same = λ i j both. done (cond both (add_non_null (union_values s i j) i) (union_values s i j));
  literal = λ i v. done (add_literal s i v);
  range = λ op i v. range_applied h (add_range s i op v);
}

abbrev pub pair_applied : ConstraintSet → ℕ → BinaryOp → ℕ → ℕ → Applied
pair_applied s h = pair_by (recorded s h)

abbrev pub bound_applied : ConstraintSet → ℕ → BinaryOp → ℕ → ScalarValue → Applied
bound_applied s h = bound_by (recorded s h)

abbrev pub bound_reversed : ConstraintSet → ℕ → BinaryOp → ℕ → ScalarValue → Applied
bound_reversed s h = reversed_by (recorded s h)

abbrev pub operands_applied : ConstraintSet → ℕ → BinaryOp → Seen → Seen → Applied
operands_applied s h = operands_by (recorded s h)

abbrev pub comparison_applied : ConstraintSet → ℕ → BinaryOp → Seen → Seen → Applied
comparison_applied s h = comparison_by (recorded s h)

abbrev pub literal_applied : ConstraintSet → ℕ → ScalarValue → Applied
literal_applied s h = literal_by (recorded s h)

abbrev pub node_applied : List ℕ → (ℕ → ExprData) → ConstraintSet → ℕ → ExprData → Applied
node_applied lineage node s h = node_by (recorded s h) lineage node

unfoldable pub conjunct_applied : List ℕ → (ℕ → ExprData) → ConstraintSet → ℕ → Applied
conjunct_applied lineage node s h = node_applied lineage node s h (node h)

-- conjuncts in order; work goes on after the flag is set, and ends where a 65th residual is wanted
unfoldable pub all_applied : (ConstraintSet → ℕ → Applied) → List ℕ → Applied → Applied
all_applied apply [] a = a
all_applied apply (h ∷ hs) a = all_applied apply hs (cond a.refused a (apply a.constraints h))
