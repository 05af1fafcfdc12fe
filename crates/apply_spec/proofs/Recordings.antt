-- A relation that two recordings keep way by way holds between what the table gives of both: a map of ways is a map of the table, and what all ways
-- have, the table has. Assumes nothing.
use Prim.Native.Nat.{ℕ}
use mathlib.Core.Path.{◌≡◌}
use mathlib.Core.Bool.{Bool, true, false, cond, ◌&&◌, ◌||◌}
use mathlib.Core.List.{List}
use Rattle.scalar.specs.declared.ScalarValue.{ScalarValue}
use Rattle.scalar.specs.declared.ScalarValue.TheVariants as S
use Rattle.comparison.specs.Operators.{ordinary}
use Rattle.comparison.specs.declared.BinaryOp.{BinaryOp}
use Rattle.comparison.specs.declared.BinaryOp.TheVariants.{Eq, NotEq, Lt, LtEq, Gt, GtEq, IsNotDistinctFrom}
use Rattle.plan_data.specs.declared.ExprData.{ExprData}
use Rattle.plan_data.specs.declared.ExprData.TheVariants.{Literal, ColumnRef, Unary, Binary, Nary}
use Rattle.apply_spec.specs.Apply.{seen_of, is_null_literal, Recording, pair_by, bound_by, reversed_by, operands_by, comparison_by, literal_by, node_by}
use Rattle.apply_spec.specs.declared.Seen.{Seen}
use Rattle.apply_spec.specs.declared.Seen.TheVariants.{Identity, Constant, Unseen}

-- two recordings in a relation, way by way
pub record Related {A B : Type 0} (Rel : A → B → Type 0) (a : Recording A) (b : Recording B) : Type 0 where
  pub nothing : Rel a.nothing b.nothing
  pub contradiction : Rel a.contradiction b.contradiction
  pub residual : Rel a.residual b.residual
  pub same : (i j : ℕ) (both : Bool) → Rel (a.same i j both) (b.same i j both)
  pub literal : (i : ℕ) (v : ScalarValue) → Rel (a.literal i v) (b.literal i v)
  pub range : (op : BinaryOp) (i : ℕ) (v : ScalarValue) → Rel (a.range op i v) (b.range op i v)

module _ {A B : Type 0} (Rel : A → B → Type 0) (a : Recording A) (b : Recording B) (w : Related Rel a b) where
  pair_related : (op : BinaryOp) (i j : ℕ) → Rel (pair_by a op i j) (pair_by b op i j)
  pair_related Eq i j = w.same i j true
  pair_related NotEq i j = w.residual
  pair_related Lt i j = w.residual
  pair_related LtEq i j = w.residual
  pair_related Gt i j = w.residual
  pair_related GtEq i j = w.residual
  pair_related IsNotDistinctFrom i j = w.same i j false

  bound_related : (op : BinaryOp) (i : ℕ) (v : ScalarValue) → Rel (bound_by a op i v) (bound_by b op i v)
  bound_related Eq i v = w.literal i v
  bound_related NotEq i v = w.range NotEq i v
  bound_related Lt i v = w.range Lt i v
  bound_related LtEq i v = w.range LtEq i v
  bound_related Gt i v = w.range Gt i v
  bound_related GtEq i v = w.range GtEq i v
  bound_related IsNotDistinctFrom i v = w.range IsNotDistinctFrom i v

  reversed_related : (op : BinaryOp) (i : ℕ) (v : ScalarValue) → Rel (reversed_by a op i v) (reversed_by b op i v)
  reversed_related Eq i v = w.literal i v
  reversed_related NotEq i v = w.residual
  reversed_related Lt i v = w.range Gt i v
  reversed_related LtEq i v = w.range GtEq i v
  reversed_related Gt i v = w.range Lt i v
  reversed_related GtEq i v = w.range LtEq i v
  reversed_related IsNotDistinctFrom i v = w.residual

  operands_related : (op : BinaryOp) (l r : Seen) → Rel (operands_by a op l r) (operands_by b op l r)
  operands_related op (Identity i) (Identity j) = pair_related op i j
  operands_related op (Identity i) (Constant v) = bound_related op i v
  operands_related op (Identity i) Unseen = w.residual
  operands_related op (Constant v) (Identity j) = reversed_related op j v
  operands_related op (Constant v) (Constant u) = w.residual
  operands_related op (Constant v) Unseen = w.residual
  operands_related op Unseen (Identity j) = w.residual
  operands_related op Unseen (Constant u) = w.residual
  operands_related op Unseen Unseen = w.residual

  comparison_related : (op : BinaryOp) (l r : Seen) → Rel (comparison_by a op l r) (comparison_by b op l r)
  unfolding comparison_by
  comparison_related op l r = go (ordinary op && (is_null_literal l || is_null_literal r))
    where
      go : (t : Bool) → Rel (cond t a.contradiction (operands_by a op l r)) (cond t b.contradiction (operands_by b op l r))
      go true = w.contradiction
      go false = operands_related op l r

  literal_related : (v : ScalarValue) → Rel (literal_by a v) (literal_by b v)
  literal_related (S.Null k) = w.contradiction
  literal_related (S.Boolean true) = w.nothing
  literal_related (S.Boolean false) = w.contradiction
  literal_related (S.Int32 n) = w.residual
  literal_related (S.Int64 n) = w.residual
  literal_related (S.Float64 x) = w.residual
  literal_related (S.Date32 n) = w.residual

  pub node_related : (lineage : List ℕ) (node : ℕ → ExprData) (e : ExprData) → Rel (node_by a lineage node e) (node_by b lineage node e)
  node_related lineage node (Literal v) = literal_related v
  node_related lineage node (ColumnRef c) = w.residual
  node_related lineage node (Unary op e) = w.residual
  node_related lineage node (Binary op l r) = comparison_related op (seen_of lineage (node l.0)) (seen_of lineage (node r.0))
  node_related lineage node (Nary op r) = w.residual

-- a map that carries each way into its fellow carries what the table gives of the one into what it gives of the other
abbrev pub Carries : {A B : Type 0} → (A → B) → Recording A → Recording B → Type 0
Carries {A} {B} f = Related (λ (x : A) (y : B). f x ≡ y)

pub node-carried : {A B : Type 0} (f : A → B) (a : Recording A) (b : Recording B) → Carries f a b
    → (lineage : List ℕ) (node : ℕ → ExprData) (e : ExprData) → f (node_by a lineage node e) ≡ node_by b lineage node e
node-carried {A} {B} f a b w = node_related (λ (x : A) (y : B). f x ≡ y) a b w

-- what all six ways have, whatever the table gives has
abbrev pub Each : {A : Type 0} → (A → Type 0) → Recording A → Type 0
Each {A} P a = Related (λ (x y : A). P x) a a

pub node-each : {A : Type 0} (P : A → Type 0) (a : Recording A) → Each P a → (lineage : List ℕ) (node : ℕ → ExprData) (e : ExprData)
    → P (node_by a lineage node e)
node-each {A} P a w = node_related (λ (x y : A). P x) a a w
