-- What appending leaves alone. Assumes nothing.
use Rattle.std.specs.Prelude.{ℕ, ◌≤◌, ◌<◌, ◌≡◌, length}
use Rattle.plan.specs.declared.Plan.{Plan}
use Rattle.plan.specs.Records.{column_record, expr_record, expr_start, operator_record, operator_start, item_record}

-- whatever p has, q has at the same place: every column, node, start of a list and item
pub record Extends (p q : Plan) : Type 0 where
  pub columns : p.columns.count ≤ q.columns.count
  pub exprs : p.expressions.count ≤ q.expressions.count
  pub operators : p.operators.count ≤ q.operators.count
  pub items : p.items.count ≤ q.items.count
  pub column : (i : ℕ) → i < p.columns.count → column_record q i ≡ column_record p i
  pub expr : (i : ℕ) → i < p.expressions.count → expr_record q i ≡ expr_record p i
  pub expr-start : (i : ℕ) → i < p.expressions.count → expr_start q i ≡ expr_start p i
  pub operator : (i : ℕ) → i < p.operators.count → operator_record q i ≡ operator_record p i
  pub operator-start : (i : ℕ) → i < p.operators.count → operator_start q i ≡ operator_start p i
  pub item : (i : ℕ) → i < p.items.count → item_record q i ≡ item_record p i

-- the arrays of a plan have their sizes: so has every plan that a function is given or gives
pub record Sized (p : Plan) : Type 0 where
  pub column-name : length p.columns.name ≡ 64
  pub column-kind : length p.columns.kind ≡ 64
  pub expr-kind : length p.expressions.kind ≡ 1024
  pub expr-code : length p.expressions.code ≡ 1024
  pub expr_a : length p.expressions.a ≡ 1024
  pub expr_b : length p.expressions.b ≡ 1024
  pub expr-bits : length p.expressions.bits ≡ 1024
  pub expr-start : length p.expressions.start ≡ 1024
  pub operator-kind : length p.operators.kind ≡ 128
  pub operator-code : length p.operators.code ≡ 128
  pub operator_a : length p.operators.a ≡ 128
  pub operator_b : length p.operators.b ≡ 128
  pub operator_c : length p.operators.c ≡ 128
  pub operator_d : length p.operators.d ≡ 128
  pub operator-start : length p.operators.start ≡ 128
  pub item_a : length p.items.a ≡ 2048
  pub item_b : length p.items.b ≡ 2048
