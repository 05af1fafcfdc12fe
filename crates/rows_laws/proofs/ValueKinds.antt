-- The value of an expression is NULL or of the expression's kind; so that of a typed predicate is TRUE, FALSE or UNKNOWN. Assumes nothing.
use Rattle.std.proofs.Common.{Ok, Err}
use mathlib.Core.Path.{◌≡◌, refl, sym, subst}
use mathlib.Core.Bool.{Bool, true, false, cond, ◌&&◌, ◌||◌, false≢true}
use mathlib.Core.List.{List}
use Prim.Native.Nat.{ℕ, suc, ◌<◌}
use native.Mathlib.Omega.{arith}
use lib.Dec.{ltb}
use lib.ListN.{get_or}
use borrow.Author.Tests.{ltb-true}
use Rattle.laws.proofs.Bools.{and_left, and_right, or_inr}
use Rattle.lists.proofs.RangeLaws.{all-at}
use Rattle.truth.specs.Truth.{is_false_code, is_true_code, not_t}
use Rattle.scalar.specs.Kinds.{kind_of, is_null, same_kind}
use Rattle.scalar.specs.declared.Kind.{Kind}
use Rattle.scalar.specs.declared.Kind.TheVariants as K
use Rattle.scalar.specs.declared.ScalarValue.{ScalarValue}
use Rattle.scalar.specs.declared.ScalarValue.TheVariants as S
use Rattle.scalar.proofs.ScalarLaws.{kind-self, kinds-same}
use Rattle.plan.specs.declared.Plan.{Plan}
use Rattle.plan.specs.declared.Expr.{Expr}
use Rattle.plan_rules.specs.Rules.{plan_ok}
use Rattle.plan_rules.proofs.RuleLaws.{rules}
use Rattle.plan_data.specs.Nodes.{node_at, operands_of}
use Rattle.plan_data.specs.declared.Run.{Run}
use Rattle.plan_data.specs.declared.UnaryOp.TheVariants.{Not, IsNull, IsNotNull, Negate}
use Rattle.plan_data.specs.declared.ExprData.{ExprData}
use Rattle.plan_data.specs.declared.ExprData.TheVariants.{Literal, ColumnRef, Unary, Binary, Nary}
use Rattle.rows_spec.specs.Compare.{compare_of, truth_of, of_truth}
use Rattle.rows_spec.specs.Values.{nary_of, truths, node_value, value_in, values}
use Rattle.rows_spec.specs.Typing.{kind_of_node, kind_at, boolean_at, typed_at}
use Rattle.rows_spec.specs.Cells.{cell_in, cell_at, listed_literal, fits_kind, cell_ok, cell_at_ok, row_ok}
use Rattle.rows_spec.specs.Evaluate.{value_on, typed, evaluate_of}
use Rattle.rows_spec.specs.declared.Row.{Row}
use Rattle.rows_spec.specs.declared.EvaluationError.TheVariants.{NoSuch, Untyped, BadRow}
use Rattle.rows_spec.proofs.ValueLaws.{value-step}
use Rattle.rows_laws.proofs.NodeRules.{NodeOk, node_ok}

-- a value is NULL or of the kind k
abbrev pub of_kind : Kind → ScalarValue → Bool
of_kind k v = is_null v || same_kind (kind_of v) k

truth_boolean : (t : ℕ) → of_kind K.Boolean (of_truth t) ≡ true
truth_boolean t = go (is_false_code t) (is_true_code t)
  where
    go : (a b : Bool) → of_kind K.Boolean (cond a (S.Boolean false) (cond b (S.Boolean true) (S.Null K.Boolean))) ≡ true
    go true b = refl
    go false true = refl
    go false false = refl

-- a node's value is NULL or of its kind, where a column's is
node-kind : (columns : List ℕ) (cell value : ℕ → ScalarValue) (run : Run → List ℕ) (nc : ℕ) → ((c : ℕ) → c < nc → fits_kind (get_or columns c 0) (cell
    c) ≡ true)
    → (items : List ℕ) (used h : ℕ) (x : ExprData) → NodeOk nc items used h x → of_kind (kind_of_node columns x) (node_value cell value run x) ≡ true
node-kind columns cell value run nc fits items used h (Literal v) ok = or_inr (is_null v) (same_kind (kind_of v) (kind_of v)) (kind-self (kind_of v))
node-kind columns cell value run nc fits items used h (ColumnRef c) ok = fits c.0 ok
node-kind columns cell value run nc fits items used h (Unary Not e) ok = truth_boolean (not_t (truth_of (value e.0)))
node-kind columns cell value run nc fits items used h (Unary IsNull e) ok = refl
node-kind columns cell value run nc fits items used h (Unary IsNotNull e) ok = refl
node-kind columns cell value run nc fits items used h (Unary Negate e) ok = refl
node-kind columns cell value run nc fits items used h (Binary op l r) ok = truth_boolean (compare_of op (value l.0) (value r.0))
node-kind columns cell value run nc fits items used h (Nary op es) ok = truth_boolean (nary_of op (truths value (run es)))

-- a row that is right for a plan has for each column a value that is NULL or of the column's kind
pub row_fits : (p : Plan) (row : Row) → row_ok p row ≡ true → (c : ℕ) → c < p.columns.count → fits_kind (get_or p.columns.kind c 0) (cell_at row c) ≡
    true
unfolding cell_ok
row_fits p row ok c lt =
    and_right (listed_literal (cell_in row c)) _
    (all-at (cell_at_ok p.columns.kind row) p.columns.count 0 ok c (omega arith) (omega arith))

-- the value of every expression is NULL or of its kind
pub value-kind : (p : Plan) (row : Row) → plan_ok p ≡ true → row_ok p row ≡ true → (h : ℕ) → h < p.expressions.count
    → of_kind (kind_at p.columns.kind (node_at p) h) (value_on p row h) ≡ true
value-kind p row ok right h lt =
    rw (value-step (cell_at row) (node_at p) p.items.a (suc h) h (omega arith))
    (node-kind p.columns.kind (cell_at row) (value_in (values (cell_at row) (node_at p) p.items.a h)) (operands_of p.items.a) p.columns.count
    (row_fits p row right)
    p.items.a p.items.count h (node_at p h) (node_ok p (rules p ok) h lt))

-- a typed expression is Boolean or NULL
pub typed_boolean : (p : Plan) (row : Row) → plan_ok p ≡ true → row_ok p row ≡ true → (h : ℕ) → h < p.expressions.count → typed p h ≡ true
    → of_kind K.Boolean (value_on p row h) ≡ true
typed_boolean p row ok right h lt t =
    subst (λ (k : Kind). of_kind k (value_on p row h) ≡ true)
    (kinds-same (kind_at p.columns.kind (node_at p) h) K.Boolean
    (and_left (boolean_at p.columns.kind (node_at p) h) (typed_at p.columns.kind (node_at p) p.items.a h) t))
    (value-kind p row ok right h lt)

-- TRUE, FALSE or UNKNOWN: a Boolean, or a NULL of some kind
pub data Ternary : ScalarValue → Type 0 where
  is_true : Ternary (S.Boolean true)
  is_false : Ternary (S.Boolean false)
  is-unknown : (k : Kind) → Ternary (S.Null k)

pub ternary : (v : ScalarValue) → of_kind K.Boolean v ≡ true → Ternary v
ternary (S.Null k) e = is-unknown k
ternary (S.Boolean true) e = is_true
ternary (S.Boolean false) e = is_false
ternary (S.Int32 n) e = absurd (false≢true e)
ternary (S.Int64 n) e = absurd (false≢true e)
ternary (S.Float64 x) e = absurd (false≢true e)
ternary (S.Date32 n) e = absurd (false≢true e)

-- when a value is answered, and which
pub record Evaluated (p : Plan) (e : Expr) (row : Row) (v : ScalarValue) : Type 0 where
  pub rules-kept : plan_ok p ≡ true
  pub is-there : e.0 < p.expressions.count
  pub is-typed : typed p e.0 ≡ true
  pub row-right : row_ok p row ≡ true
  pub value-is : v ≡ value_on p row e.0

pub evaluated : (p : Plan) (e : Expr) (row : Row) (v : ScalarValue) → evaluate_of p e row ≡ Ok v → Evaluated p e row v
unfolding evaluate_of
evaluated p e row v = go (plan_ok p) (ltb e.0 p.expressions.count) (typed p e.0) (row_ok p row) refl refl refl refl
  where
    go : (a b c d : Bool) → plan_ok p ≡ a → ltb e.0 p.expressions.count ≡ b → typed p e.0 ≡ c → row_ok p row ≡ d
        → cond (a && b) (cond c (cond d (Ok (value_on p row e.0)) (Err BadRow)) (Err Untyped)) (Err NoSuch) ≡ Ok v → Evaluated p e row v
    go true true true true ha hb hc hd q =
        record { rules-kept = ha; is-there = ltb-true e.0 p.expressions.count hb; is-typed = hc; row-right = hd; value-is = cc }
    go true true true false ha hb hc hd q = absurd (let z : ◌≡◌ {A = ℕ} 0 1 = cc in omega arith)
    go true true false d ha hb hc hd q = absurd (let z : ◌≡◌ {A = ℕ} 0 1 = cc in omega arith)
    go true false c d ha hb hc hd q = absurd (let z : ◌≡◌ {A = ℕ} 0 1 = cc in omega arith)
    go false b c d ha hb hc hd q = absurd (let z : ◌≡◌ {A = ℕ} 0 1 = cc in omega arith)

-- what is answered is TRUE, FALSE or UNKNOWN
pub answer-ternary : (p : Plan) (e : Expr) (row : Row) (v : ScalarValue) → evaluate_of p e row ≡ Ok v → Ternary v
answer-ternary p e row v q =
    let r = evaluated p e row v q in
    ternary v (subst (λ (w : ScalarValue). of_kind K.Boolean w ≡ true) (sym r.value-is)
    (typed_boolean p row r.rules-kept r.row-right e.0 r.is-there r.is-typed))
