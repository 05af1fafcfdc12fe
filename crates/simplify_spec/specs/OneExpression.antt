-- Simplifying one expression, as the Rust's `simplify` and `simplify_nary` do, to be read beside them. Assumes nothing.
use Rattle.std.specs.Prelude.{ℕ, zero, suc, ◌+◌, Bool, true, false, not, cond, ◌&&◌, ◌||◌, List, [], ◌∷◌, ltb, leb, eqb, length, get_or, set}
use Rattle.comparison.specs.declared.BinaryOp.{BinaryOp}
use Rattle.plan_kinds.specs.declared.Record.{Record}
use Rattle.scalar.specs.declared.ScalarValue.TheVariants as S
use Rattle.plan.specs.declared.Expressions.{Expressions}
use Rattle.plan.specs.declared.Items.{Items}
use Rattle.plan.specs.declared.Expr.{Expr}
use Rattle.plan.specs.Plans.{expression_pushed}
use Rattle.plan_data.specs.Nodes.{node_of, run_of, record_of_expr}
use Rattle.plan_data.specs.declared.UnaryOp.TheVariants as U
use Rattle.plan_data.specs.declared.ExprData.{ExprData}
use Rattle.plan_data.specs.declared.ExprData.TheVariants.{Literal, Unary, Binary, Nary}
use Rattle.simplify_spec.specs.Shapes.{shape_of, is_literal, nary_op_for}
use Rattle.simplify_spec.specs.declared.Tables.{Tables}
use Rattle.simplify_spec.specs.Answers.{Simplified}
use Rattle.simplify_spec.specs.declared.Shape.{Shape}
use Rattle.simplify_spec.specs.declared.Shape.TheVariants.{Boolean, Not, Compare, And, Or, Other}

-- the tables that are appended to, and the Rust's `changed`
abbrev pub st_of : Expressions → Items → Bool → Tables
st_of exprs items changed = record { exprs = exprs; items = items; changed = changed }

abbrev pub handle : ℕ → Expr
handle h = record { 0 = h }

-- what the expression h is
abbrev pub node_in : Tables → ℕ → ExprData
node_in st h =
    node_of st.exprs.kind st.exprs.code st.exprs.a st.exprs.b st.exprs.bits st.exprs.start h

abbrev pub shape_in : Tables → ℕ → Shape
shape_in st h = shape_of (node_in st h)

-- the same tables, and the expression h
abbrev pub kept : Tables → ℕ → Simplified
kept st h = record { st = st; at = h; ok = true }

-- there was no room
abbrev pub failed : Tables → Simplified
failed st = record { st = st; at = 0; ok = false }

-- `*changed = true`, and an expression that was there already
abbrev pub took : Tables → ℕ → Simplified
took st h = kept (st_of st.exprs st.items true) h

-- `*changed = true`, and `add`: the new node has the next handle, and its list starts at `start`
abbrev pub with_node : Tables → Record → ℕ → Tables
with_node st x start = st_of (expression_pushed st.exprs x start) st.items true

abbrev pub add_record : Tables → Record → ℕ → Simplified
add_record st x start = cond (ltb st.exprs.count 1024) (kept (with_node st x start) st.exprs.count) (failed st)

-- a node without a list
abbrev pub add_node : Tables → ExprData → Simplified
add_node st d = add_record st (record_of_expr d) st.items.count

abbrev pub add_literal : Tables → Bool → Simplified
add_literal st b = add_node st (Literal (S.Boolean b))

-- Not of i, where i is what a became, and h is Not of a; i is neither a literal nor a Not
abbrev pub not_other : Tables → ℕ → ℕ → ℕ → Simplified
not_other st i a h = cond (eqb i a) (kept st h) (add_node st (Unary U.Not (handle i)))

-- Not of i, whatever that is
abbrev pub not_step : Tables → ℕ → ℕ → ℕ → Shape → Simplified
not_step st i a h (Boolean b) = add_literal st (not b)
not_step st i a h (Not e) = took st e.0
not_step st i a h (Compare op l r) = not_other st i a h
not_step st i a h (And start count) = not_other st i a h
not_step st i a h (Or start count) = not_other st i a h
not_step st i a h Other = not_other st i a h

unfoldable pub not_of : ℕ → ℕ → Simplified → Simplified
not_of h a r = cond r.ok (not_step r.st r.at a h (shape_in r.st r.at)) (failed r.st)

-- the comparison h of a and b, where i is what a became, and r what came of b after that
unfoldable pub compare_of : ℕ → BinaryOp → ℕ → ℕ → ℕ → Simplified → Simplified
compare_of h op a b i r =
    cond r.ok
    (cond (eqb i a && eqb r.at b) (kept r.st h) (add_node r.st (Binary op (handle i) (handle r.at))))
    (failed r.st)

-- simplify an operand e of h, unless there was no room before. No plan that keeps the rules has an operand that does not stand before its node:
-- such a one stays as it is.
abbrev pub enter_of : (ℕ → Tables → Simplified) → ℕ → Bool → Tables → ℕ → Simplified
enter_of rec h ok st e = cond ok (cond (ltb e h) (rec e st) (kept st e)) (failed st)

-- the simplified operands of an And (all is true) or Or: those that are kept; whether one was dropped (`filtered`) or has another handle than before
-- (`exprs_changed`); and whether one is the literal that decides
pub record Operands : Type 0 where
  pub st : Tables
  pub ok : Bool
  pub kept : List ℕ
  pub dirty : Bool
  pub absorbed : Bool

abbrev pub no_operands : Bool → Tables → Operands
no_operands ok st = record { st = st; ok = ok; kept = []; dirty = false; absorbed = false }

-- one operand e, which became v, before the others
abbrev pub joined_by : Bool → Bool → ℕ → ℕ → Operands → Operands
joined_by neutral deciding e v q =
    record {
      st = q.st;
      ok = q.ok;
      kept = cond neutral q.kept (v ∷ q.kept);
      dirty = (neutral || not (eqb v e)) || q.dirty;
      absorbed = deciding || q.absorbed;
    }

abbrev pub joined : Bool → ℕ → Simplified → Operands → Operands
joined all e r q = joined_by (is_literal all (shape_in r.st r.at)) (is_literal (not all) (shape_in r.st r.at)) e r.at q

abbrev pub with_first : Bool → ℕ → Simplified → (Bool → Tables → Operands) → Operands
with_first all e r rest = joined all e r (rest r.ok r.st)

-- the m operands from the item p on
unfoldable pub operands_from : (ℕ → Tables → Simplified) → Bool → ℕ → Bool → Tables → ℕ → ℕ → Operands
operands_from rec all h ok st p zero = no_operands ok st
operands_from rec all h ok st p (suc m) =
    with_first all (get_or st.items.a p 0) (enter_of rec h ok st (get_or st.items.a p 0)) (λ o s. operands_from rec all h o s (p + 1) m)

-- operands written into the items from a place on
abbrev pub item_set : Items → ℕ → ℕ → Items
item_set t i x = record { count = t.count; a = set t.a i x; b = set t.b i 0 }

unfoldable pub items_put : Items → ℕ → List ℕ → Items
items_put t at [] = t
items_put t at (x ∷ l) = item_set (items_put t (at + 1) l) at x

abbrev pub counted : Items → ℕ → Items
counted t n = record { count = n; a = t.a; b = t.b }

abbrev pub with_items : Tables → Items → Tables
with_items st items = st_of st.exprs items st.changed

abbrev pub room_for : Tables → ℕ → Bool
room_for st k = leb (st.items.count + k) 2048

-- a new And or Or, with its list after all items
abbrev pub add_nary : Bool → Tables → List ℕ → Simplified
add_nary all st l =
    cond (room_for st (length l))
    (add_record (with_items st (counted (items_put st.items st.items.count l) (st.items.count + length l)))
    (record_of_expr (Nary (nary_op_for all) (run_of st.items.count (length l)))) st.items.count)
    (failed st)

-- `match kept.len()`
unfoldable pub rebuilt : Bool → Tables → List ℕ → Simplified
rebuilt all st [] = add_literal st all
rebuilt all st (x ∷ []) = took st x
rebuilt all st (x ∷ y ∷ l) = add_nary all st (x ∷ y ∷ l)

-- simplify_nary
unfoldable pub nary_of : Bool → ℕ → Operands → Simplified
nary_of all h q =
    cond q.ok
    (cond q.absorbed (add_literal q.st (not all)) (cond q.dirty (rebuilt all q.st q.kept) (kept q.st h)))
    (failed q.st)

-- simplify, at h, over what it does below h
abbrev pub step_by : (ℕ → Tables → Simplified) → ℕ → Tables → Shape → Simplified
step_by rec h st (Boolean b) = kept st h
step_by rec h st (Not e) = not_of h e.0 (enter_of rec h true st e.0)
step_by rec h st (Compare op l r) =
    compare_of h op l.0 r.0 (enter_of rec h true st l.0).at
    (enter_of rec h (enter_of rec h true st l.0).ok (enter_of rec h true st l.0).st r.0)
step_by rec h st (And start count) = nary_of true h (operands_from rec true h true st start count)
step_by rec h st (Or start count) = nary_of false h (operands_from rec false h true st start count)
step_by rec h st Other = kept st h

abbrev pub step_at : ℕ → (ℕ → Tables → Simplified) → Tables → Simplified
step_at h rec st = step_by rec h st (shape_in st h)

-- the handles below m, each by the table of those below it
unfoldable pub simplify_below : ℕ → ℕ → Tables → Simplified
simplify_below zero h st = kept st h
simplify_below (suc m) h st = cond (eqb h m) (step_at m (simplify_below m) st) (simplify_below m h st)

-- the expression h
unfoldable pub simplify_at : ℕ → Tables → Simplified
simplify_at h st = simplify_below (suc h) h st
