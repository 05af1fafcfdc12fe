-- How the code goes through the operands of an And or Or: it counts on the way in, finds at the end what the node becomes, and writes each operand that
-- is kept on the way back. Assumes nothing.
use Rattle.std.specs.Prelude.{ℕ, ◌+◌, Bool, true, false, not, cond, ◌||◌, List, [], ◌∷◌, eqb, length, Ok, Err, Result}
use Rattle.plan.specs.declared.AppendError.{AppendError}
use Rattle.plan_data.specs.Nodes.{run_of, record_of_expr}
use Rattle.plan_data.specs.declared.ExprData.TheVariants.{Nary}
use Rattle.simplify_spec.specs.Shapes.{nary_op_for}
use Rattle.simplify_spec.specs.OneExpression.{kept, failed, took, add_record, add_literal, Operands, item_set, items_put, counted, with_items, room_for}
use Rattle.simplify_spec.specs.declared.Tables.{Tables}
use Rattle.simplify_spec.specs.Answers.{Simplified}
use Rattle.simplify_expr.specs.declared.Became.{Became}
use Rattle.simplify_expr.specs.declared.Became.TheVariants.{Same, Literal, One, Listed}
use Rattle.simplify_expr.specs.declared.Tally.{Tally}

-- the tables, what the node becomes, and whether there was room
pub record Passed : Type 0 where
  pub st : Tables
  pub became : Became
  pub ok : Bool

abbrev pub refused : Tables → Passed
refused st = record { st = st; became = Same; ok = false }

abbrev pub passed : Tables → Result Became AppendError → Passed
passed st (Ok b) = record { st = st; became = b; ok = true }
passed st (Err e) = refused st

abbrev pub no_tally : Tally
no_tally = record { kept = 0; last = 0; dirty = false; absorbed = false }

abbrev pub next_tally : Tally → ℕ → ℕ → Bool → Bool → Tally
next_tally t e v neutral deciding =
    record {
      kept = cond neutral t.kept (t.kept + 1);
      last = cond neutral t.last v;
      dirty = t.dirty || (neutral || not (eqb v e));
      absorbed = t.absorbed || deciding;
    }

unfoldable pub last_of : ℕ → List ℕ → ℕ
last_of d [] = d
last_of d (x ∷ l) = last_of x l

-- the operands of q after those that t counts
abbrev pub tallied : Tally → Operands → Tally
tallied t q =
    record {
      kept = t.kept + length q.kept;
      last = last_of t.last q.kept;
      dirty = t.dirty || q.dirty;
      absorbed = t.absorbed || q.absorbed;
    }

-- a list of k items after all items
abbrev pub reserved : Tables → ℕ → Passed
reserved st k =
    cond (room_for st k)
    (passed (with_items st (counted st.items (st.items.count + k))) (Ok (Listed st.items.count k)))
    (refused st)

-- all operands are done
unfoldable pub settled : Bool → Tables → Tally → Passed
settled all st t =
    cond t.absorbed (passed st (Ok (Literal (not all))))
    (cond t.dirty
    (cond (eqb t.kept 0) (passed st (Ok (Literal all))) (cond (eqb t.kept 1) (passed st (Ok (One t.last))) (reserved st t.kept)))
    (passed st (Ok Same)))

-- one operand written into the list, at its k-th place, if there is a list
abbrev pub with_operand : Became → Tables → ℕ → ℕ → Tables
with_operand Same st k v = st
with_operand (Literal b) st k v = st
with_operand (One e) st k v = st
with_operand (Listed start count) st k v = with_items st (item_set st.items (start + k) v)

-- operands written into the list from its k-th place on, if there is a list
abbrev pub with_list : Became → Tables → ℕ → List ℕ → Tables
with_list Same st k l = st
with_list (Literal v) st k l = st
with_list (One e) st k l = st
with_list (Listed start count) st k l = with_items st (items_put st.items (start + k) l)

abbrev pub written : Passed → ℕ → List ℕ → Passed
written o k l = record { st = with_list o.became o.st k l; became = o.became; ok = o.ok }

-- the operands of q after those that t counts
unfoldable pub placed : Bool → Tally → Operands → Passed
placed all t q =
    cond q.ok (written (settled all q.st (tallied t q)) t.kept q.kept) (refused q.st)

-- the node
abbrev pub node_of : Bool → ℕ → Tables → Became → Simplified
node_of all h st Same = kept st h
node_of all h st (Literal v) = add_literal st v
node_of all h st (One e) = took st e
node_of all h st (Listed start count) = add_record st (record_of_expr (Nary (nary_op_for all) (run_of start count))) start

abbrev pub closed : Bool → ℕ → Passed → Simplified
closed all h o = cond o.ok (node_of all h o.st o.became) (failed o.st)
