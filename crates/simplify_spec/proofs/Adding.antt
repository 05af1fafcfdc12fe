-- One node more, and one list more: the plan keeps the rules, and the new node reads as what was added. Assumes nothing.
use mathlib.Core.Path.{◌≡◌, refl, ap, ap₂, ◌∙◌}
use mathlib.Core.Bool.{Bool, true, false, ◌&&◌}
use mathlib.Core.List.{List, [], ◌∷◌}
use Prim.Native.Nat.{ℕ, suc, ◌+◌, ◌<◌, ◌≤◌, ◌%◌}
use native.Mathlib.Omega.{arith}
use native.Mathlib.Nat.{mod-eq_of_lt, le_refl}
use native.Mathlib.Numerals.{add-one}
use lib.Dec.{leb, eqb}
use lib.ListN.{length, get_or, take, drop, set, length-set}
use lib.Seq.{drop-cons, get_or-set_same, get_or-set_other, drop-set-lt}
use borrow.Author.Tests.{lt-ltb, le-leb, eq-eqb, eqb-true, eqb-false}
use Rattle.laws.proofs.Bools.{and_both}
use Rattle.lists.specs.Ranges.{all_from}
use Rattle.lists.proofs.RangeLaws.{all_of}
use Rattle.comparison.specs.declared.BinaryOp.{BinaryOp}
use Rattle.comparison.specs.declared.BinaryOp.TheVariants.{Eq, NotEq, Lt, LtEq, Gt, GtEq, IsNotDistinctFrom}
use Rattle.plan_kinds.specs.Rows.{row_of, line_of}
use Rattle.plan_kinds.specs.Records.{bits_ok, handle_ok, count_of, more_of}
use Rattle.scalar.specs.declared.ScalarValue.TheVariants as S
use Rattle.plan.specs.declared.Plan.{Plan}
use Rattle.plan.specs.declared.Items.{Items}
use Rattle.plan.specs.declared.Expr.{Expr}
use Rattle.plan.specs.Append.{with_expr}
use Rattle.plan.specs.Records.{expr_record, expr_start}
use Rattle.plan.specs.Extends.{Extends, Sized}
use Rattle.plan.proofs.AppendLaws.{items-sized, expr-longer, expr-longer-sized, new-expr, new-expr-start}
use Rattle.plan_rules.specs.Rules.{record_ok, item_ok, lists_ok, expr_ok_of, expr_ok}
use Rattle.plan_rules.proofs.RuleLaws.{Rules, grown}
use Rattle.plan_rules.proofs.AppendRules.{counts-within, once-kept, expr-keeps, counts-fit}
use Rattle.plan_data.specs.Nodes.{run_of, expr_data, record_of_expr}
use Rattle.plan_data.specs.declared.UnaryOp.TheVariants as U
use Rattle.plan_data.specs.declared.ExprData.{ExprData}
use Rattle.plan_data.specs.declared.ExprData.TheVariants.{Literal, ColumnRef, Unary, Binary, Nary}
use Rattle.plan_data.proofs.NodeLaws.{ExprAt, expr-back}
use Rattle.simplify_spec.specs.Shapes.{nary_op_for}
use Rattle.simplify_spec.specs.OneExpression.{node_in, with_node, items_put, counted, with_items}
use Rattle.simplify_spec.specs.OneOperator.{plan_with}
use Rattle.simplify_spec.specs.Meaning.{Good, Grown}
use Rattle.simplify_spec.specs.declared.Tables.{Tables}
use Rattle.simplify_spec.proofs.Growth.{AllBelow}

-- ---- a record that is right where it comes to stand
abbrev pub RightAt : List ℕ → List ℕ → ℕ → ℕ → ℕ → ℕ → ℕ → ExprData → Type 0
RightAt ia ib used nc np start n d = (record_ok 2 (record_of_expr d) nc n np && lists_ok ia ib used (record_of_expr d) start nc (suc n) np) ≡ true

module _ (ia ib : List ℕ) (used nc np start n : ℕ) (le : start ≤ used) where
  none-listed : leb (start + 0) used ≡ true
  none-listed = le-leb (start + 0) used (omega arith)

  pub literal-right : (b : Bool) → RightAt ia ib used nc np start n (Literal (S.Boolean b))
  unfolding record_ok lists_ok row_of line_of bits_ok handle_ok count_of more_of all_from
  literal-right true = rw none-listed
  literal-right false = rw none-listed

  pub not_right : (e : Expr) → e.0 < n → RightAt ia ib used nc np start n (Unary U.Not e)
  unfolding record_ok lists_ok row_of line_of bits_ok handle_ok count_of more_of all_from
  not_right e lt = rw (lt-ltb e.0 n lt, none-listed)

  pub compare-right : (op : BinaryOp) (l r : Expr) → l.0 < n → r.0 < n → RightAt ia ib used nc np start n (Binary op l r)
  unfolding record_ok lists_ok row_of line_of bits_ok handle_ok count_of more_of all_from
  compare-right Eq l r ll rl = rw (lt-ltb l.0 n ll, lt-ltb r.0 n rl, none-listed)
  compare-right NotEq l r ll rl = rw (lt-ltb l.0 n ll, lt-ltb r.0 n rl, none-listed)
  compare-right Lt l r ll rl = rw (lt-ltb l.0 n ll, lt-ltb r.0 n rl, none-listed)
  compare-right LtEq l r ll rl = rw (lt-ltb l.0 n ll, lt-ltb r.0 n rl, none-listed)
  compare-right Gt l r ll rl = rw (lt-ltb l.0 n ll, lt-ltb r.0 n rl, none-listed)
  compare-right GtEq l r ll rl = rw (lt-ltb l.0 n ll, lt-ltb r.0 n rl, none-listed)
  compare-right IsNotDistinctFrom l r ll rl = rw (lt-ltb l.0 n ll, lt-ltb r.0 n rl, none-listed)

module _ (ia ib : List ℕ) (used nc np start n k : ℕ) (le : start + k ≤ used) (small : k < 65536)
    (firsts : (j : ℕ) → start ≤ j → j < start + k → get_or ia j 0 < n) (seconds : (j : ℕ) → start ≤ j → j < start + k → get_or ib j 0 ≡ 0) where
  item-right : (j : ℕ) → start ≤ j → j < start + k → item_ok ia ib 0x24 nc (suc n) np j ≡ true
  unfolding item_ok row_of line_of handle_ok
  item-right j lo hi =
      let f = firsts j lo hi in
      rw (lt-ltb (get_or ia j 0 + 1) (suc n) (omega arith), eq-eqb (get_or ib j 0) 0 (seconds j lo hi))

  items-right : all_from (item_ok ia ib 0x24 nc (suc n) np) start k ≡ true
  items-right = all_of (item_ok ia ib 0x24 nc (suc n) np) k start item-right

  lists-right : (m : ℕ) → m ≡ k
      → (leb (start + (m + 0)) used && (all_from (item_ok ia ib 0x24 nc (suc n) np) start m && true)) ≡ true
  lists-right m e = rw e (and_both (leb (start + (k + 0)) used) _ (le-leb (start + (k + 0)) used (omega arith))
      (and_both (all_from (item_ok ia ib 0x24 nc (suc n) np) start k) true items-right refl))

  pub nary_right : (all : Bool) → RightAt ia ib used nc np start n (Nary (nary_op_for all) (run_of start k))
  unfolding record_ok lists_ok row_of line_of bits_ok handle_ok count_of more_of all_from
  nary_right true = lists-right (k % 65536) (mod-eq_of_lt small)
  nary_right false = lists-right (k % 65536) (mod-eq_of_lt small)

-- ---- one node more
own_record : (d : ExprData) → record {
  kind = (record_of_expr d).kind;
  code = (record_of_expr d).code;
  a = (record_of_expr d).a;
  b = (record_of_expr d).b;
  c = 0;
  d = 0;
  bits = (record_of_expr d).bits;
} ≡ record_of_expr d
own_record (Literal v) = refl
own_record (ColumnRef c) = refl
own_record (Unary op e) = refl
own_record (Binary op l r) = refl
own_record (Nary op es) = refl

module _ (p : Plan) (st : Tables) (g : Good p st) (room : st.exprs.count < 1024) (d : ExprData) (start : ℕ)
    (right : RightAt st.items.a st.items.b st.items.count p.columns.count p.operators.count start st.exprs.count d)
    (back : ExprAt start d) where
  abbrev s' : Tables
  s' = with_node st (record_of_expr d) start

  record_new : expr_record (plan_with p s') st.exprs.count ≡ record_of_expr d
  record_new = new-expr (plan_with p st) (record_of_expr d) start g.sized room ∙ own_record d

  start-new : expr_start (plan_with p s') st.exprs.count ≡ start
  start-new = new-expr-start (plan_with p st) (record_of_expr d) start g.sized room

  pub new-node : node_in (with_node st (record_of_expr d) start) st.exprs.count ≡ d
  new-node = ap₂ expr_data record_new start-new ∙ expr-back start d back

  new-right : expr_ok (with_expr (plan_with p st) (record_of_expr d) start) st.exprs.count ≡ true
  unfolding expr_ok_of
  new-right =
      (λ i.
      record_ok 2 (record_new i) p.columns.count st.exprs.count p.operators.count
      && lists_ok st.items.a st.items.b st.items.count (record_new i) (start-new i) p.columns.count (suc st.exprs.count)
      p.operators.count)
      ∙ right

  pub node-grows : Grown p st (with_node st (record_of_expr d) start)
  node-grows =
      record {
        extends = expr-longer (plan_with p st) (record_of_expr d) start;
        good =
            record {
              rules = expr-keeps (plan_with p st) (record_of_expr d) start g.rules room new-right;
              sized = expr-longer-sized (plan_with p st) (record_of_expr d) start g.sized;
            };
      }

-- ---- one list more
pub put-length_a : (t : Items) (l : List ℕ) (at : ℕ) → length (items_put t at l).a ≡ length t.a
unfolding items_put
put-length_a t [] at = refl
put-length_a t (x ∷ l) at = length-set (items_put t (at + 1) l).a at x ∙ put-length_a t l (at + 1)

pub put-length_b : (t : Items) (l : List ℕ) (at : ℕ) → length (items_put t at l).b ≡ length t.b
unfolding items_put
put-length_b t [] at = refl
put-length_b t (x ∷ l) at = length-set (items_put t (at + 1) l).b at 0 ∙ put-length_b t l (at + 1)

put-below_a : (t : Items) (l : List ℕ) (at j : ℕ) → j < at → get_or (items_put t at l).a j 0 ≡ get_or t.a j 0
unfolding items_put
put-below_a t [] at j lt = refl
put-below_a t (x ∷ l) at j lt = get_or-set_other (items_put t (at + 1) l).a at j x 0 (omega arith) ∙ put-below_a t l (at + 1) j (omega arith)

put-below_b : (t : Items) (l : List ℕ) (at j : ℕ) → j < at → get_or (items_put t at l).b j 0 ≡ get_or t.b j 0
unfolding items_put
put-below_b t [] at j lt = refl
put-below_b t (x ∷ l) at j lt = get_or-set_other (items_put t (at + 1) l).b at j 0 0 (omega arith) ∙ put-below_b t l (at + 1) j (omega arith)

-- a part that begins at a store
part_at : (l : List ℕ) (i v c : ℕ) → i < length l → take (suc c) (drop i (set l i v)) ≡ v ∷ take c (drop (suc i) l)
part_at l i v c lt =
    let p : i < length (set l i v) = omega (arith, length-set l i v) in
    rw (drop-cons (set l i v) i 0)
    (ap₂ (λ (x : ℕ) (t : List ℕ). x ∷ take c t) (get_or-set_same l i v 0 lt) (drop-set-lt (suc i) l i v (omega arith)))

put-part : (t : Items) (l : List ℕ) (at : ℕ) → at + length l ≤ length t.a → take (length l) (drop at (items_put t at l).a) ≡ l
unfolding items_put
put-part t [] at le = refl
put-part t (x ∷ l) at le =
    part_at (items_put t (at + 1) l).a at x (length l) (omega (arith, put-length_a t l (at + 1)))
    ∙ ap (λ (m : List ℕ). x ∷ m) (rw (← add-one) (put-part t l (at + 1) (omega arith)))

put-zero : (t : Items) (l : List ℕ) (at j : ℕ) → at + length l ≤ length t.b → at ≤ j → j < at + length l → get_or (items_put t at l).b j 0 ≡ 0
unfolding items_put
put-zero t [] at j le lo hi = absurd (omega arith)
put-zero t (x ∷ l) at j le lo hi = go (eqb j at) refl (λ m. put-zero t l (at + 1) j (omega arith) m (omega arith))
  where
    go : (b : Bool) → eqb j at ≡ b → (at + 1 ≤ j → get_or (items_put t (at + 1) l).b j 0 ≡ 0) → get_or (set (items_put t (at + 1) l).b at 0) j 0 ≡ 0
    go true e rest =
        let q : j ≡ at = eqb-true j at e in
        rw q (get_or-set_same (items_put t (at + 1) l).b at 0 0 (omega (arith, put-length_b t l (at + 1))))
    go false e rest =
        let q : (j ≡ at → ⊥) = eqb-false j at e in
        get_or-set_other (items_put t (at + 1) l).b at j 0 0 q ∙ rest (omega arith)

put_first : (t : Items) (l : List ℕ) (at h : ℕ) → at + length l ≤ length t.a → AllBelow h l → (j : ℕ) → at ≤ j → j < at + length l → get_or
    (items_put t at l).a j 0 < h
unfolding items_put AllBelow
put_first t [] at h le u j lo hi = absurd (omega arith)
put_first t (x ∷ l) at h le u j lo hi = go (eqb j at) refl (λ m. put_first t l (at + 1) h (omega arith) u.1 j m (omega arith))
  where
    go : (b : Bool) → eqb j at ≡ b → (at + 1 ≤ j → get_or (items_put t (at + 1) l).a j 0 < h) → get_or (set (items_put t (at + 1) l).a at x) j 0 < h
    go true e rest =
        let q : j ≡ at = eqb-true j at e in
        let v : get_or (set (items_put t (at + 1) l).a at x) at 0 ≡ x = get_or-set_same (items_put t (at + 1) l).a at x 0
        (omega (arith, put-length_a t l (at + 1))) in
        rw (q, v) u.0
    go false e rest =
        let q : (j ≡ at → ⊥) = eqb-false j at e in
        let v : get_or (set (items_put t (at + 1) l).a at x) j 0 ≡ get_or (items_put t (at + 1) l).a j 0 = get_or-set_other (items_put t (at + 1) l).a
        at j x 0 q in
        rw v (rest (omega arith))

module _ (p : Plan) (st : Tables) (l : List ℕ) (g : Good p st) (fits : st.items.count + length l ≤ 2048) where
  abbrev put : Items
  put = items_put st.items st.items.count l

  abbrev pub listed : Tables
  listed = with_items st (counted (items_put st.items st.items.count l) (st.items.count + length l))

  list-extends : Extends (plan_with p st) (plan_with p listed)
  list-extends =
      record {
        columns = le_refl _;
        exprs = le_refl _;
        operators = le_refl _;
        items = omega arith;
        column = λ i h. refl;
        expr = λ i h. refl;
        expr-start = λ i h. refl;
        operator = λ i h. refl;
        operator-start = λ i h. refl;
        item = λ i h.
            (λ j. record {
              kind = 0;
              code = 0;
              a = put-below_a st.items l st.items.count i h j;
              b = put-below_b st.items l st.items.count i h j;
              c = 0;
              d = 0;
              bits = 0;
            });
      }

  list-sized : Sized (plan_with p listed)
  list-sized = items-sized (plan_with p st) listed.items g.sized (put-length_a st.items l st.items.count)
      (put-length_b st.items l st.items.count)

  list-rules : Rules (plan_with p listed)
  list-rules =
      let w = counts-within (plan_with p st) g.rules in
      grown (plan_with p st) (plan_with p listed) list-extends g.rules (counts-fit _ _ _ _ w.columns w.exprs w.operators fits)
      (λ i a b. absurd (omega arith))
      (λ i a b. absurd (omega arith))
      (λ i a b. absurd (omega arith))
      (λ c h. once-kept (plan_with p st) (plan_with p listed) list-extends g.rules refl c)

  pub list-grows : Grown p st listed
  list-grows = record { extends = list-extends; good = record { rules = list-rules; sized = list-sized } }

  pub list-part : take (length l) (drop st.items.count listed.items.a) ≡ l
  list-part = put-part st.items l st.items.count (omega (arith, g.sized.item_a))

  -- an And or Or of these operands is right
  pub list_right : (all : Bool) → AllBelow st.exprs.count l
      → RightAt listed.items.a listed.items.b listed.items.count p.columns.count p.operators.count st.items.count st.exprs.count
      (Nary (nary_op_for all) (run_of st.items.count (length l)))
  list_right all u =
      nary_right listed.items.a listed.items.b listed.items.count p.columns.count p.operators.count st.items.count st.exprs.count
      (length l)
      (le_refl _) (omega arith)
      (put_first st.items l st.items.count st.exprs.count (omega (arith, g.sized.item_a)) u)
      (λ j lo hi. put-zero st.items l st.items.count j (omega (arith, g.sized.item_b)) lo hi)
      all
