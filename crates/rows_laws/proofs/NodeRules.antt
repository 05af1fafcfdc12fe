-- What the rules of a plan say of its expressions as nodes: a reference's column is in the plan, operands are earlier, and a list lies within the items.
-- Assumes nothing.
use mathlib.Core.Path.{◌≡◌, refl, ap, subst}
use mathlib.Core.Bool.{Bool, true, false, cond, ◌&&◌}
use mathlib.Core.List.{List}
use Prim.Native.Nat.{ℕ, suc, ◌+◌, ◌<◌, ◌≤◌}
use native.Mathlib.Omega.{arith}
use lib.Dec.{leb, eqb}
use lib.ListN.{get_or}
use borrow.Author.Tests.{eqb-true, ltb-true, leb-true}
use Rattle.laws.proofs.Bools.{and_left, and_right}
use Rattle.lists.specs.Ranges.{all_from}
use Rattle.lists.proofs.RangeLaws.{all-at}
use Rattle.plan_kinds.specs.declared.Record.{Record}
use Rattle.plan_kinds.specs.Rows.{row_of, line_of}
use Rattle.plan_kinds.specs.Records.{code_ok, bits_ok, handle_ok, handles_ok, count_of, more_of}
use Rattle.scalar.specs.Coded.{scalar_of}
use Rattle.comparison.specs.Operators.{binary_op_of}
use Rattle.plan.specs.declared.Plan.{Plan}
use Rattle.plan.specs.Records.{expr_record, expr_start}
use Rattle.plan_rules.specs.Rules.{record_ok, item_ok, lists_ok, expr_ok_of}
use Rattle.plan_rules.proofs.RuleLaws.{Rules}
use Rattle.plan_data.specs.Codes.{unary_op_of, nary_op_of}
use Rattle.plan_data.specs.Nodes.{run_of, expr_data, node_at}
use Rattle.plan_data.specs.declared.ExprData.{ExprData}
use Rattle.plan_data.specs.declared.ExprData.TheVariants.{Literal, ColumnRef, Unary, Binary, Nary}

-- the node of the expression h, in a plan of nc columns whose `used` items start with those of `items`
abbrev pub NodeOk : ℕ → List ℕ → ℕ → ℕ → ExprData → Type 0
NodeOk nc items used h (Literal v) = Unit {0}
NodeOk nc items used h (ColumnRef c) = c.0 < nc
NodeOk nc items used h (Unary op e) = e.0 < h
NodeOk nc items used h (Binary op l r) = (l.0 < h) × (r.0 < h)
NodeOk nc items used h (Nary op es) = (es.start + es.count ≤ used) × ((j : ℕ) → es.start ≤ j → j < es.start + es.count → get_or items j 0 < h)

-- the first two numbers of a record that keeps the rules
module _ (x : Record) (nc ne np : ℕ) (ok : record_ok 2 x nc ne np ≡ true) where
  handles : handles_ok (row_of x.kind) x nc ne np ≡ true
  unfolding record_ok
  handles =
      and_right (bits_ok (row_of x.kind) x) _
      (and_right (code_ok (row_of x.kind) x) _ (and_right (eqb (row_of x.kind).sort 2) _ ok))

  first_two : (handle_ok (row_of x.kind).a x.a nc ne np && handle_ok (row_of x.kind).b x.b nc ne np) ≡ true
  first_two = and_left _ _ (and_left _ _ handles)

  first : handle_ok (row_of x.kind).a x.a nc ne np ≡ true
  first = and_left _ _ first_two

  second : handle_ok (row_of x.kind).b x.b nc ne np ≡ true
  second = and_right (handle_ok (row_of x.kind).a x.a nc ne np) _ first_two

  column-known : x.kind ≡ 0x20 → x.a < nc
  unfolding row_of line_of handle_ok
  column-known k = ltb-true x.a nc (subst (λ (n : ℕ). handle_ok (row_of n).a x.a nc ne np ≡ true) k first)

  operand_earlier : x.kind ≡ 0x21 → x.a < ne
  unfolding row_of line_of handle_ok
  operand_earlier k = ltb-true x.a ne (subst (λ (n : ℕ). handle_ok (row_of n).a x.a nc ne np ≡ true) k first)

  left_earlier : x.kind ≡ 0x22 → x.a < ne
  unfolding row_of line_of handle_ok
  left_earlier k = ltb-true x.a ne (subst (λ (n : ℕ). handle_ok (row_of n).a x.a nc ne np ≡ true) k first)

  right_earlier : x.kind ≡ 0x22 → x.b < ne
  unfolding row_of line_of handle_ok
  right_earlier k = ltb-true x.b ne (subst (λ (n : ℕ). handle_ok (row_of n).b x.b nc ne np ≡ true) k second)

-- an operand in a list
item_earlier : (ia ib : List ℕ) (nc h np j : ℕ) → item_ok ia ib (row_of 0x23).item nc (suc h) np j ≡ true → get_or ia j 0 < h
unfolding item_ok row_of line_of handle_ok
item_earlier ia ib nc h np j e =
    let lt : get_or ia j 0 + 1 < suc h = ltb-true (get_or ia j 0 + 1) (suc h) (and_left _ _ (and_left _ _ (and_left _ _ e))) in
    omega arith

-- the list of an And or an Or
module _ (ia ib : List ℕ) (used : ℕ) (x : Record) (st nc h np : ℕ) (k : x.kind ≡ 0x23) (ok : lists_ok ia ib used x st nc (suc h) np ≡ true) where
  counted : count_of (row_of x.kind) x ≡ x.a
  unfolding row_of line_of count_of
  counted = ap (λ (n : ℕ). count_of (row_of n) x) k

  list-within : st + x.a ≤ used
  unfolding lists_ok
  list-within =
      let le : st + (count_of (row_of x.kind) x + more_of (row_of x.kind) x) ≤ used =
      leb-true (st + (count_of (row_of x.kind) x + more_of (row_of x.kind) x)) used (and_left _ _ ok) in
      omega (arith, counted, le)

  items-right : all_from (item_ok ia ib (row_of x.kind).item nc (suc h) np) st (count_of (row_of x.kind) x) ≡ true
  unfolding lists_ok
  items-right = and_left _ _ (and_right (leb (st + (count_of (row_of x.kind) x + more_of (row_of x.kind) x)) used) _ ok)

  listed_earlier : (j : ℕ) → st ≤ j → j < st + x.a → get_or ia j 0 < h
  listed_earlier j lo hi =
      item_earlier ia ib nc h np j
      (subst (λ (n : ℕ). item_ok ia ib (row_of n).item nc (suc h) np j ≡ true) k
      (all-at (item_ok ia ib (row_of x.kind).item nc (suc h) np) (count_of (row_of x.kind) x) st items-right j lo (omega (arith, counted))))

module _ (nc np used h : ℕ) (ia ib : List ℕ) (x : Record) (st : ℕ) (ok : record_ok 2 x nc h np ≡ true) (lists : lists_ok ia ib used x st nc (suc h) np ≡ true)
  where
    pub record_node : NodeOk nc ia used h (expr_data x st)
    unfolding expr_data
    record_node = go (eqb x.kind 0x20) (eqb x.kind 0x21) (eqb x.kind 0x22) (eqb x.kind 0x23) refl refl refl refl
      where
        go : (a b c d : Bool) → eqb x.kind 0x20 ≡ a → eqb x.kind 0x21 ≡ b → eqb x.kind 0x22 ≡ c → eqb x.kind 0x23 ≡ d
            → NodeOk nc ia used h
            (cond a (ColumnRef (record { 0 = x.a }))
            (cond b (Unary (unary_op_of x.code) (record { 0 = x.a }))
            (cond c (Binary (binary_op_of x.code) (record { 0 = x.a }) (record { 0 = x.b }))
            (cond d (Nary (nary_op_of x.code) (run_of st x.a)) (Literal (scalar_of x.kind x.code x.bits))))))
        go true b c d p q r s = column-known x nc h np ok (eqb-true x.kind 0x20 p)
        go false true c d p q r s = operand_earlier x nc h np ok (eqb-true x.kind 0x21 q)
        go false false true d p q r s =
            (left_earlier x nc h np ok (eqb-true x.kind 0x22 r), right_earlier x nc h np ok (eqb-true x.kind 0x22 r))
        go false false false true p q r s = (
          list-within ia ib used x st nc h np (eqb-true x.kind 0x23 s) lists,
          listed_earlier ia ib used x st nc h np (eqb-true x.kind 0x23 s) lists,
        )
        go false false false false p q r s = tt

-- every expression of a plan that keeps the rules
pub node_ok : (p : Plan) → Rules p → (h : ℕ) → h < p.expressions.count → NodeOk p.columns.count p.items.a p.items.count h (node_at p h)
unfolding expr_ok_of
node_ok p r h lt =
    record_node p.columns.count p.operators.count p.items.count h p.items.a p.items.b (expr_record p h) (expr_start p h)
    (and_left _ _ (r.expr h lt)) (and_right (record_ok 2 (expr_record p h) p.columns.count h p.operators.count) _ (r.expr h lt))
