-- In a plan that keeps the rules the operands of a node stand before it, and its literals hold values of their types. Assumes nothing.
use mathlib.Core.Path.{◌≡◌, refl, subst}
use mathlib.Core.Bool.{true}
use mathlib.Core.List.{List}
use Prim.Native.Nat.{ℕ, suc, ◌+◌, ◌<◌, ◌^◌}
use native.Mathlib.Omega.{arith}
use lib.Dec.{leb, eqb, eqb→eq}
use lib.ListN.{get_or}
use borrow.Author.Tests.{ltb-true}
use Rattle.laws.proofs.Bools.{and_left, and_right, cond_T_elim, and4_first, and4_second}
use Rattle.lists.specs.Ranges.{all_from}
use Rattle.lists.proofs.RangeLaws.{all-at}
use Rattle.scalar.proofs.CodedLaws.{scalar_of-typed}
use Rattle.plan_kinds.specs.declared.Record.{Record}
use Rattle.plan_kinds.specs.Rows.{line_of, row_of}
use Rattle.plan_kinds.specs.Records.{code_ok, bits_ok, handle_ok, handles_ok, count_of, more_of}
use Rattle.plan.specs.declared.Plan.{Plan}
use Rattle.plan.specs.Records.{expr_record, expr_start}
use Rattle.plan_rules.specs.Rules.{record_ok, item_ok, lists_ok, expr_ok_of, plan_ok}
use Rattle.plan_rules.proofs.RuleLaws.{rules}
use Rattle.plan_data.specs.Nodes.{expr_data, node_at}
use Rattle.apply_spec.specs.Meaning.{Wide}
use Rattle.apply_spec.proofs.Members.{all-run}
use Rattle.apply_spec.proofs.Conjunctions.{OperandsBelow}
use Rattle.apply_spec.proofs.Applying.{TypedNode}

module _ (x : Record) (st nc h np used : ℕ) (ia ib : List ℕ) where
  handles : record_ok 2 x nc h np ≡ true → handles_ok (row_of x.kind) x nc h np ≡ true
  unfolding record_ok
  handles e =
      and_right (bits_ok (row_of x.kind) x) _ (and_right (code_ok (row_of x.kind) x) _ (and_right (eqb (row_of x.kind).sort 2) _ e))

  left_below : (k : ℕ) → (row_of k).a ≡ 3 → x.kind ≡ k → record_ok 2 x nc h np ≡ true → x.a < h
  unfolding handle_ok
  left_below k r q e =
      let t = and4_first _ _ _ _ (subst (λ (k : ℕ). handles_ok (row_of k) x nc h np ≡ true) q (handles e)) in
      ltb-true x.a h (subst (λ (s : ℕ). handle_ok s x.a nc h np ≡ true) r t)

  right-below : (k : ℕ) → (row_of k).b ≡ 3 → x.kind ≡ k → record_ok 2 x nc h np ≡ true → x.b < h
  unfolding handle_ok
  right-below k r q e =
      let t = and4_second (handle_ok (row_of k).a x.a nc h np) _ _ _ (subst (λ (k : ℕ). handles_ok (row_of k) x nc h np ≡ true) q (handles e)) in
      ltb-true x.b h (subst (λ (s : ℕ). handle_ok s x.b nc h np ≡ true) r t)

  items-right : lists_ok ia ib used x st nc (suc h) np ≡ true → all_from (item_ok ia ib (row_of x.kind).item nc (suc h) np) st (count_of (row_of x.kind) x)
      ≡ true
  unfolding lists_ok
  items-right e = and_left _ _ (and_right (leb (st + (count_of (row_of x.kind) x + more_of (row_of x.kind) x)) used) _ e)

  operand_below : x.kind ≡ 0x23 → lists_ok ia ib used x st nc (suc h) np ≡ true → (j : ℕ) → j < x.a → get_or ia (st + j) 0 < h
  unfolding count_of item_ok row_of line_of handle_ok
  operand_below q e j l =
      let t = subst (λ (k : ℕ). all_from (item_ok ia ib (row_of k).item nc (suc h) np) st (count_of (row_of k) x) ≡ true) q (items-right e) in
      let u = all-at (item_ok ia ib 0x24 nc (suc h) np) x.a st t (st + j) (omega arith) (omega arith) in
      let w = ltb-true (get_or ia (st + j) 0 + 1) (suc h) (and4_first _ _ _ _ u) in
      omega (arith, w)

  -- a record that is right has operands that stand before it. Assumes nothing
  pub expr-below : record_ok 2 x nc h np ≡ true → lists_ok ia ib used x st nc (suc h) np ≡ true → OperandsBelow ia h (expr_data x st)
  unfolding expr_data row_of line_of
  expr-below e l =
      let P = OperandsBelow ia h in
      cond_T_elim P (eqb x.kind 0x20) _ _ (λ t. tt)
      (cond_T_elim P (eqb x.kind 0x21) _ _ (λ t. left_below 0x21 refl (eqb→eq x.kind 0x21 t) e)
      (cond_T_elim P (eqb x.kind 0x22) _ _ (λ t. let q = eqb→eq x.kind 0x22 t in (left_below 0x22 refl q e, right-below 0x22 refl q e))
      (cond_T_elim P (eqb x.kind 0x23) _ _ (λ t. all-run (λ (k : ℕ). k < h) 0 st x.a ia (operand_below (eqb→eq x.kind 0x23 t) l))
      tt)))

-- a literal of 64 bits holds a value of its type. Assumes nothing
pub expr-typed : (x : Record) (st : ℕ) → x.bits < 2 ^ 64 → TypedNode (expr_data x st)
unfolding expr_data
expr-typed x st w =
    cond_T_elim TypedNode (eqb x.kind 0x20) _ _ (λ t. tt)
    (cond_T_elim TypedNode (eqb x.kind 0x21) _ _ (λ t. tt)
    (cond_T_elim TypedNode (eqb x.kind 0x22) _ _ (λ t. tt)
    (cond_T_elim TypedNode (eqb x.kind 0x23) _ _ (λ t. tt)
    (scalar_of-typed x.kind x.code x.bits w))))

-- operands stand before their node. Assumes a plan that keeps the rules
pub plan-below : (p : Plan) → plan_ok p ≡ true → (h : ℕ) → h < p.expressions.count → OperandsBelow p.items.a h (node_at p h)
unfolding expr_ok_of
plan-below p ok h l =
    let e = (rules p ok).expr h l in
    expr-below (expr_record p h) (expr_start p h) p.columns.count h p.operators.count p.items.count p.items.a p.items.b (and_left _ _ e)
    (and_right (record_ok 2 (expr_record p h) p.columns.count h p.operators.count) _ e)

-- literals hold values of their types. Assumes payloads of 64 bits
pub plan-typed : (p : Plan) → Wide p → (h : ℕ) → TypedNode (node_at p h)
plan-typed p w h = expr-typed (expr_record p h) (expr_start p h) (w h)
