-- The expressions of an operator of a plan that keeps the rules are of the plan, and no more than it has items. Assumes nothing.
use mathlib.Core.Path.{◌≡◌, refl, ap, subst, ◌∙◌}
use mathlib.Core.Bool.{true}
use Prim.Native.Nat.{ℕ, ◌+◌, ◌<◌, ◌≤◌}
use native.Mathlib.Omega.{arith}
use lib.Dec.{leb, eqb}
use lib.ListN.{get_or}
use borrow.Author.Tests.{eqb-true, ltb-true, leb-true}
use Rattle.laws.proofs.Bools.{and_left, and_right, cond_elim}
use Rattle.lists.specs.Ranges.{all_from}
use Rattle.lists.proofs.RangeLaws.{all-at}
use Rattle.plan_kinds.specs.declared.Record.{Record}
use Rattle.plan_kinds.specs.Rows.{row_of, line_of}
use Rattle.plan_kinds.specs.Records.{code_ok, bits_ok, handle_ok, handles_ok, count_of, more_of}
use Rattle.plan.specs.declared.Plan.{Plan}
use Rattle.plan.specs.declared.Items.{Items}
use Rattle.plan.specs.Records.{operator_record, operator_start}
use Rattle.plan_rules.specs.Rules.{record_ok, item_ok, lists_ok, operator_ok_of}
use Rattle.plan_rules.proofs.RuleLaws.{Rules}
use Rattle.plan_rules.proofs.AppendRules.{counts-within}
use Rattle.plan_data.specs.Nodes.{operator_data, operator_at}
use Rattle.plan_data.specs.declared.OperatorData.{OperatorData}
use Rattle.simplify_spec.specs.OneOperator.{held_of, held_count, held_at}

module _ (x : Record) (start nc ne np used : ℕ) (t : Items) (ok : record_ok 3 x nc ne np ≡ true) (lists : lists_ok t.a t.b used x start nc ne np ≡ true)
  where
    handles : handles_ok (row_of x.kind) x nc ne np ≡ true
    unfolding record_ok
    handles =
        and_right (bits_ok (row_of x.kind) x) _
        (and_right (code_ok (row_of x.kind) x) _ (and_right (eqb (row_of x.kind).sort 3) _ ok))

    first : handle_ok (row_of x.kind).a x.a nc ne np ≡ true
    first = and_left _ _ (and_left _ _ (and_left _ _ handles))

    items-right : all_from (item_ok t.a t.b (row_of x.kind).item nc ne np) start (count_of (row_of x.kind) x) ≡ true
    unfolding lists_ok
    items-right = and_left _ _ (and_right (leb (start + (count_of (row_of x.kind) x + more_of (row_of x.kind) x)) used) _ lists)

    within : start + (count_of (row_of x.kind) x + more_of (row_of x.kind) x) ≤ used
    unfolding lists_ok
    within = leb-true (start + (count_of (row_of x.kind) x + more_of (row_of x.kind) x)) used (and_left _ _ lists)

    one_in : (k : ℕ) → (row_of k).a ≡ 3 → x.kind ≡ k → x.a < ne
    unfolding handle_ok
    one_in k r e =
        ltb-true x.a ne
        (subst (λ (s : ℕ). handle_ok s x.a nc ne np ≡ true) (ap (λ (n : ℕ). (row_of n).a) e ∙ r) first)

    second_in : x.kind ≡ 0x36 → (k : ℕ) → k < x.b → get_or t.b (start + k) 0 < ne
    unfolding row_of line_of count_of item_ok handle_ok
    second_in e k lt =
        let all = subst (λ (n : ℕ). all_from (item_ok t.a t.b (row_of n).item nc ne np) start (count_of (row_of n) x) ≡ true) e items-right in
        let one = all-at (item_ok t.a t.b 0x42 nc ne np) x.b start all (start + k) (omega arith) (omega arith) in
        ltb-true (get_or t.b (start + k) 0) ne (and_right (handle_ok 2 (get_or t.a (start + k) 0) nc ne np) _ (and_left _ _ (and_left _ _ one)))

    first_in : (m : ℕ) → (row_of m).item ≡ 0x43 → count_of (row_of m) x ≡ x.b → x.kind ≡ m → (k : ℕ) → k < x.b → get_or t.a (start + k) 0 < ne
    unfolding row_of line_of item_ok handle_ok
    first_in m ri rc e k lt =
        let all : all_from (item_ok t.a t.b 0x43 nc ne np) start x.b ≡ true =
        subst (λ (c : ℕ). all_from (item_ok t.a t.b 0x43 nc ne np) start c ≡ true) rc
        (subst (λ (i : ℕ). all_from (item_ok t.a t.b i nc ne np) start (count_of (row_of m) x) ≡ true) ri
        (subst (λ (n : ℕ). all_from (item_ok t.a t.b (row_of n).item nc ne np) start (count_of (row_of n) x) ≡ true) e items-right)) in
        let one = all-at (item_ok t.a t.b 0x43 nc ne np) x.b start all (start + k) (omega arith) (omega arith) in
        ltb-true (get_or t.a (start + k) 0) ne (and_left _ _ (and_left _ _ (and_left _ _ one)))

    counted : (m : ℕ) → count_of (row_of m) x ≡ x.b → x.kind ≡ m → x.b ≤ used
    counted m rc e =
        let w : count_of (row_of m) x ≤ used = subst (λ (n : ℕ). count_of (row_of n) x ≤ used) e (omega (arith, within)) in
        omega (arith, w, rc)

    -- what is to be shown of an operator
    pub record HeldIn (d : OperatorData) : Type 0 where
      pub each : (k : ℕ) → k < held_count (held_of d) → held_at t (held_of d) k < ne
      pub few : used ≤ 2048 → held_count (held_of d) ≤ 2048

    nothing : (d : OperatorData) → held_count (held_of d) ≡ 0 → HeldIn d
    nothing d e = record { each = λ k lt. absurd (omega (arith, e, lt)); few = λ u. omega (arith, e) }

    pub held_record : HeldIn (operator_data x start)
    unfolding operator_data row_of line_of count_of
    held_record =
        let k = x.kind in
        let P : OperatorData → Type 0 = λ d. HeldIn d in
        cond_elim P (eqb k 0x30) _ _ (λ e. nothing _ refl)
        (λ e. cond_elim P (eqb k 0x31) _ _ (λ e. nothing _ refl)
        (λ e. cond_elim P (eqb k 0x32) _ _ (λ e. nothing _ refl)
        (λ e. cond_elim P (eqb k 0x33) _ _ (λ e. record { each = λ j lt. one_in 0x33 refl (eqb-true k 0x33 e); few = λ u. omega arith })
        (λ e. cond_elim P (eqb k 0x34) _ _ (λ e. nothing _ refl)
        (λ e. cond_elim P (eqb k 0x35) _ _ (λ e. nothing _ refl)
        (λ e. cond_elim P (eqb k 0x36) _ _
        (λ e. record { each = second_in (eqb-true k 0x36 e); few = λ u. omega (arith, counted 0x36 refl (eqb-true k 0x36 e)) })
        (λ e. cond_elim P (eqb k 0x37) _ _
        (λ e. record { each = first_in 0x37 refl refl (eqb-true k 0x37 e); few = λ u. omega (arith, counted 0x37 refl (eqb-true k 0x37 e)) })
        (λ e. cond_elim P (eqb k 0x38) _ _
        (λ e. record { each = first_in 0x38 refl refl (eqb-true k 0x38 e); few = λ u. omega (arith, counted 0x38 refl (eqb-true k 0x38 e)) })
        (λ e. cond_elim P (eqb k 0x39) _ _ (λ e. nothing _ refl)
        (λ e. cond_elim P (eqb k 0x3A) _ _ (λ e. nothing _ refl)
        (λ e. cond_elim P (eqb k 0x3B) _ _ (λ e. nothing _ refl)
        (λ e. cond_elim P (eqb k 0x3C) _ _ (λ e. record { each = λ j lt. one_in 0x3C refl (eqb-true k 0x3C e); few = λ u. omega arith })
        (λ e. cond_elim P (eqb k 0x3D) _ _ (λ e. record { each = λ j lt. one_in 0x3D refl (eqb-true k 0x3D e); few = λ u. omega arith })
        (λ e. nothing _ refl))))))))))))))

module _ (p : Plan) (r : Rules p) (o : ℕ) (lt : o < p.operators.count) where
  record_right : record_ok 3 (operator_record p o) p.columns.count p.expressions.count o ≡ true
  unfolding operator_ok_of
  record_right = and_left _ _ (r.operator o lt)

  lists-right : lists_ok p.items.a p.items.b p.items.count (operator_record p o) (operator_start p o) p.columns.count p.expressions.count o
      ≡ true
  unfolding operator_ok_of
  lists-right = and_right (record_ok 3 (operator_record p o) p.columns.count p.expressions.count o) _ (r.operator o lt)

  -- an expression of the operator is of the plan
  pub held_in : (k : ℕ) → k < held_count (held_of (operator_at p o)) → held_at p.items (held_of (operator_at p o)) k < p.expressions.count
  held_in = (held_record (operator_record p o) (operator_start p o) p.columns.count p.expressions.count o p.items.count p.items record_right
      lists-right).each

  -- and there are no more than a plan has room for items
  pub held-few : held_count (held_of (operator_at p o)) ≤ 2048
  held-few = (held_record (operator_record p o) (operator_start p o) p.columns.count p.expressions.count o p.items.count p.items record_right
      lists-right).few (counts-within p r).items
