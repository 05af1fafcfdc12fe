-- The rules of a plan part by part, and that a plan that grows by right entries keeps them. Assumes nothing.
use Prim.Native.Nat.{ℕ, suc, ◌+◌, ◌≤◌, ◌<◌}
use mathlib.Core.Path.{◌≡◌, sym, subst}
use mathlib.Core.Bool.{Bool, true, false, cond, ◌&&◌}
use mathlib.Core.List.{List}
use mathlib.Core.Logic.{⊎_elim}
use native.Mathlib.Nat.{le_refl}
use native.Mathlib.Omega.{arith}
use lib.Dec.{ltb, leb, eqb}
use borrow.Author.Tests.{leb-true, ltb-true, le-leb, lt-ltb}
use Rattle.laws.proofs.Bools.{and_left, and_right, and_both}
use Rattle.lists.specs.Ranges.{all_from}
use Rattle.lists.proofs.RangeLaws.{below_or_not, all_of, all_mono, table}
use Rattle.plan_kinds.specs.declared.Record.{Record}
use Rattle.plan_kinds.specs.Rows.{Row}
use Rattle.plan_kinds.specs.Rows.{row_of}
use Rattle.plan_kinds.specs.Records.{code_ok, bits_ok, handle_ok, handles_ok, count_of, more_of}
use Rattle.plan.specs.declared.Plan.{Plan}
use Rattle.plan.specs.Records.{item_record_of, expr_record, expr_start, operator_record, operator_start}
use Rattle.plan.specs.Extends.{Extends}
use Rattle.plan_rules.specs.Rules.{record_ok, item_ok, lists_ok, column_ok, expr_ok_of, expr_ok, operator_ok_of, operator_ok}
use Rattle.plan_rules.specs.Rules.{scanned_once, counts_ok, plan_ok}

-- ---- the rules, part by part
pub record Rules (p : Plan) : Type 0 where
  pub counts : counts_ok p ≡ true
  pub column : (i : ℕ) → i < p.columns.count → column_ok p i ≡ true
  pub expr : (i : ℕ) → i < p.expressions.count → expr_ok p i ≡ true
  pub operator : (i : ℕ) → i < p.operators.count → operator_ok p i ≡ true
  pub once : (c : ℕ) → c < p.columns.count → scanned_once p c ≡ true

of-each : (f : ℕ → Bool) (n : ℕ) → ((i : ℕ) → i < n → f i ≡ true) → all_from f 0 n ≡ true
of-each f n h = all_of f n 0 (λ j lo hi. h j (omega arith))

pub rules : (p : Plan) → plan_ok p ≡ true → Rules p
unfolding plan_ok
rules p e =
    let e2 = and_right (counts_ok p) _ e in
    let e3 = and_right (all_from (column_ok p) 0 p.columns.count) _ e2 in
    let e4 = and_right (all_from (expr_ok p) 0 p.expressions.count) _ e3 in
    record {
      counts = and_left _ _ e;
      column = table (column_ok p) _ (and_left _ _ e2);
      expr = table (expr_ok p) _ (and_left _ _ e3);
      operator = table (operator_ok p) _ (and_left _ _ e4);
      once = table (scanned_once p) _ (and_right (all_from (operator_ok p) 0 p.operators.count) _ e4);
    }

pub rules-of : (p : Plan) → Rules p → plan_ok p ≡ true
unfolding plan_ok
rules-of p r =
    and_both _ _ r.counts
    (and_both _ _ (of-each (column_ok p) _ r.column)
    (and_both _ _ (of-each (expr_ok p) _ r.expr)
    (and_both _ _ (of-each (operator_ok p) _ r.operator) (of-each (scanned_once p) _ r.once))))

-- ---- a plan with more columns, expressions and operators has room for every handle that it had
cond_mono : (t a b a2 b2 : Bool) → (a ≡ true → a2 ≡ true) → (b ≡ true → b2 ≡ true) → cond t a b ≡ true → cond t a2 b2 ≡ true
cond_mono true a b a2 b2 f g e = f e
cond_mono false a b a2 b2 f g e = g e

and-under : (a b b2 : Bool) → (b ≡ true → b2 ≡ true) → (a && b) ≡ true → (a && b2) ≡ true
and-under true b b2 f e = f e
and-under false b b2 f e = e

ltb_mono : (v n m : ℕ) → n ≤ m → ltb v n ≡ true → ltb v m ≡ true
ltb_mono v n m h e = lt-ltb v m (omega (arith, ltb-true v n e))

module _ (nc ne np nc2 ne2 np2 : ℕ) (hc : nc ≤ nc2) (he : ne ≤ ne2) (hp : np ≤ np2) where
  pub handle_mono : (s v : ℕ) → handle_ok s v nc ne np ≡ true → handle_ok s v nc2 ne2 np2 ≡ true
  unfolding handle_ok
  handle_mono s v =
      cond_mono (eqb s 2) _ _ _ _ (ltb_mono v nc nc2 hc)
      (cond_mono (eqb s 3) _ _ _ _ (ltb_mono v ne ne2 he)
      (cond_mono (eqb s 4) _ _ _ _ (ltb_mono v np np2 hp) (cond_mono (eqb s 5) _ _ _ _ (ltb_mono (v + 1) ne ne2 he) (λ e. e))))

  pub handles_mono : (r : Row) (x : Record) → handles_ok r x nc ne np ≡ true → handles_ok r x nc2 ne2 np2 ≡ true
  handles_mono r x e =
      let e1 = and_left _ _ e in
      let e2 = and_left _ _ e1 in
      and_both _ _
      (and_both _ _
      (and_both _ _ (handle_mono r.a x.a (and_left _ _ e2)) (handle_mono r.b x.b (and_right (handle_ok r.a x.a nc ne np) _ e2)))
      (handle_mono r.c x.c (and_right (handle_ok r.a x.a nc ne np && handle_ok r.b x.b nc ne np) _ e1)))
      (handle_mono r.d x.d (and_right ((handle_ok r.a x.a nc ne np && handle_ok r.b x.b nc ne np) && handle_ok r.c x.c nc ne np) _ e))

  pub record_mono : (sort : ℕ) (x : Record) → record_ok sort x nc ne np ≡ true → record_ok sort x nc2 ne2 np2 ≡ true
  unfolding record_ok
  record_mono sort x =
      and-under (eqb (row_of x.kind).sort sort) _ _
      (and-under (code_ok (row_of x.kind) x) _ _ (and-under (bits_ok (row_of x.kind) x) _ _ (handles_mono (row_of x.kind) x)))

  -- the same of lists, whose items stand as they did
  module _ (ia ib ia2 ib2 : List ℕ) (used used2 : ℕ) (hu : used ≤ used2) (items : (j : ℕ) → j < used → item_record_of ia2 ib2 j ≡ item_record_of ia ib j) where
    item_mono : (k j : ℕ) → j < used → item_ok ia ib k nc ne np j ≡ true → item_ok ia2 ib2 k nc2 ne2 np2 j ≡ true
    unfolding item_ok
    item_mono k j h e =
        subst (λ (x : Record). handles_ok (row_of k) x nc2 ne2 np2 ≡ true) (sym (items j h)) (handles_mono (row_of k) (item_record_of ia ib j) e)

    pub lists_mono : (x : Record) (st : ℕ) → lists_ok ia ib used x st nc ne np ≡ true → lists_ok ia2 ib2 used2 x st nc2 ne2 np2 ≡ true
    unfolding lists_ok
    lists_mono x st e =
        let n = count_of (row_of x.kind) x in
        let m = more_of (row_of x.kind) x in
        let whole = leb-true (st + (n + m)) used (and_left _ _ e) in
        let rest = and_right (leb (st + (n + m)) used) _ e in
        and_both _ _ (le-leb (st + (n + m)) used2 (omega arith))
        (and_both _ _
        (all_mono (item_ok ia ib (row_of x.kind).item nc ne np) (item_ok ia2 ib2 (row_of x.kind).item nc2 ne2 np2) st n
        (λ j lo hi. item_mono (row_of x.kind).item j (omega arith)) (and_left _ _ rest))
        (all_mono (item_ok ia ib 0x40 nc ne np) (item_ok ia2 ib2 0x40 nc2 ne2 np2) (st + n) m (λ j lo hi. item_mono 0x40 j (omega arith))
        (and_right (all_from (item_ok ia ib (row_of x.kind).item nc ne np) st n) _ rest)))

-- ---- what p has is right in a plan that extends it
module _ (p q : Plan) (e : Extends p q) where
  pub expr-kept : (i : ℕ) → i < p.expressions.count → expr_ok p i ≡ true → expr_ok q i ≡ true
  unfolding expr_ok_of
  expr-kept i h ok =
      and_both _ _
      (subst (λ (x : Record). record_ok 2 x q.columns.count i q.operators.count ≡ true) (sym (e.expr i h))
      (record_mono p.columns.count i p.operators.count q.columns.count i q.operators.count e.columns (le_refl i) e.operators 2
      (expr_record p i) (and_left _ _ ok)))
      (subst (λ (x : Record). lists_ok q.items.a q.items.b q.items.count x (expr_start q i) q.columns.count (suc i) q.operators.count
      ≡ true) (sym (e.expr i h))
      (subst (λ (st : ℕ). lists_ok q.items.a q.items.b q.items.count (expr_record p i) st q.columns.count (suc i) q.operators.count ≡ true)
      (sym (e.expr-start i h))
      (lists_mono p.columns.count (suc i) p.operators.count q.columns.count (suc i) q.operators.count e.columns (le_refl (suc i))
      e.operators
      p.items.a p.items.b q.items.a q.items.b p.items.count q.items.count e.items e.item (expr_record p i) (expr_start p i)
      (and_right (record_ok 2 (expr_record p i) p.columns.count i p.operators.count) _ ok))))

  pub operator-kept : (i : ℕ) → i < p.operators.count → operator_ok p i ≡ true → operator_ok q i ≡ true
  unfolding operator_ok_of
  operator-kept i h ok =
      and_both _ _
      (subst (λ (x : Record). record_ok 3 x q.columns.count q.expressions.count i ≡ true) (sym (e.operator i h))
      (record_mono p.columns.count p.expressions.count i q.columns.count q.expressions.count i e.columns e.exprs (le_refl i) 3
      (operator_record p i) (and_left _ _ ok)))
      (subst (λ (x : Record). lists_ok q.items.a q.items.b q.items.count x (operator_start q i) q.columns.count q.expressions.count i
      ≡ true) (sym (e.operator i h))
      (subst (λ (st : ℕ). lists_ok q.items.a q.items.b q.items.count (operator_record p i) st q.columns.count q.expressions.count i ≡ true)
      (sym (e.operator-start i h))
      (lists_mono p.columns.count p.expressions.count i q.columns.count q.expressions.count i e.columns e.exprs (le_refl i)
      p.items.a p.items.b q.items.a q.items.b p.items.count q.items.count e.items e.item (operator_record p i) (operator_start p i)
      (and_right (record_ok 3 (operator_record p i) p.columns.count p.expressions.count i) _ ok))))

  -- so the rules of q are those of p, and that q's new entries are right
  pub grown :
      Rules p → counts_ok q ≡ true
      → ((i : ℕ) → p.columns.count ≤ i → i < q.columns.count → column_ok q i ≡ true)
      → ((i : ℕ) → p.expressions.count ≤ i → i < q.expressions.count → expr_ok q i ≡ true)
      → ((i : ℕ) → p.operators.count ≤ i → i < q.operators.count → operator_ok q i ≡ true)
      → ((c : ℕ) → c < q.columns.count → scanned_once q c ≡ true)
      → Rules q
  grown r counts columns exprs operators once =
      record {
        counts = counts;
        column = λ i h. ⊎_elim (λ l. subst (λ (x : Record). (leb 1 x.code && leb x.code 5) ≡ true) (sym (e.column i l)) (r.column i l))
            (λ g. columns i g h) (below_or_not i p.columns.count);
        expr = λ i h. ⊎_elim (λ l. expr-kept i l (r.expr i l)) (λ g. exprs i g h) (below_or_not i p.expressions.count);
        operator = λ i h. ⊎_elim (λ l. operator-kept i l (r.operator i l)) (λ g. operators i g h) (below_or_not i p.operators.count);
        once = once;
      }
