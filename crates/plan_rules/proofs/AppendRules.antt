-- Appending keeps the rules: a column of a listed kind, an item, an expression and an operator that are right where they come to stand.
-- Assumes nothing.
use Prim.Native.Nat.{ℕ, ◌+◌, ◌≤◌, ◌<◌}
use mathlib.Core.Path.{◌≡◌, refl, sym, subst, ap, ◌∙◌}
use mathlib.Core.Bool.{Bool, true, false, ◌&&◌}
use mathlib.Core.List.{List}
use mathlib.Core.Logic.{⊎_elim}
use native.Mathlib.Omega.{arith}
use lib.Dec.{leb, eqb}
use lib.ListN.{get_or}
use borrow.Author.Tests.{leb-true, ltb-true, le-leb, eqb-true, ne_eqb}
use native.Mathlib.Nat.{not-le_of_lt}
use Rattle.laws.proofs.Bools.{and_left, and_right, and_both}
use Rattle.laws.proofs.Numbers.{eq-of_le_lt_add_one}
use Rattle.lists.specs.Ranges.{all_from, any_from, count_from}
use Rattle.lists.proofs.RangeLaws.{below_or_not, all-at, any_same, any_none, count_same, count_none}
use Rattle.plan_kinds.specs.declared.Record.{Record}
use Rattle.plan_kinds.specs.Rows.{row_of, line_of}
use Rattle.plan_kinds.specs.Records.{handle_ok, count_of, more_of}
use Rattle.plan.specs.declared.Plan.{Plan}
use Rattle.plan.specs.Append.{with_column, with_expr, with_operator, with_item}
use Rattle.plan.specs.Records.{operator_record, operator_start}
use Rattle.plan.specs.Extends.{Extends, Sized}
use Rattle.plan.proofs.AppendLaws.{column-longer, expr-longer, operator-longer, item-longer, new-column}
use Rattle.plan_rules.specs.Rules.{record_ok, item_ok, lists_ok, column_ok, expr_ok, operator_ok_of, operator_ok, scans_of, scans, scanned_once}
use Rattle.plan_rules.specs.Rules.{counts_within}
use Rattle.plan_rules.proofs.RuleLaws.{Rules, grown}

-- ---- a Scan's list is whole, and its items are columns
scan-parts :
    (ia ib : List ℕ) (used : ℕ) (x : Record) (st nc ne np : ℕ) → x.kind ≡ 0x30 → lists_ok ia ib used x st nc ne np ≡ true
    → (leb (st + (x.b + 0)) used && (all_from (item_ok ia ib 0x40 nc ne np) st x.b && all_from (item_ok ia ib 0x40 nc ne np) (st + x.b) 0)) ≡ true
unfolding lists_ok count_of more_of row_of line_of
scan-parts ia ib used x st nc ne np k e =
    subst
    (λ (m : ℕ).
    (leb (st + (count_of (row_of m) x + more_of (row_of m) x)) used
    && (all_from (item_ok ia ib (row_of m).item nc ne np) st (count_of (row_of m) x) && all_from (item_ok ia ib 0x40 nc ne np) (st + count_of (row_of m) x)
    (more_of (row_of m) x)))
    ≡ true)
    k e

scan-whole : (ia ib : List ℕ) (used : ℕ) (x : Record) (st nc ne np : ℕ) → x.kind ≡ 0x30 → lists_ok ia ib used x st nc ne np ≡ true → st + x.b ≤ used
scan-whole ia ib used x st nc ne np k e = omega (arith, leb-true (st + (x.b + 0)) used (and_left _ _ (scan-parts ia ib used x st nc ne np k e)))

scan-columns :
    (ia ib : List ℕ) (used : ℕ) (x : Record) (st nc ne np : ℕ) → x.kind ≡ 0x30 → lists_ok ia ib used x st nc ne np ≡ true
    → (j : ℕ) → st ≤ j → j < st + x.b → get_or ia j 0 < nc
unfolding row_of line_of item_ok handle_ok
scan-columns ia ib used x st nc ne np k e j lo hi =
    let g = and_left _ _ (and_right (leb (st + (x.b + 0)) used) _ (scan-parts ia ib used x st nc ne np k e)) in
    let f = all-at (item_ok ia ib 0x40 nc ne np) x.b st g j lo hi in
    ltb-true (get_or ia j 0) nc (and_left _ _ (and_left _ _ (and_left _ _ f)))

-- ---- a plan that extends another has the same Scans among the old operators
module _ (p q : Plan) (e : Extends p q) (r : Rules p) where
  abbrev lists_of : (i : ℕ) → operator_ok p i ≡ true → lists_ok p.items.a p.items.b p.items.count (operator_record p i) (operator_start p i)
      p.columns.count p.expressions.count i ≡ true
  unfolding operator_ok_of
  lists_of i ok = and_right (record_ok 3 (operator_record p i) p.columns.count p.expressions.count i) _ ok

  -- the items of a Scan are the same
  listed_kept : (c i : ℕ) → i < p.operators.count → (operator_record p i).kind ≡ 0x30 →
      any_from (λ (j : ℕ). eqb (get_or q.items.a j 0) c) (operator_start p i) (operator_record p i).b ≡ any_from (λ (j : ℕ). eqb (get_or p.items.a j 0) c)
      (operator_start p i) (operator_record p i).b
  listed_kept c i h k =
      let whole = scan-whole p.items.a p.items.b p.items.count (operator_record p i) (operator_start p i) p.columns.count
      p.expressions.count i k (lists_of i (r.operator i h)) in
      any_same (λ (j : ℕ). eqb (get_or q.items.a j 0) c) (λ (j : ℕ). eqb (get_or p.items.a j 0) c) (operator_record p i).b (operator_start p i)
      (λ j lo hi. ap (λ (x : Record). eqb x.a c) (e.item j (omega arith)))

  pub scans-kept : (c i : ℕ) → i < p.operators.count → scans q c i ≡ scans p c i
  unfolding scans_of
  scans-kept c i h = go (eqb (operator_record p i).kind 0x30) refl
    where
      go : (t : Bool) → eqb (operator_record p i).kind 0x30 ≡ t → scans q c i ≡ scans p c i
      go t k =
          (λ j. eqb (e.operator i h j).kind 0x30 && any_from (λ (m : ℕ). eqb (get_or q.items.a m 0) c) (e.operator-start i h j) (e.operator i h j).b)
          ∙ below t k
        where
          below : (t : Bool) → eqb (operator_record p i).kind 0x30 ≡ t →
              (eqb (operator_record p i).kind 0x30 && any_from (λ (m : ℕ). eqb (get_or q.items.a m 0) c) (operator_start p i) (operator_record p i).b)
              ≡ (eqb (operator_record p i).kind 0x30 && any_from (λ (m : ℕ). eqb (get_or p.items.a m 0) c) (operator_start p i) (operator_record p i).b)
          below true k = ap (λ (b : Bool). eqb (operator_record p i).kind 0x30 && b) (listed_kept c i h (eqb-true _ _ k))
          below false k = rw k

  -- a column that p does not have is in none of them
  pub scans-none : (c i : ℕ) → i < p.operators.count → p.columns.count ≤ c → scans p c i ≡ false
  unfolding scans_of
  scans-none c i h new = go (eqb (operator_record p i).kind 0x30) refl
    where
      go : (t : Bool) → eqb (operator_record p i).kind 0x30 ≡ t → scans p c i ≡ false
      go true k =
          rw k
          (any_none (λ (j : ℕ). eqb (get_or p.items.a j 0) c) (operator_record p i).b (operator_start p i)
          (λ j lo hi. ne_eqb (get_or p.items.a j 0) c (λ same. let lt = scan-columns p.items.a p.items.b p.items.count (operator_record p i)
          (operator_start p i) p.columns.count p.expressions.count i (eqb-true _ _ k) (lists_of i (r.operator i h)) j lo hi in omega arith)))
      go false k = rw k

  -- so, where no operator is added, each column is in at most one Scan again
  pub once-kept : q.operators.count ≡ p.operators.count → (c : ℕ) → scanned_once q c ≡ true
  once-kept same c =
      ⊎_elim
      (λ old. subst (λ (n : ℕ). leb n 1 ≡ true) (sym (count-all c)) (r.once c old))
      (λ new. subst (λ (n : ℕ). leb n 1 ≡ true)
      (sym (count-all c ∙ count_none (scans p c) p.operators.count 0 (λ i lo hi. scans-none c i (omega arith) new))) refl)
      (below_or_not c p.columns.count)
    where
      count-all : (c : ℕ) → count_from (scans q c) 0 q.operators.count ≡ count_from (scans p c) 0 p.operators.count
      count-all c =
          ap (count_from (scans q c) 0) same
          ∙ count_same (scans q c) (scans p c) p.operators.count 0 (λ i lo hi. scans-kept c i (omega arith))

-- ---- the counts
pub counts-fit : (nc ne np used : ℕ) → nc ≤ 64 → ne ≤ 1024 → np ≤ 128 → used ≤ 2048 → counts_within nc ne np used ≡ true
unfolding counts_within
counts-fit nc ne np used a b c d =
    and_both _ _ (le-leb nc 64 a) (and_both _ _ (le-leb ne 1024 b) (and_both _ _ (le-leb np 128 c) (le-leb used 2048 d)))

-- the counts of a plan that keeps the rules are within the sizes
pub record Within (p : Plan) : Type 0 where
  pub columns : p.columns.count ≤ 64
  pub exprs : p.expressions.count ≤ 1024
  pub operators : p.operators.count ≤ 128
  pub items : p.items.count ≤ 2048

pub counts-within : (p : Plan) → Rules p → Within p
unfolding counts_within
counts-within p r =
    let c = r.counts in
    let d = and_right (leb p.columns.count 64) _ c in
    let e = and_right (leb p.expressions.count 1024) _ d in
    record {
      columns = leb-true _ 64 (and_left _ _ c);
      exprs = leb-true _ 1024 (and_left _ _ d);
      operators = leb-true _ 128 (and_left _ _ e);
      items = leb-true _ 2048 (and_right (leb p.operators.count 128) _ e);
    }

-- ---- appending
pub column-keeps : (p : Plan) (x : Record) → Sized p → Rules p → p.columns.count < 64 → 1 ≤ x.code → x.code ≤ 5 → Rules (with_column p x)
column-keeps p x s r room low high =
    let w = counts-within p r in
    let e = column-longer p x in
    grown p (with_column p x) e r (counts-fit _ _ _ _ (omega arith) w.exprs w.operators w.items)
    (λ i a b.
    subst (λ (n : ℕ). column_ok (with_column p x) n ≡ true) (eq-of_le_lt_add_one _ _ a b)
    (subst (λ (y : Record). (leb 1 y.code && leb y.code 5) ≡ true) (sym (new-column p x s room))
    (and_both _ _ (le-leb 1 x.code low) (le-leb x.code 5 high))))
    (λ i a b. absurd (not-le_of_lt b a))
    (λ i a b. absurd (not-le_of_lt b a))
    (λ c h. once-kept p (with_column p x) e r refl c)

pub item-keeps : (p : Plan) (x : Record) → Rules p → p.items.count < 2048 → Rules (with_item p x)
item-keeps p x r room =
    let w = counts-within p r in
    let e = item-longer p x in
    grown p (with_item p x) e r (counts-fit _ _ _ _ w.columns w.exprs w.operators (omega arith))
    (λ i a b. absurd (not-le_of_lt b a))
    (λ i a b. absurd (not-le_of_lt b a))
    (λ i a b. absurd (not-le_of_lt b a))
    (λ c h. once-kept p (with_item p x) e r refl c)

pub expr-keeps :
    (p : Plan) (x : Record) (st : ℕ) → Rules p → p.expressions.count < 1024 → expr_ok (with_expr p x st) p.expressions.count ≡ true
    → Rules (with_expr p x st)
expr-keeps p x st r room ok =
    let w = counts-within p r in
    let e = expr-longer p x st in
    grown p (with_expr p x st) e r (counts-fit _ _ _ _ w.columns (omega arith) w.operators w.items)
    (λ i a b. absurd (not-le_of_lt b a))
    (λ i a b. subst (λ (n : ℕ). expr_ok (with_expr p x st) n ≡ true) (eq-of_le_lt_add_one _ _ a b) ok)
    (λ i a b. absurd (not-le_of_lt b a))
    (λ c h. once-kept p (with_expr p x st) e r refl c)

pub operator-keeps :
    (p : Plan) (x : Record) (st : ℕ) → Rules p → p.operators.count < 128 → operator_ok (with_operator p x st) p.operators.count ≡ true
    → ((c : ℕ) → c < p.columns.count → scanned_once (with_operator p x st) c ≡ true) → Rules (with_operator p x st)
operator-keeps p x st r room ok once =
    let w = counts-within p r in
    let e = operator-longer p x st in
    grown p (with_operator p x st) e r (counts-fit _ _ _ _ w.columns w.exprs (omega arith) w.items)
    (λ i a b. absurd (not-le_of_lt b a))
    (λ i a b. absurd (not-le_of_lt b a))
    (λ i a b. subst (λ (n : ℕ). operator_ok (with_operator p x st) n ≡ true) (eq-of_le_lt_add_one _ _ a b) ok)
    once
