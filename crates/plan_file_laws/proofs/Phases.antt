-- Through every step of a reading the plan keeps the rules, but for the record whose list is being read. Assumes nothing.
use Prim.Native.Nat.{ℕ, suc, ◌+◌, ◌-◌, ◌≤◌, ◌<◌}
use mathlib.Core.Path.{◌≡◌, refl, sym, ap, ◌∙◌, subst}
use mathlib.Core.Bool.{true, ◌&&◌}
use mathlib.Core.Logic.{⊎_elim}
use native.Mathlib.Omega.{arith}
use native.Mathlib.Numerals.{add-one}
use native.Mathlib.Nat.{le_trans, not-le_of_lt}
use lib.Dec.{leb}
use borrow.Author.Tests.{leb-true, le-leb, lt-ltb, le-ltb, eq-eqb, ne_eqb}
use Rattle.laws.proofs.Bools.{and_left, and_right, and_both}
use Rattle.laws.proofs.Numbers.{eq-of_le_lt_add_one}
use Rattle.lists.proofs.RangeLaws.{below_or_not, all_of}
use Rattle.plan_kinds.specs.declared.Record.{Record}
use Rattle.plan_kinds.specs.Rows.{Row}
use Rattle.plan_kinds.specs.Rows.{row_of}
use Rattle.plan_kinds.specs.Records.{code_ok, bits_ok, handles_ok, count_of, more_of}
use Rattle.plan_kinds.proofs.Table.{column_codes_lem}
use Rattle.plan.specs.declared.Plan.{Plan}
use Rattle.plan.specs.Append.{with_column, with_expr, with_operator, with_item}
use Rattle.plan.specs.Records.{expr_record, expr_start, operator_record, operator_start, item_record}
use Rattle.plan.specs.Extends.{Extends, Sized}
use Rattle.plan.proofs.AppendLaws.{column-longer, expr-longer, operator-longer, item-longer, column-longer-sized, expr-longer-sized}
use Rattle.plan.proofs.AppendLaws.{operator-longer-sized, item-longer-sized, new-column, new-expr, new-expr-start, new-operator, new-operator-start}
use Rattle.plan.proofs.AppendLaws.{new-item}
use Rattle.plan_rules.specs.Rules.{record_ok, item_ok, lists_ok, column_ok, expr_ok_of, expr_ok, operator_ok_of, operator_ok, counts_within, counts_ok}
use Rattle.plan_rules.proofs.RuleLaws.{expr-kept, operator-kept}
use Rattle.plan_file.specs.declared.Wanted.{Wanted}
use Rattle.plan_file.specs.Steps.{kind_wanted, less_one, list_of}
use Rattle.plan_file.proofs.StepCases.{Wants}
use Rattle.plan_file_laws.specs.ListItems.{first_of, second_of, item_kind}
use Rattle.plan_file_laws.proofs.RowFacts.{item-row, expr-row, ColumnRow, column-row, no_bits, handles-part}
use Rattle.plan_file_laws.proofs.OpenLists.{Open, some_left, open_shut, open_kind, open_less, open_new}

-- ---- the counts
pub record Within (p : Plan) : Type 0 where
  pub columns : p.columns.count ≤ 64
  pub exprs : p.expressions.count ≤ 1024
  pub operators : p.operators.count ≤ 128
  pub items : p.items.count ≤ 2048

pub counts_of : (p : Plan) → Within p → counts_ok p ≡ true
unfolding counts_within
counts_of p w =
    and_both _ _ (le-leb _ 64 w.columns) (and_both _ _ (le-leb _ 1024 w.exprs) (and_both _ _ (le-leb _ 128 w.operators) (le-leb _ 2048 w.items)))

-- ---- the rules, but for the expressions from e on and the operators from o on
pub record RulesTo (p : Plan) (e o : ℕ) : Type 0 where
  pub sized : Sized p
  pub within : Within p
  pub column : (i : ℕ) → i < p.columns.count → column_ok p i ≡ true
  pub expr : (i : ℕ) → i < e → expr_ok p i ≡ true
  pub operator : (i : ℕ) → i < o → operator_ok p i ≡ true
  pub exprs : e ≤ p.expressions.count
  pub operators : o ≤ p.operators.count

-- a plan that grows keeps them
rules_grow :
    (p q : Plan) (e o : ℕ) → Extends p q → Sized q → Within q → ((i : ℕ) → p.columns.count ≤ i → i < q.columns.count → column_ok q i ≡ true)
    → RulesTo p e o → RulesTo q e o
rules_grow p q e o x s w c r =
    record {
      sized = s;
      within = w;
      column = λ i h. ⊎_elim (λ l. subst (λ (y : Record). (leb 1 y.code && leb y.code 5) ≡ true) (sym (x.column i l)) (r.column i l)) (λ g. c i g h)
          (below_or_not i p.columns.count);
      expr = λ i h. expr-kept p q x i (omega (arith, r.exprs)) (r.expr i h);
      operator = λ i h. operator-kept p q x i (omega (arith, r.operators)) (r.operator i h);
      exprs = le_trans r.exprs x.exprs;
      operators = le_trans r.operators x.operators;
    }

-- ---- the record whose list is read: it is right, and so are its items so far
pub record OpenAt (w : Wanted) (p : Plan) (sort : ℕ) (x : Record) (st nc ne np me mp : ℕ) : Type 0 where
  pub record_ok_lem : record_ok sort x nc ne np ≡ true
  pub list : Open w x st p.items.count
  pub so_far : (k : ℕ) → k < first_of x + second_of x → st + k < p.items.count → item_ok p.items.a p.items.b (item_kind x k) nc me mp (st + k) ≡ true

pub data Phase (w : Wanted) (p : Plan) : Type 0 where
  closed : w.left + w.more ≡ 0 → RulesTo p p.expressions.count p.operators.count → Phase w p
  open_expr :
      (i : ℕ) → p.expressions.count ≡ suc i → RulesTo p i p.operators.count
      → OpenAt w p 2 (expr_record p i) (expr_start p i) p.columns.count i p.operators.count (suc i) p.operators.count → Phase w p
  open_operator :
      (i : ℕ) → p.operators.count ≡ suc i → RulesTo p p.expressions.count i
      → OpenAt w p 3 (operator_record p i) (operator_start p i) p.columns.count p.expressions.count i p.expressions.count i → Phase w p

-- ---- where no item is wanted, the list is right
module _ (w : Wanted) (p : Plan) (sort : ℕ) (x : Record) (st nc ne np me mp : ℕ) (f : Wants w) (z : kind_wanted w ≡ 0)
    (o : OpenAt w p sort x st nc ne np me mp) where
  first_kind : (k : ℕ) → k < first_of x → item_kind x k ≡ (row_of x.kind).item
  first_kind k h = rw (lt-ltb k (first_of x) h)

  second-kind : (k : ℕ) → first_of x ≤ k → item_kind x k ≡ 0x40
  second-kind k h = rw (le-ltb k (first_of x) h)

  whole : st + (first_of x + second_of x) ≡ p.items.count
  whole = open_shut w x st p.items.count f z o.list

  item-at : (j v : ℕ) → st ≤ j → j < st + (first_of x + second_of x) → item_kind x (j - st) ≡ v → item_ok p.items.a p.items.b v nc me mp j ≡ true
  item-at j v lo hi e =
      let n : st + (j - st) ≡ j = omega arith in
      subst (λ (u : ℕ). item_ok p.items.a p.items.b u nc me mp j ≡ true) e
      (subst (λ (u : ℕ). item_ok p.items.a p.items.b (item_kind x (j - st)) nc me mp u ≡ true) n
      (o.so_far (j - st) (omega arith) (omega (arith, whole))))

  shut-lists : lists_ok p.items.a p.items.b p.items.count x st nc me mp ≡ true
  unfolding lists_ok
  shut-lists =
      and_both _ _ (le-leb (st + (first_of x + second_of x)) p.items.count (omega (arith, whole)))
      (and_both _ _
      (all_of (item_ok p.items.a p.items.b (row_of x.kind).item nc me mp) (first_of x) st
      (λ j lo hi. item-at j (row_of x.kind).item lo (omega arith) (first_kind (j - st) (omega arith))))
      (all_of (item_ok p.items.a p.items.b 0x40 nc me mp) (second_of x) (st + first_of x)
      (λ j lo hi. item-at j 0x40 (omega arith) (omega arith) (second-kind (j - st) (omega arith)))))

-- one right entry more
upto : (P : ℕ → Type 0) (n i : ℕ) → n ≡ suc i → ((j : ℕ) → j < i → P j) → P i → (j : ℕ) → j < n → P j
upto P n i e old new j h =
    ⊎_elim (λ l. old j l) (λ g. let q : i ≡ j = omega arith in subst P q new) (below_or_not j i)

-- Where no item is wanted, every record is right. Assumes nothing.
pub shut : (w : Wanted) (p : Plan) → Wants w → kind_wanted w ≡ 0 → Phase w p → RulesTo p p.expressions.count p.operators.count
unfolding expr_ok_of operator_ok_of
shut w p f z (closed n r) = r
shut w p f z (open_expr i e r o) =
    record {
      sized = r.sized;
      within = r.within;
      column = r.column;
      expr = upto (λ (j : ℕ). expr_ok p j ≡ true) _ i e r.expr
          (and_both _ _ o.record_ok_lem (shut-lists w p 2 (expr_record p i) (expr_start p i) _ _ _ _ _ f z o));
      operator = r.operator;
      exprs = omega arith;
      operators = r.operators;
    }
shut w p f z (open_operator i e r o) =
    record {
      sized = r.sized;
      within = r.within;
      column = r.column;
      expr = r.expr;
      operator = upto (λ (j : ℕ). operator_ok p j ≡ true) _ i e r.operator
          (and_both _ _ o.record_ok_lem (shut-lists w p 3 (operator_record p i) (operator_start p i) _ _ _ _ _ f z o));
      exprs = r.exprs;
      operators = omega arith;
    }

-- ---- the parts of a record that the tables keep
abbrev pub expr_part : Record → Record
expr_part x = record { kind = x.kind; code = x.code; a = x.a; b = x.b; c = 0; d = 0; bits = x.bits }

abbrev pub operator_part : Record → Record
operator_part x = record { kind = x.kind; code = x.code; a = x.a; b = x.b; c = x.c; d = x.d; bits = 0 }

abbrev pub item_part : Record → Record
item_part x = record { kind = 0; code = 0; a = x.a; b = x.b; c = 0; d = 0; bits = 0 }

-- they have the same lists
first-same : (r : Row) (x y : Record) → y.a ≡ x.a → y.b ≡ x.b → count_of r y ≡ count_of r x
unfolding count_of
first-same r x y a b = rw (a, b)

second_none : (r : Row) (x : Record) → r.c ≡ 0 → more_of r x ≡ 0
unfolding more_of
second_none r x e = rw e

second-same : (r : Row) (x y : Record) → y.c ≡ x.c → more_of r y ≡ more_of r x
unfolding more_of
second-same r x y c = rw c

-- a column has no list
pub no_list : (r : Row) (x : Record) → ColumnRow r → count_of r x + more_of r x ≡ 0
unfolding count_of more_of
no_list r x c = rw (ne_eqb r.a 6 c.a, ne_eqb r.b 6 c.b, ne_eqb r.c 6 c.c)

-- ---- what held of a record that is taken
pub record Right (x : Record) (nc ne np : ℕ) : Type 0 where
  pub code : code_ok (row_of x.kind) x ≡ true
  pub bits : bits_ok (row_of x.kind) x ≡ true
  pub handles : handles_ok (row_of x.kind) x nc ne np ≡ true

pub bits-ok-zero : (r : Row) (x : Record) → r.bits ≡ 0 → x.bits ≡ 0 → bits_ok r x ≡ true
unfolding bits_ok
bits-ok-zero r x e f = rw (e, f)

expr-right : (x : Record) (nc ne np : ℕ) → (row_of x.kind).sort ≡ 2 → Right x nc ne np → record_ok 2 (expr_part x) nc ne np ≡ true
unfolding record_ok bits_ok
expr-right x nc ne np s r =
    and_both _ _ (eq-eqb (row_of x.kind).sort 2 s)
    (and_both _ _ r.code
    (and_both _ _ r.bits (handles-part (row_of x.kind) x (expr_part x) nc ne np np (expr-row x.kind s) refl refl refl refl r.handles)))

operator-right : (x : Record) (nc ne np : ℕ) → (row_of x.kind).sort ≡ 3 → Right x nc ne np → record_ok 3 (operator_part x) nc ne np ≡ true
unfolding record_ok
operator-right x nc ne np s r =
    and_both _ _ (eq-eqb (row_of x.kind).sort 3 s)
    (and_both _ _ r.code (and_both _ _ (bits-ok-zero (row_of x.kind) (operator_part x) (no_bits x.kind (λ e. omega arith)) refl) r.handles))

column-right : (x : Record) → (row_of x.kind).sort ≡ 1 → code_ok (row_of x.kind) x ≡ true → (1 ≤ x.code) × (x.code ≤ 5)
column-right x s c =
    let l = column_codes_lem x.kind s in
    let lo : (row_of x.kind).low ≤ x.code = leb-true _ _ (and_left _ _ c) in
    let hi : x.code ≤ (row_of x.kind).high = leb-true _ _ (and_right (leb (row_of x.kind).low x.code) _ c) in
    (omega (arith, l.0), omega (arith, l.1))

-- ---- the four ways
-- the list of a new record, as the table has it
pub expr_open :
    (p : Plan) (x : Record) → Sized p → p.expressions.count < 1024 → (row_of x.kind).sort ≡ 2
    → Open (list_of (row_of x.kind) x) (expr_record (with_expr p x p.items.count) p.expressions.count)
    (expr_start (with_expr p x p.items.count) p.expressions.count) p.items.count
expr_open p x z h s =
    subst (λ (st : ℕ). Open (list_of (row_of x.kind) x) (expr_record (with_expr p x p.items.count) p.expressions.count) st p.items.count)
    (sym (new-expr-start p x p.items.count z h))
    (subst (λ (y : Record). Open (list_of (row_of x.kind) x) y p.items.count p.items.count) (sym (new-expr p x p.items.count z h))
    (open_new x (expr_part x) p.items.count refl (first-same (row_of x.kind) x (expr_part x) refl refl)
    (second_none (row_of x.kind) (expr_part x) (expr-row x.kind s).c ∙ sym (second_none (row_of x.kind) x (expr-row x.kind s).c))))

pub operator_open :
    (p : Plan) (x : Record) → Sized p → p.operators.count < 128
    → Open (list_of (row_of x.kind) x) (operator_record (with_operator p x p.items.count) p.operators.count)
    (operator_start (with_operator p x p.items.count) p.operators.count) p.items.count
operator_open p x z h =
    subst (λ (st : ℕ). Open (list_of (row_of x.kind) x) (operator_record (with_operator p x p.items.count) p.operators.count) st p.items.count)
    (sym (new-operator-start p x p.items.count z h))
    (subst (λ (y : Record). Open (list_of (row_of x.kind) x) y p.items.count p.items.count) (sym (new-operator p x p.items.count z h))
    (open_new x (operator_part x) p.items.count refl (first-same (row_of x.kind) x (operator_part x) refl refl)
    (second-same (row_of x.kind) x (operator_part x) refl)))

none_yet : (st n k : ℕ) → st ≡ n → st + k < n → ⊥
none_yet st n k e h = omega arith

module _ (p : Plan) (x : Record) (r : RulesTo p p.expressions.count p.operators.count) where
  pub phase-column : p.columns.count < 64 → (row_of x.kind).sort ≡ 1 → code_ok (row_of x.kind) x ≡ true → Phase (list_of (row_of x.kind) x)
      (with_column p x)
  phase-column h s c =
      let k = column-right x s c in
      let v = r.within in
      closed (no_list (row_of x.kind) x (column-row x.kind s))
      (rules_grow p (with_column p x) _ _ (column-longer p x) (column-longer-sized p x r.sized)
      (record { columns = omega arith; exprs = v.exprs; operators = v.operators; items = v.items })
      (λ i a b.
      subst (λ (n : ℕ). column_ok (with_column p x) n ≡ true) (eq-of_le_lt_add_one _ _ a b)
      (subst (λ (y : Record). (leb 1 y.code && leb y.code 5) ≡ true) (sym (new-column p x r.sized h))
      (and_both _ _ (le-leb 1 x.code k.0) (le-leb x.code 5 k.1))))
      r)

  pub phase-expr :
      p.expressions.count < 1024 → (row_of x.kind).sort ≡ 2 → Right x p.columns.count p.expressions.count p.operators.count
      → Phase (list_of (row_of x.kind) x) (with_expr p x p.items.count)
  phase-expr h s g =
      let v = r.within in
      let q = with_expr p x p.items.count in
      open_expr p.expressions.count (add-one _)
      (rules_grow p q _ _ (expr-longer p x p.items.count) (expr-longer-sized p x p.items.count r.sized)
      (record { columns = v.columns; exprs = omega arith; operators = v.operators; items = v.items })
      (λ i a b. absurd (not-le_of_lt b a)) r)
      (record {
        record_ok_lem = subst (λ (y : Record). record_ok 2 y p.columns.count p.expressions.count p.operators.count ≡ true)
            (sym (new-expr p x p.items.count r.sized h)) (expr-right x _ _ _ s g);
        list = expr_open p x r.sized h s;
        so_far = λ k a b. absurd (none_yet _ _ k (new-expr-start p x p.items.count r.sized h) b);
      })

  pub phase-operator :
      p.operators.count < 128 → (row_of x.kind).sort ≡ 3 → Right x p.columns.count p.expressions.count p.operators.count
      → Phase (list_of (row_of x.kind) x) (with_operator p x p.items.count)
  phase-operator h s g =
      let v = r.within in
      let q = with_operator p x p.items.count in
      open_operator p.operators.count (add-one _)
      (rules_grow p q _ _ (operator-longer p x p.items.count) (operator-longer-sized p x p.items.count r.sized)
      (record { columns = v.columns; exprs = v.exprs; operators = omega arith; items = v.items })
      (λ i a b. absurd (not-le_of_lt b a)) r)
      (record {
        record_ok_lem = subst (λ (y : Record). record_ok 3 y p.columns.count p.expressions.count p.operators.count ≡ true)
            (sym (new-operator p x p.items.count r.sized h)) (operator-right x _ _ _ s g);
        list = operator_open p x r.sized h;
        so_far = λ k a b. absurd (none_yet _ _ k (new-operator-start p x p.items.count r.sized h) b);
      })

-- one item more in the list that is read
module _ (w : Wanted) (p : Plan) (x : Record) (s : Sized p) (room : p.items.count < 2048) (z : kind_wanted w ≡ 0 → ⊥) where
  open_item :
      (sort : ℕ) (y : Record) (st nc ne np me mp : ℕ) → handles_ok (row_of (kind_wanted w)) (item_part x) nc me mp ≡ true
      → OpenAt w p sort y st nc ne np me mp → OpenAt (less_one w) (with_item p x) sort y st nc ne np me mp
  unfolding item_ok
  open_item sort y st nc ne np me mp g o =
      record {
        record_ok_lem = o.record_ok_lem;
        list = open_less w y st p.items.count z o.list;
        so_far = λ k a b. ⊎_elim
            (λ l. subst (λ (u : Record). handles_ok (row_of (item_kind y k)) u nc me mp ≡ true) (sym ((item-longer p x).item (st + k) l)) (o.so_far k a l))
            (λ l.
            let n : p.items.count ≡ st + k = omega arith in
            let m : p.items.count - st ≡ k = omega arith in
            let e : kind_wanted w ≡ item_kind y k = sym (open_kind w y st p.items.count z o.list) ∙ ap (item_kind y) m in
            subst (λ (j : ℕ). handles_ok (row_of (item_kind y k)) (item_record (with_item p x) j) nc me mp ≡ true) n
            (subst (λ (u : Record). handles_ok (row_of (item_kind y k)) u nc me mp ≡ true) (sym (new-item p x s room))
            (subst (λ (v : ℕ). handles_ok (row_of v) (item_part x) nc me mp ≡ true) e g)))
            (below_or_not (st + k) p.items.count);
      }

  grow_item : (e o : ℕ) → RulesTo p e o → RulesTo (with_item p x) e o
  grow_item e o r =
      let v = r.within in
      rules_grow p (with_item p x) e o (item-longer p x) (item-longer-sized p x s)
      (record { columns = v.columns; exprs = v.exprs; operators = v.operators; items = omega arith })
      (λ i a b. absurd (not-le_of_lt b a)) r

  pub phase-item :
      (row_of x.kind).sort ≡ 4 → x.kind ≡ kind_wanted w → handles_ok (row_of x.kind) x p.columns.count p.expressions.count p.operators.count
      ≡ true
      → Phase w p → Phase (less_one w) (with_item p x)
  phase-item t k g (closed n r) = absurd (let l = some_left w z in omega arith)
  phase-item t k g (open_expr i e r o) =
      open_expr i e (grow_item _ _ r)
      (open_item 2 (expr_record p i) (expr_start p i) _ _ _ _ _
      (subst (λ (m : ℕ). handles_ok (row_of (kind_wanted w)) (item_part x) p.columns.count m p.operators.count ≡ true) e (right p.operators.count)) o)
    where
      right : (mp : ℕ) → handles_ok (row_of (kind_wanted w)) (item_part x) p.columns.count p.expressions.count mp ≡ true
      right mp = subst (λ (v : ℕ). handles_ok (row_of v) (item_part x) p.columns.count p.expressions.count mp ≡ true) k
          (handles-part (row_of x.kind) x (item_part x) _ _ _ mp (item-row x.kind t) refl refl refl refl g)
  phase-item t k g (open_operator i e r o) =
      open_operator i e (grow_item _ _ r)
      (open_item 3 (operator_record p i) (operator_start p i) _ _ _ _ _
      (subst (λ (v : ℕ). handles_ok (row_of v) (item_part x) p.columns.count p.expressions.count i ≡ true) k
      (handles-part (row_of x.kind) x (item_part x) _ _ _ i (item-row x.kind t) refl refl refl refl g)) o)
