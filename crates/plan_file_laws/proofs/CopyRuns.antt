-- The records of a plan are taken one after the other, and lead to a copy of it: column by column, expression by expression, operator by operator.
-- Assumes nothing.
use Prim.Native.Nat.{ℕ, zero, suc, ◌+◌, ◌-◌, ◌≤◌, ◌<◌}
use mathlib.Core.Path.{◌≡◌, refl, sym, ap, ◌∙◌, subst}
use mathlib.Core.Bool.{Bool, true, false, ◌&&◌, not}
use mathlib.Core.List.{List, [], ◌∷◌, ◌++◌, append_assoc}
use mathlib.Core.Logic.{◌⊎◌, inl, inr, ⊎_elim}
use native.Mathlib.Omega.{arith}
use native.Mathlib.Decide.{ℕ_discrete}
use native.Mathlib.Nat.{suc-add, zero-add}
use lib.Dec.{leb, eqb}
use lib.ListN.{get_or}
use borrow.Author.Tests.{eq-eqb}
use Rattle.laws.proofs.Numbers.{all-below-suc}
use Rattle.lists.proofs.RangeLaws.{below_or_not}
use Rattle.plan_kinds.specs.declared.Record.{Record}
use Rattle.plan_kinds.specs.Rows.{row_of}
use Rattle.plan.specs.declared.Plan.{Plan}
use Rattle.plan.specs.Plans.{empty_plan}
use Rattle.plan.specs.Append.{with_column, with_expr, with_operator}
use Rattle.plan.specs.Records.{column_record, expr_record, expr_start, operator_record, operator_start, item_record}
use Rattle.plan.specs.Extends.{Sized}
use Rattle.plan.proofs.AppendLaws.{column-longer, expr-longer, operator-longer, new-column, new-expr, new-expr-start, new-operator, new-operator-start}
use Rattle.plan_file.specs.State.{State}
use Rattle.plan_file.specs.Steps.{kind_wanted, list_of, start_state}
use Rattle.plan_file.proofs.StepCases.{a_column, an_expr, an_operator, next_of}
use Rattle.plan_file_laws.specs.ListItems.{item_kind, ScanHas}
use Rattle.plan_file_laws.specs.PlanRecords.{item_of, with_items, columns_to, exprs_to, operators_to, plan_records}
use Rattle.plan_file_laws.proofs.RowFacts.{column-row, expr-row, handles-part}
use Rattle.plan_file_laws.proofs.OpenLists.{kind-none}
use Rattle.plan_file_laws.proofs.Phases.{Right, no_list}
use Rattle.plan_file_laws.proofs.Marks.{scan-whole, scan-first, scan-second, scan-sort}
use Rattle.plan_file_laws.proofs.RulesRead.{Takes, rules_in, suc-of-ne-zero}
use Rattle.plan_file_laws.proofs.Sequences.{Reads, begin, next, kept-reads}
use Rattle.plan_file_laws.proofs.Parts.{append-nil}
use Rattle.plan_file_laws.proofs.Copies.{total_of, at-start, kind-end, Copy, copy_grow, Rest, Mid, Going, item-right, right-at, mid_run}
use Rattle.plan_file_laws.proofs.Copies.{Source, items_to, expr_items, operator_items, list-item, expr-parts, operator-parts, head-once}
use Rattle.plan_file_laws.proofs.Copies.{other-once, column-sort, column-right}

-- the arrays of a plan that was read have their sizes
sized : (xs : List Record) (q : State) → Reads xs q → Sized q.plan
sized xs q r = (rules_in q.wanted q.plan (kept-reads xs q r).phase).0

-- ---- columns
-- a copy with columns alone
columns_only : (p r : Plan) (c : ℕ) → ((i : ℕ) → i < c → column_record r i ≡ column_record p i) → Copy p r c 0 0
columns_only p r c f =
    record {
      column = f;
      expr = λ j u. absurd (omega arith);
      expr-start = λ j u. absurd (omega arith);
      expr-items = λ j u. absurd (omega arith);
      expr-whole = λ j u. absurd (omega arith);
      operator = λ j u. absurd (omega arith);
      operator-start = λ j u. absurd (omega arith);
      operator-items = λ j u. absurd (omega arith);
      operator-whole = λ j u. absurd (omega arith);
    }

column-next :
    (p : Plan) (xs : List Record) (q : State) (i : ℕ) → i < 64 → (leb 1 (column_record p i).code && leb (column_record p i).code 5) ≡ true
    → Rest p xs q i 0 0 0 → (t : State) × Rest p (xs ++ (column_record p i ∷ [])) t (suc i) 0 0 0
column-next p xs q i h ok d =
    let x = column_record p i in
    let r = q.plan in
    let e = column-longer q.plan x in
    let l : q.plan.columns.count < 64 = omega (arith, d.columns) in
    let t = next_of q x (list_of (row_of 0x01) x) q.scans (with_column q.plan x) in
    let k : Takes q x t = record {
      right = column-right p i _ _ _ ok;
      once = head-once (row_of 0x01) x q.wanted q.scans q.plan.operators.count
          (λ u. omega (arith, column-sort));
      way = a_column column-sort l d.nothing;
    } in
    let n = no_list (row_of 0x01) x (column-row 0x01 column-sort) in (
      t,
      record {
        reads = next x t d.reads k;
        nothing = kind-none (list_of (row_of 0x01) x) (omega arith) (omega arith);
        columns = omega (arith, d.columns);
        exprs = d.exprs;
        operators = d.operators;
        items = d.items;
        copy = columns_only p (with_column q.plan x) (suc i)
            (all-below-suc (λ (j : ℕ). column_record (with_column q.plan x) j ≡ column_record p j) i
            (λ j u. e.column j (omega (arith, d.columns)) ∙ d.copy.column j u)
            (ap (column_record (with_column q.plan x)) (sym d.columns) ∙ new-column q.plan x (sized xs q d.reads) l));
      },
    )

start-rest : (p : Plan) → Rest p [] start_state 0 0 0 0
unfolding start_state empty_plan kind_wanted
start-rest p =
    record {
      reads = begin;
      nothing = refl;
      columns = refl;
      exprs = refl;
      operators = refl;
      items = refl;
      copy = columns_only p empty_plan 0 (λ j u. absurd (omega arith));
    }

-- the items of more records are more
items_more : (f : ℕ → Record) (n d : ℕ) → items_to f n ≤ items_to f (d + n)
unfolding items_to
items_more f n zero = omega (arith, ap (items_to f) (zero-add n))
items_more f n (suc d) = omega (arith, items_more f n d, ap (items_to f) (suc-add d n))

items-to : (f : ℕ → Record) (n m : ℕ) → n < m → items_to f n + total_of (f n) ≤ items_to f m
unfolding items_to
items-to f n m h =
    let e : m - suc n + suc n ≡ m = omega arith in
    omega (arith, items_more f (suc n) (m - suc n), ap (items_to f) e)

module _ (p : Plan) (s : Source p) where
  columns-run : (n : ℕ) → n ≤ p.columns.count → (q : State) × Rest p (columns_to p n) q n 0 0 0
  unfolding columns_to
  columns-run zero h = (start_state, start-rest p)
  columns-run (suc n) h =
      let v = columns-run n (omega arith) in
      column-next p (columns_to p n) v.0 n (omega (arith, s.rules.within.columns)) (s.rules.column n (omega arith)) v.1

  -- ---- an expression and its items
  abbrev ExprHead : ℕ → ℕ → Plan → Type 0
  ExprHead n k r = (expr_record r n ≡ expr_record p n) × (expr_start r n ≡ k)

  expr_mid :
      (xs : List Record) (q : State) (n k : ℕ) → n < p.expressions.count → Rest p xs q p.columns.count n 0 k
      → (t : State) × Mid (ExprHead n k) p (xs ++ (expr_record p n ∷ [])) t p.columns.count n 0 (suc n) 0 k (expr_record p n) (expr_start p n) 0
  expr_mid xs q n k h d =
      let x = expr_record p n in
      let g = (expr-parts p n (s.rules.expr n h)).0 in
      let e = expr-longer q.plan x q.plan.items.count in
      let u = with_expr q.plan x q.plan.items.count in
      let l : q.plan.expressions.count < 1024 = omega (arith, d.exprs, s.rules.within.exprs) in
      let z = sized xs q d.reads in
      let t = next_of q x (list_of (row_of x.kind) x) q.scans u in
      let right : Right x p.columns.count n 0 =
      record {
        code = g.code;
        bits = g.bits;
        handles = handles-part (row_of x.kind) x x _ _ _ 0 (expr-row x.kind g.sort-is) refl refl refl refl
            g.handles;
      } in
      let k2 : Takes q x t =
      record {
        right = right-at x _ _ _ p.columns.count n 0 d.columns d.exprs d.operators right;
        once = head-once (row_of x.kind) x q.wanted q.scans q.plan.operators.count (λ v. omega (arith, g.sort-is));
        way = an_expr g.sort-is l d.nothing;
      } in (
        t,
        record {
          reads = next x t d.reads k2;
          wanted = at-start x;
          columns = d.columns;
          exprs = omega (arith, d.exprs);
          operators = d.operators;
          items = omega (arith, d.items);
          copy = copy_grow p q.plan u _ n 0 e (omega (arith, d.columns)) (omega (arith, d.exprs)) (omega arith) d.copy;
          so_far = λ j v. absurd (omega arith);
          head = (
            ap (expr_record u) (sym d.exprs) ∙ new-expr q.plan x q.plan.items.count z l,
            ap (expr_start u) (sym d.exprs) ∙ new-expr-start
                q.plan x q.plan.items.count z l ∙ d.items,
          );
        },
      )

  expr-going : (n k : ℕ) → n < p.expressions.count → k + total_of (expr_record p n) ≤ 2048 → Going (ExprHead n k) p p.columns.count n 0 (suc n) 0 k
      (expr_record p n) (expr_start p n)
  expr-going n k h room =
      let g = expr-parts p n (s.rules.expr n h) in
      record {
        grows = λ r y v. v;
        exprs = omega arith;
        operators = omega arith;
        room = room;
        right = λ m l. item-right p (expr_record p n) (expr_start p n) m _ (suc n) p.operators.count 0 l
            (list-item p (expr_record p n) (expr_start p n) _ _ _ g.1 m l);
        once = λ m l xs q d. other-once (row_of (item_kind (expr_record p n) m)) (item_of p (expr_record p n) (expr_start p n) m) (expr_record p n) m q.wanted
            q.scans q.plan.operators.count d.wanted
            (λ e. no_scan (expr_record p n).kind e g.0.sort-is);
      }
    where
      no_scan : (v : ℕ) → v ≡ 0x30 → (row_of v).sort ≡ 2 → ⊥
      no_scan v e f = let z : ◌≡◌ {A = ℕ} 3 2 = sym scan-sort ∙ ap (λ (w : ℕ). (row_of w).sort) (sym e) ∙ f in omega arith

  expr_close :
      (xs : List Record) (q : State) (n k : ℕ) → k ≡ expr_items p n → Mid (ExprHead n k) p xs q p.columns.count n 0 (suc n) 0 k (expr_record p n)
      (expr_start p n) (total_of (expr_record p n))
      → Rest p xs q p.columns.count (suc n) 0 (k + total_of (expr_record p n))
  expr_close xs q n k ek d =
      record {
        reads = d.reads;
        nothing = ap kind_wanted d.wanted ∙ kind-end (expr_record p n);
        columns = d.columns;
        exprs = d.exprs;
        operators = d.operators;
        items = d.items;
        copy = record {
          column = d.copy.column;
          expr = all-below-suc (λ (j : ℕ). expr_record q.plan j ≡ expr_record p j) n d.copy.expr d.head.0;
          expr-start = all-below-suc (λ (j : ℕ). expr_start q.plan j ≡ expr_items p j) n d.copy.expr-start (d.head.1 ∙ ek);
          expr-items = all-below-suc (λ (j : ℕ). (m : ℕ) → m < total_of (expr_record p j) → item_record q.plan (expr_start q.plan j + m) ≡ item_record p
              (expr_start p j + m)) n d.copy.expr-items
              (λ m l. ap (λ (v : ℕ). item_record q.plan (v + m)) d.head.1 ∙ d.so_far m l);
          expr-whole = all-below-suc (λ (j : ℕ). expr_start q.plan j + total_of (expr_record p j) ≤ q.plan.items.count) n d.copy.expr-whole
              (omega (arith, d.head.1, d.items));
          operator = d.copy.operator;
          operator-start = d.copy.operator-start;
          operator-items = d.copy.operator-items;
          operator-whole = d.copy.operator-whole;
        };
      }

  expr-next :
      (xs : List Record) (q : State) (n k : ℕ) → k ≡ expr_items p n → n < p.expressions.count → k + total_of (expr_record p n) ≤ 2048 → Rest p xs q
      p.columns.count n 0 k
      → (t : State) × Rest p (xs ++ with_items p (expr_record p n) (expr_start p n)) t p.columns.count (suc n) 0 (k + total_of (expr_record p n))
  expr-next xs q n k ek h room d =
      let u = expr_mid xs q n k h d in
      let v = mid_run (ExprHead n k) p xs u.0 _ n 0 (suc n) 0 k (expr_record p n) (expr_start p n) (expr-going n k h room) u.1 (total_of (expr_record p n))
      (omega arith) in
      (v.0, expr_close _ v.0 n k ek v.1)

  exprs-run : (n : ℕ) → n ≤ p.expressions.count → (q : State) × Rest p (columns_to p p.columns.count ++ exprs_to p n) q p.columns.count n 0
      (expr_items p n)
  unfolding exprs_to items_to
  exprs-run zero h =
      let v = columns-run p.columns.count (omega arith) in
      (v.0, subst (λ (xs : List Record). Rest p xs v.0 p.columns.count 0 0 0) (sym (append-nil (columns_to p p.columns.count))) v.1)
  exprs-run (suc n) h =
      let v = exprs-run n (omega arith) in
      let cs = columns_to p p.columns.count in
      let w = expr-next (cs ++ exprs_to p n) v.0 n (expr_items p n) refl h (omega (arith, s.room, items-to (expr_record p) n p.expressions.count h))
      v.1 in (
        w.0,
        subst (λ (xs : List Record). Rest p xs w.0 p.columns.count (suc n) 0 (expr_items p n + total_of (expr_record p n)))
            (append_assoc cs (exprs_to p n) (with_items p (expr_record p n) (expr_start p n))) w.1,
      )

  -- ---- an operator and its items
  abbrev OperatorHead : ℕ → ℕ → Plan → Type 0
  OperatorHead n k r = (operator_record r n ≡ operator_record p n) × (operator_start r n ≡ k)

  abbrev OperatorMid : List Record → State → ℕ → ℕ → ℕ → Type 0
  OperatorMid xs q n k m = Mid (OperatorHead n k) p xs q p.columns.count p.expressions.count n p.expressions.count (suc n) k (operator_record p n)
      (operator_start p n) m

  operator_mid :
      (xs : List Record) (q : State) (n k : ℕ) → n < p.operators.count → Rest p xs q p.columns.count p.expressions.count n k
      → (t : State) × OperatorMid (xs ++ (operator_record p n ∷ [])) t n k 0
  operator_mid xs q n k h d =
      let x = operator_record p n in
      let g = (operator-parts p n (s.rules.operator n h)).0 in
      let e = operator-longer q.plan x q.plan.items.count in
      let u = with_operator q.plan x q.plan.items.count in
      let l : q.plan.operators.count < 128 = omega (arith, d.operators, s.rules.within.operators) in
      let z = sized xs q d.reads in
      let t = next_of q x (list_of (row_of x.kind) x) q.scans u in
      let right : Right x p.columns.count p.expressions.count n = record { code = g.code; bits = g.bits; handles = g.handles } in
      let k2 : Takes q x t =
      record {
        right = right-at x _ _ _ p.columns.count p.expressions.count n d.columns d.exprs d.operators right;
        once = head-once (row_of x.kind) x q.wanted q.scans q.plan.operators.count (λ v. omega (arith, g.sort-is));
        way = an_operator g.sort-is l d.nothing;
      } in (
        t,
        record {
          reads = next x t d.reads k2;
          wanted = at-start x;
          columns = d.columns;
          exprs = d.exprs;
          operators = omega (arith, d.operators);
          items = omega (arith, d.items);
          copy = copy_grow p q.plan u _ p.expressions.count n e (omega (arith, d.columns)) (omega (arith, d.exprs)) (omega (arith, d.operators))
              d.copy;
          so_far = λ j v. absurd (omega arith);
          head = (
            ap (operator_record u) (sym d.operators) ∙ new-operator q.plan x q.plan.items.count z l,
            ap (operator_start u) (sym d.operators)
                ∙ new-operator-start q.plan x q.plan.items.count z l ∙ d.items,
          );
        },
      )

  -- a Scan of the copy is one of the plan
  scan-back : (r : Plan) (e o i c : ℕ) → Copy p r p.columns.count e o → i < o → o ≤ p.operators.count → ScanHas r i c → ScanHas p i c
  scan-back r e o i c y l ho h =
      let w = y.operator i l in
      let x = operator_record p i in
      let k : (operator_record p i).kind ≡ 0x30 = sym (ap (λ (v : Record). v.kind) w) ∙ h.scan in
      let b : (operator_record r i).b ≡ (operator_record p i).b = ap (λ (v : Record). v.b) w in
      let j = h.place - operator_start r i in
      let n : operator_start r i + (h.place - operator_start r i) ≡ h.place = omega (arith, h.from) in
      let small : h.place - operator_start r i < (operator_record p i).b = omega (arith, h.from, h.inside) in
      let m : h.place - operator_start r i < total_of x = omega (arith, scan-first x k, scan-second x k) in
      let it : get_or p.items.a (operator_start p i + j) 0 ≡ c =
      sym (ap (λ (v : Record). v.a) (y.operator-items i l j m)) ∙ ap (λ (v : ℕ). get_or r.items.a v 0) n ∙ h.item in
      record {
        there = omega arith;
        scan = k;
        place = operator_start p i + j;
        from = omega arith;
        inside = omega arith;
        read = omega (arith, scan-whole p i k (s.rules.operator i (omega arith)));
        item = it;
      }

  scan-own : (n m : ℕ) → n < p.operators.count → (operator_record p n).kind ≡ 0x30 → m < total_of (operator_record p n) → ScanHas p n
      (item_record p (operator_start p n + m)).a
  scan-own n m h k l =
      let x = operator_record p n in
      let b : m < (operator_record p n).b = omega (arith, scan-first x k, scan-second x k) in
      record {
        there = h;
        scan = k;
        place = operator_start p n + m;
        from = omega arith;
        inside = omega arith;
        read = omega (arith, scan-whole p n k (s.rules.operator n h));
        item = refl;
      }

  -- so the column of its next item is marked by no other Scan
  scan-once :
      (xs : List Record) (q : State) (n k m : ℕ) → n < p.operators.count → (operator_record p n).kind ≡ 0x30 → m < total_of (operator_record p n) → OperatorMid
      xs q n k m
      → (c : ℕ) → c ≡ (item_record p (operator_start p n + m)).a → (get_or q.scans c 0 ≡ 0) ⊎ (get_or q.scans c 0 ≡ q.plan.operators.count)
  scan-once xs q n k m h z l d c e =
      elim (ℕ_discrete (get_or q.scans c 0) 0) [
        | yes o ↦ inl o
        | no o ↦ (let v : get_or q.scans c 0 ≡ suc (get_or q.scans c 0 - 1) = suc-of-ne-zero (get_or q.scans c 0) o in
            let i = get_or q.scans c 0 - 1 in
            let w = (kept-reads xs q d.reads).marks.sound i c v in
            inr (⊎_elim
            (λ u.
            let a = scan-back q.plan p.expressions.count n i c d.copy u (omega arith) w in
            let b = subst (λ (j : ℕ). ScanHas p n j) (sym e) (scan-own n m h z l) in
            let f = s.unique i n c a b in
            absurd (omega arith))
            (λ u. v ∙ last_one i n q.plan.operators.count u w.there d.operators)
            (below_or_not i n)))
      ]
    where
      last_one : (i n t : ℕ) → n ≤ i → i < t → t ≡ suc n → suc i ≡ t
      last_one i n t a b e = omega arith

  operator-going :
      (n k : ℕ) → n < p.operators.count → k + total_of (operator_record p n) ≤ 2048
      → Going (OperatorHead n k) p p.columns.count p.expressions.count n p.expressions.count (suc n) k (operator_record p n) (operator_start p n)
  operator-going n k h room =
      let g = operator-parts p n (s.rules.operator n h) in
      record {
        grows = λ r y v. v;
        exprs = omega arith;
        operators = omega arith;
        room = room;
        right = λ m l. item-right p (operator_record p n) (operator_start p n) m _ p.expressions.count n (suc n) l
            (list-item p (operator_record p n) (operator_start p n) _ _ _ g.1 m l);
        once = λ m l xs q d. elim (ℕ_discrete (operator_record p n).kind 0x30) [
          | no z ↦ other-once (row_of (item_kind (operator_record p n) m)) (item_of p (operator_record p n) (operator_start p n) m) (operator_record p n) m
              q.wanted q.scans q.plan.operators.count d.wanted z
          | yes z ↦ free (eqb (row_of (item_kind (operator_record p n) m)).sort 4) q.wanted.scan
              (get_or q.scans (item_record p (operator_start p n + m)).a 0) q.plan.operators.count
              (scan-once xs q n k m h z l d (item_record p (operator_start p n + m)).a refl)
        ];
      }
    where
      and-false : (a : Bool) → (a && false) ≡ false
      and-false true = refl
      and-false false = refl

      free-zero : (a b : Bool) (m np : ℕ) → m ≡ 0 → (((a && b) && not (eqb m 0)) && not (eqb m np)) ≡ false
      free-zero a b m np e = rw (eq-eqb m 0 e, and-false (a && b))

      free_own : (a b : Bool) (m np : ℕ) → m ≡ np → (((a && b) && not (eqb m 0)) && not (eqb m np)) ≡ false
      free_own a b m np e = rw (eq-eqb m np e) (and-false ((a && b) && not (eqb m 0)))

      free : (a b : Bool) (m np : ℕ) → (m ≡ 0) ⊎ (m ≡ np) → (((a && b) && not (eqb m 0)) && not (eqb m np)) ≡ false
      free a b m np o = ⊎_elim (λ e. free-zero a b m np e) (λ e. free_own a b m np e) o

  operator_close :
      (xs : List Record) (q : State) (n k : ℕ) → k ≡ expr_items p p.expressions.count + operator_items p n → OperatorMid xs q n k
      (total_of (operator_record p n))
      → Rest p xs q p.columns.count p.expressions.count (suc n) (k + total_of (operator_record p n))
  operator_close xs q n k ek d =
      record {
        reads = d.reads;
        nothing = ap kind_wanted d.wanted ∙ kind-end (operator_record p n);
        columns = d.columns;
        exprs = d.exprs;
        operators = d.operators;
        items = d.items;
        copy = record {
          column = d.copy.column;
          expr = d.copy.expr;
          expr-start = d.copy.expr-start;
          expr-items = d.copy.expr-items;
          expr-whole = d.copy.expr-whole;
          operator = all-below-suc (λ (j : ℕ). operator_record q.plan j ≡ operator_record p j) n d.copy.operator d.head.0;
          operator-start = all-below-suc (λ (j : ℕ). operator_start q.plan j ≡ expr_items p p.expressions.count + operator_items p j) n
              d.copy.operator-start (d.head.1 ∙ ek);
          operator-items = all-below-suc
              (λ (j : ℕ). (m : ℕ) → m < total_of (operator_record p j)
              → item_record q.plan (operator_start q.plan j + m) ≡ item_record p (operator_start p j + m)) n d.copy.operator-items
              (λ m l. ap (λ (v : ℕ). item_record q.plan (v + m)) d.head.1 ∙ d.so_far m l);
          operator-whole = all-below-suc (λ (j : ℕ). operator_start q.plan j + total_of (operator_record p j) ≤ q.plan.items.count) n
              d.copy.operator-whole (omega (arith, d.head.1, d.items));
        };
      }

  operator-next :
      (xs : List Record) (q : State) (n k : ℕ) → k ≡ expr_items p p.expressions.count + operator_items p n → n < p.operators.count → k + total_of
      (operator_record p n) ≤ 2048 → Rest p xs q p.columns.count p.expressions.count n k
      → (t : State) × Rest p (xs ++ with_items p (operator_record p n) (operator_start p n)) t p.columns.count p.expressions.count (suc n)
      (k + total_of (operator_record p n))
  operator-next xs q n k ek h room d =
      let u = operator_mid xs q n k h d in
      let v = mid_run (OperatorHead n k) p xs u.0 _ p.expressions.count n p.expressions.count (suc n) k (operator_record p n) (operator_start p n)
      (operator-going n k h room) u.1 (total_of (operator_record p n)) (omega arith) in
      (v.0, operator_close _ v.0 n k ek v.1)

  abbrev before : List Record
  before = columns_to p p.columns.count ++ exprs_to p p.expressions.count

  operators-run : (n : ℕ) → n ≤ p.operators.count → (q : State) × Rest p (before ++ operators_to p n) q p.columns.count p.expressions.count n
      (expr_items p p.expressions.count + operator_items p n)
  unfolding operators_to items_to
  operators-run zero h =
      let v = exprs-run p.expressions.count (omega arith) in
      let e : expr_items p p.expressions.count ≡ expr_items p p.expressions.count + 0 = omega arith in (
        v.0,
        subst (λ (k : ℕ). Rest p (before ++ []) v.0 p.columns.count p.expressions.count 0 k) e
            (subst (λ (xs : List Record). Rest p xs v.0 p.columns.count p.expressions.count 0 (expr_items p p.expressions.count))
            (sym (append-nil before)) v.1),
      )
  operators-run (suc n) h =
      let v = operators-run n (omega arith) in
      let k = expr_items p p.expressions.count in
      let t = total_of (operator_record p n) in
      let w = operator-next (before ++ operators_to p n) v.0 n (k + operator_items p n) refl h
      (omega (arith, s.room, items-to (operator_record p) n p.operators.count h)) v.1 in
      let e : k + operator_items p n + t ≡ k + (operator_items p n + t) = omega arith in (
        w.0,
        subst (λ (j : ℕ). Rest p (before ++ operators_to p (suc n)) w.0 p.columns.count p.expressions.count (suc n) j) e
            (subst (λ (xs : List Record). Rest p xs w.0 p.columns.count p.expressions.count (suc n) (k + operator_items p n + t))
            (append_assoc before (operators_to p n) (with_items p (operator_record p n) (operator_start p n))) w.1),
      )

  -- The records of the plan are taken one after the other, and lead to a copy of it with no item wanted. Assumes nothing.
  pub copied : (q : State) × Rest p (plan_records p) q p.columns.count p.expressions.count p.operators.count
      (expr_items p p.expressions.count + operator_items p p.operators.count)
  copied =
      let v = operators-run p.operators.count (omega arith) in (
        v.0,
        subst (λ (xs : List Record). Rest p xs v.0 p.columns.count p.expressions.count p.operators.count
            (expr_items p p.expressions.count + operator_items p p.operators.count))
            (append_assoc (columns_to p p.columns.count) (exprs_to p p.expressions.count) (operators_to p p.operators.count)) v.1,
      )
