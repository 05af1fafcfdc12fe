-- The records of a plan, columns, then expressions, then operators, are taken one after the other, and lead to a copy of the plan. Assumes nothing.
use Prim.Native.Nat.{ℕ, zero, suc, ◌+◌, ◌-◌, ◌≤◌, ◌<◌}
use mathlib.Core.Path.{◌≡◌, refl, sym, ap, ◌∙◌, subst}
use mathlib.Core.Bool.{Bool, true, false, cond, ◌&&◌, ◌||◌, not}
use mathlib.Core.List.{List, [], ◌∷◌, ◌++◌, append_assoc}
use mathlib.Core.Logic.{⊎_elim}
use native.Mathlib.Omega.{arith}
use native.Mathlib.Decide.{dec_lt}
use lib.Dec.{leb, eqb}
use lib.ListN.{set}
use borrow.Author.Tests.{eqb-true, le-leb, lt-ltb, le-ltb, eq-eqb, ne_eqb}
use Rattle.laws.proofs.Bools.{and_left, and_right}
use Rattle.lists.specs.Ranges.{all_from}
use Rattle.lists.proofs.RangeLaws.{below_or_not, all-at}
use Rattle.plan_kinds.specs.declared.Record.{Record}
use Rattle.plan_kinds.specs.Rows.{Row}
use Rattle.plan_kinds.specs.Rows.{row_of, line_of}
use Rattle.plan_kinds.specs.Records.{code_ok, bits_ok, handle_ok, handles_ok}
use Rattle.plan_kinds.proofs.Table.{holds, every-row}
use Rattle.plan.specs.declared.Plan.{Plan}
use Rattle.plan.specs.Append.{with_item}
use Rattle.plan.specs.Records.{column_record, expr_record, expr_start, operator_record, operator_start, item_record}
use Rattle.plan.specs.Extends.{Extends}
use Rattle.plan.proofs.AppendLaws.{item-longer, new-item}
use Rattle.plan_rules.specs.Rules.{record_ok, item_ok, lists_ok, expr_ok_of, expr_ok, operator_ok_of, operator_ok}
use Rattle.plan_file.specs.declared.Wanted.{Wanted}
use Rattle.plan_file.specs.State.{State}
use Rattle.plan_file.specs.Steps.{kind_wanted, less_one, list_of, scanned_twice}
use Rattle.plan_file.proofs.StepCases.{an_item, next_of, wants-list}
use Rattle.plan_file_laws.specs.ListItems.{first_of, second_of, item_kind, ScanHas}
use Rattle.plan_file_laws.specs.PlanRecords.{item_of, items_of}
use Rattle.plan_file_laws.proofs.RowFacts.{item-row, no_bits, handles-part}
use Rattle.plan_file_laws.proofs.OpenLists.{kind-none}
use Rattle.plan_file_laws.proofs.Phases.{Right, RulesTo, bits-ok-zero}
use Rattle.plan_file_laws.proofs.RulesRead.{Takes, rules_in}
use Rattle.plan_file_laws.proofs.Sequences.{Reads, next, kept-reads}

-- how many items a record has
abbrev pub total_of : Record → ℕ
total_of x = first_of x + second_of x

-- how many items the first n of some records have
unfoldable pub items_to : (ℕ → Record) → ℕ → ℕ
items_to f zero = 0
items_to f (suc n) = items_to f n + total_of (f n)

abbrev pub expr_items : Plan → ℕ → ℕ
expr_items p n = items_to (expr_record p) n

abbrev pub operator_items : Plan → ℕ → ℕ
operator_items p n = items_to (operator_record p) n

-- ---- what is wanted after m items of the lists of x
abbrev pub wanted_at : Record → ℕ → Wanted
wanted_at x m =
    record { item = (row_of x.kind).item; left = first_of x - m; more = second_of x - (m - first_of x); scan = eqb x.kind 0x30 }

left_less : (f m : ℕ) → f - m - 1 ≡ f - suc m
left_less f m = omega arith

none_over : (m f : ℕ) → m ≤ f → m - f ≡ 0
none_over m f h = omega arith

one-over : (m f : ℕ) → f ≤ m → suc m - f ≡ suc (m - f)
one-over m f h = omega arith

less-at : (x : Record) (m : ℕ) → m < total_of x → less_one (wanted_at x m) ≡ wanted_at x (suc m)
unfolding less_one
less-at x m h =
    elim (dec_lt m (first_of x)) [
      | yes l ↦ rw (lt-ltb 0 (first_of x - m) (omega arith))
          (let a = left_less (first_of x) m in
          let b = ap (λ (k : ℕ). second_of x - k) (none_over m (first_of x) (omega arith) ∙ sym (none_over (suc m) (first_of x) l)) in
          λ i. record { item = (row_of x.kind).item; left = a i; more = b i; scan = eqb x.kind 0x30 })
      | no l ↦ rw (le-ltb 0 (first_of x - m) (omega arith))
          (let g : first_of x ≤ m = omega arith in
          let a = none_over (first_of x) m g ∙ sym (none_over (first_of x) (suc m) (omega arith)) in
          let b = left_less (second_of x) (m - first_of x) ∙ ap (λ (k : ℕ). second_of x - k) (sym (one-over m (first_of x) g)) in
          λ i. record { item = (row_of x.kind).item; left = a i; more = b i; scan = eqb x.kind 0x30 })
    ]

kind_at : (x : Record) (m : ℕ) → m < total_of x → kind_wanted (wanted_at x m) ≡ item_kind x m
unfolding kind_wanted
kind_at x m h =
    elim (dec_lt m (first_of x)) [
      | yes l ↦ rw (lt-ltb 0 (first_of x - m) (omega arith), lt-ltb m (first_of x) l)
      | no l ↦ rw (
        le-ltb 0 (first_of x - m) (omega arith),
        lt-ltb 0 (second_of x - (m - first_of x)) (omega arith),
        le-ltb m (first_of x) (omega
            arith),
      )
    ]

pub kind-end : (x : Record) → kind_wanted (wanted_at x (total_of x)) ≡ 0
kind-end x = kind-none (wanted_at x (total_of x)) (omega arith) (omega arith)

pub at-start : (x : Record) → list_of (row_of x.kind) x ≡ wanted_at x 0
at-start x =
    let a : first_of x ≡ first_of x - 0 = omega arith in
    let b : second_of x ≡ second_of x - (0 - first_of x) = omega arith in
    λ i. record { item = (row_of x.kind).item; left = a i; more = b i; scan = eqb x.kind 0x30 }

-- ---- a copy of a plan's first c columns, e expressions and o operators, with their lists one after the other: those of the expressions, then
-- those of the operators
pub record Copy (p r : Plan) (c e o : ℕ) : Type 0 where
  pub column : (i : ℕ) → i < c → column_record r i ≡ column_record p i
  pub expr : (i : ℕ) → i < e → expr_record r i ≡ expr_record p i
  pub expr-start : (i : ℕ) → i < e → expr_start r i ≡ expr_items p i
  pub expr-items : (i : ℕ) → i < e → (k : ℕ) → k < total_of (expr_record p i) → item_record r (expr_start r i + k) ≡ item_record p (expr_start p i +
      k)
  pub expr-whole : (i : ℕ) → i < e → expr_start r i + total_of (expr_record p i) ≤ r.items.count
  pub operator : (i : ℕ) → i < o → operator_record r i ≡ operator_record p i
  pub operator-start : (i : ℕ) → i < o → operator_start r i ≡ expr_items p p.expressions.count + operator_items p i
  pub operator-items : (i : ℕ) → i < o → (k : ℕ) → k < total_of (operator_record p i) → item_record r (operator_start r i + k) ≡ item_record p
      (operator_start p i + k)
  pub operator-whole : (i : ℕ) → i < o → operator_start r i + total_of (operator_record p i) ≤ r.items.count

-- a copy that grows stays one
pub copy_grow : (p r u : Plan) (c e o : ℕ) → Extends r u → c ≤ r.columns.count → e ≤ r.expressions.count → o ≤ r.operators.count → Copy p r c e o →
    Copy
    p u c e o
copy_grow p r u c e o g hc he ho y =
    record {
      column = λ i h. g.column i (omega arith) ∙ y.column i h;
      expr = λ i h. g.expr i (omega arith) ∙ y.expr i h;
      expr-start = λ i h. g.expr-start i (omega arith) ∙ y.expr-start i h;
      expr-items = λ i h k l.
          let s = g.expr-start i (omega arith) in
          ap (λ (n : ℕ). item_record u (n + k)) s ∙ g.item (expr_start r i + k) (omega (arith, y.expr-whole i h)) ∙ y.expr-items i h k l;
      expr-whole = λ i h. let s = g.expr-start i (omega arith) in omega (arith, y.expr-whole i h, g.items);
      operator = λ i h. g.operator i (omega arith) ∙ y.operator i h;
      operator-start = λ i h. g.operator-start i (omega arith) ∙ y.operator-start i h;
      operator-items = λ i h k l.
          let s = g.operator-start i (omega arith) in
          ap (λ (n : ℕ). item_record u (n + k)) s ∙ g.item (operator_start r i + k) (omega (arith, y.operator-whole i h)) ∙ y.operator-items i h k l;
      operator-whole = λ i h. let s = g.operator-start i (omega arith) in omega (arith, y.operator-whole i h, g.items);
    }

-- ---- between two records
pub record Rest (p : Plan) (xs : List Record) (q : State) (c e o n : ℕ) : Type 0 where
  pub reads : Reads xs q
  pub nothing : kind_wanted q.wanted ≡ 0
  pub columns : q.plan.columns.count ≡ c
  pub exprs : q.plan.expressions.count ≡ e
  pub operators : q.plan.operators.count ≡ o
  pub items : q.plan.items.count ≡ n
  pub copy : Copy p q.plan c e o

-- ---- in the lists of the record x, which start at st in p and at n in the copy, with m items there; H holds of the copy
pub record Mid (H : Plan → Type 0) (p : Plan) (xs : List Record) (q : State) (c e o ce co n : ℕ) (x : Record) (st m : ℕ) : Type 0 where
  pub reads : Reads xs q
  pub wanted : q.wanted ≡ wanted_at x m
  pub columns : q.plan.columns.count ≡ c
  pub exprs : q.plan.expressions.count ≡ ce
  pub operators : q.plan.operators.count ≡ co
  pub items : q.plan.items.count ≡ n + m
  pub copy : Copy p q.plan c e o
  pub so_far : (k : ℕ) → k < m → item_record q.plan (n + k) ≡ item_record p (st + k)
  pub head : H q.plan

-- ---- an item of a right list is right
item_free : Row → Bool
item_free r = not (eqb r.sort 4) || eqb r.low 0

item-low : (k : ℕ) → (row_of k).sort ≡ 4 → (row_of k).low ≡ 0
unfolding item_free holds
item-low k e =
    let t : (not (eqb (row_of k).sort 4) || eqb (row_of k).low 0) ≡ true = every-row item_free refl refl k in
    let u : eqb (row_of k).low 0 ≡ true = rw (eq-eqb (row_of k).sort 4 e) at t in
    eqb-true _ _ u

zero-code : (r : Row) (x : Record) → r.low ≡ 0 → x.code ≡ 0 → code_ok r x ≡ true
zero-code r x e f = rw (e, f, le-leb 0 r.high (omega arith))

sort_40 : (row_of 0x40).sort ≡ 4
unfolding row_of line_of
sort_40 = refl

kind-sort : (x : Record) (m : ℕ) → m < total_of x → (row_of (item_kind x m)).sort ≡ 4
kind-sort x m h =
    elim (dec_lt m (first_of x)) [
      | yes l ↦ rw (lt-ltb m (first_of x) l) (wants-list x.kind x (omega arith))
      | no l ↦ rw (le-ltb m (first_of x) (omega arith)) sort_40
    ]

pub item-right :
    (p : Plan) (x : Record) (st m nc me mp np : ℕ) → m < total_of x → handles_ok (row_of (item_kind x m)) (item_record p (st + m)) nc me mp ≡ true
    → Right (item_of p x st m) nc me np
item-right p x st m nc me mp np h g =
    let s = kind-sort x m h in
    record {
      code = zero-code (row_of (item_kind x m)) (item_of p x st m) (item-low (item_kind x m) s) refl;
      bits = bits-ok-zero (row_of (item_kind x m)) (item_of p x st m) (no_bits (item_kind x m) (λ e. omega arith)) refl;
      handles = handles-part (row_of (item_kind x m)) (item_record p (st + m)) (item_of p x st m) nc me mp np (item-row (item_kind x m) s) refl refl
          refl refl g;
    }

-- ---- one item more
pub right-at : (x : Record) (a b d c ce co : ℕ) → a ≡ c → b ≡ ce → d ≡ co → Right x c ce co → Right x a b d
right-at x a b d c ce co p q r g = rw (p, q, r) g

not-item : (n : ℕ) → n ≡ 0 → (row_of n).sort ≡ 4 → ⊥
unfolding row_of line_of
not-item n e s = let z : ◌≡◌ {A = ℕ} 0 4 = sym (ap (λ (v : ℕ). (row_of v).sort) e) ∙ s in omega arith

mid_next :
    (H : Plan → Type 0) (p : Plan) (xs : List Record) (q : State) (c e o ce co n : ℕ) (x : Record) (st m : ℕ)
    → ((r : Plan) (y : Record) → H r → H (with_item r y)) → e ≤ ce → o ≤ co → m < total_of x → n + m < 2048
    → Right (item_of p x st m) c ce co → scanned_twice (row_of (item_kind x m)) (item_of p x st m) q.wanted q.scans q.plan.operators.count ≡ false
    → Mid H p xs q c e o ce co n x st m → (t : State) × Mid H p (xs ++ (item_of p x st m ∷ [])) t c e o ce co n x st (suc m)
mid_next H p xs q c e o ce co n x st m grows he ho h room g once d =
    let y = item_of p x st m in
    let s = kind-sort x m h in
    let w : kind_wanted q.wanted ≡ item_kind x m = ap kind_wanted d.wanted ∙ kind_at x m h in
    let l : q.plan.items.count < 2048 = omega (arith, d.items) in
    let z = (rules_in q.wanted q.plan (kept-reads xs q d.reads).phase).0 in
    let t = next_of q y (less_one q.wanted) (cond q.wanted.scan (set q.scans y.a q.plan.operators.count) q.scans) (with_item q.plan y) in
    let k : Takes q y t =
    record {
      right = right-at y _ _ _ c ce co d.columns d.exprs d.operators g;
      once = once;
      way = an_item s l (λ u. not-item (item_kind x m) (sym w ∙ u) s) (sym w);
    } in (
      t,
      record {
        reads = next y t d.reads k;
        wanted = ap less_one d.wanted ∙ less-at x m h;
        columns = d.columns;
        exprs = d.exprs;
        operators = d.operators;
        items = omega (arith, d.items);
        copy = copy_grow p q.plan (with_item q.plan y) c e o (item-longer q.plan y) (omega (arith, d.columns)) (omega (arith, d.exprs))
            (omega (arith, d.operators)) d.copy;
        so_far = λ j u. ⊎_elim
            (λ v. (item-longer q.plan y).item (n + j) (omega (arith, d.items)) ∙ d.so_far j v)
            (λ v.
            let a : m ≡ j = omega arith in
            let b : n + j ≡ q.plan.items.count = omega (arith, d.items) in
            ap (item_record (with_item q.plan y)) b ∙ new-item q.plan y z l ∙ ap (λ (i : ℕ). item_record p (st + i)) a)
            (below_or_not j m);
        head = grows q.plan y d.head;
      },
    )

-- ---- all items of a record
-- what is asked of the item at each place
pub record Going (H : Plan → Type 0) (p : Plan) (c e o ce co n : ℕ) (x : Record) (st : ℕ) : Type 0 where
  pub grows : (r : Plan) (y : Record) → H r → H (with_item r y)
  pub exprs : e ≤ ce
  pub operators : o ≤ co
  pub room : n + total_of x ≤ 2048
  pub right : (m : ℕ) → m < total_of x → Right (item_of p x st m) c ce co
  pub once : (m : ℕ) → m < total_of x → (xs : List Record) (q : State) → Mid H p xs q c e o ce co n x st m
      → scanned_twice (row_of (item_kind x m)) (item_of p x st m) q.wanted q.scans q.plan.operators.count ≡ false

pub mid_run :
    (H : Plan → Type 0) (p : Plan) (xs : List Record) (q : State) (c e o ce co n : ℕ) (x : Record) (st : ℕ) → Going H p c e o ce co n x st
    → Mid H p (xs ++ (x ∷ [])) q c e o ce co n x st 0 → (m : ℕ) → m ≤ total_of x
    → (t : State) × Mid H p (xs ++ (x ∷ items_of p x st m)) t c e o ce co n x st m
unfolding items_of
mid_run H p xs q c e o ce co n x st g d zero h = (q, d)
mid_run H p xs q c e o ce co n x st g d (suc m) h =
    let v = mid_run H p xs q c e o ce co n x st g d m (omega arith) in
    let ys = xs ++ (x ∷ items_of p x st m) in
    let u = mid_next H p ys v.0 c e o ce co n x st m g.grows g.exprs g.operators h (omega (arith, g.room)) (g.right m h)
    (g.once m h ys v.0 v.1) v.1 in (
      u.0,
      subst (λ (zs : List Record). Mid H p zs u.0 c e o ce co n x st (suc m)) (append_assoc xs (x ∷ items_of p x st m) (item_of p x st m ∷ []))
          u.1,
    )

-- ---- the plan that is copied
-- it keeps the rules, and its lists, taken one after the other, fit the table of items
pub record Source (p : Plan) : Type 0 where
  pub rules : RulesTo p p.expressions.count p.operators.count
  pub unique : (i j c : ℕ) → ScanHas p i c → ScanHas p j c → i ≡ j
  pub room : expr_items p p.expressions.count + operator_items p p.operators.count ≤ 2048

-- the items of a right list
pub list-item :
    (p : Plan) (x : Record) (st nc me mp : ℕ) → lists_ok p.items.a p.items.b p.items.count x st nc me mp ≡ true
    → (m : ℕ) → m < total_of x → handles_ok (row_of (item_kind x m)) (item_record p (st + m)) nc me mp ≡ true
unfolding lists_ok item_ok
list-item p x st nc me mp e m h =
    let r = and_right (leb (st + (first_of x + second_of x)) p.items.count) _ e in
    elim (dec_lt m (first_of x)) [
      | yes l ↦ rw (lt-ltb m (first_of x) l) (all-at (item_ok p.items.a p.items.b (row_of x.kind).item nc me mp) (first_of x) st (and_left _ _ r)
          (st + m) (omega arith) (omega arith))
      | no l ↦ rw (le-ltb m (first_of x) (omega arith))
          (all-at (item_ok p.items.a p.items.b 0x40 nc me mp) (second_of x) (st + first_of x)
          (and_right (all_from (item_ok p.items.a p.items.b (row_of x.kind).item nc me mp) st (first_of x)) _ r) (st + m) (omega arith) (omega arith))
    ]

-- the parts of a right record
pub record Record-ok (sort : ℕ) (x : Record) (nc ne np : ℕ) : Type 0 where
  pub sort-is : (row_of x.kind).sort ≡ sort
  pub code : code_ok (row_of x.kind) x ≡ true
  pub bits : bits_ok (row_of x.kind) x ≡ true
  pub handles : handles_ok (row_of x.kind) x nc ne np ≡ true

record_parts : (sort : ℕ) (x : Record) (nc ne np : ℕ) → record_ok sort x nc ne np ≡ true → Record-ok sort x nc ne np
unfolding record_ok
record_parts sort x nc ne np e =
    let a = and_right (eqb (row_of x.kind).sort sort) _ e in
    let b = and_right (code_ok (row_of x.kind) x) _ a in
    record {
      sort-is = eqb-true _ _ (and_left _ _ e);
      code = and_left _ _ a;
      bits = and_left _ _ b;
      handles = and_right (bits_ok (row_of x.kind) x) _
          b;
    }

pub expr-parts : (p : Plan) (i : ℕ) → expr_ok p i ≡ true → Record-ok 2 (expr_record p i) p.columns.count i p.operators.count
    × (lists_ok p.items.a p.items.b p.items.count (expr_record p i) (expr_start p i) p.columns.count (suc i) p.operators.count ≡ true)
unfolding expr_ok_of
expr-parts p i
    e = (record_parts 2 (expr_record p i) _ _ _ (and_left _ _ e), and_right (record_ok 2 (expr_record p i) p.columns.count i p.operators.count) _ e)

pub operator-parts : (p : Plan) (i : ℕ) → operator_ok p i ≡ true → Record-ok 3 (operator_record p i) p.columns.count p.expressions.count i
    × (lists_ok p.items.a p.items.b p.items.count (operator_record p i) (operator_start p i) p.columns.count p.expressions.count i ≡ true)
unfolding operator_ok_of
operator-parts p i e = (
  record_parts 3 (operator_record p i) _ _ _ (and_left _ _ e),
  and_right
      (record_ok 3 (operator_record p i) p.columns.count p.expressions.count i) _ e,
)

-- a head is no item, and a list that is no Scan's marks nothing
pub head-once : (r : Row) (x : Record) (w : Wanted) (scans : List ℕ) (np : ℕ) → (r.sort ≡ 4 → ⊥) → scanned_twice r x w scans np ≡ false
head-once r x w scans np n = rw (ne_eqb r.sort 4 n)

and-false-first : (a b c : Bool) → (((a && false) && b) && c) ≡ false
and-false-first true b c = refl
and-false-first false b c = refl

pub other-once : (r : Row) (x y : Record) (m : ℕ) (w : Wanted) (scans : List ℕ) (np : ℕ) → w ≡ wanted_at y m → (y.kind ≡ 0x30 → ⊥) → scanned_twice r x
    w scans
    np ≡ false
other-once r x y m w scans np e n = rw (ap (λ (v : Wanted). v.scan) e ∙ ne_eqb y.kind 0x30 n) (and-false-first (eqb r.sort 4) _ _)

-- ---- a column more
pub column-sort : (row_of 0x01).sort ≡ 1
unfolding row_of line_of
column-sort = refl

pub column-right : (p : Plan) (i nc ne np : ℕ) → (leb 1 (column_record p i).code && leb (column_record p i).code 5) ≡ true → Right (column_record p i)
    nc ne np
unfolding row_of line_of bits_ok handle_ok
column-right p i nc ne np e = record { code = e; bits = refl; handles = refl }
