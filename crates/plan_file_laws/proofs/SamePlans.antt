-- Two plans that were read are one where their records, the starts of their lists and their items are the same. Assumes nothing.
use Prim.Native.Nat.{ℕ, ◌+◌, ◌-◌, ◌≤◌, ◌<◌}
use mathlib.Core.Path.{◌≡◌, sym, ap, ◌∙◌, subst}
use mathlib.Core.List.{List}
use mathlib.Core.Logic.{⊎_elim}
use native.Mathlib.Omega.{arith}
use lib.ListN.{get_or, set, length, replicate}
use lib.Seq.{get_or-set_other, ext_get_or}
use Rattle.laws.proofs.Lists.{get_d_replicate-self}
use Rattle.lists.proofs.RangeLaws.{below_or_not}
use Rattle.plan_kinds.specs.declared.Record.{Record}
use Rattle.plan.specs.declared.Columns.{Columns}
use Rattle.plan.specs.declared.Expressions.{Expressions}
use Rattle.plan.specs.declared.Operators.{Operators}
use Rattle.plan.specs.declared.Items.{Items}
use Rattle.plan.specs.declared.Plan.{Plan}
use Rattle.plan.specs.Plans.{empty_plan, column_pushed, expression_pushed, operator_pushed, item_pushed}
use Rattle.plan.specs.Append.{with_item}
use Rattle.plan.specs.Records.{column_record, expr_record, expr_start, operator_record, operator_start, item_record}
use Rattle.plan.specs.Extends.{Extends, Sized}
use Rattle.plan.proofs.AppendLaws.{column-longer, expr-longer, operator-longer, item-longer}
use Rattle.plan_file.specs.declared.Wanted.{Wanted}
use Rattle.plan_file.specs.State.{State}
use Rattle.plan_file.specs.Steps.{kind_wanted, start_state}
use Rattle.plan_file.proofs.StepCases.{Way, a_column, an_expr, an_operator, an_item}
use Rattle.plan_file_laws.proofs.OpenLists.{Open, some_left}
use Rattle.plan_file_laws.proofs.Phases.{Phase, closed, open_expr, open_operator}
use Rattle.plan_file_laws.proofs.RulesRead.{Kept}
use Rattle.plan_file_laws.proofs.Sequences.{Reads, begin, next, kept-reads}
use Rattle.plan_file_laws.proofs.Copies.{total_of}

-- ---- past the counts stand zeros
abbrev pub Zero : List ℕ → ℕ → Type 0
Zero l n = (i : ℕ) → n ≤ i → get_or l i 0 ≡ 0

zero-set : (l : List ℕ) (n v : ℕ) → Zero l n → Zero (set l n v) (n + 1)
zero-set l n v z i h = get_or-set_other l n i v 0 (λ e. omega arith) ∙ z i (omega arith)

pub record ColumnsZero (t : Columns) : Type 0 where
  pub name : Zero t.name t.count
  pub kind : Zero t.kind t.count

pub record ExpressionsZero (t : Expressions) : Type 0 where
  pub kind : Zero t.kind t.count
  pub code : Zero t.code t.count
  pub a : Zero t.a t.count
  pub b : Zero t.b t.count
  pub start : Zero t.start t.count
  pub bits : Zero t.bits t.count

pub record OperatorsZero (t : Operators) : Type 0 where
  pub kind : Zero t.kind t.count
  pub code : Zero t.code t.count
  pub a : Zero t.a t.count
  pub b : Zero t.b t.count
  pub c : Zero t.c t.count
  pub d : Zero t.d t.count
  pub start : Zero t.start t.count

pub record ItemsZero (t : Items) : Type 0 where
  pub a : Zero t.a t.count
  pub b : Zero t.b t.count

pub record Zeros (p : Plan) : Type 0 where
  pub columns : ColumnsZero p.columns
  pub exprs : ExpressionsZero p.expressions
  pub operators : OperatorsZero p.operators
  pub items : ItemsZero p.items

columns-zero : (t : Columns) (x : Record) → ColumnsZero t → ColumnsZero (column_pushed t x)
columns-zero t x z = record { name = zero-set t.name _ _ z.name; kind = zero-set t.kind _ _ z.kind }

expressions-zero : (t : Expressions) (x : Record) (st : ℕ) → ExpressionsZero t → ExpressionsZero (expression_pushed t x st)
expressions-zero t x st z =
    record {
      kind = zero-set t.kind _ _ z.kind;
      code = zero-set t.code _ _ z.code;
      a = zero-set t.a _ _ z.a;
      b = zero-set t.b _ _ z.b;
      start = zero-set t.start _ _ z.start;
      bits = zero-set t.bits _ _ z.bits;
    }

operators-zero : (t : Operators) (x : Record) (st : ℕ) → OperatorsZero t → OperatorsZero (operator_pushed t x st)
operators-zero t x st z =
    record {
      kind = zero-set t.kind _ _ z.kind;
      code = zero-set t.code _ _ z.code;
      a = zero-set t.a _ _ z.a;
      b = zero-set t.b _ _ z.b;
      c = zero-set t.c _ _ z.c;
      d = zero-set t.d _ _ z.d;
      start = zero-set t.start _ _ z.start;
    }

items-zero : (t : Items) (x : Record) → ItemsZero t → ItemsZero (item_pushed t x)
items-zero t x z = record { a = zero-set t.a _ _ z.a; b = zero-set t.b _ _ z.b }

zeros-empty : Zeros empty_plan
unfolding empty_plan
zeros-empty =
    let z : (n : ℕ) → Zero (replicate n 0) 0 = λ n i h. get_d_replicate-self n i 0 in
    record {
      columns = record { name = z 64; kind = z 64 };
      exprs = record { kind = z 1024; code = z 1024; a = z 1024; b = z 1024; start = z 1024; bits = z 1024 };
      operators = record { kind = z 128; code = z 128; a = z 128; b = z 128; c = z 128; d = z 128; start = z 128 };
      items = record { a = z 2048; b = z 2048 };
    }

zeros-way : (q : State) (x : Record) (t : State) → Way q x t → Zeros q.plan → Zeros t.plan
zeros-way q x t (a_column s h z) y = record { columns = columns-zero _ x y.columns; exprs = y.exprs; operators = y.operators; items = y.items }
zeros-way q x t (an_expr s h z) y = record { columns = y.columns; exprs = expressions-zero _ x _ y.exprs; operators = y.operators; items = y.items }
zeros-way q x t (an_operator s h z) y = record { columns = y.columns; exprs = y.exprs; operators = operators-zero _ x _ y.operators; items = y.items }
zeros-way q x t (an_item s h n e) y = record { columns = y.columns; exprs = y.exprs; operators = y.operators; items = items-zero _ x y.items }

-- Past the counts of a plan that was read stand zeros. Assumes nothing.
pub zeros-reads : (xs : List Record) (q : State) → Reads xs q → Zeros q.plan
unfolding start_state
zeros-reads xs q begin = zeros-empty
zeros-reads xs q (next {xs = ys} {q = p} x t r k) = zeros-way p x t k.way (zeros-reads ys p r)

-- ---- every item is in a list
pub data Covered (p : Plan) (j : ℕ) : Type 0 where
  by-expr : (i k : ℕ) → i < p.expressions.count → k < total_of (expr_record p i) → expr_start p i + k ≡ j → Covered p j
  by-operator : (i k : ℕ) → i < p.operators.count → k < total_of (operator_record p i) → operator_start p i + k ≡ j → Covered p j

covered_grow : (p q : Plan) (j : ℕ) → Extends p q → Covered p j → Covered q j
covered_grow p q j e (by-expr i k h l s) =
    by-expr i k (omega (arith, e.exprs)) (subst (λ (x : Record). k < total_of x) (sym (e.expr i h)) l) (ap (λ (n : ℕ). n + k) (e.expr-start i h) ∙ s)
covered_grow p q j e (by-operator i k h l s) =
    by-operator i k (omega (arith, e.operators)) (subst (λ (x : Record). k < total_of x) (sym (e.operator i h)) l)
    (ap (λ (n : ℕ). n + k) (e.operator-start i h) ∙ s)

open_covers : (w : Wanted) (x : Record) (st n : ℕ) → (kind_wanted w ≡ 0 → ⊥) → Open w x st n → (n - st < total_of x) × (st + (n - st) ≡ n)
open_covers w x st n z o = let l = some_left w z in (omega (arith, o.here, o.begun), omega (arith, o.begun))

covers_next : (w : Wanted) (p : Plan) (x : Record) → (kind_wanted w ≡ 0 → ⊥) → Phase w p → Covered (with_item p x) p.items.count
covers_next w p x z (closed n r) = absurd (let l = some_left w z in omega arith)
covers_next w p x z (open_expr i e r o) =
    let c = open_covers w (expr_record p i) (expr_start p i) p.items.count z o.list in
    by-expr i (p.items.count - expr_start p i) (omega arith) c.0 c.1
covers_next w p x z (open_operator i e r o) =
    let c = open_covers w (operator_record p i) (operator_start p i) p.items.count z o.list in
    by-operator i (p.items.count - operator_start p i) (omega arith) c.0 c.1

abbrev AllCovered : Plan → Type 0
AllCovered p = (j : ℕ) → j < p.items.count → Covered p j

covered-way : (q : State) (x : Record) (t : State) → Kept q → Way q x t → AllCovered q.plan → AllCovered t.plan
covered-way q x t k (a_column s h z) c j l = covered_grow q.plan _ j (column-longer q.plan x) (c j l)
covered-way q x t k (an_expr s h z) c j l = covered_grow q.plan _ j (expr-longer q.plan x _) (c j l)
covered-way q x t k (an_operator s h z) c j l = covered_grow q.plan _ j (operator-longer q.plan x _) (c j l)
covered-way q x t k (an_item s h n e) c j l =
    ⊎_elim (λ u. covered_grow q.plan _ j (item-longer q.plan x) (c j u))
    (λ u. let v : q.plan.items.count ≡ j = omega arith in subst (Covered (with_item q.plan x)) v (covers_next q.wanted q.plan x n k.phase))
    (below_or_not j q.plan.items.count)

covered_start : AllCovered start_state.plan
unfolding start_state empty_plan
covered_start j h = absurd (omega arith)

-- Every item of a plan that was read is in the list of an expression or an operator. Assumes nothing.
pub covered-reads : (xs : List Record) (q : State) → Reads xs q → (j : ℕ) → j < q.plan.items.count → Covered q.plan j
covered-reads xs q begin j h = covered_start j h
covered-reads xs q (next {xs = ys} {q = p} x t r k) j h = covered-way p x t (kept-reads ys p r) k.way (λ i l. covered-reads ys p r i l) j h

-- ---- equal tables
same_array :
    (l m : List ℕ) (n k s : ℕ) → n ≡ k → length l ≡ s → length m ≡ s → Zero l n → Zero m k → ((i : ℕ) → i < n → get_or l i 0 ≡ get_or m i 0) → l ≡ m
same_array l m n k s e a b zl zm f =
    ext_get_or 0 l m (a ∙ sym b) (λ i h. ⊎_elim (λ u. f i u) (λ u. zl i u ∙ sym (zm i (omega arith))) (below_or_not i n))

-- what two plans have at each handle and place is the same
pub record SameTables (p r : Plan) : Type 0 where
  pub columns : p.columns.count ≡ r.columns.count
  pub exprs : p.expressions.count ≡ r.expressions.count
  pub operators : p.operators.count ≡ r.operators.count
  pub items : p.items.count ≡ r.items.count
  pub column : (i : ℕ) → i < p.columns.count → column_record p i ≡ column_record r i
  pub expr : (i : ℕ) → i < p.expressions.count → expr_record p i ≡ expr_record r i
  pub expr-start : (i : ℕ) → i < p.expressions.count → expr_start p i ≡ expr_start r i
  pub operator : (i : ℕ) → i < p.operators.count → operator_record p i ≡ operator_record r i
  pub operator-start : (i : ℕ) → i < p.operators.count → operator_start p i ≡ operator_start r i
  pub item : (i : ℕ) → i < p.items.count → item_record p i ≡ item_record r i

-- Then, with zeros past the counts, the plans are one. Assumes nothing.
pub same-plan : (p r : Plan) → Sized p → Sized r → Zeros p → Zeros r → SameTables p r → p ≡ r
same-plan p r a b y z t =
    let cn = same_array p.columns.name r.columns.name _ _ 64 t.columns a.column-name b.column-name y.columns.name z.columns.name
    (λ i h. ap (λ (x : Record). x.a) (t.column i h)) in
    let ck = same_array p.columns.kind r.columns.kind _ _ 64 t.columns a.column-kind b.column-kind y.columns.kind z.columns.kind
    (λ i h. ap (λ (x : Record). x.code) (t.column i h)) in
    let ek = same_array p.expressions.kind r.expressions.kind _ _ 1024 t.exprs a.expr-kind b.expr-kind y.exprs.kind z.exprs.kind
    (λ i h. ap (λ (x : Record). x.kind) (t.expr i h)) in
    let ec = same_array p.expressions.code r.expressions.code _ _ 1024 t.exprs a.expr-code b.expr-code y.exprs.code z.exprs.code
    (λ i h. ap (λ (x : Record). x.code) (t.expr i h)) in
    let ea = same_array p.expressions.a r.expressions.a _ _ 1024 t.exprs a.expr_a b.expr_a y.exprs.a z.exprs.a
    (λ i h. ap (λ (x : Record). x.a) (t.expr i h)) in
    let eb = same_array p.expressions.b r.expressions.b _ _ 1024 t.exprs a.expr_b b.expr_b y.exprs.b z.exprs.b
    (λ i h. ap (λ (x : Record). x.b) (t.expr i h)) in
    let es = same_array p.expressions.start r.expressions.start _ _ 1024 t.exprs a.expr-start b.expr-start y.exprs.start
    z.exprs.start t.expr-start in
    let ez = same_array p.expressions.bits r.expressions.bits _ _ 1024 t.exprs a.expr-bits b.expr-bits y.exprs.bits z.exprs.bits
    (λ i h. ap (λ (x : Record). x.bits) (t.expr i h)) in
    let ok = same_array p.operators.kind r.operators.kind _ _ 128 t.operators a.operator-kind b.operator-kind y.operators.kind
    z.operators.kind (λ i h. ap (λ (x : Record). x.kind) (t.operator i h)) in
    let oc = same_array p.operators.code r.operators.code _ _ 128 t.operators a.operator-code b.operator-code y.operators.code
    z.operators.code (λ i h. ap (λ (x : Record). x.code) (t.operator i h)) in
    let oa = same_array p.operators.a r.operators.a _ _ 128 t.operators a.operator_a b.operator_a y.operators.a z.operators.a
    (λ i h. ap (λ (x : Record). x.a) (t.operator i h)) in
    let ob = same_array p.operators.b r.operators.b _ _ 128 t.operators a.operator_b b.operator_b y.operators.b z.operators.b
    (λ i h. ap (λ (x : Record). x.b) (t.operator i h)) in
    let od = same_array p.operators.c r.operators.c _ _ 128 t.operators a.operator_c b.operator_c y.operators.c z.operators.c
    (λ i h. ap (λ (x : Record). x.c) (t.operator i h)) in
    let oe = same_array p.operators.d r.operators.d _ _ 128 t.operators a.operator_d b.operator_d y.operators.d z.operators.d
    (λ i h. ap (λ (x : Record). x.d) (t.operator i h)) in
    let os = same_array p.operators.start r.operators.start _ _ 128 t.operators a.operator-start b.operator-start y.operators.start
    z.operators.start t.operator-start in
    let ia = same_array p.items.a r.items.a _ _ 2048 t.items a.item_a b.item_a y.items.a z.items.a
    (λ i h. ap (λ (x : Record). x.a) (t.item i h)) in
    let ib = same_array p.items.b r.items.b _ _ 2048 t.items a.item_b b.item_b y.items.b z.items.b
    (λ i h. ap (λ (x : Record). x.b) (t.item i h)) in
    λ i.
    record {
      columns = record { count = t.columns i; name = cn i; kind = ck i };
      expressions = record { count = t.exprs i; kind = ek i; code = ec i; a = ea i; b = eb i; start = es i; bits = ez i };
      operators = record { count = t.operators i; kind = ok i; code = oc i; a = oa i; b = ob i; c = od i; d = oe i; start = os i };
      items = record { count = t.items i; a = ia i; b = ib i };
    }
