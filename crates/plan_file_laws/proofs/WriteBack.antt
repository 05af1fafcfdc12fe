-- What the writer writes of an accepted plan is accepted, and gives a copy of the plan; a file in the writer's order is what the writer writes of
-- its plan. Assumes nothing.
use Rattle.std.proofs.Common.{Ok}
use Prim.Native.Nat.{ℕ, zero, suc, ◌+◌, ◌≤◌, ◌<◌}
use mathlib.Core.Path.{◌≡◌, refl, sym, ap, ◌∙◌, subst}
use mathlib.Core.Bool.{Bool, true, false, cond}
use mathlib.Core.List.{List, [], ◌∷◌, ◌++◌}
use native.Mathlib.Omega.{arith}
use native.Mathlib.Numerals.{add-one}
use Rattle.plan_kinds.specs.declared.Record.{Record}
use Rattle.plan_kinds.specs.Rows.{row_of}
use Rattle.plan.specs.declared.Plan.{Plan}
use Rattle.plan.specs.Plans.{empty_plan}
use Rattle.plan.specs.Append.{with_expr, with_operator}
use Rattle.plan.specs.Records.{column_record, expr_record, expr_start, operator_record, operator_start, item_record}
use Rattle.plan.specs.Extends.{Extends, Sized}
use Rattle.plan.proofs.AppendLaws.{expr-longer, operator-longer, new-expr-start, new-operator-start}
use Rattle.plan_file.specs.declared.Wanted.{Wanted}
use Rattle.plan_file.specs.State.{State}
use Rattle.plan_file.specs.Answer.{Answer}
use Rattle.plan_file.specs.Answers.{is_whole}
use Rattle.plan_file.specs.Steps.{kind_wanted, start_state, read_of}
use Rattle.plan_file.proofs.StepCases.{Wants, Way, a_column, an_expr, an_operator, an_item}
use Rattle.plan_file.proofs.Finish.{last_of}
use Rattle.plan_file_laws.specs.ByteStrings.{Bytes}
use Rattle.plan_file_laws.specs.Writing.{put_records, records_of, Fits}
use Rattle.plan_file_laws.specs.PlanRecords.{plan_records, write_of, belongs, part_from, part_of}
use Rattle.plan_file_laws.proofs.RowFacts.{column-row}
use Rattle.plan_file_laws.proofs.OpenLists.{Open, some_left, open_shut, open_less}
use Rattle.plan_file_laws.proofs.Phases.{shut, no_list, expr_open, operator_open}
use Rattle.plan_file_laws.proofs.RulesRead.{Kept, rules_in}
use Rattle.plan_file_laws.proofs.Written.{All, none, more}
use Rattle.plan_file_laws.proofs.Sequences.{Reads, begin, next, file_of_lem, kept-reads, read-records}
use Rattle.plan_file_laws.proofs.Parts.{Three}
use Rattle.plan_file_laws.proofs.OneToOne.{three-reads, parts-read}
use Rattle.plan_file_laws.proofs.Copies.{total_of, items_to, expr_items, operator_items, Source, Copy}
use Rattle.plan_file_laws.proofs.CopyRuns.{copied}
use Rattle.plan_file_laws.proofs.SamePlans.{Zeros, zeros-reads, Covered, by-expr, by-operator, covered-reads, same-plan}

-- ---- an accepted plan has as many items as its records have in their lists
sums_same : (f g : ℕ → Record) (n : ℕ) → ((i : ℕ) → i < n → f i ≡ g i) → items_to f n ≡ items_to g n
unfolding items_to
sums_same f g zero e = refl
sums_same f g (suc n) e = λ i. sums_same f g n (λ j h. e j (omega arith)) i + total_of (e n (omega arith) i)

data Sums (w : Wanted) (p : Plan) : Type 0 where
  at_rest : w.left + w.more ≡ 0 → expr_items p p.expressions.count + operator_items p p.operators.count ≡ p.items.count → Sums w p
  in_expr :
      (i : ℕ) → p.expressions.count ≡ suc i → Open w (expr_record p i) (expr_start p i) p.items.count
      → expr_items p i + operator_items p p.operators.count ≡ expr_start p i → Sums w p
  in_operator :
      (i : ℕ) → p.operators.count ≡ suc i → Open w (operator_record p i) (operator_start p i) p.items.count
      → expr_items p p.expressions.count + operator_items p i ≡ operator_start p i → Sums w p

sums_whole : (w : Wanted) (p : Plan) → Wants w → kind_wanted w ≡ 0 → Sums w p → expr_items p p.expressions.count + operator_items p p.operators.count
    ≡ p.items.count
unfolding items_to
sums_whole w p f z (at_rest n e) = e
sums_whole w p f z (in_expr i n o e) =
    let h = open_shut w (expr_record p i) (expr_start p i) p.items.count f z o in
    omega (arith, ap (expr_items p) n)
sums_whole w p f z (in_operator i n o e) =
    let h = open_shut w (operator_record p i) (operator_start p i) p.items.count f z o in
    omega (arith, ap (operator_items p) n)

module _ (p q : Plan) (e : Extends p q) where
  exprs_grow : expr_items q p.expressions.count ≡ expr_items p p.expressions.count
  exprs_grow = sums_same (expr_record q) (expr_record p) p.expressions.count (λ i h. e.expr i h)

  operators_grow : operator_items q p.operators.count ≡ operator_items p p.operators.count
  operators_grow = sums_same (operator_record q) (operator_record p) p.operators.count (λ i h. e.operator i h)

sums_way : (q : State) (x : Record) (t : State) → Kept q → Way q x t → Sums q.wanted q.plan → Sums t.wanted t.plan
sums_way q x t k (a_column s h z) a =
    let n = sums_whole q.wanted q.plan k.wants z a in
    at_rest (no_list (row_of x.kind) x (column-row x.kind s)) n
sums_way q x t k (an_expr s h z) a =
    let n = sums_whole q.wanted q.plan k.wants z a in
    let p = q.plan in
    let y = (rules_in q.wanted q.plan k.phase).0 in
    let st = q.plan.items.count in
    in_expr p.expressions.count (add-one _) (expr_open p x y h s)
    (omega (arith, exprs_grow p (with_expr p x st) (expr-longer p x st), new-expr-start p x st y h))
sums_way q x t k (an_operator s h z) a =
    let n = sums_whole q.wanted q.plan k.wants z a in
    let p = q.plan in
    let y = (rules_in q.wanted q.plan k.phase).0 in
    let st = q.plan.items.count in
    in_operator p.operators.count (add-one _) (operator_open p x y h)
    (omega (arith, operators_grow p (with_operator p x st) (operator-longer p x st), new-operator-start p x st y h))
sums_way q x t k (an_item s h n e) (at_rest u v) = absurd (let l = some_left q.wanted n in omega arith)
sums_way q x t k (an_item s h n e) (in_expr i u o v) = in_expr i u (open_less q.wanted _ _ q.plan.items.count n o) v
sums_way q x t k (an_item s h n e) (in_operator i u o v) = in_operator i u (open_less q.wanted _ _ q.plan.items.count n o) v

sums_start : Sums start_state.wanted start_state.plan
unfolding start_state empty_plan items_to
sums_start = at_rest refl refl

sums_reads : (xs : List Record) (q : State) → Reads xs q → Sums q.wanted q.plan
sums_reads xs q begin = sums_start
sums_reads xs q (next {xs = ys} {q = p} x t r k) = sums_way p x t (kept-reads ys p r) k.way (sums_reads ys p r)

-- ---- so it can be copied
pub source : (xs : List Record) (q : State) → Reads xs q → kind_wanted q.wanted ≡ 0 → Source q.plan
source xs q r z =
    let k = kept-reads xs q r in
    let u = shut q.wanted q.plan k.wants z k.phase in
    record {
      rules = u;
      unique = λ i j c a b. let m = k.marks.complete i c a in let n = k.marks.complete j c b in omega arith;
      room = omega (arith, sums_whole q.wanted q.plan k.wants z (sums_reads xs q r), u.within.items);
    }

-- ---- its records fit their bytes
all-part : (P : Record → Type 0) (k : ℕ) (on : Bool) (xs : List Record) → All P xs → All P (part_from k on xs)
unfolding part_from
all-part P k on [] a = none
all-part P k on (x ∷ xs) (more p a) = go (belongs k on x) (all-part P k (belongs k on x) xs a)
  where
    go : (t : Bool) {ys : List Record} → All P ys → All P (cond t (x ∷ ys) ys)
    go true b = more p b
    go false b = b

all_append : (P : Record → Type 0) (xs ys : List Record) → All P xs → All P ys → All P (xs ++ ys)
all_append P [] ys a b = b
all_append P (x ∷ xs) ys (more p a) b = more p (all_append P xs ys a b)

fits-plan : (xs : List Record) (q : State) → Reads xs q → All Fits xs → kind_wanted q.wanted ≡ 0 → All Fits (plan_records q.plan)
fits-plan xs q r a z =
    let t = three-reads xs q r a z in
    all_append Fits _ _ (subst (All Fits) t.columns (all-part Fits 1 false xs a))
    (all_append Fits _ _ (subst (All Fits) t.exprs (all-part Fits 2 false xs a)) (subst (All Fits) t.operators (all-part Fits 3 false xs a)))

-- ---- what is read of what is written
pub record WrittenBack (p : Plan) : Type 0 where
  pub plan : Plan
  pub answer : read_of (write_of p) ≡ record { plan = plan; reading = Ok tt }
  pub columns : plan.columns.count ≡ p.columns.count
  pub exprs : plan.expressions.count ≡ p.expressions.count
  pub operators : plan.operators.count ≡ p.operators.count
  pub items : plan.items.count ≡ p.items.count
  pub copy : Copy p plan p.columns.count p.expressions.count p.operators.count
  pub sized : Sized plan
  pub zeros : Zeros plan

pub written-reads : (xs : List Record) (q : State) → Reads xs q → All Fits xs → kind_wanted q.wanted ≡ 0 → WrittenBack q.plan
written-reads xs q r a z =
    let v = copied q.plan (source xs q r z) in
    let d = v.1 in
    record {
      plan = v.0.plan;
      answer = read-records (plan_records q.plan) v.0 d.reads (fits-plan xs q r a z) d.nothing;
      columns = d.columns;
      exprs = d.exprs;
      operators = d.operators;
      items = d.items ∙ sums_whole q.wanted q.plan (kept-reads xs q r).wants z (sums_reads xs q r);
      copy = d.copy;
      sized = (rules_in v.0.wanted v.0.plan (kept-reads _ v.0 d.reads).phase).0;
      zeros = zeros-reads _ v.0 d.reads;
    }

-- What the writer writes of an accepted plan is accepted, and the plan that is read is a copy of it: the same columns, expressions and operators
-- at the same handles, with the same items in their lists, which stand one after the other. Assumes nothing.
pub written_back : (s : List ℕ) → Bytes s → is_whole (read_of s).reading ≡ true → WrittenBack (read_of s).plan
written_back s b e =
    let f = file_of_lem s b e in
    subst WrittenBack (sym f.plan) (written-reads (records_of s) (last_of s) f.reads f.fit f.nothing)

-- ---- plans in the writer's placement
-- the lists stand one after the other: those of the expressions, then those of the operators
pub record Placed (p : Plan) : Type 0 where
  pub expr : (i : ℕ) → i < p.expressions.count → expr_start p i ≡ expr_items p i
  pub operator : (i : ℕ) → i < p.operators.count → operator_start p i ≡ expr_items p p.expressions.count + operator_items p i

-- what is known of every plan that was read
pub record WasRead (p : Plan) : Type 0 where
  pub sized : Sized p
  pub zeros : Zeros p
  pub covered : (j : ℕ) → j < p.items.count → Covered p j
  pub back : WrittenBack p

was_read : (xs : List Record) (q : State) → Reads xs q → All Fits xs → kind_wanted q.wanted ≡ 0 → WasRead q.plan
was_read xs q r a z =
    record {
      sized = (rules_in q.wanted q.plan (kept-reads xs q r).phase).0;
      zeros = zeros-reads xs q r;
      covered = λ j h. covered-reads xs q r j h;
      back = written-reads xs q r a z;
    }

pub read-plan : (s : List ℕ) → Bytes s → is_whole (read_of s).reading ≡ true → WasRead (read_of s).plan
read-plan s b e =
    let f = file_of_lem s b e in
    subst WasRead (sym f.plan) (was_read (records_of s) (last_of s) f.reads f.fit f.nothing)

-- the items of a list that stands at the same place
module _ (p r : Plan) (e : (i : ℕ) → i < p.expressions.count → expr_start p i ≡ expr_start r i)
    (o : (i : ℕ) → i < p.operators.count → operator_start p i ≡ operator_start r i)
    (ei : (i : ℕ) → i < p.expressions.count → (k : ℕ) → k < total_of (expr_record p i) → item_record p (expr_start p i + k) ≡ item_record r
    (expr_start r i + k))
    (oi : (i : ℕ) → i < p.operators.count → (k : ℕ) → k < total_of (operator_record p i) → item_record p (operator_start p i + k) ≡ item_record r
    (operator_start r i + k)) where
  same-items : (j : ℕ) → Covered p j → item_record p j ≡ item_record r j
  same-items j (by-expr i k h l s) = ap (item_record p) (sym s) ∙ ei i h k l ∙ ap (λ (n : ℕ). item_record r (n + k)) (sym (e i h)) ∙ ap (item_record
      r) s
  same-items j (by-operator i k h l s) = ap (item_record p) (sym s) ∙ oi i h k l ∙ ap (λ (n : ℕ). item_record r (n + k)) (sym (o i h)) ∙ ap
      (item_record r) s

placed_same : (p : Plan) (w : WasRead p) → Placed p → p ≡ w.back.plan
placed_same p w l =
    let b = w.back in
    let c = b.copy in
    let e : (i : ℕ) → i < p.expressions.count → expr_start p i ≡ expr_start b.plan i = λ i h. l.expr i h ∙ sym (c.expr-start i h) in
    let o : (i : ℕ) → i < p.operators.count → operator_start p i ≡ operator_start b.plan i = λ i h. l.operator i h ∙ sym (c.operator-start i h) in
    same-plan p b.plan w.sized b.sized w.zeros b.zeros
    (record {
      columns = sym b.columns;
      exprs = sym b.exprs;
      operators = sym b.operators;
      items = sym b.items;
      column = λ i h. sym (c.column i h);
      expr = λ i h. sym (c.expr i h);
      expr-start = e;
      operator = λ i h. sym (c.operator i h);
      operator-start = o;
      item = λ j h. same-items p b.plan e o (λ i u k v. sym (c.expr-items i u k v)) (λ i u k v. sym (c.operator-items i u k v)) j (w.covered j h);
    })

-- Reading what the writer writes of an accepted plan in the writer's placement gives the very plan back. Assumes nothing.
pub placed-back : (s : List ℕ) → Bytes s → is_whole (read_of s).reading ≡ true → Placed (read_of s).plan → read_of (write_of (read_of s).plan) ≡
    record
    { plan = (read_of s).plan; reading = Ok tt }
placed-back s b e l =
    let w = read-plan s b e in
    w.back.answer ∙ ap (λ (p : Plan). record { plan = p; reading = Ok tt }) (sym (placed_same (read_of s).plan w l))

-- The plan that is read of what the writer wrote is in that placement. Assumes nothing.
pub back-placed : (p : Plan) (w : WrittenBack p) → Placed w.plan
back-placed p w =
    let c = w.copy in
    let e : (i : ℕ) → i ≤ p.expressions.count → expr_items w.plan i ≡ expr_items p i = λ i h. sums_same (expr_record w.plan) (expr_record p) i
    (λ j u. c.expr j (omega arith)) in
    let o : (i : ℕ) → i ≤ p.operators.count → operator_items w.plan i ≡ operator_items p i = λ i h. sums_same (operator_record w.plan)
    (operator_record p)
    i (λ j u. c.operator j (omega arith)) in
    record {
      expr = λ i h. c.expr-start i (omega (arith, w.exprs)) ∙ sym (e i (omega (arith, w.exprs)));
      operator = λ i h. c.operator-start i (omega (arith, w.operators))
          ∙ sym (λ j. (ap (expr_items w.plan) w.exprs ∙ e p.expressions.count (omega arith)) j + o i (omega (arith, w.operators)) j);
    }

-- ---- files in the writer's order
-- A file whose columns come first, then its expressions, then its operators, is what the writer writes of its plan. Assumes nothing.
pub in_order_lem :
    (s : List ℕ) → Bytes s → is_whole (read_of s).reading ≡ true → records_of s ≡ part_of 1 (records_of s) ++ (part_of 2 (records_of s) ++ part_of 3
    (records_of s))
    → s ≡ write_of (read_of s).plan
in_order_lem s b e o =
    let f = file_of_lem s b e in
    let t = parts-read s b e in
    f.bytes ∙ ap (λ (xs : List Record). put_records xs []) (o ∙ (λ i. t.columns i ++ (t.exprs i ++ t.operators i)))

-- ---- the other half of one to one: the same three parts, and the same starts of lists, make one plan
module _ (s t : List ℕ) (bs : Bytes s) (bt : Bytes t) (es : is_whole (read_of s).reading ≡ true) (et : is_whole (read_of t).reading ≡ true) where
  abbrev plan_s : Plan
  plan_s = (read_of s).plan

  abbrev plan_t : Plan
  plan_t = (read_of t).plan

  same-records : Three (records_of s) (part_of 1 (records_of t)) (part_of 2 (records_of t)) (part_of 3 (records_of t)) → plan_records plan_s ≡
      plan_records plan_t
  same-records h =
      let u = parts-read s bs es in
      let v = parts-read t bt et in
      λ i. (sym u.columns ∙ h.columns ∙ v.columns) i ++ ((sym u.exprs ∙ h.exprs ∙ v.exprs) i ++ (sym u.operators ∙ h.operators ∙ v.operators) i)

  -- Two accepted files with the same three parts, whose lists start at the same places, have one plan. Assumes nothing.
  pub same-plan-read :
      Three (records_of s) (part_of 1 (records_of t)) (part_of 2 (records_of t)) (part_of 3 (records_of t))
      → ((i : ℕ) → i < plan_s.expressions.count → expr_start plan_s i ≡ expr_start plan_t i)
      → ((i : ℕ) → i < plan_s.operators.count → operator_start plan_s i ≡ operator_start plan_t i)
      → plan_s ≡ plan_t
  same-plan-read h e o =
      let u = read-plan s bs es in
      let v = read-plan t bt et in
      let x = u.back in
      let y = v.back in
      let q : x.plan ≡ y.plan =
      ap (λ (a : Answer). a.plan) (sym x.answer ∙ ap (λ (xs : List Record). read_of (put_records xs [])) (same-records h) ∙ y.answer) in
      let nc : plan_s.columns.count ≡ plan_t.columns.count = sym x.columns ∙ ap (λ (p : Plan). p.columns.count) q ∙ y.columns in
      let ne : plan_s.expressions.count ≡ plan_t.expressions.count = sym x.exprs ∙ ap (λ (p : Plan). p.expressions.count) q ∙ y.exprs in
      let np : plan_s.operators.count ≡ plan_t.operators.count = sym x.operators ∙ ap (λ (p : Plan). p.operators.count) q ∙ y.operators in
      let er : (i : ℕ) → i < plan_s.expressions.count → expr_record plan_s i ≡ expr_record plan_t i =
      λ i l. sym (x.copy.expr i l) ∙ ap (λ (p : Plan). expr_record p i) q ∙ y.copy.expr i (omega arith) in
      let or : (i : ℕ) → i < plan_s.operators.count → operator_record plan_s i ≡ operator_record plan_t i =
      λ i l. sym (x.copy.operator i l) ∙ ap (λ (p : Plan). operator_record p i) q ∙ y.copy.operator i (omega arith) in
      same-plan plan_s plan_t u.sized v.sized u.zeros v.zeros
      (record {
        columns = nc;
        exprs = ne;
        operators = np;
        items = sym x.items ∙ ap (λ (p : Plan). p.items.count) q ∙ y.items;
        column = λ i l. sym (x.copy.column i l) ∙ ap (λ (p : Plan). column_record p i) q ∙ y.copy.column i (omega arith);
        expr = er;
        expr-start = e;
        operator = or;
        operator-start = o;
        item = λ j l. same-items plan_s plan_t e o
            (λ i m k n. sym (x.copy.expr-items i m k n) ∙ ap (λ (p : Plan). item_record p (expr_start p i + k)) q ∙ y.copy.expr-items i (omega arith)
            k
            (subst (λ (z : Record). k < total_of z) (er i m) n))
            (λ i m k n. sym (x.copy.operator-items i m k n) ∙ ap (λ (p : Plan). item_record p (operator_start p i + k)) q ∙ y.copy.operator-items i
            (omega arith) k (subst (λ (z : Record). k < total_of z) (or i m) n))
            j (u.covered j l);
      })
