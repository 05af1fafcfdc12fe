-- An accepted plan keeps the rules of a plan; and refusal 5 is given exactly where another Scan has the column. Assumes nothing.
use Prim.Native.Nat.{ℕ, zero, suc, ◌+◌, ◌-◌, ◌≤◌, ◌<◌}
use mathlib.Core.Path.{◌≡◌, refl, sym, ◌∙◌, subst}
use mathlib.Core.Bool.{Bool, true, false, cond, ◌&&◌, not}
use mathlib.Core.List.{List}
use native.Mathlib.Omega.{arith}
use lib.Dec.{eqb}
use lib.ListN.{get_or, length, drop, replicate, length-replicate}
use borrow.Author.Tests.{eqb-true, eqb-false, le-leb, eq-eqb, ne_eqb, not-true}
use Rattle.laws.proofs.Bools.{and_left, and_right}
use Rattle.laws.proofs.Lists.{get_d_replicate-self}
use Rattle.lists.specs.Ranges.{any_from, count_from}
use Rattle.lists.proofs.RangeLaws.{count_none}
use Rattle.plan_kinds.specs.declared.Record.{Record}
use Rattle.plan_kinds.specs.Rows.{Row}
use Rattle.plan_kinds.specs.Rows.{row_of}
use Rattle.plan_kinds.specs.Records.{bits_ok}
use Rattle.plan.specs.declared.Plan.{Plan}
use Rattle.plan.specs.Plans.{empty_plan}
use Rattle.plan.specs.Append.{with_column, with_expr}
use Rattle.plan.specs.Records.{operator_record, operator_start}
use Rattle.plan.specs.Extends.{Sized}
use Rattle.plan.proofs.AppendLaws.{column-longer, expr-longer}
use Rattle.plan_rules.specs.Rules.{scans_of, scans, plan_ok}
use Rattle.plan_rules.proofs.RuleLaws.{Rules, rules-of}
use Rattle.plan_file.specs.declared.Wanted.{Wanted}
use Rattle.plan_file.specs.State.{State}
use Rattle.plan_file.specs.Answers.{is_whole}
use Rattle.plan_file.specs.Bytes.{record_from}
use Rattle.plan_file.specs.Steps.{kind_wanted, scanned_twice, steps_of, start_state, read_of}
use Rattle.plan_file.proofs.StepCases.{Wants, Way, a_column, an_expr, an_operator, an_item, Taking, wants-way, steps_keep}
use Rattle.plan_file.proofs.Finish.{accepted, refused-empty}
use Rattle.plan_file_laws.specs.ByteStrings.{Bytes}
use Rattle.plan_file_laws.specs.ListItems.{ScanHas}
use Rattle.plan_file_laws.proofs.RowFacts.{bytes_drop, bits_fit}
use Rattle.plan_file_laws.proofs.Phases.{Within, counts_of, RulesTo, Phase, closed, open_expr, open_operator, shut, Right, phase-column}
use Rattle.plan_file_laws.proofs.Phases.{phase-expr, phase-operator, phase-item}
use Rattle.plan_file_laws.proofs.Marks.{Marks, marks-same, marks-operator, marks-item, scan-whole}

-- ---- through a reading
pub record Kept (q : State) : Type 0 where
  pub wants : Wants q.wanted
  pub phase : Phase q.wanted q.plan
  pub marks : Marks q.scans q.plan

pub rules_in : (w : Wanted) (p : Plan) → Phase w p → Sized p × Within p
rules_in w p (closed n r) = (r.sized, r.within)
rules_in w p (open_expr i e r o) = (r.sized, r.within)
rules_in w p (open_operator i e r o) = (r.sized, r.within)

-- what a record's bytes leave: the payload fits
bits-read : (s : List ℕ) (q : State) (x : Record) → Bytes s → x ≡ record_from (drop q.at s) (row_of (get_or (drop q.at s) 0 0)) → bits_ok (row_of x.kind) x
    ≡ true
unfolding record_from
bits-read s q x b e = subst (λ (y : Record). bits_ok (row_of y.kind) y ≡ true) (sym e) (bits_fit (drop q.at s) _ (bytes_drop q.at s b))

-- ---- what held of a record that is taken, without its bytes
pub record Takes (q : State) (x : Record) (t : State) : Type 0 where
  pub right : Right x q.plan.columns.count q.plan.expressions.count q.plan.operators.count
  pub once : scanned_twice (row_of x.kind) x q.wanted q.scans q.plan.operators.count ≡ false
  pub way : Way q x t

pub takes : (s : List ℕ) (q : State) (x : Record) (t : State) → Bytes s → Taking s q x t → Takes q x t
takes s q x t b u =
    record {
      right = record { code = u.passed.code; bits = bits-read s q x b u.fetched; handles = u.passed.handles };
      once = u.passed.once;
      way = u.way;
    }

kept-way : (q : State) (x : Record) (t : State) → Kept q → Right x q.plan.columns.count q.plan.expressions.count q.plan.operators.count
    → scanned_twice (row_of x.kind) x q.wanted q.scans q.plan.operators.count ≡ false → Way q x t → Phase t.wanted t.plan × Marks t.scans
    t.plan
kept-way q x t k g o (a_column s h z) =
    let r = shut q.wanted q.plan k.wants z k.phase in
    (phase-column q.plan x r h s g.code, marks-same q.plan (with_column q.plan x) (column-longer q.plan x) q.scans refl refl k.marks)
kept-way q x t k g o (an_expr s h z) =
    let r = shut q.wanted q.plan k.wants z k.phase in (
      phase-expr q.plan x r h s g,
      marks-same q.plan (with_expr q.plan x q.plan.items.count) (expr-longer q.plan x q.plan.items.count)
          q.scans refl refl k.marks,
    )
kept-way q x t k g o (an_operator s h z) =
    let r = shut q.wanted q.plan k.wants z k.phase in
    (phase-operator q.plan x r h s g, marks-operator q.plan x q.scans r.sized h k.marks)
kept-way q x t k g o (an_item s h n e) =
    let v = rules_in q.wanted q.plan k.phase in (
      phase-item q.wanted q.plan x v.0 h n s e g.handles k.phase,
      marks-item q.wanted q.plan x q.scans v.0 h n k.phase v.1.columns e s g.handles o k.marks,
    )

-- A record that is taken keeps all this. Assumes nothing.
pub kept-takes : (q : State) (x : Record) (t : State) → Kept q → Takes q x t → Kept t
kept-takes q x t k u =
    let v = kept-way q x t k u.right u.once u.way in
    record { wants = wants-way q x t k.wants u.way; phase = v.0; marks = v.1 }

-- ---- the start
zeros-long : (n : ℕ) → length {A = ℕ} (replicate n 0) ≡ n
zeros-long n = length-replicate {A = ℕ} n 0

pub empty-sized : Sized empty_plan
unfolding empty_plan
empty-sized =
    record {
      column-name = zeros-long 64;
      column-kind = zeros-long 64;
      expr-kind = zeros-long 1024;
      expr-code = zeros-long 1024;
      expr_a = zeros-long 1024;
      expr_b = zeros-long 1024;
      expr-bits = zeros-long 1024;
      expr-start = zeros-long 1024;
      operator-kind = zeros-long 128;
      operator-code = zeros-long 128;
      operator_a = zeros-long 128;
      operator_b = zeros-long 128;
      operator_c = zeros-long 128;
      operator_d = zeros-long 128;
      operator-start = zeros-long 128;
      item_a = zeros-long 2048;
      item_b = zeros-long 2048;
    }

pub empty-rules : RulesTo empty_plan empty_plan.expressions.count empty_plan.operators.count
unfolding empty_plan
empty-rules =
    record {
      sized = empty-sized;
      within = record { columns = omega arith; exprs = omega arith; operators = omega arith; items = omega arith };
      column = λ i h. absurd (omega arith);
      expr = λ i h. absurd (omega arith);
      operator = λ i h. absurd (omega arith);
      exprs = omega arith;
      operators = omega arith;
    }

pub kept-start : Kept start_state
unfolding start_state empty_plan
kept-start =
    record {
      wants = λ h. absurd (omega arith);
      phase = closed refl empty-rules;
      marks = record {
        size = zeros-long 64;
        complete = λ i c h. absurd (omega (arith, h.there));
        sound = λ i c e. absurd (let z : ◌≡◌ {A = ℕ} 0 (suc i) = sym (get_d_replicate-self 64 c 0) ∙ e in omega arith);
      };
    }

pub kept-steps : (s : List ℕ) → Bytes s → (i : ℕ) → Kept (steps_of s i)
kept-steps s b =
    steps_keep Kept s kept-start (λ q k h r. record { wants = h.wants; phase = h.phase; marks = h.marks })
    (λ q x t h u. kept-takes q x t h (takes s q x t b u))

-- ---- a column in at most one Scan
abbrev AnyAt : (ℕ → Bool) → ℕ → ℕ → Type 0
AnyAt f i n = (j : ℕ) × (i ≤ j) × (j < i + n) × (f j ≡ true)

any_at : (f : ℕ → Bool) (n i : ℕ) → any_from f i n ≡ true → AnyAt f i n
unfolding any_from
any_at f zero i e = absurd (let z : ◌≡◌ {A = ℕ} 0 1 = cc in omega arith)
any_at f (suc n) i e = go (f i) refl (any_at f n (suc i))
  where
    go : (t : Bool) → f i ≡ t → (any_from f (suc i) n ≡ true → AnyAt f (suc i) n) → AnyAt f i (suc n)
    go true q rest = (i, omega arith, omega arith, q)
    go false q rest =
        let v = rest (rw q at e) in
        (v.0, omega (arith, v.1), omega (arith, v.2), v.3)

-- a test that passes at one place at most is counted once at most
abbrev Unique : (ℕ → Bool) → ℕ → ℕ → Type 0
Unique f i n = (a b : ℕ) → i ≤ a → a < i + n → i ≤ b → b < i + n → f a ≡ true → f b ≡ true → a ≡ b

one_at_most : (f : ℕ → Bool) (n i : ℕ) → Unique f i n → count_from f i n ≤ 1
unfolding count_from
one_at_most f zero i u = omega arith
one_at_most f (suc n) i u = go (f i) refl (one_at_most f n (suc i) (λ a b la ha lb hb. u a b (omega arith) (omega arith) (omega arith) (omega arith)))
  where
    none : f i ≡ true → (j : ℕ) (t : Bool) → f j ≡ t → suc i ≤ j → j < suc i + n → t ≡ false
    none e j true g l h = absurd (let s = u i j (omega arith) (omega arith) (omega arith) (omega arith) e g in omega arith)
    none e j false g l h = refl

    go : (t : Bool) → f i ≡ t → count_from f (suc i) n ≤ 1 → cond t 1 0 + count_from f (suc i) n ≤ 1
    go true e rest = omega (arith, count_none f n (suc i) (λ j lo hi. none e j (f j) refl lo hi))
    go false e rest = omega arith

has-scan : (p : Plan) (c i : ℕ) → RulesTo p p.expressions.count p.operators.count → i < p.operators.count → scans p c i ≡ true → ScanHas p i c
unfolding scans_of
has-scan p c i r h e =
    let k : (operator_record p i).kind ≡ 0x30 = eqb-true _ _ (and_left _ _ e) in
    let v = any_at (λ (j : ℕ). eqb (get_or p.items.a j 0) c) (operator_record p i).b (operator_start p i)
    (and_right (eqb (operator_record p i).kind 0x30) _ e) in
    record {
      there = h;
      scan = k;
      place = v.0;
      from = v.1;
      inside = v.2;
      read = omega (arith, v.2, scan-whole p i k (r.operator i h));
      item = eqb-true _ _ v.3;
    }

-- Where no item is wanted, the plan keeps the rules. Assumes nothing.
pub kept-rules : (q : State) → Kept q → kind_wanted q.wanted ≡ 0 → Rules q.plan
kept-rules q k z =
    let r = shut q.wanted q.plan k.wants z k.phase in
    record {
      counts = counts_of q.plan r.within;
      column = r.column;
      expr = r.expr;
      operator = r.operator;
      once = λ c h. le-leb _ 1 (one_at_most (scans q.plan c) q.plan.operators.count 0
          (λ a b la ha lb hb ea eb.
          let x = k.marks.complete a c (has-scan q.plan c a r (omega arith) ea) in
          let y = k.marks.complete b c (has-scan q.plan c b r (omega arith) eb) in
          omega arith));
    }

rules-empty : Rules empty_plan
unfolding empty_plan
rules-empty =
    record {
      counts = counts_of empty_plan empty-rules.within;
      column = λ i h. absurd (omega arith);
      expr = λ i h. absurd (omega arith);
      operator = λ i h. absurd (omega arith);
      once = λ i h. absurd (omega arith);
    }

-- Whatever bytes are read, the plan that is handed back keeps the rules: an accepted one does, and the empty one does. Assumes nothing.
pub rules-read : (s : List ℕ) → Bytes s → plan_ok (read_of s).plan ≡ true
rules-read s b = go (is_whole (read_of s).reading) refl
  where
    go : (t : Bool) → is_whole (read_of s).reading ≡ t → plan_ok (read_of s).plan ≡ true
    go true e =
        let a = accepted s e in
        subst (λ (p : Plan). plan_ok p ≡ true) (sym a.plan)
        (rules-of (steps_of s (length s)).plan (kept-rules (steps_of s (length s)) (kept-steps s b (length s)) a.nothing))
    go false e = subst (λ (p : Plan). plan_ok p ≡ true) (sym (refused-empty s e)) (rules-of empty_plan rules-empty)

-- ---- refusal 5
-- another Scan than the one that is read has the column
abbrev pub Another : Plan → ℕ → Type 0
Another p c = (i : ℕ) × ScanHas p i c × (suc i ≡ p.operators.count → ⊥)

pub suc-of-ne-zero : (m : ℕ) → (m ≡ 0 → ⊥) → m ≡ suc (m - 1)
suc-of-ne-zero m n = omega (arith, n)

module _ (s : List ℕ) (b : Bytes s) (k : ℕ) (r : Row) (x : Record) where
  abbrev state : State
  state = steps_of s k

  abbrev mark : ℕ
  mark = get_or (steps_of s k).scans x.a 0

  -- The test of refusal 5 passes exactly at a Scan's item whose column another Scan has: it is so where the test says so. Assumes nothing.
  pub twice-so : scanned_twice r x state.wanted state.scans state.plan.operators.count ≡ true → (r.sort ≡ 4) × (state.wanted.scan ≡ true)
      × Another state.plan x.a
  twice-so e =
      let abc = and_left _ _ e in
      let ab = and_left _ _ abc in
      let some = eqb-false mark 0 (not-true _ (and_right (eqb r.sort 4 && state.wanted.scan) (not (eqb mark 0)) abc)) in
      let other = eqb-false mark state.plan.operators.count
      (not-true _ (and_right ((eqb r.sort 4 && state.wanted.scan) && not (eqb mark 0)) (not (eqb mark state.plan.operators.count)) e)) in
      let n : mark ≡ suc (mark - 1) = suc-of-ne-zero mark some in (
        eqb-true _ _ (and_left _ _ ab),
        and_right (eqb r.sort 4) _ ab,
        (mark - 1, (kept-steps s b k).marks.sound (mark - 1) x.a n, λ q. other (n ∙ q)),
      )

  -- and the test says so where it is so
  pub so_twice : r.sort ≡ 4 → state.wanted.scan ≡ true → Another state.plan x.a → scanned_twice r x state.wanted state.scans
      state.plan.operators.count ≡ true
  so_twice e f a =
      let n : mark ≡ suc a.0 = (kept-steps s b k).marks.complete a.0 x.a a.1 in
      rw (eq-eqb r.sort 4 e, f, ne_eqb mark 0 (λ z. omega arith), ne_eqb mark state.plan.operators.count (λ z. a.2 (sym n ∙ z)))
