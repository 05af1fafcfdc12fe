-- The ways through a step as cases: the record that is taken, what held of it, and the state after it. Assumes nothing.
use Rattle.std.proofs.Common.{Ok, Err, Result}
use Prim.Native.Nat.{ℕ, zero, suc, ◌+◌, ◌-◌, ◌<◌}
use mathlib.Core.Path.{◌≡◌, refl, sym, ap, ◌∙◌}
use mathlib.Core.Bool.{Bool, true, false, cond, ◌&&◌, ◌||◌, not}
use mathlib.Core.List.{List}
use native.Mathlib.Omega.{arith}
use native.Mathlib.Decide.{dec_lt, ℕ_discrete}
use lib.Dec.{ltb, leb, eqb}
use lib.ListN.{get_or, set, length, drop}
use borrow.Author.Tests.{eqb-true, leb-false, ltb-true, lt-ltb, le-ltb, eq-eqb, ne_eqb}
use Rattle.laws.proofs.Bools.{and_left, and_right, cond_elim}
use Rattle.plan_kinds.specs.declared.Record.{Record}
use Rattle.plan_kinds.specs.Rows.{Row}
use Rattle.plan_kinds.specs.Rows.{row_of, line_of}
use Rattle.plan_kinds.specs.Records.{code_ok, handles_ok, count_of}
use Rattle.plan_kinds.proofs.Table.{item-kinds}
use Rattle.plan.specs.declared.Plan.{Plan}
use Rattle.plan.specs.Append.{no_room, added_at, with_column, with_expr, with_operator, with_item, append_column, append_expr, append_operator, append_item}
use Rattle.plan_file.specs.declared.Wanted.{Wanted}
use Rattle.plan_file.specs.State.{State}
use Rattle.plan_file.specs.declared.ReadError.{ReadError}
use Rattle.plan_file.specs.declared.ReadError.TheVariants.{Short, Room}
use Rattle.plan_file.specs.Answers.{is_whole, is_added, place_of}
use Rattle.plan_file.specs.Bytes.{record_from}
use Rattle.plan_file.specs.Steps.{kind_wanted, kind_ok, scanned_twice, fault_of, append_of, list_of, less_one, wanted_after, scans_after, refused_by}
use Rattle.plan_file.specs.Steps.{taken_by, appended_step, judged_step, row_step, record_step, is_done, step_of, steps_of, start_state}
use Rattle.plan_file.proofs.RecordTests.{fault_where, Passed, no_fault}

-- ---- what is wanted is an item
abbrev pub Wants : Wanted → Type 0
Wants w = 0 < w.left → (row_of w.item).sort ≡ 4

counted : (t u b : Bool) (m n : ℕ) → ((not t && not u) || b) ≡ true → 0 < cond t m (cond u n 0) → b ≡ true
counted true u b m n e h = e
counted false true b m n e h = e
counted false false b m n e h = absurd (omega arith)

pub wants-list : (k : ℕ) (x : Record) → Wants (list_of (row_of k) x)
unfolding count_of
wants-list k x h = eqb-true _ _ (counted (eqb (row_of k).a 6) (eqb (row_of k).b 6) _ x.a x.b (item-kinds k) h)

pub wants-less : (w : Wanted) → Wants w → Wants (less_one w)
unfolding less_one
wants-less w f = go (ltb 0 w.left)
  where
    go : (t : Bool) → Wants (cond t (record { item = w.item; left = w.left - 1; more = w.more; scan = w.scan })
        (record { item = w.item; left = w.left; more = w.more - 1; scan = w.scan }))
    go true h = f (omega arith)
    go false h = f h

-- where an item is wanted, its kind is an item's
pub item-sort : (w : Wanted) → Wants w → (kind_wanted w ≡ 0 → ⊥) → (row_of (kind_wanted w)).sort ≡ 4
unfolding kind_wanted row_of line_of
item-sort w f n =
    elim (dec_lt 0 w.left) [
      | yes l ↦ rw (lt-ltb 0 w.left l) (f l)
      | no l ↦ elim (dec_lt 0 w.more) [
        | yes m ↦ rw (le-ltb 0 w.left (omega arith), lt-ltb 0 w.more m)
        | no m ↦ absurd (n (rw (le-ltb 0 w.left (omega arith), le-ltb 0 w.more (omega arith))))
      ]
    ]

-- ---- the four ways of taking a record
abbrev pub next_of : State → Record → Wanted → List ℕ → Plan → State
next_of q x w scans p = record { at = q.at + (row_of x.kind).length; reading = (Ok tt); wanted = w; scans = scans; plan = p }

pub data Way (q : State) (x : Record) : State → Type 0 where
  a_column :
      (row_of x.kind).sort ≡ 1 → q.plan.columns.count < 64 → kind_wanted q.wanted ≡ 0
      → Way q x (next_of q x (list_of (row_of x.kind) x) q.scans (with_column q.plan x))
  an_expr :
      (row_of x.kind).sort ≡ 2 → q.plan.expressions.count < 1024 → kind_wanted q.wanted ≡ 0
      → Way q x (next_of q x (list_of (row_of x.kind) x) q.scans (with_expr q.plan x q.plan.items.count))
  an_operator :
      (row_of x.kind).sort ≡ 3 → q.plan.operators.count < 128 → kind_wanted q.wanted ≡ 0
      → Way q x (next_of q x (list_of (row_of x.kind) x) q.scans (with_operator q.plan x q.plan.items.count))
  an_item :
      (row_of x.kind).sort ≡ 4 → q.plan.items.count < 2048 → (kind_wanted q.wanted ≡ 0 → ⊥) → x.kind ≡ kind_wanted q.wanted
      → Way q x (next_of q x (less_one q.wanted) (cond q.wanted.scan (set q.scans x.a q.plan.operators.count) q.scans)
      (with_item q.plan x))

room : (t : Bool) (p r : Plan) (n : ℕ) → is_added (cond t (no_room p) (added_at r n)).added ≡ true → t ≡ false
room true p r n e = sym e
room false p r n e = refl

module _ (q : State) (x : Record) (f : Wants q.wanted) (k : kind_ok (row_of x.kind) x q.wanted ≡ true) where
  -- a record that is no item stands where none is wanted
  none-wanted : ((row_of x.kind).sort ≡ 4 → ⊥) → kind_wanted q.wanted ≡ 0
  unfolding kind_ok
  none-wanted n =
      elim (ℕ_discrete (kind_wanted q.wanted) 0) [
        | yes e ↦ e
        | no z ↦ (let h : eqb x.kind (kind_wanted q.wanted) ≡ true = rw (ne_eqb _ _ z) at k in
            absurd (n (ap (λ (v : ℕ). (row_of v).sort) (eqb-true _ _ h) ∙ item-sort q.wanted f z)))
      ]

  between : (n : ℕ) → 0 < n → n < 4 → (n ≡ 1 → ⊥) → (n ≡ 2 → ⊥) → (n ≡ 3 → ⊥) → ⊥
  between n l m a b d = omega (arith, a, b, d)

  -- and where a record of none of the sorts 1 to 3 stands, an item of its kind is wanted
  one_wanted : ((row_of x.kind).sort ≡ 1 → ⊥) → ((row_of x.kind).sort ≡ 2 → ⊥) → ((row_of x.kind).sort ≡ 3 → ⊥) → kind_wanted q.wanted ≡ 0 → ⊥
  unfolding kind_ok
  one_wanted a b d e =
      let h : (ltb 0 (row_of x.kind).sort && ltb (row_of x.kind).sort 4) ≡ true = rw (eq-eqb _ _ e) at k in
      between (row_of x.kind).sort (ltb-true _ _ (and_left _ _ h)) (ltb-true _ _ (and_right (ltb 0 (row_of x.kind).sort) _ h)) a b d

  kind-is : (kind_wanted q.wanted ≡ 0 → ⊥) → x.kind ≡ kind_wanted q.wanted
  unfolding kind_ok
  kind-is z = let h : eqb x.kind (kind_wanted q.wanted) ≡ true = rw (ne_eqb _ _ z) at k in eqb-true _ _ h

  abbrev After : Type 0
  After = Way q x (taken_by q (row_of x.kind) x (append_of q.plan (row_of x.kind) x).plan)

  pub way_of : is_added (append_of q.plan (row_of x.kind) x).added ≡ true → After
  unfolding append_of append_column append_expr append_operator append_item wanted_after scans_after
  way_of e =
      let sort = (row_of x.kind).sort in
      elim (ℕ_discrete (row_of x.kind).sort 1) [
        | yes a ↦ (let t = room (leb 64 q.plan.columns.count) _ _ _ (rw (eq-eqb (row_of x.kind).sort 1 a) at e) in
            rw (eq-eqb (row_of x.kind).sort 1 a, ne_eqb (row_of x.kind).sort 4 (λ z. omega arith), t)
            (a_column a (leb-false _ _ t) (none-wanted (λ z. omega arith))))
        | no a ↦ elim (ℕ_discrete (row_of x.kind).sort 2) [
          | yes b ↦
              (let t = room (leb 1024 q.plan.expressions.count) _ _ _ (rw (ne_eqb (row_of x.kind).sort 1 a, eq-eqb (row_of x.kind).sort 2 b) at e) in
              rw (ne_eqb (row_of x.kind).sort 1 a, eq-eqb (row_of x.kind).sort 2 b, ne_eqb (row_of x.kind).sort 4 (λ z. omega arith), t)
              (an_expr b (leb-false _ _ t) (none-wanted (λ z. omega arith))))
          | no b ↦ elim (ℕ_discrete (row_of x.kind).sort 3) [
            | yes d ↦
                (let t = room (leb 128 q.plan.operators.count) _ _ _
                (rw (ne_eqb (row_of x.kind).sort 1 a, ne_eqb (row_of x.kind).sort 2 b, eq-eqb (row_of x.kind).sort 3 d) at e) in
                rw (
                  ne_eqb (row_of x.kind).sort 1 a,
                  ne_eqb (row_of x.kind).sort 2 b,
                  eq-eqb (row_of x.kind).sort 3 d,
                  ne_eqb (row_of x.kind).sort
                      4 (λ z. omega arith),
                  t,
                )
                (an_operator d (leb-false _ _ t) (none-wanted (λ z. omega arith))))
            | no d ↦ (let z = one_wanted a b d in
                let m = kind-is z in
                let s : (row_of x.kind).sort ≡ 4 = ap (λ (v : ℕ). (row_of v).sort) m ∙ item-sort q.wanted f z in
                let t = room (leb 2048 q.plan.items.count) _ _ _
                (rw (ne_eqb (row_of x.kind).sort 1 a, ne_eqb (row_of x.kind).sort 2 b, ne_eqb (row_of x.kind).sort 3 d) at e) in
                rw (
                  ne_eqb (row_of x.kind).sort 1 a,
                  ne_eqb (row_of x.kind).sort 2 b,
                  ne_eqb (row_of x.kind).sort 3 d,
                  eq-eqb (row_of x.kind).sort
                      4 s,
                  t,
                )
                (an_item s (leb-false _ _ t) z m))
          ]
        ]
      ]

-- ---- a step takes a record
pub record Taking (s : List ℕ) (q : State) (x : Record) (t : State) : Type 0 where
  pub going : is_whole q.reading ≡ true
  pub here : q.at < length s
  pub fetched : x ≡ record_from (drop q.at s) (row_of (get_or (drop q.at s) 0 0))
  pub passed : Passed (row_of x.kind) x (length (drop q.at s)) q
  pub way : Way q x t

is-going : (a b : Bool) → (not a || b) ≡ false → a ≡ true
is-going true b e = refl
is-going false b e = sym e

-- every fault of a record is placed where it starts
fault_place : (at : ℕ) (k l c h t : Bool) → is_whole (fault_where at k l c h t) ≡ false → place_of (fault_where at k l c h t) ≡ at
fault_place at false l c h t e = refl
fault_place at true false c h t e = refl
fault_place at true true false h t e = refl
fault_place at true true true false t e = refl
fault_place at true true true true true e = refl
fault_place at true true true true false e = absurd (let z : ◌≡◌ {A = ℕ} 0 1 = cc in omega arith)

place-of_fault : (r : Row) (x : Record) (n : ℕ) (q : State) → is_whole (fault_of r x n q) ≡ false → place_of (fault_of r x n q) ≡ q.at
unfolding fault_of
place-of_fault r x n q e =
    fault_place q.at (kind_ok r x q.wanted) (leb r.length n) (code_ok r x)
    (handles_ok r x q.plan.columns.count q.plan.expressions.count q.plan.operators.count)
    (scanned_twice r x q.wanted q.scans q.plan.operators.count) e

-- a refusal of a state: not Whole, and placed where the state is
pub record Refusal (q : State) (k : Result (Unit {0}) ReadError) : Type 0 where
  pub refuses : is_whole k ≡ false
  pub place : place_of k ≡ q.at

-- What holds of a state that is done, of a state with any refusal, and of every state that taking a record gives, holds after a step.
-- Assumes nothing.
pub step-cases :
    (P : State → Type 0) (s : List ℕ) (q : State) → Wants q.wanted → (is_done (length s) q ≡ true → P q)
    → ((k : Result (Unit {0}) ReadError) → Refusal q k → P (refused_by q k))
    → ((x : Record) (t : State) → Taking s q x t → P t) → P (step_of s q)
unfolding step_of record_step row_step judged_step appended_step record_from
step-cases P s q f same refused taken =
    cond_elim P (is_done (length s) q) q _ same
    (λ d. cond_elim P (leb (length s) q.at) (refused_by q (Err (Short q.at))) _ (λ l. refused (Err (Short q.at)) (record { refuses = refl; place = refl }))
    (λ l.
    let u = drop q.at s in
    let r = row_of (get_or u 0 0) in
    let x = record_from u r in
    let k = fault_of r x (length u) q in
    cond_elim P (is_whole k) _ (refused_by q k)
    (λ w.
    let g = no_fault r x (length u) q w in
    cond_elim P (is_added (append_of q.plan r x).added) (taken_by q r x (append_of q.plan r x).plan) (refused_by q (Err (Room q.at)))
    (λ a. taken x _ (record { going = is-going _ _ d; here = leb-false _ _ l; fetched = refl; passed = g; way = way_of q x f g.kind a }))
    (λ a. refused (Err (Room q.at)) (record { refuses = refl; place = refl })))
    (λ w. refused k (record { refuses = w; place = place-of_fault r x (length u) q w }))))

abbrev Wanting : State → Type 0
Wanting q = Wants q.wanted

pub wants-way : (q : State) (x : Record) (t : State) → Wants q.wanted → Way q x t → Wants t.wanted
wants-way q x t f (a_column a b c) = wants-list x.kind x
wants-way q x t f (an_expr a b c) = wants-list x.kind x
wants-way q x t f (an_operator a b c) = wants-list x.kind x
wants-way q x t f (an_item a b c d) = wants-less q.wanted f

-- What is wanted is always an item. Assumes nothing.
pub wants : (s : List ℕ) (i : ℕ) → Wants (steps_of s i).wanted
unfolding steps_of start_state
wants s zero = λ h. absurd (omega arith)
wants s (suc i) =
    step-cases Wanting s (steps_of s i) (wants s i) (λ d. wants s i) (λ k r. wants s i) (λ x t g. wants-way (steps_of s i) x t (wants s i) g.way)

-- What holds at the start, is kept by a refusal and by every record that is taken holds throughout. Assumes nothing.
pub steps_keep :
    (P : State → Type 0) (s : List ℕ) → P start_state → ((q : State) (k : Result (Unit {0}) ReadError) → P q → Refusal q k → P (refused_by q k))
    → ((q : State) (x : Record) (t : State) → P q → Taking s q x t → P t) → (i : ℕ) → P (steps_of s i)
unfolding steps_of
steps_keep P s begin refused taken zero = begin
steps_keep P s begin refused taken (suc i) =
    let h = steps_keep P s begin refused taken i in
    step-cases P s (steps_of s i) (wants s i) (λ d. h) (λ k r. refused (steps_of s i) k h r) (λ x t g. taken (steps_of s i) x t h g)
