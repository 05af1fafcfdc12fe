-- No reading comes further than 20,856 bytes, so that no longer file is accepted. Assumes nothing.
use Rattle.std.proofs.Common.{Result}
use Prim.Native.Nat.{ℕ, ◌+◌, ◌-◌, ◌*◌, ◌≤◌, ◌<◌}
use mathlib.Core.Path.{◌≡◌, refl, sym, ◌∙◌, subst}
use mathlib.Core.Bool.{Bool, true, false, cond, ◌&&◌, ◌||◌, not}
use mathlib.Core.List.{List}
use mathlib.Core.Logic.{◌⊎◌, inl, inr, ⊎_elim}
use native.Mathlib.Omega.{arith}
use lib.Dec.{ltb, leb, eqb}
use lib.ListN.{length}
use borrow.Author.Tests.{eqb-true, leb-true, ltb-true, eq-eqb, not-true}
use Rattle.laws.proofs.Bools.{and_left, and_right, or_cases, ne-false-of-true}
use Rattle.plan_kinds.specs.declared.Record.{Record}
use Rattle.plan_kinds.specs.Rows.{Row}
use Rattle.plan_kinds.specs.Rows.{row_of, line_of}
use Rattle.plan_kinds.specs.Records.{handle_ok, handles_ok}
use Rattle.plan_kinds.proofs.Table.{holds, every-row}
use Rattle.plan.specs.declared.Plan.{Plan}
use Rattle.plan.specs.Plans.{empty_plan}
use Rattle.plan_file.specs.declared.Wanted.{Wanted}
use Rattle.plan_file.specs.State.{State}
use Rattle.plan_file.specs.declared.ReadError.{ReadError}
use Rattle.plan_file.specs.Answers.{is_whole, refusal_of}
use Rattle.plan_file.specs.Steps.{kind_wanted, less_one, refused_by, steps_of, start_state, read_of}
use Rattle.plan_file.proofs.StepCases.{Way, a_column, an_expr, an_operator, an_item, steps_keep}
use Rattle.plan_file.proofs.Finish.{accepted, refusal_none}
use Rattle.plan_file_laws.proofs.RowFacts.{handles}
use Rattle.plan_file_laws.proofs.Phases.{Within}

-- ---- the table of kinds
-- the most bytes that a record of a sort takes: a column 4, an item 5, the others 9
abbrev most_of : ℕ → ℕ
most_of sort = cond (eqb sort 1) 4 (cond (eqb sort 4) 5 9)

most_test : Row → Bool
most_test r = leb r.length (most_of r.sort)

most_row : (k n : ℕ) → (row_of k).sort ≡ n → (row_of k).length ≤ most_of n
unfolding most_test holds
most_row k n e = subst (λ (m : ℕ). (row_of k).length ≤ most_of m) e (leb-true _ _ (every-row most_test refl refl k))

-- an operator of more than five bytes has an operator for input
input_test : Row → Bool
input_test r = not (eqb r.sort 3) || (leb r.length 5 || (eqb r.a 4 || eqb r.b 4))

inputs-row : (k : ℕ) → (row_of k).sort ≡ 3 → ((row_of k).length ≤ 5) ⊎ (((row_of k).a ≡ 4) ⊎ ((row_of k).b ≡ 4))
unfolding input_test holds
inputs-row k e =
    ⊎_elim (λ n. absurd (ne-false-of-true _ (eq-eqb (row_of k).sort 3 e) (not-true _ n)))
    (λ h. ⊎_elim (λ l. inl (leb-true _ _ l))
    (λ g. inr (⊎_elim (λ a. inl (eqb-true _ _ a)) (λ b. inr (eqb-true _ _ b)) (or_cases (eqb (row_of k).a 4) (eqb (row_of k).b 4) g)))
    (or_cases (leb (row_of k).length 5) (eqb (row_of k).a 4 || eqb (row_of k).b 4) h))
    (or_cases (not (eqb (row_of k).sort 3)) (leb (row_of k).length 5 || (eqb (row_of k).a 4 || eqb (row_of k).b 4)) (every-row input_test refl refl k))

-- where the input is, there is an operator
input-there : (sort v nc ne np : ℕ) → sort ≡ 4 → handle_ok sort v nc ne np ≡ true → 0 < np
unfolding handle_ok
input-there sort v nc ne np e h =
    let g : ltb v np ≡ true = rw e at h in
    omega (arith, ltb-true v np g)

-- an operator whose items take five bytes takes five itself, and has an operator for input
item_test : Row → Bool
item_test r = leb (row_of r.item).length 3 || (eqb r.sort 3 && (leb r.length 5 && eqb r.a 4))

record WideRow (r : Row) : Type 0 where
  sort : r.sort ≡ 3
  length : r.length ≤ 5
  a : r.a ≡ 4

items-row : (k : ℕ) → ((row_of (row_of k).item).length ≤ 3) ⊎ WideRow (row_of k)
unfolding item_test holds row_of line_of
items-row k =
    ⊎_elim (λ e. inl (leb-true _ _ e)) (λ e. inr (wide (row_of k) e)) (or_cases _ _ (every-row item_test refl refl k))
  where
    wide : (r : Row) → (eqb r.sort 3 && (leb r.length 5 && eqb r.a 4)) ≡ true → WideRow r
    wide r e =
        let f = and_right (eqb r.sort 3) _ e in
        record { sort = eqb-true _ _ (and_left _ _ e); length = leb-true _ _ (and_left _ _ f); a = eqb-true _ _ (and_right (leb r.length 5) _ f) }

-- what is wanted next takes three bytes at most, where the list's items do
next_row : (w : Wanted) → (row_of w.item).length ≤ 3 → (row_of (kind_wanted w)).length ≤ 3
unfolding kind_wanted row_of line_of
next_row w h = go (ltb 0 w.left) (ltb 0 w.more)
  where
    go : (a b : Bool) → (row_of (cond a w.item (cond b 0x40 0))).length ≤ 3
    go true b = h
    go false true = omega arith
    go false false = omega arith

less-item : (w : Wanted) → (less_one w).item ≡ w.item
unfolding less_one
less-item w = go (ltb 0 w.left)
  where
    go : (t : Bool) → (cond {A = Wanted} t (record { item = w.item; left = w.left - 1; more = w.more; scan = w.scan })
        (record { item = w.item; left = w.left; more = w.more - 1; scan = w.scan })).item ≡ w.item
    go true = refl
    go false = refl

-- ---- how far a reading comes
-- the bytes that the entries of a plan can have taken: 4 a column, 9 an expression, 9 an operator, m an item
abbrev room_of : ℕ → Plan → ℕ
room_of m p = 4 * p.columns.count + 9 * p.expressions.count + 9 * p.operators.count + m * p.items.count

-- the first operator has no input, so it takes 5 bytes and not 9; and items of five bytes stand after an operator that takes 5 and not 9
data Far (q : State) : Type 0 where
  narrow :
      q.at ≤ room_of 3 q.plan → (0 < q.plan.operators.count → q.at + 4 ≤ room_of 3 q.plan) → (row_of q.wanted.item).length ≤ 3 → Far q
  wide : q.at + 8 ≤ room_of 5 q.plan → Far q

module _ (q : State) (x : Record) (o : handles_ok (row_of x.kind) x q.plan.columns.count q.plan.expressions.count q.plan.operators.count
    ≡ true) where
  first-there : (row_of x.kind).a ≡ 4 → 0 < q.plan.operators.count
  first-there e = input-there (row_of x.kind).a x.a _ _ _ e (handles (row_of x.kind) x _ _ _ o).a

  second-there : (row_of x.kind).b ≡ 4 → 0 < q.plan.operators.count
  second-there e = input-there (row_of x.kind).b x.b _ _ _ e (handles (row_of x.kind) x _ _ _ o).b

  -- an operator takes 5 bytes at most, or is not the first
  five_or : (row_of x.kind).sort ≡ 3 → ((row_of x.kind).length ≤ 5) ⊎ (0 < q.plan.operators.count)
  five_or e = ⊎_elim (λ l. inl l) (λ g. inr (⊎_elim first-there second-there g)) (inputs-row x.kind e)

  far-way : (t : State) → Far q → Way q x t → Far t
  far-way t (narrow h f w) (a_column e l z) =
      let m : (row_of x.kind).length ≤ 4 = most_row x.kind 1 e in
      ⊎_elim (λ i. narrow (omega arith) (λ g. let k = f g in omega arith) i) (λ i. absurd (let k = i.sort in omega arith)) (items-row x.kind)
  far-way t (narrow h f w) (an_expr e l z) =
      let m : (row_of x.kind).length ≤ 9 = most_row x.kind 2 e in
      ⊎_elim (λ i. narrow (omega arith) (λ g. let k = f g in omega arith) i) (λ i. absurd (let k = i.sort in omega arith)) (items-row x.kind)
  far-way t (narrow h f w) (an_operator e l z) =
      let m : (row_of x.kind).length ≤ 9 = most_row x.kind 3 e in
      ⊎_elim
      (λ i. narrow (omega arith) (λ g. ⊎_elim (λ k. omega arith) (λ k. let j = f k in omega arith) (five_or e)) i)
      (λ i. wide (let j = f (first-there i.a) in let k = i.length in omega arith))
      (items-row x.kind)
  far-way t (narrow h f w) (an_item e l n k) =
      let m : (row_of x.kind).length ≤ 3 = subst (λ (v : ℕ). (row_of v).length ≤ 3) (sym k) (next_row q.wanted w) in
      narrow (omega arith) (λ g. let j = f g in omega arith) (subst (λ (v : ℕ). (row_of v).length ≤ 3) (sym (less-item q.wanted)) w)
  far-way t (wide h) (a_column e l z) = wide (omega (arith, most_row x.kind 1 e))
  far-way t (wide h) (an_expr e l z) = wide (omega (arith, most_row x.kind 2 e))
  far-way t (wide h) (an_operator e l z) = wide (omega (arith, most_row x.kind 3 e))
  far-way t (wide h) (an_item e l n k) = wide (omega (arith, most_row x.kind 4 e))

within-way : (q : State) (x : Record) (t : State) → Within q.plan → Way q x t → Within t.plan
within-way q x t w (a_column e h z) = record { columns = omega arith; exprs = w.exprs; operators = w.operators; items = w.items }
within-way q x t w (an_expr e h z) = record { columns = w.columns; exprs = omega arith; operators = w.operators; items = w.items }
within-way q x t w (an_operator e h z) = record { columns = w.columns; exprs = w.exprs; operators = omega arith; items = w.items }
within-way q x t w (an_item e h n k) = record { columns = w.columns; exprs = w.exprs; operators = w.operators; items = omega arith }

record Spent (q : State) : Type 0 where
  within : Within q.plan
  far : Far q

spent-start : Spent start_state
unfolding start_state empty_plan row_of line_of
spent-start =
    record {
      within = record { columns = omega arith; exprs = omega arith; operators = omega arith; items = omega arith };
      far = narrow (omega arith) (λ h. absurd (omega arith)) (omega arith);
    }

far-refused : (q : State) (k : Result (Unit {0}) ReadError) → Far q → Far (refused_by q k)
far-refused q k (narrow h f w) = narrow h f w
far-refused q k (wide h) = wide h

spent : (s : List ℕ) (i : ℕ) → Spent (steps_of s i)
spent s =
    steps_keep Spent s spent-start (λ q k h r. record { within = h.within; far = far-refused q k h.far })
    (λ q x t h u. record { within = within-way q x t h.within u.way; far = far-way q x u.passed.handles t h.far u.way })

most_far : (q : State) → Within q.plan → Far q → q.at ≤ 20856
most_far q w (narrow h f i) = omega arith
most_far q w (wide h) = omega arith

-- No reading comes further than 20,856 bytes, whatever it reads. Assumes nothing.
pub steps-at_most : (s : List ℕ) (i : ℕ) → (steps_of s i).at ≤ 20856
steps-at_most s i = most_far (steps_of s i) (spent s i).within (spent s i).far

-- An accepted file has 20,856 bytes at most. Assumes nothing.
pub accepted-length : (s : List ℕ) → is_whole (read_of s).reading ≡ true → length s ≤ 20856
accepted-length s e = omega (arith, (accepted s e).end, steps-at_most s (length s))

-- So a longer one is refused. Assumes nothing.
pub longer-refused : (s : List ℕ) → 20856 < length s → refusal_of (read_of s).reading ≡ 0 → ⊥
longer-refused s h e = omega (arith, accepted-length s (sym (refusal_none (read_of s).reading) ∙ eq-eqb _ _ e))
