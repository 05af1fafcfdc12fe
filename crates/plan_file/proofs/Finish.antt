-- Reading ends within as many steps as there are bytes; an accepted file was read to its end; a refusal has one of the numbers 1 to 5, a place
-- in the file, and the empty plan. Assumes nothing.
use Rattle.std.proofs.Common.{Ok, Err, Result}
use Prim.Native.Nat.{ℕ, zero, suc, ◌+◌, ◌-◌, ◌*◌, ◌≤◌, ◌<◌}
use mathlib.Core.Path.{◌≡◌, ◌∙◌, refl, sym, ap, subst}
use mathlib.Core.Bool.{Bool, true, false, ◌&&◌, ◌||◌, not}
use mathlib.Core.List.{List}
use mathlib.Core.Logic.{◌⊎◌, inl, inr, ⊎_elim}
use native.Mathlib.Omega.{arith}
use native.Mathlib.Decide.{dec_lt}
use lib.Dec.{leb, eqb}
use lib.ListN.{length, length-drop}
use borrow.Author.Tests.{eqb-true, leb-true, lt-leb}
use Rattle.laws.proofs.Bools.{and_left, and_right, ne-false-of-true}
use Rattle.plan_kinds.specs.declared.Record.{Record}
use Rattle.plan_kinds.specs.Rows.{row_of}
use Rattle.plan_kinds.proofs.Table.{long-row}
use Rattle.plan.specs.Plans.{empty_plan}
use Rattle.plan_file.specs.Answer.{answer}
use Rattle.plan_file.specs.declared.Reader.{Reader}
use Rattle.plan_file.specs.State.{State, state}
use Rattle.plan_file.specs.declared.ReadError.{ReadError}
use Rattle.plan_file.specs.declared.ReadError.TheVariants.{Short, Unknown, Room, Handle, ScannedTwice}
use Rattle.plan_file.specs.Answers.{is_whole, refusal_of, place_of}
use Rattle.plan_file.specs.Steps.{kind_wanted, refused_by, is_done, step_of, steps_of, start_state, answer_of, read_of}
use Rattle.plan_file.proofs.StepsTaken.{refuses, steps-more, idle-on, read_early}
use Rattle.plan_file.proofs.StepCases.{Way, a_column, an_expr, an_operator, an_item, Taking, Wants, step-cases, wants}

-- after k steps: within the bytes, and done or two bytes further for each step
pub record Going (n k : ℕ) (q : State) : Type 0 where
  pub within : q.at ≤ n
  pub far : (is_done n q ≡ true) ⊎ (2 * k ≤ q.at)
  pub place : place_of q.reading ≤ n

done_refused : (n : ℕ) (q : State) (k : Result (Unit {0}) ReadError) → is_whole k ≡ false → is_done n (refused_by q k) ≡ true
done_refused n q k e = rw e

-- a taken record is two bytes long at least, and ends in the file
pub taken_at : (q : State) (x : Record) (t : State) → Way q x t → (t.at ≡ q.at + (row_of x.kind).length) × (t.reading ≡ Ok tt) × (0 < (row_of x.kind).sort)
taken_at q x t (a_column a b c) = (refl, refl, omega arith)
taken_at q x t (an_expr a b c) = (refl, refl, omega arith)
taken_at q x t (an_operator a b c) = (refl, refl, omega arith)
taken_at q x t (an_item a b c d) = (refl, refl, omega arith)

-- where a record is taken, the reading has not ended
pub not_done : (s : List ℕ) (q : State) (x : Record) (t : State) → Taking s q x t → is_done (length s) q ≡ false
not_done s q x t u = rw (u.going, lt-leb (length s) q.at u.here)

going-taken : (s : List ℕ) (k : ℕ) (q : State) (x : Record) (t : State) → Going (length s) k q → Taking s q x t → Going (length s) (suc k) t
going-taken s k q x t g u =
    let e = taken_at q x t u.way in
    let l : 2 ≤ (row_of x.kind).length = long-row x.kind e.2 in
    let w : (row_of x.kind).length ≤ length s - q.at = rw (← length-drop q.at s) u.passed.whole in
    let h = u.here in
    let far : 2 * k ≤ q.at = ⊎_elim (λ z. absurd (ne-false-of-true _ z (not_done s q x t u))) (λ z. z) g.far in
    let at = e.0 in
    record { within = omega arith; far = inr (omega arith); place = subst (λ (r : Result (Unit {0}) ReadError). place_of r ≤ length s) (sym e.1) (omega arith) }

pub going : (s : List ℕ) (k : ℕ) → Going (length s) k (steps_of s k)
unfolding steps_of start_state
going s zero = record { within = omega arith; far = inr (omega arith); place = omega arith }
going s (suc k) =
    let g = going s k in
    step-cases (Going (length s) (suc k)) s (steps_of s k) (wants s k)
    (λ d. record { within = g.within; far = inl d; place = g.place })
    (λ r f. record { within = g.within; far = inl (done_refused (length s) (steps_of s k) r f.refuses); place = omega (arith, f.place, g.within) })
    (λ x t u. going-taken s k (steps_of s k) x t g u)

done-empty : (n : ℕ) → n ≡ 0 → is_done n start_state ≡ true
unfolding start_state kind_wanted
done-empty n e = rw e

-- As many steps as there are bytes are enough. Assumes nothing.
pub finished : (s : List ℕ) → is_done (length s) (steps_of s (length s)) ≡ true
unfolding steps_of
finished s =
    ⊎_elim (λ d. d)
    (λ h.
    let e : length s ≡ 0 = omega (arith, (going s (length s)).within) in
    subst (λ (q : State). is_done (length s) q ≡ true) (ap (steps_of s) (sym e)) (done-empty (length s) e))
    (going s (length s)).far

-- the state in which a reading ends
abbrev pub last_of : List ℕ → State
last_of s = steps_of s (length s)

done-parts : (a b c : Bool) → a ≡ true → (not a || (b && c)) ≡ true → (b ≡ true) × (c ≡ true)
done-parts true b c e d = (and_left b c d, and_right b c d)
done-parts false b c e d = absurd (ne-false-of-true true refl (sym e))

pub record Accepted (s : List ℕ) : Type 0 where
  pub end : (last_of s).at ≡ length s
  pub nothing : kind_wanted (last_of s).wanted ≡ 0
  pub plan : (read_of s).plan ≡ (last_of s).plan
  pub reading : (read_of s).reading ≡ Ok tt

is-whole : (k : Result (Unit {0}) ReadError) → is_whole k ≡ true → k ≡ Ok tt
is-whole (Ok tt) e = refl
is-whole (Err (Short at)) e = absurd (ne-false-of-true true refl (sym e))
is-whole (Err (Unknown at)) e = absurd (ne-false-of-true true refl (sym e))
is-whole (Err (Room at)) e = absurd (ne-false-of-true true refl (sym e))
is-whole (Err (Handle at)) e = absurd (ne-false-of-true true refl (sym e))
is-whole (Err (ScannedTwice at)) e = absurd (ne-false-of-true true refl (sym e))

-- An accepted file was read to its end, with no item wanted, and its plan is what was read. Assumes nothing.
pub accepted : (s : List ℕ) → is_whole (read_of s).reading ≡ true → Accepted s
unfolding read_of answer_of
accepted s e =
    let d = done-parts (is_whole (last_of s).reading) (leb (length s) (last_of s).at) (eqb (kind_wanted (last_of s).wanted) 0) e (finished s) in
    record {
      end = omega (arith, leb-true (length s) (last_of s).at d.0, (going s (length s)).within);
      nothing = eqb-true _ _ d.1;
      plan = rw e;
      reading = is-whole (last_of s).reading e;
    }

-- A refusal hands back the empty plan. Assumes nothing.
pub refused-empty : (s : List ℕ) → is_whole (read_of s).reading ≡ false → (read_of s).plan ≡ empty_plan
unfolding read_of answer_of
refused-empty s e = rw e

-- A refusal's number is one of 1 to 5. Assumes nothing.
pub refusal_number : (k : Result (Unit {0}) ReadError) → refusal_of k ≤ 5
refusal_number (Ok tt) = omega arith
refusal_number (Err (Short at)) = omega arith
refusal_number (Err (Unknown at)) = omega arith
refusal_number (Err (Room at)) = omega arith
refusal_number (Err (Handle at)) = omega arith
refusal_number (Err (ScannedTwice at)) = omega arith

-- and it is 0 exactly for Whole
pub refusal_none : (k : Result (Unit {0}) ReadError) → eqb (refusal_of k) 0 ≡ is_whole k
refusal_none (Ok tt) = refl
refusal_none (Err (Short at)) = refl
refusal_none (Err (Unknown at)) = refl
refusal_none (Err (Room at)) = refl
refusal_none (Err (Handle at)) = refl
refusal_none (Err (ScannedTwice at)) = refl

-- A refusal's place is in the file, or its length. Assumes nothing.
pub refusal_place : (s : List ℕ) → place_of (read_of s).reading ≤ length s
unfolding read_of answer_of
refusal_place s = (going s (length s)).place

-- ---- what a reader that goes on until it is done answers
-- Once reading is done, more steps change nothing, and it is done after as many as there are bytes. Assumes nothing.
done_answer : (s : List ℕ) (k : ℕ) (t : State) → t ≡ steps_of s k → is_done (length s) t ≡ true → answer_of t ≡ read_of s
unfolding read_of
done_answer s k t e d =
    elim (dec_lt (length s) k) [
      | yes h ↦ (let n : (k - length s) + length s ≡ k = omega arith in
          ap answer_of (e ∙ ap (steps_of s) (sym n) ∙ sym (idle-on s (length s) (k - length s) (steps_of s (length s)) refl (finished s))))
      | no h ↦ read_early s k t (omega arith) e d
    ]

pub read_done :
    (s : List ℕ) (k : ℕ) (q : Reader) → state q (Ok tt) ≡ steps_of s k → is_done (length s) (state q (Ok tt)) ≡ true
    → answer (Ok q.plan) ≡ read_of s
unfolding answer_of
read_done s k q e d = done_answer s k (state q (Ok tt)) e d

pub read_refused :
    (s : List ℕ) (k : ℕ) (q t : Reader) (r : ReadError) → state q (Ok tt) ≡ steps_of s k → state t (Err r) ≡ step_of s (state q (Ok tt))
    → answer (Err r) ≡ read_of s
unfolding answer_of
read_refused s k q t r e f =
    let g : state t (Err r) ≡ steps_of s (k + 1) = steps-more s k (state q (Ok tt)) (state t (Err r)) e f in
    rw (refuses r) at (done_answer s (k + 1) (state t (Err r)) g (rw (refuses r)))

-- A step that reads a record goes further, within the file. Assumes nothing.
pub record Further (s : List ℕ) (q t : State) : Type 0 where
  pub here : q.at < length s
  pub more : q.at < t.at

pub further :
    (s : List ℕ) (k : ℕ) (q t : Reader) → state q (Ok tt) ≡ steps_of s k → is_done (length s) (state q (Ok tt)) ≡ false
    → state t (Ok tt) ≡ step_of s (state q (Ok tt)) → Further s (state q (Ok tt)) (state t (Ok tt))
further s k q t e n f =
    let u = state q (Ok tt) in
    let w : Wants u.wanted = subst (λ (v : State). Wants v.wanted) (sym e) (wants s k) in
    let at_step : is_whole (step_of s u).reading ≡ true → Further s u (step_of s u) =
    step-cases (λ (v : State). is_whole v.reading ≡ true → Further s u v) s u w
    (λ d. absurd (ne-false-of-true _ d n))
    (λ r g z. absurd (ne-false-of-true _ z g.refuses))
    (λ x v g z. let h = taken_at u x v g.way in let l : 2 ≤ (row_of x.kind).length = long-row x.kind h.2 in record { here = g.here; more = omega (arith, h.0) })
    in
    subst (λ (v : State). Further s u v) (sym f) (at_step (ap (λ (v : State). is_whole v.reading) (sym f)))
