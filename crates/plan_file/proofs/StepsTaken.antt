-- The ways through one step, and the steps of a whole reading. Assumes nothing.
use Rattle.std.proofs.Common.{Ok, Err, Result}
use Prim.Native.Nat.{ℕ, zero, suc, ◌+◌, ◌-◌, ◌≤◌, ◌<◌}
use mathlib.Core.Path.{◌≡◌, refl, sym, ap, ◌∙◌}
use mathlib.Core.List.{List}
use mathlib.Core.Bool.{Bool, true, false, cond}
use native.Mathlib.Omega.{arith}
use native.Mathlib.Decide.{ℕ_discrete}
use native.Mathlib.Numerals.{add-one}
use native.Mathlib.Nat.{zero-add, suc-add}
use lib.ListN.{get_or, length}
use lib.Dec.{leb, eqb}
use borrow.Author.Tests.{ne_eqb}
use Rattle.plan_kinds.specs.Rows.{Row}
use Rattle.plan_kinds.specs.declared.Record.{Record}
use Rattle.plan_kinds.specs.Rows.{row_of}
use Rattle.plan.specs.Append.{Appended, appended, no_room, added_at, with_item, append_column, append_expr, append_operator, append_item}
use Rattle.plan.specs.declared.AppendError.{AppendError}
use Rattle.plan.specs.declared.AppendError.TheVariants.{Room as Full}
use Rattle.plan.specs.declared.Plan.{Plan}
use Rattle.plan_file.specs.State.{State}
use Rattle.plan_file.specs.declared.ReadError.{ReadError}
use Rattle.plan_file.specs.declared.ReadError.TheVariants.{Short, Unknown, Room, Handle, ScannedTwice}
use Rattle.plan_file.specs.declared.Wanted.{Wanted}
use Rattle.plan_file.specs.Answers.{is_whole}
use Rattle.plan_file.specs.Bytes.{record_from}
use Rattle.plan_file.specs.Steps.{kind_ok, fault_of, append_of, wanted_after, scans_after, refused_by, taken_by, appended_step, judged_step, row_step}
use Rattle.plan_file.specs.Steps.{record_step, is_done, step_of}
use Rattle.plan_file.specs.Steps.{steps_of, start_state, answer_of, read_of}
use Rattle.plan_file.proofs.RecordTests.{no_fault}

-- a refusal is none of a whole file
pub refuses : (e : ReadError) → is_whole (Err e) ≡ false
refuses (Short at) = refl
refuses (Unknown at) = refl
refuses (Room at) = refl
refuses (Handle at) = refl
refuses (ScannedTwice at) = refl

same_operators :
    (p : Plan) (x : Record) (n : ℕ) (b : Bool) → (cond b (no_room p) (added_at (with_item p x) n)).plan.operators.count ≡ p.operators.count
same_operators p x n true = refl
same_operators p x n false = refl

-- an item leaves the operators as they are, so that the Scan that is read is the last one before and after it
same_scan :
    (p t : Plan) (a : Result ℕ AppendError) (r : Row) (x : Record) (w : Wanted) (scans : List ℕ) → appended t a ≡ append_of p r x
    → scans_after r x w scans t.operators.count ≡ scans_after r x w scans p.operators.count
unfolding scans_after append_of append_item
same_scan p t a r x w scans e =
    elim (ℕ_discrete r.sort 4) [
      | yes z ↦ (let f : appended t a ≡ append_item p x = rw (
        ne_eqb r.sort 1 (λ y. omega arith),
        ne_eqb r.sort 2 (λ y. omega arith),
        ne_eqb r.sort 3 (λ y. omega arith),
      ) at e in
          rw (ap (λ (o : Appended). o.plan.operators.count) f ∙ same_operators p x p.items.count (leb 2048 p.items.count)))
      | no z ↦ rw (ne_eqb r.sort 4 z)
    ]

-- where there is no room, the plan stays as it was
refused_same : (p t u : Plan) (n : ℕ) (e : AppendError) (b : Bool) → appended t (Err e) ≡ cond b (no_room p) (added_at u n) → t ≡ p
refused_same p t u n e true h = ap (λ (o : Appended). o.plan) h
refused_same p t u n e false h = let z : ◌≡◌ {A = Result ℕ AppendError} (Err e) (Ok n) = ap (λ (o : Appended). o.added) h in cc

one_of : (P : Appended → Type 0) (a b c : Bool) (s t u v : Appended) → P s → P t → P u → P v → P (cond a s (cond b t (cond c u v)))
one_of P true b c s t u v ps pt pu pv = ps
one_of P false true c s t u v ps pt pu pv = pt
one_of P false false true s t u v ps pt pu pv = pu
one_of P false false false s t u v ps pt pu pv = pv

full_same : (p t : Plan) (r : Row) (x : Record) (e : AppendError) → appended t (Err e) ≡ append_of p r x → t ≡ p
unfolding append_of append_column append_expr append_operator append_item
full_same p t r x e =
    one_of (λ (o : Appended). appended t (Err e) ≡ o → t ≡ p) (eqb r.sort 1) (eqb r.sort 2) (eqb r.sort 3) _ _ _ _
    (refused_same p t _ _ e (leb 64 p.columns.count)) (refused_same p t _ _ e (leb 1024 p.expressions.count))
    (refused_same p t _ _ e (leb 128 p.operators.count)) (refused_same p t _ _ e (leb 2048 p.items.count))

abbrev with_plan : State → Plan → State
with_plan q p = record { at = q.at; reading = q.reading; wanted = q.wanted; scans = q.scans; plan = p }

module _ (s : List ℕ) (q : State) (r : Row) (x : Record) (er : r ≡ row_of (get_or s 0 0)) (ex : x ≡ record_from s r) where
  -- A record that fails a test is refused by it. Assumes nothing.
  pub step_refused : (e : ReadError) → Err e ≡ fault_of r x (length s) q → refused_by q (Err e) ≡ record_step s q
  unfolding record_step row_step judged_step
  step_refused e ek = rw (← er, ← ex, ← ek, refuses e)

  -- A record that passes them is refused where there is no room, and the plan stays as it was; else it is taken. Assumes nothing.
  pub step_full :
      (p : Plan) (e : AppendError) → Ok tt ≡ fault_of r x (length s) q → appended p (Err e) ≡ append_of q.plan r x
      → refused_by (with_plan q p) (Err (Room q.at)) ≡ record_step s q
  unfolding record_step row_step judged_step appended_step
  step_full p Full ek ea =
      rw (← er, ← ex, ← ek, ← ea) (λ i. refused_by (with_plan q (full_same q.plan p r x Full ea i)) (Err (Room q.at)))

  pub step_taken :
      (p : Plan) (n : ℕ) → Ok tt ≡ fault_of r x (length s) q → appended p (Ok n) ≡ append_of q.plan r x
      → taken_by (with_plan q p) r x p ≡ record_step s q
  unfolding record_step row_step judged_step appended_step
  step_taken p n ek ea =
      let same = same_scan q.plan p (Ok n) r x q.wanted q.scans ea in
      rw (← er, ← ex, ← ek, ← ea)
      (λ i. record { at = q.at + r.length; reading = Ok tt; wanted = wanted_after r x q.wanted; scans = same i; plan = p })

  -- Its end is within the bytes. Assumes nothing.
  pub takes :
      q.at + length s < 18446744073709551616 → Ok tt ≡ fault_of r x (length s) q
      → (q.at + r.length < 18446744073709551616) × (kind_ok r x q.wanted ≡ true)
  takes m ek =
      let p = no_fault r x (length s) q (rw (← ek)) in
      (omega (arith, p.whole), p.kind)

pub steps-start : (s : List ℕ) → start_state ≡ steps_of s 0
unfolding steps_of
steps-start s = refl

pub steps-more : (s : List ℕ) (i : ℕ) (q t : State) → q ≡ steps_of s i → t ≡ step_of s q → t ≡ steps_of s (i + 1)
unfolding steps_of
steps-more s i q t e h = rw (add-one, ← e) h

-- Once reading has ended, a step changes nothing. Assumes nothing.
pub idle : (s : List ℕ) (q : State) → is_done (length s) q ≡ true → step_of s q ≡ q
unfolding step_of
idle s q d = rw d

pub idle-on : (s : List ℕ) (i k : ℕ) (q : State) → q ≡ steps_of s i → is_done (length s) q ≡ true → q ≡ steps_of s (k + i)
unfolding steps_of
idle-on s i zero q e d = rw zero-add e
idle-on s i (suc k) q e d = sym (idle s q d) ∙ ap (step_of s) (idle-on s i k q e d) ∙ ap (steps_of s) (sym (suc-add k i))

-- Reading has ended before as many steps as there are bytes. Assumes nothing.
pub read_early : (s : List ℕ) (i : ℕ) (q : State) → i ≤ length s → q ≡ steps_of s i → is_done (length s) q ≡ true → answer_of q ≡ read_of s
unfolding read_of
read_early s i q h e d =
    let n : (length s - i) + i ≡ length s = omega arith in
    ap answer_of (idle-on s i (length s - i) q e d ∙ ap (steps_of s) n)
