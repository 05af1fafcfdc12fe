-- A file that is longer than any that can be accepted is answered by its beginning: a reading looks at the records that there is room for and at one
-- more. Assumes nothing.
use Prim.Native.Nat.{ℕ, zero, suc, ◌+◌, ◌*◌, ◌≤◌, ◌<◌}
use mathlib.Core.Path.{◌≡◌, refl, sym, ap, ◌∙◌, subst}
use mathlib.Core.Bool.{Bool, true, false, cond, ◌&&◌, ◌||◌}
use mathlib.Core.List.{List}
use mathlib.Core.Logic.{◌⊎◌, inl, inr, ⊎_elim}
use native.Mathlib.Omega.{arith}
use lib.Dec.{leb, eqb}
use lib.ListN.{get_or, length, take, drop, length-drop}
use lib.Seq.{length-take-le, get_or-take, get_or-drop}
use borrow.Author.Tests.{eqb-true, leb-true, le-leb, lt-leb}
use Rattle.laws.proofs.Bools.{and_left, and_right, or_cases, ne-false-of-true}
use Rattle.plan_kinds.specs.declared.Record.{Record}
use Rattle.plan_kinds.specs.Rows.{Row}
use Rattle.plan_kinds.specs.Rows.{row_of}
use Rattle.plan_kinds.proofs.Table.{holds, every-row}
use Rattle.plan_file.specs.State.{State}
use Rattle.plan_file.specs.Answers.{is_whole}
use Rattle.plan_file.specs.Bytes.{word2, word4, code_from, word_from, bits_from, record_from}
use Rattle.plan_file.specs.Steps.{fault_of, judged_step, row_step, record_step, is_done, step_of, steps_of, answer_of, read_of}
use Rattle.plan_file.proofs.StepsTaken.{read_early}
use Rattle.plan_file.proofs.Finish.{finished}
use Rattle.plan_file_laws.proofs.Longest.{steps-at_most}

-- ---- the table of kinds
-- a record is 9 bytes long at most, and so far reach its code and its four numbers
record Narrow (r : Row) : Type 0 where
  length : r.length ≤ 9
  code : r.code ≤ 3
  from : r.from ≤ 2
  fourth : (r.from ≤ 1) ⊎ (r.d ≡ 0)

narrow_test : Row → Bool
narrow_test r = leb r.length 9 && (leb r.code 3 && (leb r.from 2 && (leb r.from 1 || eqb r.d 0)))

narrow-row : (k : ℕ) → Narrow (row_of k)
unfolding narrow_test holds
narrow-row k = parts (row_of k) (every-row narrow_test refl refl k)
  where
    parts : (r : Row) → (leb r.length 9 && (leb r.code 3 && (leb r.from 2 && (leb r.from 1 || eqb r.d 0)))) ≡ true → Narrow r
    parts r t =
        let u = and_right (leb r.length 9) _ t in
        let v = and_right (leb r.code 3) _ u in
        record {
          length = leb-true _ _ (and_left _ _ t);
          code = leb-true _ _ (and_left _ _ u);
          from = leb-true _ _ (and_left _ _ v);
          fourth = ⊎_elim (λ e. inl (leb-true _ _ e)) (λ e. inr (eqb-true _ _ e)) (or_cases (leb r.from 1) (eqb r.d 0) (and_right (leb r.from 2) _ v));
        }

-- ---- a record looks at 9 bytes at most
module _ (u v : List ℕ) (same : (i : ℕ) → i < 9 → get_or u i 0 ≡ get_or v i 0) where
  code_same : (at : ℕ) → at < 9 → code_from u at ≡ code_from v at
  unfolding code_from
  code_same at h = ap (cond (eqb at 0) 0) (same at h)

  word2-same : (at : ℕ) → at + 1 < 9 → word2 u at ≡ word2 v at
  word2-same at h = λ i. same at (omega arith) i * 256 + same (at + 1) (omega arith) i

  word_same : (at sort : ℕ) → at + 1 < 9 → word_from u at sort ≡ word_from v at sort
  unfolding word_from
  word_same at sort h = ap (cond (eqb sort 0) 0) (word2-same at h)

  word4-same : (at : ℕ) → at + 3 < 9 → word4 u at ≡ word4 v at
  word4-same at h = λ i. word2-same at (omega arith) i * 65536 + word2-same (at + 2) (omega arith) i

  bits-same : (n : ℕ) → bits_from u n ≡ bits_from v n
  unfolding bits_from
  bits-same n =
      let low = word4-same 1 (omega arith) in
      let high = word4-same 5 (omega arith) in
      λ i. cond (eqb n 4) (low i) (cond (eqb n 8) (low i * 4294967296 + high i) 0)

  fourth-same : (r : Row) → Narrow r → word_from u (r.from + 6) r.d ≡ word_from v (r.from + 6) r.d
  unfolding word_from
  fourth-same r n = ⊎_elim (λ h. word_same (r.from + 6) r.d (omega arith)) (λ e. rw e) n.fourth

  record_same : (r : Row) → Narrow r → record_from u r ≡ record_from v r
  unfolding record_from
  record_same r n =
      let f = n.from in
      λ i.
      record {
        kind = same 0 (omega arith) i;
        code = code_same r.code (omega (arith, n.code)) i;
        a = word_same r.from r.a (omega arith) i;
        b = word_same (r.from + 2) r.b (omega arith) i;
        c = word_same (r.from + 4) r.c (omega arith) i;
        d = fourth-same r n i;
        bits = bits-same r.bits i;
      }

-- and at how many bytes there are only to see whether it is whole
fault_same : (r : Row) (x : Record) (m n : ℕ) (q : State) → r.length ≤ m → r.length ≤ n → fault_of r x m q ≡ fault_of r x n q
unfolding fault_of
fault_same r x m n q g h = rw (le-leb r.length m g, le-leb r.length n h)

module _ (u v : List ℕ) (q : State) (same : (i : ℕ) → i < 9 → get_or u i 0 ≡ get_or v i 0) (hu : 9 ≤ length u) (hv : 9 ≤ length v) where
  row_same : (r : Row) → Narrow r → row_step u q r ≡ row_step v q r
  unfolding row_step
  row_same r n =
      let e = record_same u v same r n in
      let l = n.length in
      (λ i. judged_step q r (e i) (fault_of r (e i) (length u) q)) ∙ ap (judged_step q r (record_from v r))
      (fault_same r (record_from v r) (length u) (length v) q (omega arith) (omega arith))

  record_step-same : record_step u q ≡ record_step v q
  unfolding record_step
  record_step-same = row_same (row_of (get_or u 0 0)) (narrow-row (get_or u 0 0)) ∙ ap (λ (k : ℕ). row_step v q (row_of k)) (same 0 (omega arith))

-- ---- the beginning of a file
drop-same : (s : List ℕ) (n a i : ℕ) → a + i < n → get_or (drop a (take n s)) i 0 ≡ get_or (drop a s) i 0
drop-same s n a i h = get_or-drop a (take n s) i 0 ∙ get_or-take n s (a + i) 0 h ∙ sym (get_or-drop a s i 0)

on : (s : List ℕ) (q : State) → is_whole q.reading ≡ true → q.at < length s → step_of s q ≡ record_step (drop q.at s) q
unfolding step_of
on s q w h = rw (w, lt-leb (length s) q.at h)

stays : (s : List ℕ) (q : State) → is_whole q.reading ≡ false → step_of s q ≡ q
unfolding step_of
stays s q w = rw w

module _ (s : List ℕ) (n : ℕ) (enough : 20865 ≤ n) (there : n ≤ length s) where
  size : length (take n s) ≡ n
  size = length-take-le n s there

  step_same : (q : State) → q.at ≤ 20856 → step_of (take n s) q ≡ step_of s q
  step_same q h = go (is_whole q.reading) refl
    where
      go : (t : Bool) → is_whole q.reading ≡ t → step_of (take n s) q ≡ step_of s q
      go false e = stays (take n s) q e ∙ sym (stays s q e)
      go true e =
          let z = size in
          on (take n s) q e (omega arith)
          ∙ record_step-same (drop q.at (take n s)) (drop q.at s) q (λ i l. drop-same s n q.at i (omega arith))
          (omega (arith, length-drop q.at (take n s))) (omega (arith, length-drop q.at s))
          ∙ sym (on s q e (omega arith))

  steps-same : (i : ℕ) → steps_of (take n s) i ≡ steps_of s i
  unfolding steps_of
  steps-same zero = refl
  steps-same (suc i) = ap (step_of (take n s)) (steps-same i) ∙ step_same (steps_of s i) (steps-at_most s i)

  -- the reading has ended by a refusal
  refused : is_whole (steps_of s n).reading ≡ false
  refused = go (is_whole (steps_of s n).reading) refl
    where
      go : (t : Bool) → is_whole (steps_of s n).reading ≡ t → t ≡ false
      go false e = refl
      go true e =
          let d : is_done n (steps_of s n) ≡ true = subst (λ (m : ℕ). is_done m (steps_of s n) ≡ true) size
          (subst (λ (q : State). is_done (length (take n s)) q ≡ true) (ap (steps_of (take n s)) size ∙ steps-same n) (finished (take n s))) in
          let f : is_done n (steps_of s n) ≡ false = rw (e, lt-leb n (steps_of s n).at (omega (arith, steps-at_most s n))) in
          absurd (ne-false-of-true (is_done n (steps_of s n)) d f)

  -- A file of 20,865 bytes or more is answered by its first n, where n is 20,865 or more. Assumes nothing.
  pub long_file : read_of (take n s) ≡ read_of s
  unfolding read_of
  long_file =
      ap answer_of (ap (steps_of (take n s)) size ∙ steps-same n)
      ∙ read_early s n (steps_of s n) there refl (rw refused)
