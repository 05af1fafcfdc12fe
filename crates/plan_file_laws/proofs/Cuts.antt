-- A file that is cut off: inside a record or a counted list it is refused by 1, elsewhere it is accepted as far as it goes. Assumes nothing.
use Rattle.std.proofs.Common.{Ok, Err}
use Prim.Native.Nat.{ℕ, zero, suc, ◌+◌, ◌-◌, ◌≤◌, ◌<◌}
use mathlib.Core.Path.{◌≡◌, refl, sym, ap, ◌∙◌, subst}
use mathlib.Core.Bool.{Bool, true, false, cond, and-false}
use mathlib.Core.List.{List, [], ◌∷◌, ◌++◌}
use mathlib.Core.Logic.{⊎_elim}
use native.Mathlib.Omega.{arith}
use native.Mathlib.Decide.{ℕ_discrete}
use lib.Dec.{leb, eqb}
use lib.ListN.{get_or, length, take, drop, length-append}
use lib.Seq.{take_all, take-append-le, take-append-add, length-take-le, get_or-take}
use borrow.Author.Tests.{le-leb, lt-leb, ne_eqb}
use Rattle.laws.proofs.Bools.{ne-false-of-true}
use Rattle.lists.proofs.RangeLaws.{below_or_not}
use Rattle.plan_kinds.specs.declared.Record.{Record}
use Rattle.plan_kinds.specs.Rows.{Row}
use Rattle.plan_kinds.specs.Rows.{row_of}
use Rattle.plan.specs.Plans.{empty_plan}
use Rattle.plan_file.specs.declared.Wanted.{Wanted}
use Rattle.plan_file.specs.State.{State}
use Rattle.plan_file.specs.Answer.{Answer}
use Rattle.plan_file.specs.declared.ReadError.TheVariants.{Short}
use Rattle.plan_file.specs.Answers.{is_whole, refusal_of}
use Rattle.plan_file.specs.Bytes.{record_from}
use Rattle.plan_file.specs.Steps.{kind_wanted, kind_ok, fault_of, refused_by, judged_step, row_step, record_step, is_done, step_of, steps_of, start_state}
use Rattle.plan_file.specs.Steps.{answer_of, read_of}
use Rattle.plan_file.proofs.StepsTaken.{read_early}
use Rattle.plan_file.proofs.Finish.{finished, last_of}
use Rattle.plan_file_laws.specs.ByteStrings.{Bytes}
use Rattle.plan_file_laws.specs.Writing.{put2, put4, put8, put_word, put_code, put_bits, put_body, put_record, put_records, records_of, Fits}
use Rattle.plan_file_laws.proofs.Written.{record_length, All, none, records_short}
use Rattle.plan_file_laws.proofs.Sequences.{Reads, begin, next, put_snoc, all_left, file_of_lem, Judged, judged, reads_whole, led, read-records}

-- a refusal with the empty plan
abbrev pub cut_at : ℕ → Answer
cut_at n = record { plan = empty_plan; reading = Err (Short n) }

answer_short : (q : State) (n : ℕ) → answer_of (refused_by q (Err (Short n))) ≡ cut_at n
unfolding answer_of
answer_short q n = refl

-- a state that is not done comes before the last step
not_last : (s : List ℕ) (i : ℕ) (q : State) → i ≤ length s → steps_of s i ≡ q → is_done (length s) q ≡ false → i < length s
not_last s i q h e d =
    ⊎_elim (λ l. l)
    (λ g.
    let n : length s ≡ i = omega arith in
    absurd (ne-false-of-true (is_done (length s) q) (subst (λ (t : State). is_done (length s) t ≡ true) (ap (steps_of s) n ∙ e) (finished s)) d))
    (below_or_not i (length s))

-- where the next step refuses by 1, that is the answer
short_next :
    (s : List ℕ) (i : ℕ) (q : State) (n : ℕ) → i ≤ length s → steps_of s i ≡ q → is_done (length s) q ≡ false
    → step_of s q ≡ refused_by q (Err (Short n))
    → read_of s ≡ cut_at n
unfolding steps_of
short_next s i q n h e d g =
    sym (read_early s (suc i) (refused_by q (Err (Short n))) (not_last s i q h e d) (sym (ap (step_of s) e ∙ g)) refl) ∙ answer_short q n

wanting : (n : ℕ) (q : State) → q.reading ≡ Ok tt → (kind_wanted q.wanted ≡ 0 → ⊥) → is_done n q ≡ false
wanting n q w z = rw (ap is_whole w, ne_eqb _ 0 z) (and-false (leb n q.at))

short_step : (s : List ℕ) (q : State) → is_done (length s) q ≡ false → q.at ≡ length s → step_of s q ≡ refused_by q (Err (Short (length s)))
unfolding step_of
short_step s q d e = rw (d, le-leb (length s) q.at (omega arith)) (ap (λ (n : ℕ). refused_by q (Err (Short n))) e)

-- ---- inside a record
-- the kind is tested before the length
kind-same : (r : Row) (x y : Record) (w : Wanted) → y.kind ≡ x.kind → kind_ok r x w ≡ true → kind_ok r y w ≡ true
unfolding kind_ok
kind-same r x y w e k = rw e k

fault_short : (r : Row) (x : Record) (n : ℕ) (q : State) → kind_ok r x q.wanted ≡ true → n < r.length → fault_of r x n q ≡ Err (Short q.at)
unfolding fault_of
fault_short r x n q k h = rw (k, lt-leb r.length n h)

judged_short : (q : State) (r : Row) (x : Record) (n : ℕ) → judged_step q r x (Err (Short n)) ≡ refused_by q (Err (Short n))
unfolding judged_step
judged_short q r x n = refl

record_short :
    (u : List ℕ) (q : State) (x : Record) → get_or u 0 0 ≡ x.kind → length u < (row_of x.kind).length → kind_ok (row_of x.kind) x q.wanted ≡ true
    → record_step u q ≡ refused_by q (Err (Short q.at))
unfolding record_step row_step record_from
record_short u q x e h k =
    let r = row_of (get_or u 0 0) in
    let y = record_from u (row_of (get_or u 0 0)) in
    let k2 : kind_ok (row_of (get_or u 0 0)) y q.wanted ≡ true = subst (λ (v : ℕ). kind_ok (row_of v) y q.wanted ≡ true) (sym e)
    (kind-same (row_of x.kind) x y q.wanted e k) in
    let l : length u < (row_of (get_or u 0 0)).length = subst (λ (v : ℕ). length u < (row_of v).length) (sym e) h in
    ap (judged_step q r y) (fault_short r y (length u) q k2 l) ∙ judged_short q r y q.at

inside-step :
    (s u : List ℕ) (q : State) (x : Record) → q.reading ≡ Ok tt → drop q.at s ≡ u → q.at < length s → get_or u 0 0 ≡ x.kind → length u < (row_of
    x.kind).length
    → kind_ok (row_of x.kind) x q.wanted ≡ true → step_of s q ≡ refused_by q (Err (Short q.at))
unfolding step_of
inside-step s u q x w e l f h k = rw (ap is_whole w, lt-leb (length s) q.at l) (ap (λ (v : List ℕ). record_step v q) e ∙ record_short u q x f h k)

not_done : (n : ℕ) (q : State) → q.reading ≡ Ok tt → q.at < n → is_done n q ≡ false
not_done n q w h = rw (ap is_whole w, lt-leb n q.at h)

first_byte : (m k : ℕ) (l : List ℕ) → 0 < m → get_or (take m (k ∷ l)) 0 0 ≡ k
first_byte m k l h = get_or-take m (k ∷ l) 0 0 h

module _ (xs : List Record) (q : State) (r : Reads xs q) (a : All Fits xs) where
  -- Bytes that end where an item is wanted are refused by 1, at their length. Assumes nothing.
  pub cut_in_list : (kind_wanted q.wanted ≡ 0 → ⊥) → read_of (put_records xs []) ≡ cut_at (length (put_records xs []))
  cut_in_list z =
      let s = put_records xs [] in
      let l = led xs q r a [] in
      let w = reads_whole xs q r in
      let n : q.at ≡ length (put_records xs []) = omega (arith, l.place) in
      let d = wanting (length s) q w z in
      short_next s (length xs) q _ (omega (arith, records_short xs [])) l.state d (short_step s q d n)

  -- Bytes that end inside a record whose kind is right there are refused by 1, where that record starts. Assumes nothing.
  pub cut_in_record :
      (x : Record) (v : List ℕ) (m : ℕ) → kind_ok (row_of x.kind) x q.wanted ≡ true → 0 < m → m < (row_of x.kind).length
      → read_of (put_records xs (take m (put_record x v))) ≡ cut_at q.at
  cut_in_record x v m k lo hi =
      let u = take m (put_record x v) in
      let s = put_records xs u in
      let l = led xs q r a u in
      let w = reads_whole xs q r in
      let n : length (take m (put_record x v)) ≡ m = length-take-le m (put_record x v) (omega (arith, record_length x v)) in
      let h : q.at < length s = omega (arith, l.place) in
      let d = not_done (length s) q w h in
      short_next s (length xs) q q.at (omega (arith, records_short xs u)) l.state d
      (inside-step s u q x w l.rest h (first_byte m x.kind _ lo) (omega arith) k)

-- ---- where a file is cut
put_word_rest : (sort v : ℕ) (u t : List ℕ) → put_word sort v (u ++ t) ≡ put_word sort v u ++ t
unfolding put_word
put_word_rest sort v u t = go (eqb sort 0)
  where
    go : (b : Bool) → cond b (u ++ t) (put2 v (u ++ t)) ≡ cond b u (put2 v u) ++ t
    go true = refl
    go false = refl

put-code-rest : (b : Bool) (v : ℕ) (u t : List ℕ) → put_code b v (u ++ t) ≡ put_code b v u ++ t
unfolding put_code
put-code-rest true v u t = refl
put-code-rest false v u t = refl

put-bits-rest : (n v : ℕ) (u t : List ℕ) → put_bits n v (u ++ t) ≡ put_bits n v u ++ t
unfolding put_bits
put-bits-rest n v u t = go (eqb n 4) (eqb n 8)
  where
    go : (b d : Bool) → cond b (put4 v (u ++ t)) (cond d (put8 v (u ++ t)) (u ++ t)) ≡ cond b (put4 v u) (cond d (put8 v u) u) ++ t
    go true d = refl
    go false true = refl
    go false false = refl

put_record_rest : (x : Record) (u t : List ℕ) → put_record x (u ++ t) ≡ put_record x u ++ t
unfolding put_body
put_record_rest x u t =
    let r = row_of x.kind in
    ap (λ (l : List ℕ). x.kind ∷ l)
    (ap (put_code (eqb r.code 1) x.code)
    (ap (put_word r.a x.a)
    (ap (put_word r.b x.b)
    (ap (put_word r.c x.c)
    (ap (put_word r.d x.d)
    (ap (put_code (eqb r.code 3) x.code) (put-bits-rest r.bits x.bits u t) ∙ put-code-rest (eqb r.code 3) x.code _ t)
    ∙ put_word_rest r.d x.d _ t)
    ∙ put_word_rest r.c x.c _ t)
    ∙ put_word_rest r.b x.b _ t)
    ∙ put_word_rest r.a x.a _ t)
    ∙ put-code-rest (eqb r.code 1) x.code _ t)

pub put_rest : (xs : List Record) (u : List ℕ) → put_records xs u ≡ put_records xs [] ++ u
unfolding put_records
put_rest [] u = refl
put_rest (x ∷ xs) u = ap (put_record x) (put_rest xs u) ∙ put_record_rest x (put_records xs []) u

-- the beginning p of a file, by where it ends: between records with no item wanted; where an item is wanted; inside a record
pub data Cut (p : List ℕ) : Type 0 where
  between :
      (xs : List Record) (q : State) → Reads xs q → p ≡ put_records xs [] → kind_wanted q.wanted ≡ 0
      → read_of p ≡ record { plan = q.plan; reading = Ok tt } → Cut p
  in_list :
      (xs : List Record) (q : State) → Reads xs q → p ≡ put_records xs [] → (kind_wanted q.wanted ≡ 0 → ⊥)
      → read_of p ≡ cut_at (length p) → Cut p
  in_record :
      (xs : List Record) (q : State) (x : Record) (m : ℕ) → Reads xs q → p ≡ put_records xs (take m (put_record x [])) → 0 < m → m < (row_of x.kind).length
      → read_of p ≡ cut_at q.at → Cut p

-- all of it
cut_whole : (xs : List Record) (q : State) → Reads xs q → All Fits xs → Cut (put_records xs [])
cut_whole xs q r a =
    elim (ℕ_discrete (kind_wanted q.wanted) 0) [
      | yes z ↦ between xs q r refl z (read-records xs q r a z)
      | no z ↦ in_list xs q r refl z (cut_in_list xs q r a z)
    ]

-- a part of one record more
cut_more : (ys : List Record) (q : State) (x : Record) (t : State) (n : ℕ) → Reads ys q → All Fits ys → Judged q x t → length (put_records ys []) < n → n
    < length (put_records ys []) + (row_of x.kind).length → Cut (take n (put_records ys [] ++ put_record x []))
cut_more ys q x t n r a j lo hi =
    let b = put_records ys [] in
    let m = n - length b in
    let e : length b + m ≡ n = omega arith in
    let p : put_records ys (take m (put_record x [])) ≡ take n (b ++ put_record x []) =
    put_rest ys (take m (put_record x [])) ∙ sym (take-append-add b (put_record x []) m) ∙ ap (λ (k : ℕ). take k (b ++ put_record x [])) e in
    subst Cut p (in_record ys q x m r refl (omega arith) (omega arith) (cut_in_record ys q r a x [] m j.kind (omega arith) (omega arith)))

cut_empty : (n : ℕ) → n ≤ 0 → Cut (take n [])
unfolding put_records start_state kind_wanted
cut_empty zero h = cut_whole [] start_state begin none
cut_empty (suc n) h = absurd (omega arith)

cut_step : (ys : List Record) (q : State) (x : Record) (t : State) → Reads ys q → Judged q x t → Reads (ys ++ (x ∷ [])) t → All Fits ys → All Fits
    (ys ++ (x ∷ []))
    → ((n : ℕ) → n ≤ length (put_records ys []) → Cut (take n (put_records ys []))) → (n : ℕ) → n ≤ length (put_records (ys ++ (x ∷ [])) []) → Cut
    (take n (put_records (ys ++ (x ∷ [])) []))
cut_step ys q x t r j rt ay a old n h =
    let b = put_records ys [] in
    let s = put_records (ys ++ (x ∷ [])) [] in
    let e : put_records (ys ++ (x ∷ [])) [] ≡ b ++ put_record x [] = put_snoc ys x [] ∙ put_rest ys (put_record x []) in
    let l : length (put_records (ys ++ (x ∷ [])) []) ≡ length b + (row_of x.kind).length = ap length e ∙ length-append b (put_record x []) ∙ ap
    (λ (k : ℕ). length b + k) (whole_length x) in
    ⊎_elim
    (λ g. ⊎_elim
    (λ f. subst (λ (v : List ℕ). Cut (take n v)) (sym e) (cut_more ys q x t n r ay j g f))
    (λ f. subst Cut (sym (take_all n s (omega arith))) (cut_whole (ys ++ (x ∷ [])) t rt a))
    (below_or_not n (length b + (row_of x.kind).length)))
    (λ g. subst Cut (sym (ap (take n) e ∙ take-append-le n b (put_record x []) g)) (old n g))
    (below_or_not (length b) n)
  where
    whole_length : (x : Record) → length (put_record x []) ≡ (row_of x.kind).length
    whole_length x = omega (arith, record_length x [])

pub cut_reads : (xs : List Record) (q : State) → Reads xs q → All Fits xs → (n : ℕ) → n ≤ length (put_records xs []) → Cut (take n (put_records xs []))
unfolding put_records
cut_reads xs q begin a n h = cut_empty n h
cut_reads xs q (next {xs = ys} {q = p} x t r k) a n h =
    cut_step ys p x t r (judged p x t k.way) (next x t r k) (all_left Fits ys (x ∷ []) a) a (λ m g. cut_reads ys p r (all_left Fits ys (x ∷ []) a) m g) n h

-- Every beginning of an accepted file ends between two records with no item wanted, and is accepted; or where an item is wanted, and is refused
-- by 1 at its length; or inside a record, and is refused by 1 where that record starts. Assumes nothing.
pub prefix : (s : List ℕ) → Bytes s → is_whole (read_of s).reading ≡ true → (n : ℕ) → n ≤ length s → Cut (take n s)
prefix s b e n h =
    let f = file_of_lem s b e in
    subst (λ (v : List ℕ). Cut (take n v)) (sym f.bytes)
    (cut_reads (records_of s) (last_of s) f.reads f.fit n (subst (λ (v : List ℕ). n ≤ length v) f.bytes h))

refusal_cut : (p : List ℕ) → Cut p → refusal_of (read_of p).reading ≤ 1
refusal_cut p (between xs q r e z g) = rw g (omega arith)
refusal_cut p (in_list xs q r e z g) = rw g (omega arith)
refusal_cut p (in_record xs q x m r e lo hi g) = rw g (omega arith)

-- So a beginning of an accepted file is accepted or refused by 1. Assumes nothing.
pub prefix_refusal : (s : List ℕ) → Bytes s → is_whole (read_of s).reading ≡ true → (n : ℕ) → n ≤ length s → refusal_of (read_of (take n s)).reading ≤ 1
prefix_refusal s b e n h = refusal_cut (take n s) (prefix s b e n h)
