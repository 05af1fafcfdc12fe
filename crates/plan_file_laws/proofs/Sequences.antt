-- A file is accepted exactly where its bytes are those of records that are taken one after the other. Assumes nothing.
use Rattle.std.proofs.Common.{Ok}
use Prim.Native.Nat.{ℕ, suc, ◌+◌, ◌-◌, ◌*◌, ◌≤◌, ◌<◌}
use mathlib.Core.Path.{◌≡◌, refl, sym, ap, ◌∙◌, subst}
use mathlib.Core.Bool.{Bool, true, false, cond}
use mathlib.Core.List.{List, [], ◌∷◌, ◌++◌}
use native.Mathlib.Omega.{arith}
use native.Mathlib.Numerals.{add-one}
use lib.Dec.{eqb}
use lib.ListN.{get_or, length, drop, length-append, length-drop}
use lib.Seq.{drop-drop, drop-length}
use borrow.Author.Tests.{le-leb, lt-leb, eq-eqb, ne_eqb}
use Rattle.laws.proofs.Bools.{ne-false-of-true}
use Rattle.plan_kinds.specs.declared.Record.{Record}
use Rattle.plan_kinds.specs.Rows.{Row}
use Rattle.plan_kinds.specs.Rows.{row_of}
use Rattle.plan_kinds.specs.Records.{code_ok, handles_ok}
use Rattle.plan.specs.Append.{append_column, append_expr, append_operator, append_item}
use Rattle.plan_file.specs.State.{State}
use Rattle.plan_file.specs.Answers.{is_whole, is_added}
use Rattle.plan_file.specs.Bytes.{word_from, bits_from, record_from}
use Rattle.plan_file.specs.Steps.{kind_wanted, kind_ok, scanned_twice, fault_of, append_of, wanted_after, scans_after, taken_by, appended_step, judged_step}
use Rattle.plan_file.specs.Steps.{row_step, record_step, is_done, step_of, steps_of, start_state, answer_of, read_of}
use Rattle.plan_file.proofs.StepsTaken.{read_early}
use Rattle.plan_file.proofs.StepCases.{Way, a_column, an_expr, an_operator, an_item, Taking, steps_keep}
use Rattle.plan_file.proofs.Finish.{accepted, last_of, taken_at}
use Rattle.plan_file_laws.specs.ByteStrings.{Bytes}
use Rattle.plan_file_laws.specs.Writing.{put_record, put_records, records_of, Fits}
use Rattle.plan_file_laws.proofs.RowFacts.{bytes_drop}
use Rattle.plan_file_laws.proofs.RulesRead.{Kept, Takes, takes, kept-start, kept-takes}
use Rattle.plan_file_laws.proofs.Written.{code-none, split_record, read_back, record_length, put_append, All, none, more, records-again, records_short}

-- the records xs, taken one after the other from the start, lead to q
pub data Reads : List Record → State → Type 0 where
  begin : Reads [] start_state
  next : {xs : List Record} {q : State} (x : Record) (t : State) → Reads xs q → Takes q x t → Reads (xs ++ (x ∷ [])) t

-- ---- a record that is read out of bytes fits them
word_fits : (t : List ℕ) (p sort : ℕ) → Bytes t → word_from t p sort < 65536
unfolding word_from
word_fits t p sort b = go (eqb sort 0)
  where
    go : (e : Bool) → cond e 0 (get_or t p 0 * 256 + get_or t (p + 1) 0) < 65536
    go true = omega arith
    go false = omega (arith, b p, b (p + 1))

word_none : (t : List ℕ) (p sort : ℕ) → sort ≡ 0 → word_from t p sort ≡ 0
unfolding word_from
word_none t p sort e = rw e

bits_none : (t : List ℕ) (n : ℕ) → n ≡ 0 → bits_from t n ≡ 0
unfolding bits_from
bits_none t n e = rw e

bits-four : (t : List ℕ) (n : ℕ) → Bytes t → n ≡ 4 → bits_from t n < 4294967296
unfolding bits_from
bits-four t n b e = rw e (omega (arith, b 1, b 2, b 3, b 4))

bits-eight : (t : List ℕ) (n : ℕ) → Bytes t → n ≡ 8 → bits_from t n < 18446744073709551616
unfolding bits_from
bits-eight t n b e = rw e (omega (arith, b 1, b 2, b 3, b 4, b 5, b 6, b 7, b 8))

pub fits_read : (t : List ℕ) → Bytes t → Fits (record_from t (row_of (get_or t 0 0)))
unfolding record_from
fits_read t b =
    let r = row_of (get_or t 0 0) in
    record {
      a = word_fits t r.from r.a b;
      b = word_fits t (r.from + 2) r.b b;
      c = word_fits t (r.from + 4) r.c b;
      d = word_fits t (r.from + 6) r.d b;
      no_code = code-none t r.code;
      no_a = word_none t r.from r.a;
      no_b = word_none t (r.from + 2) r.b;
      no_c = word_none t (r.from + 4) r.c;
      no_d = word_none t (r.from + 6) r.d;
      no_bits = bits_none t r.bits;
      bits_4 = bits-four t r.bits b;
      bits_8 = bits-eight t r.bits b;
    }

-- ---- what a reading has taken
pub record ReadTo (s : List ℕ) (q : State) : Type 0 where
  pub records : List Record
  pub reads : Reads records q
  pub bytes : s ≡ put_records records (drop q.at s)
  pub fit : All Fits records

all_snoc : (P : Record → Type 0) (xs : List Record) (x : Record) → All P xs → P x → All P (xs ++ (x ∷ []))
all_snoc P [] x a p = more p none
all_snoc P (y ∷ xs) x (more q a) p = more q (all_snoc P xs x a p)

pub put_snoc : (xs : List Record) (x : Record) (u : List ℕ) → put_records (xs ++ (x ∷ [])) u ≡ put_records xs (put_record x u)
unfolding put_records
put_snoc xs x u = put_append xs (x ∷ []) u

kind-read : (t : List ℕ) (x : Record) (r : Row) → x ≡ record_from t r → x.kind ≡ get_or t 0 0
unfolding record_from
kind-read t x r e = ap (λ (y : Record). y.kind) e

-- the bytes of the record that is taken
taken-bytes : (s : List ℕ) (q : State) (x : Record) (t : State) → Bytes s → Taking s q x t → (drop q.at s ≡ put_record x (drop t.at s)) × Fits x
taken-bytes s q x t b u =
    let v = drop q.at s in
    let k = kind-read v x _ u.fetched in
    let w : (row_of (get_or v 0 0)).length ≤ length v = subst (λ (n : ℕ). (row_of n).length ≤ length v) k u.passed.whole in
    let e = split_record v (bytes_drop q.at s b) w in
    let d : drop (row_of (get_or v 0 0)).length v ≡ drop t.at s =
    ap (λ (n : ℕ). drop (row_of n).length v) (sym k) ∙ drop-drop (row_of x.kind).length q.at s ∙ ap (λ (n : ℕ). drop n s)
    (sym (taken_at q x t u.way).0) in
    (e ∙ (λ i. put_record (sym u.fetched i) (d i)), subst Fits (sym u.fetched) (fits_read v (bytes_drop q.at s b)))

abbrev Going : List ℕ → State → Type 0
Going s q = is_whole q.reading ≡ true → ReadTo s q

going-taken : (s : List ℕ) → Bytes s → (q : State) (x : Record) (t : State) → Going s q → Taking s q x t → Going s t
going-taken s b q x t g u w =
    let v = g u.going in
    let y = taken-bytes s q x t b u in
    record {
      records = v.records ++ (x ∷ []);
      reads = next x t v.reads (takes s q x t b u);
      bytes = v.bytes ∙ ap (put_records v.records) y.0 ∙ sym (put_snoc v.records x (drop t.at s));
      fit = all_snoc Fits v.records x v.fit y.1;
    }

going_start : (s : List ℕ) → Going s start_state
unfolding start_state put_records
going_start s w = record { records = []; reads = begin; bytes = refl; fit = none }

pub read-to : (s : List ℕ) → Bytes s → (i : ℕ) → is_whole (steps_of s i).reading ≡ true → ReadTo s (steps_of s i)
read-to s b =
    steps_keep (Going s) s (going_start s) (λ q k g r w. absurd (ne-false-of-true (is_whole k) w r.refuses)) (λ q x t g u. going-taken s b q x t g u)

-- ---- an accepted file
pub record FileOf (s : List ℕ) (xs : List Record) (q : State) : Type 0 where
  pub reads : Reads xs q
  pub bytes : s ≡ put_records xs []
  pub fit : All Fits xs
  pub nothing : kind_wanted q.wanted ≡ 0
  pub plan : (read_of s).plan ≡ q.plan

whole-last : (s : List ℕ) → is_whole (read_of s).reading ≡ true → is_whole (last_of s).reading ≡ true
unfolding read_of answer_of
whole-last s e = e

-- An accepted file is the bytes of its records, which are taken one after the other, and lead to its plan. Assumes nothing.
pub file_of_lem : (s : List ℕ) → Bytes s → is_whole (read_of s).reading ≡ true → FileOf s (records_of s) (last_of s)
file_of_lem s b e =
    let a = accepted s e in
    let v = read-to s b (length s) (whole-last s e) in
    let d : drop (last_of s).at s ≡ [] = ap (λ (n : ℕ). drop n s) a.end ∙ drop-length s in
    let y : s ≡ put_records v.records [] = v.bytes ∙ ap (put_records v.records) d in
    let f : FileOf s v.records (last_of s) = record { reads = v.reads; bytes = y; fit = v.fit; nothing = a.nothing; plan = a.plan } in
    let g : records_of s ≡ v.records = ap records_of y ∙ records-again v.records v.fit in
    subst (λ (xs : List Record). FileOf s xs (last_of s)) (sym g) f

-- ---- and the other way round: records that are taken one after the other are read from their bytes
pub record Judged (q : State) (x : Record) (t : State) : Type 0 where
  pub kind : kind_ok (row_of x.kind) x q.wanted ≡ true
  pub added : is_added (append_of q.plan (row_of x.kind) x).added ≡ true
  pub after : taken_by q (row_of x.kind) x (append_of q.plan (row_of x.kind) x).plan ≡ t

-- a record that is taken passes the test of its kind and finds room
pub judged : (q : State) (x : Record) (t : State) → Way q x t → Judged q x t
unfolding kind_ok append_of append_column append_expr append_operator append_item wanted_after scans_after
judged q x t (a_column s h z) =
    record {
      kind = rw (eq-eqb _ _ z, s);
      added = rw (s, lt-leb 64 q.plan.columns.count h);
      after = rw (s, lt-leb 64 q.plan.columns.count h);
    }
judged q x t (an_expr s h z) =
    record {
      kind = rw (eq-eqb _ _ z, s);
      added = rw (s, lt-leb 1024 q.plan.expressions.count h);
      after = rw (s, lt-leb 1024 q.plan.expressions.count h);
    }
judged q x t (an_operator s h z) =
    record {
      kind = rw (eq-eqb _ _ z, s);
      added = rw (s, lt-leb 128 q.plan.operators.count h);
      after = rw (s, lt-leb 128 q.plan.operators.count h);
    }
judged q x t (an_item s h n e) =
    record {
      kind = rw (ne_eqb _ _ n) (eq-eqb _ _ e);
      added = rw (s, lt-leb 2048 q.plan.items.count h);
      after = rw (s, lt-leb 2048 q.plan.items.count h);
    }

no_fault_back :
    (r : Row) (x : Record) (n : ℕ) (q : State) → kind_ok r x q.wanted ≡ true → r.length ≤ n → code_ok r x ≡ true
    → handles_ok r x q.plan.columns.count q.plan.expressions.count q.plan.operators.count ≡ true
    → scanned_twice r x q.wanted q.scans q.plan.operators.count ≡ false → fault_of r x n q ≡ Ok tt
unfolding fault_of
no_fault_back r x n q a b c d e = rw (a, le-leb _ _ b, c, d, e)

judged-step : (q : State) (x : Record) (t : State) → Judged q x t → judged_step q (row_of x.kind) x (Ok tt) ≡ t
unfolding judged_step appended_step
judged-step q x t j = rw j.added j.after

record_step_lem : (q : State) (x : Record) (t : State) (u : List ℕ) → Takes q x t → Fits x → record_step (put_record x u) q ≡ t
unfolding record_step row_step
record_step_lem q x t u k f =
    let j = judged q x t k.way in
    let r = row_of x.kind in
    let l : (row_of x.kind).length ≤ length (put_record x u) = omega (arith, record_length x u) in
    ap (λ (y : Record). judged_step q r y (fault_of r y (length (put_record x u)) q)) (read_back x u f).record_back
    ∙ ap (judged_step q r x) (no_fault_back r x (length (put_record x u)) q j.kind l k.right.code k.right.handles k.once)
    ∙ judged-step q x t j

step-takes : (s : List ℕ) (q : State) (x : Record) (t : State) (u : List ℕ) → Takes q x t → Fits x → q.reading ≡ Ok tt → drop q.at s ≡ put_record x u
    → step_of s q ≡ t
unfolding step_of
step-takes s q x t u k f w e =
    let n : length s - q.at ≡ length (put_record x u) = sym (length-drop q.at s) ∙ ap length e in
    let l : q.at < length s = omega arith in
    rw (ap is_whole w, lt-leb (length s) q.at l) (ap (λ (v : List ℕ). record_step v q) e ∙ record_step_lem q x t u k f)

pub reads_whole : (xs : List Record) (q : State) → Reads xs q → q.reading ≡ Ok tt
unfolding start_state
reads_whole xs q begin = refl
reads_whole xs q (next x t r k) = (taken_at _ x t k.way).1

pub all_left : (P : Record → Type 0) (xs ys : List Record) → All P (xs ++ ys) → All P xs
all_left P [] ys a = none
all_left P (x ∷ xs) ys (more p a) = more p (all_left P xs ys a)

pub all-last : (P : Record → Type 0) (xs : List Record) (x : Record) → All P (xs ++ (x ∷ [])) → P x
all-last P [] x (more p a) = p
all-last P (y ∷ xs) x (more p a) = all-last P xs x a

-- after as many steps as there are records, the reading is where they lead, and the rest of the bytes is left
pub record Led (xs : List Record) (q : State) (u : List ℕ) : Type 0 where
  pub state : steps_of (put_records xs u) (length xs) ≡ q
  pub rest : drop q.at (put_records xs u) ≡ u
  pub place : q.at + length u ≡ length (put_records xs u)

led-next : (xs : List Record) (q : State) (x : Record) (t : State) (u : List ℕ) → Takes q x t → Fits x → q.reading ≡ Ok tt → Led xs q (put_record x u) → Led
    (xs ++ (x ∷ [])) t u
unfolding steps_of
led-next xs q x t u k f w l =
    let s = put_records xs (put_record x u) in
    let n : length (xs ++ (x ∷ [])) ≡ suc (length xs) = length-append xs (x ∷ []) ∙ add-one (length xs) in
    let e : steps_of (put_records xs (put_record x u)) (length (xs ++ (x ∷ []))) ≡ t =
    ap (steps_of s) n ∙ ap (step_of s) l.state ∙ step-takes s q x t u k f w l.rest in
    let a = (taken_at q x t k.way).0 in
    let d : drop t.at s ≡ u = ap (λ (m : ℕ). drop m s) a ∙ sym (drop-drop (row_of x.kind).length q.at s) ∙ ap (drop (row_of x.kind).length)
    l.rest ∙ (read_back x u f).rest_back in
    let g : t.at + length u ≡ length s = omega (arith, a, l.place, record_length x u) in
    let y = subst (λ (v : List ℕ). (steps_of v (length (xs ++ (x ∷ []))) ≡ t) × (drop t.at v ≡ u) × (t.at + length u ≡ length v)) (sym (put_snoc xs x u))
    (e, d, g) in
    record { state = y.0; rest = y.1; place = y.2 }

pub led : (xs : List Record) (q : State) → Reads xs q → All Fits xs → (u : List ℕ) → Led xs q u
unfolding steps_of start_state put_records
led xs q begin a u = record { state = refl; rest = refl; place = omega arith }
led xs q (next {xs = ys} {q = p} x t r k) a u =
    led-next ys p x t u k (all-last Fits ys x a) (reads_whole ys p r) (led ys p r (all_left Fits ys (x ∷ []) a) (put_record x u))

done_at_lem : (n : ℕ) (q : State) → q.reading ≡ Ok tt → n ≤ q.at → kind_wanted q.wanted ≡ 0 → is_done n q ≡ true
done_at_lem n q w h z = rw (ap is_whole w, le-leb n q.at h, eq-eqb _ _ z)

answer-whole : (q : State) → q.reading ≡ Ok tt → answer_of q ≡ record { plan = q.plan; reading = Ok tt }
unfolding answer_of
answer-whole q w = rw w

-- Records that are taken one after the other, with no item wanted at the end, are accepted from their bytes, with the plan to which they lead.
-- Assumes nothing.
pub read-records : (xs : List Record) (q : State) → Reads xs q → All Fits xs → kind_wanted q.wanted ≡ 0 → read_of (put_records xs []) ≡ record
    { plan = q.plan; reading = Ok tt }
read-records xs q r a z =
    let s = put_records xs [] in
    let l = led xs q r a [] in
    let w = reads_whole xs q r in
    sym (read_early s (length xs) q (omega (arith, records_short xs [])) (sym l.state) (done_at_lem (length s) q w (omega (arith, l.place)) z))
    ∙ answer-whole q w

-- Through records that are taken the plan keeps the rules, as through a reading. Assumes nothing.
pub kept-reads : (xs : List Record) (q : State) → Reads xs q → Kept q
kept-reads xs q begin = kept-start
kept-reads xs q (next {xs = ys} {q = p} x t r k) = kept-takes p x t (kept-reads ys p r) k
