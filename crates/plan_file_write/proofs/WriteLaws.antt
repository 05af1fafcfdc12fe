-- Parts of a record written one after the other are the record. Assumes nothing.
use Prim.Native.Nat.{ℕ, ◌/◌, ◌%◌, ◌<◌}
use Rattle.std.specs.Int.{to_be_bytes, w16, w32, w64}
use mathlib.Core.Path.{◌≡◌, refl, sym, ap, ◌∙◌}
use mathlib.Core.Bool.{Bool, true, false, cond}
use mathlib.Core.List.{List, [], ◌∷◌, ◌++◌, append_assoc}
use lib.Dec.{eqb}
use native.Mathlib.Omega.{arith}
use borrow.Author.Tests.{eqb-true}
use Rattle.plan_kinds.specs.Coding.{field_code, numbered}
use Rattle.plan_kinds.specs.declared.Row as Declared
use Rattle.plan_kinds.specs.Rows.{row_of}
use Rattle.plan_file_write.specs.Written.{clipped_bits, clipped, record_bytes}
use Rattle.plan_kinds.specs.declared.Record.{Record}
use Rattle.plan_kinds.specs.Rows.{Row}
use Rattle.writing.specs.Text.{lines}
use Rattle.writing.proofs.Wrotes.{lines_more}
use Rattle.writing.proofs.Writings.{written_none, written_then}
use Rattle.plan_file_laws.specs.Writing.{Fits, put2, put4, put8, put_word, put_code, put_bits, put_body, put_record}

pub word_rest : (sort v : ℕ) (u : List ℕ) → put_word sort v u ≡ put_word sort v [] ++ u
unfolding put_word
word_rest sort v u = go (eqb sort 0)
  where
    go : (b : Bool) → cond b u (put2 v u) ≡ cond b [] (put2 v []) ++ u
    go true = refl
    go false = refl

pub code-rest : (b : Bool) (v : ℕ) (u : List ℕ) → put_code b v u ≡ put_code b v [] ++ u
unfolding put_code
code-rest true v u = refl
code-rest false v u = refl

-- a record's body, part by part
body_parts : (r : Row) (x : Record) → put_code (eqb r.code 1) x.code []
    ++ (put_word r.a x.a []
    ++ (put_word r.b x.b []
    ++ (put_word r.c x.c [] ++ (put_word r.d x.d [] ++ (put_code (eqb r.code 3) x.code [] ++ put_bits r.bits x.bits []))))) ≡ put_body r x []
unfolding put_body
body_parts r x =
    sym
    (code-rest (eqb r.code 1) x.code _
    ∙ ap (λ (l : List ℕ). put_code (eqb r.code 1) x.code [] ++ l)
    (word_rest r.a x.a _
    ∙ ap (λ (l : List ℕ). put_word r.a x.a [] ++ l)
    (word_rest r.b x.b _
    ∙ ap (λ (l : List ℕ). put_word r.b x.b [] ++ l)
    (word_rest r.c x.c _
    ∙ ap (λ (l : List ℕ). put_word r.c x.c [] ++ l)
    (word_rest r.d x.d _ ∙ ap (λ (l : List ℕ). put_word r.d x.d [] ++ l) (code-rest (eqb r.code 3) x.code _))))))

-- a record part by part, its row looked up
pub record_parts : (x : Record) (r : Declared.Row) → numbered r ≡ row_of x.kind
    → (x.kind ∷ [])
    ++ (put_code (eqb r.code 1) x.code []
    ++ (put_word (field_code r.a) x.a []
    ++ (put_word (field_code r.b) x.b []
    ++ (put_word (field_code r.c) x.c []
    ++ (put_word (field_code r.d) x.d []
    ++ (put_code (eqb r.code 3) x.code [] ++ put_bits r.bits (clipped_bits r.bits x.bits) []))))))
    ≡ record_bytes x
unfolding record_bytes
record_parts x r e =
    ap (λ (l : List ℕ). x.kind ∷ l)
    (body_parts (numbered r) (clipped (numbered r) x) ∙ ap (λ (q : Row). put_body q (clipped q x) []) e)

-- ---- numbers, high byte first
pub bytes_2 : (v : ℕ) → v < 65536 → to_be_bytes w16 v ≡ put2 v []
bytes_2 v h =
    let e : v / 256 % 256 ≡ v / 256 = omega arith in
    λ i. e i ∷ v % 256 ∷ []

pub bytes_4 : (v : ℕ) → v < 4294967296 → to_be_bytes w32 v ≡ put4 v []
bytes_4 v h =
    let e : v / 16777216 % 256 ≡ v / 65536 / 256 = omega arith in
    let f : v / 256 % 256 ≡ v % 65536 / 256 = omega arith in
    let g : v % 256 ≡ v % 65536 % 256 = omega arith in
    λ i. e i ∷ v / 65536 % 256 ∷ f i ∷ g i ∷ []

pub bytes_8 : (v : ℕ) → v < 18446744073709551616 → to_be_bytes w64 v ≡ put8 v []
bytes_8 v h =
    let e = bytes_4 (v / 4294967296) (omega arith) in
    let f = bytes_4 (v % 4294967296) (omega arith) in
    let a : v / 72057594037927936 % 256 ≡ v / 4294967296 / 16777216 % 256 = omega arith in
    let b : v / 281474976710656 % 256 ≡ v / 4294967296 / 65536 % 256 = omega arith in
    let d : v / 1099511627776 % 256 ≡ v / 4294967296 / 256 % 256 = omega arith in
    let k : v / 16777216 % 256 ≡ v % 4294967296 / 16777216 % 256 = omega arith in
    let l : v / 65536 % 256 ≡ v % 4294967296 / 65536 % 256 = omega arith in
    let m : v / 256 % 256 ≡ v % 4294967296 / 256 % 256 = omega arith in
    let n : v % 256 ≡ v % 4294967296 % 256 = omega arith in
    (λ i. a i ∷ b i ∷ d i ∷ v / 4294967296 % 256 ∷ k i ∷ l i ∷ m i ∷ n i ∷ []) ∙ (λ i. e i ++ f i)

-- ---- what is written line by line
pub lines_none : (f : ℕ → List ℕ) → lines 0 f ≡ []
unfolding lines
lines_none f = refl

pub ruleset lines_loop = (lines_none, lines_more, written_none, written_then, append_assoc)

-- ---- a plan whose literals fit their bytes is written as the plan file has it
pub same_bits : (n v : ℕ) → (n ≡ 4 → v < 4294967296) → clipped_bits n v ≡ v
same_bits n v f = go (eqb n 4) refl
  where
    go : (b : Bool) → eqb n 4 ≡ b → cond b (v % 4294967296) v ≡ v
    go true e = let h = f (eqb-true n 4 e) in omega (arith, h)
    go false e = refl

-- a record's bytes are the plan file's where its literal fits. Assumes a record that fits
pub same_record : (x : Record) → Fits x → record_bytes x ≡ put_record x []
unfolding record_bytes
same_record x f = λ i. put_record
    (record { kind = x.kind; code = x.code; a = x.a; b = x.b; c = x.c; d = x.d; bits = same_bits (row_of x.kind).bits x.bits f.bits_4 i }) []
