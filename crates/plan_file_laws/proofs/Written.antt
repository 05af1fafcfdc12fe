-- A record's bytes: bytes that begin with a record are that record's and the rest, and a record that was put is read back. Assumes nothing.
use Prim.Native.Nat.{ℕ, zero, suc, ◌+◌, ◌≤◌, ◌<◌}
use mathlib.Core.Path.{◌≡◌, refl, sym, ap, ◌∙◌}
use mathlib.Core.Bool.{Bool, true, false, cond}
use mathlib.Core.List.{List, [], ◌∷◌, ◌++◌}
use mathlib.Core.Logic.{◌⊎◌, inr, ⊎_elim}
use native.Mathlib.Omega.{arith}
use lib.Dec.{eqb}
use lib.ListN.{get_or, length, drop}
use Rattle.plan_kinds.specs.declared.Record.{Record}
use Rattle.plan_kinds.specs.Rows.{Row}
use Rattle.plan_kinds.specs.Rows.{row_of}
use Rattle.plan_file.specs.Bytes.{code_from, bits_from, record_from}
use Rattle.plan_file_laws.specs.ByteStrings.{Bytes}
use Rattle.plan_file_laws.specs.Writing.{put2, put_word, put_code, put_bits, put_body, put_record, put_records, records_in, records_of, Fits}
use Rattle.plan_file_laws.proofs.Layouts.{width, code_width, place1, place2, place3, place4, place5, place6, Layout, layout}
use Rattle.plan_file_laws.proofs.Segments.{one_byte, split_word, split-code, split-bits, got_word, got_code, got_bits}

-- a code that stands last stands at 3
last_code : (r : Row) → Layout r → r.code ≡ 3 → place5 r ≡ 3
last_code r l e = ⊎_elim (λ z. absurd (omega arith)) (λ z. ⊎_elim (λ y. absurd (omega arith)) (λ y. y.1) z) l.code

ne-zero-of-pos : (n : ℕ) → 0 < n → n ≡ 0 → ⊥
ne-zero-of-pos n h e = omega arith

-- Bytes that are long enough begin with a record, whose bytes they are, and then the rest. Assumes nothing.
pub split_record : (t : List ℕ) → Bytes t → (row_of (get_or t 0 0)).length ≤ length t → t ≡ put_record (record_from t (row_of (get_or t 0 0)))
    (drop (row_of (get_or t 0 0)).length t)
unfolding record_from put_body
split_record t b h =
    let r = row_of (get_or t 0 0) in
    let l = layout (get_or t 0 0) in
    let n = l.total in
    one_byte t 0 (omega arith)
    ∙ ap (λ (u : List ℕ). get_or t 0 0 ∷ u)
    (split-code t 1 1 r.code (ne-zero-of-pos 1 (omega arith)) (λ e. refl) (omega arith)
    ∙ ap (put_code (eqb r.code 1) (code_from t r.code))
    (split_word t b (place1 r) r.from r.a (inr l.a) (omega arith)
    ∙ ap (put_word r.a _)
    (split_word t b (place2 r) (r.from + 2) r.b l.b (omega arith)
    ∙ ap (put_word r.b _)
    (split_word t b (place3 r) (r.from + 4) r.c l.c (omega arith)
    ∙ ap (put_word r.c _)
    (split_word t b (place4 r) (r.from + 6) r.d l.d (omega arith)
    ∙ ap (put_word r.d _)
    (split-code t (place5 r) 3 r.code (ne-zero-of-pos 3 (omega arith)) (last_code r l) (omega arith)
    ∙ ap (put_code (eqb r.code 3) (code_from t r.code))
    (split-bits t b (place6 r) r.bits l.bits (omega arith)
    ∙ ap (λ (k : ℕ). put_bits r.bits (bits_from t r.bits) (drop k t)) (sym n))))))))

-- ---- what was put is read back
pub code-none : (t : List ℕ) (c : ℕ) → c ≡ 0 → code_from t c ≡ 0
unfolding code_from
code-none t c e = rw e

pub record Back (x : Record) (u t : List ℕ) : Type 0 where
  pub record_back : record_from t (row_of x.kind) ≡ x
  pub rest_back : drop (row_of x.kind).length t ≡ u

-- A record that was put is read back, and the rest after it. Assumes nothing.
pub read_back : (x : Record) (u : List ℕ) → Fits x → Back x u (put_record x u)
unfolding record_from put_body
read_back x u f =
    let t = put_record x u in
    let r = row_of x.kind in
    let l = layout x.kind in
    let g1 = got_code t 1 1 r.code x.code _ (ne-zero-of-pos 1 (omega arith)) (λ e. refl) refl in
    let g2 = got_word t (place1 r) r.from r.a x.a _ (inr l.a) f.no_a g1.1 in
    let g3 = got_word t (place2 r) (r.from + 2) r.b x.b _ l.b f.no_b g2.1 in
    let g4 = got_word t (place3 r) (r.from + 4) r.c x.c _ l.c f.no_c g3.1 in
    let g5 = got_word t (place4 r) (r.from + 6) r.d x.d _ l.d f.no_d g4.1 in
    let g6 = got_code t (place5 r) 3 r.code x.code _ (ne-zero-of-pos 3 (omega arith)) (last_code r l) g5.1 in
    let g7 = got_bits t (place6 r) r.bits x.bits u l.bits f.no_bits g6.1 in
    let c : code_from (put_record x u) (row_of x.kind).code ≡ x.code =
    ⊎_elim (λ z. code-none t r.code z ∙ sym (f.no_code z)) (λ z. ⊎_elim (λ y. g1.0 y) (λ y. g6.0 y.0) z) l.code in
    record {
      record_back = λ i. record { kind = x.kind; code = c i; a = g2.0 i; b = g3.0 i; c = g4.0 i; d = g5.0 i; bits = g7.0 i };
      rest_back = ap (λ (k : ℕ). drop k t) l.total ∙ g7.1;
    }

-- ---- its length
length_word : (sort v : ℕ) (u : List ℕ) → length (put_word sort v u) ≡ width sort + length u
unfolding put_word
length_word sort v u = go (eqb sort 0)
  where
    go : (b : Bool) → length (cond b u (put2 v u)) ≡ cond b 0 2 + length u
    go true = omega arith
    go false = omega arith

length-code : (c k v : ℕ) (u : List ℕ) → length (put_code (eqb c k) v u) ≡ code_width c k + length u
unfolding put_code
length-code c k v u = go (eqb c k)
  where
    go : (b : Bool) → length (cond b (v ∷ u) u) ≡ cond b 1 0 + length u
    go true = omega arith
    go false = omega arith

length-bits : (m v n : ℕ) (u : List ℕ) → (m ≡ 0) ⊎ (((m ≡ 4) ⊎ (m ≡ 8)) × (n ≡ 1)) → length (put_bits m v u) ≡ m + length u
unfolding put_bits
length-bits m v n u place = ⊎_elim (none m) (λ c. ⊎_elim (four m) (eight m) c.0) place
  where
    none : (m : ℕ) → m ≡ 0 → length (put_bits m v u) ≡ m + length u
    none m e = rw e (omega arith)

    four : (m : ℕ) → m ≡ 4 → length (put_bits m v u) ≡ m + length u
    four m e = rw e (omega arith)

    eight : (m : ℕ) → m ≡ 8 → length (put_bits m v u) ≡ m + length u
    eight m e = rw e (omega arith)

-- A record is as long as its kind says. Assumes nothing.
pub record_length : (x : Record) (u : List ℕ) → length (put_record x u) ≡ (row_of x.kind).length + length u
unfolding put_body
record_length x u =
    let r = row_of x.kind in
    let l = layout x.kind in
    let u6 = put_bits r.bits x.bits u in
    let u5 = put_code (eqb r.code 3) x.code u6 in
    let u4 = put_word r.d x.d u5 in
    let u3 = put_word r.c x.c u4 in
    let u2 = put_word r.b x.b u3 in
    let u1 = put_word r.a x.a u2 in
    omega (
      arith,
      l.total,
      length-code r.code 1 x.code u1,
      length_word r.a x.a u2,
      length_word r.b x.b u3,
      length_word r.c x.c u4,
      length_word r.d x.d u5,
      length-code r.code 3 x.code u6,
      length-bits r.bits x.bits (place6 r) u l.bits,
    )

-- ---- records one after the other
pub put_append : (xs ys : List Record) (u : List ℕ) → put_records (xs ++ ys) u ≡ put_records xs (put_records ys u)
unfolding put_records
put_append [] ys u = refl
put_append (x ∷ xs) ys u = ap (put_record x) (put_append xs ys u)

pub data All (P : Record → Type 0) : List Record → Type 0 where
  none : All P []
  more : {x : Record} {xs : List Record} → P x → All P xs → All P (x ∷ xs)

-- no more records than bytes
pub records_short : (xs : List Record) (u : List ℕ) → length xs + length u ≤ length (put_records xs u)
unfolding put_records
records_short [] u = omega arith
records_short (x ∷ xs) u =
    let l = (layout x.kind).total in
    omega (arith, records_short xs u, record_length x (put_records xs u))

-- the records of bytes, found again
again : (n : ℕ) (xs : List Record) → All Fits xs → length xs ≤ n → records_in n (put_records xs []) ≡ xs
unfolding records_in put_records
again zero [] a h = refl
again (suc n) [] a h = refl
again zero (x ∷ xs) a h = absurd (omega arith)
again (suc n) (x ∷ xs) (more f fs) h =
    let b = read_back x (put_records xs []) f in
    let e : records_in n (put_records xs []) ≡ xs = again n xs fs (omega arith) in
    λ i. b.record_back i ∷ (ap (records_in n) b.rest_back ∙ e) i

-- The records of the bytes of records are those records. Assumes nothing.
pub records-again : (xs : List Record) → All Fits xs → records_of (put_records xs []) ≡ xs
records-again xs a = again (length (put_records xs [])) xs a (omega (arith, records_short xs []))
