-- The bytes of records: how a plan file is written. Assumes nothing.
use Rattle.std.specs.Prelude.{ℕ, zero, suc, ◌/◌, ◌%◌, ◌<◌, ◌≡◌, Bool, cond, List, [], ◌∷◌, eqb, length, drop}
use Rattle.plan_kinds.specs.declared.Record.{Record}
use Rattle.plan_kinds.specs.Rows.{Row}
use Rattle.plan_kinds.specs.Rows.{row_of}
use Rattle.plan_file.specs.Bytes.{record_from}

-- a number of two, four, eight bytes, high byte first, and then u
abbrev pub put2 : ℕ → List ℕ → List ℕ
put2 v u = v / 256 ∷ v % 256 ∷ u

abbrev pub put4 : ℕ → List ℕ → List ℕ
put4 v u = put2 (v / 65536) (put2 (v % 65536) u)

abbrev pub put8 : ℕ → List ℕ → List ℕ
put8 v u = put4 (v / 4294967296) (put4 (v % 4294967296) u)

-- a number, if the kind has it
unfoldable pub put_word : ℕ → ℕ → List ℕ → List ℕ
put_word sort v u = cond (eqb sort 0) u (put2 v u)

-- a code, if it stands here
unfoldable pub put_code : Bool → ℕ → List ℕ → List ℕ
put_code here v u = cond here (v ∷ u) u

-- a literal of n bytes
unfoldable pub put_bits : ℕ → ℕ → List ℕ → List ℕ
put_bits n v u = cond (eqb n 4) (put4 v u) (cond (eqb n 8) (put8 v u) u)

-- kind, code if it stands first, numbers, code if it stands last, literal
unfoldable pub put_body : Row → Record → List ℕ → List ℕ
put_body r x u =
    put_code (eqb r.code 1) x.code
    (put_word r.a x.a
    (put_word r.b x.b
    (put_word r.c x.c
    (put_word r.d x.d
    (put_code (eqb r.code 3) x.code
    (put_bits r.bits x.bits u))))))

abbrev pub put_record : Record → List ℕ → List ℕ
put_record x u = x.kind ∷ put_body (row_of x.kind) x u

-- the bytes of records, one after the other, and then u
unfoldable pub put_records : List Record → List ℕ → List ℕ
put_records [] u = u
put_records (x ∷ xs) u = put_record x (put_records xs u)

-- the records of bytes, each as long as its kind says; n is as many as there can be
unfoldable pub records_in : ℕ → List ℕ → List Record
records_in zero s = []
records_in (suc n) [] = []
records_in (suc n) (k ∷ s) = record_from (k ∷ s) (row_of k) ∷ records_in n (drop (row_of k).length (k ∷ s))

abbrev pub records_of : List ℕ → List Record
records_of s = records_in (length s) s

-- a record whose numbers, code and literal fit the bytes that its kind has for them; what the kind does not have is 0
pub record Fits (x : Record) : Type 0 where
  pub a : x.a < 65536
  pub b : x.b < 65536
  pub c : x.c < 65536
  pub d : x.d < 65536
  pub no_code : (row_of x.kind).code ≡ 0 → x.code ≡ 0
  pub no_a : (row_of x.kind).a ≡ 0 → x.a ≡ 0
  pub no_b : (row_of x.kind).b ≡ 0 → x.b ≡ 0
  pub no_c : (row_of x.kind).c ≡ 0 → x.c ≡ 0
  pub no_d : (row_of x.kind).d ≡ 0 → x.d ≡ 0
  pub no_bits : (row_of x.kind).bits ≡ 0 → x.bits ≡ 0
  pub bits_4 : (row_of x.kind).bits ≡ 4 → x.bits < 4294967296
  pub bits_8 : (row_of x.kind).bits ≡ 8 → x.bits < 18446744073709551616
