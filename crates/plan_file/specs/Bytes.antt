-- Numbers of two, four and eight bytes, high byte first, and a record out of bytes; past the end of the bytes stand zeros. Assumes nothing.
use Rattle.std.specs.Prelude.{ℕ, ◌+◌, ◌*◌, cond, List, eqb, get_or}
use Rattle.plan_kinds.specs.declared.Record.{Record}
use Rattle.plan_kinds.specs.Rows.{Row}

abbrev pub word2 : List ℕ → ℕ → ℕ
word2 s at = get_or s at 0 * 256 + get_or s (at + 1) 0

abbrev pub word4 : List ℕ → ℕ → ℕ
word4 s at = word2 s at * 65536 + word2 s (at + 2)

abbrev pub word8 : List ℕ → ℕ → ℕ
word8 s at = word4 s at * 4294967296 + word4 s (at + 4)

-- the code at a place; at the place 0, where the kind stands, there is none
unfoldable pub code_from : List ℕ → ℕ → ℕ
code_from s at = cond (eqb at 0) 0 (get_or s at 0)

-- the number at a place, 0 where the kind has none
unfoldable pub word_from : List ℕ → ℕ → ℕ → ℕ
word_from s at sort = cond (eqb sort 0) 0 (word2 s at)

-- a literal of n bytes, which stands right after the kind
unfoldable pub bits_from : List ℕ → ℕ → ℕ
bits_from s n = cond (eqb n 4) (word4 s 1) (cond (eqb n 8) (word8 s 1) 0)

-- the record that begins s, read by its kind's row
unfoldable pub record_from : List ℕ → Row → Record
record_from s r =
    record {
      kind = get_or s 0 0;
      code = code_from s r.code;
      a = word_from s r.from r.a;
      b = word_from s (r.from + 2) r.b;
      c = word_from s (r.from + 4) r.c;
      d = word_from s (r.from + 6) r.d;
      bits = bits_from s r.bits;
    }
