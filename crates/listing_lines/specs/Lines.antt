-- The lines of a listing, byte by byte, as the rules have them. Assumes nothing.
use Rattle.std.specs.Prelude.{ℕ, ◌-◌, Bool, true, false, cond, List, [], ◌∷◌, ◌++◌, eqb}
use Rattle.std.specs.Float.{binary64}
use Rattle.std.specs.Float.Ieee.{to_bits}
use Rattle.io.specs.Digits.{last_digits}
use Rattle.scalar.specs.Kinds.{kind_of}
use Rattle.scalar.specs.declared.Kind.{Kind}
use Rattle.scalar.specs.declared.Kind.TheVariants as K
use Rattle.scalar.specs.declared.ScalarValue.{ScalarValue}
use Rattle.scalar.specs.declared.ScalarValue.TheVariants as S
use Rattle.value_range.specs.declared.Bound.{Bound}
use Rattle.constraint_spec.specs.declared.Holder.{Holder}
use Rattle.constraint_spec.specs.declared.Entry.{Entry}
use Rattle.plan_identities.specs.declared.ValueId.{ValueId}
use Rattle.plan_identities.specs.declared.ValueId.TheVariants.{Base, Derived}
use Rattle.plan_identities.specs.declared.Identities.{Identities}
use Rattle.plan_identities.specs.Identities.{value_in}
use Rattle.writing.specs.Text.{decimal_of, signed_of}

-- ---- words
-- "facts "
abbrev pub facts_word : List ℕ
facts_word = 102 ∷ 97 ∷ 99 ∷ 116 ∷ 115 ∷ 32 ∷ []

-- "column "
abbrev pub column_word : List ℕ
column_word = 99 ∷ 111 ∷ 108 ∷ 117 ∷ 109 ∷ 110 ∷ 32 ∷ []

-- "define "
abbrev pub define_word : List ℕ
define_word = 100 ∷ 101 ∷ 102 ∷ 105 ∷ 110 ∷ 101 ∷ 32 ∷ []

-- "nonnull "
abbrev pub nonnull_word : List ℕ
nonnull_word = 110 ∷ 111 ∷ 110 ∷ 110 ∷ 117 ∷ 108 ∷ 108 ∷ 32 ∷ []

-- "literal "
abbrev pub literal_word : List ℕ
literal_word = 108 ∷ 105 ∷ 116 ∷ 101 ∷ 114 ∷ 97 ∷ 108 ∷ 32 ∷ []

-- "range "
abbrev pub range_word : List ℕ
range_word = 114 ∷ 97 ∷ 110 ∷ 103 ∷ 101 ∷ 32 ∷ []

-- "residual e"
abbrev pub residual_word : List ℕ
residual_word = 114 ∷ 101 ∷ 115 ∷ 105 ∷ 100 ∷ 117 ∷ 97 ∷ 108 ∷ 32 ∷ 101 ∷ []

-- " bool "
abbrev pub bool_word : List ℕ
bool_word = 32 ∷ 98 ∷ 111 ∷ 111 ∷ 108 ∷ 32 ∷ []

-- " i32 "
abbrev pub i32_word : List ℕ
i32_word = 32 ∷ 105 ∷ 51 ∷ 50 ∷ 32 ∷ []

-- " i64 "
abbrev pub i64_word : List ℕ
i64_word = 32 ∷ 105 ∷ 54 ∷ 52 ∷ 32 ∷ []

-- " f64 "
abbrev pub f64_word : List ℕ
f64_word = 32 ∷ 102 ∷ 54 ∷ 52 ∷ 32 ∷ []

-- " date "
abbrev pub date_word : List ℕ
date_word = 32 ∷ 100 ∷ 97 ∷ 116 ∷ 101 ∷ 32 ∷ []

-- a flag is 1 or 0
abbrev pub flag_text : Bool → List ℕ
flag_text true = 49 ∷ []
flag_text false = 48 ∷ []

-- an identity: b for Base, d for Derived, with the column number
abbrev pub id_text : ValueId → List ℕ
id_text (Base c) = 98 ∷ decimal_of c.0
id_text (Derived c) = 100 ∷ decimal_of c.0

unfoldable pub name_text : Identities → ℕ → List ℕ
name_text ids i = id_text (value_in ids i)

-- ---- the lines
-- `facts`, operator, flag
unfoldable pub header_line : ℕ → Bool → List ℕ
header_line h flag = facts_word ++ (decimal_of h ++ (32 ∷ [] ++ (flag_text flag ++ (10 ∷ []))))

-- `column`, column and identity, where it has one
unfoldable pub column_line : Identities → ℕ → ℕ → List ℕ
column_line ids c v = cond (eqb v 0) [] (column_word ++ (decimal_of c ++ (32 ∷ [] ++ (name_text ids (v - 1) ++ (10 ∷ [])))))

-- `define`, column and e-handle, where it has one
unfoldable pub define_line : ℕ → ℕ → List ℕ
define_line c d = cond (eqb d 0) [] (define_word ++ (decimal_of c ++ (32 ∷ 101 ∷ [] ++ (decimal_of (d - 1) ++ (10 ∷ [])))))

-- a member of a class, behind a space; root is the representative of identity i, and r that of the class
unfoldable pub member_text : Identities → ℕ → ℕ → ℕ → List ℕ
member_text ids root r i = cond (eqb root r) (32 ∷ [] ++ name_text ids i) []

-- `nonnull`, identity
unfoldable pub nonnull_line : Identities → ℕ → Bool → List ℕ
nonnull_line ids i b = cond b (nonnull_word ++ (name_text ids i ++ (10 ∷ []))) []

-- the kind of a literal
abbrev pub kind_word : Kind → List ℕ
kind_word K.Boolean = bool_word
kind_word K.Int32 = i32_word
kind_word K.Int64 = i64_word
kind_word K.Float64 = f64_word
kind_word K.Date32 = date_word

-- its value: 0 or 1 for bool, bits in hex for f64, else decimal. No NULL is ever recorded; one passed in is listed by its kind alone
abbrev pub payload_text : ScalarValue → List ℕ
payload_text (S.Null k) = []
payload_text (S.Boolean b) = flag_text b
payload_text (S.Int32 n) = signed_of n
payload_text (S.Int64 n) = signed_of n
payload_text (S.Float64 x) = last_digits 16 16 (to_bits binary64 x)
payload_text (S.Date32 n) = signed_of n

unfoldable pub value_text : ScalarValue → List ℕ
value_text v = kind_word (kind_of v) ++ payload_text v

-- `literal`, identity, kind and value
unfoldable pub literal_line : Identities → ℕ → Holder → List ℕ
literal_line ids i h = cond h.present (literal_word ++ (name_text ids i ++ (value_text h.value ++ (10 ∷ [])))) []

-- an end of a range: - for none, else its bits and i for inclusive, x for exclusive
abbrev pub form_text : Bool → List ℕ
form_text true = 105 ∷ []
form_text false = 120 ∷ []

unfoldable pub bound_text : Bound → List ℕ
bound_text b = cond b.present (last_digits 16 16 (to_bits binary64 b.value) ++ form_text b.inclusive) (45 ∷ [])

-- `range`, identity, lower then upper
unfoldable pub range_line : Identities → ℕ → Entry → List ℕ
range_line ids i e =
    cond e.present (range_word ++ (name_text ids i ++ (32 ∷ [] ++ (bound_text e.range.lower ++ (32 ∷ [] ++ (bound_text e.range.upper ++ (10 ∷ [])))))))
    []

-- `residual`, e-handle
unfoldable pub residual_line : ℕ → List ℕ
residual_line e = residual_word ++ (decimal_of e ++ (10 ∷ []))
