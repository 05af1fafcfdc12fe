-- How long a line can be. Assumes nothing.
use Prim.Native.Nat.{ℕ, zero, suc, ◌+◌, ◌-◌, ◌*◌, ◌/◌, ◌%◌, ◌^◌, ◌≤◌, ◌<◌, min}
use mathlib.Core.Bool.{Bool, true, false, cond}
use mathlib.Core.List.{List, [], ◌∷◌, ◌++◌}
use mathlib.Core.Path.{◌≡◌, refl, ap, ◌∙◌}
use native.Mathlib.Decide.{dec_lt}
use native.Mathlib.Omega.{arith}
use borrow.Author.Tests.{lt-ltb, le-ltb}
use lib.Dec.{eqb}
use lib.IntN.{ℤ, pos, negsuc}
use lib.Ieee.{Float, binary64, to_bits}
use lib.ListN.{get_or, length, length-append}
use mir.Syntax.{w32, w64}
use mir.Val.{SFits}
use Rattle.io.specs.Digits.{last_digits}
use Rattle.scalar.specs.Scalars.{Typed}
use Rattle.scalar.specs.declared.Kind.{Kind}
use Rattle.scalar.specs.declared.Kind.TheVariants as K
use Rattle.scalar.specs.declared.ScalarValue.{ScalarValue}
use Rattle.scalar.specs.declared.ScalarValue.TheVariants as S
use Rattle.value_range.specs.declared.Bound.{Bound}
use Rattle.constraint_spec.specs.declared.Holder.{Holder}
use Rattle.constraint_spec.specs.declared.Entry.{Entry}
use Rattle.plan_identities.specs.Places.{first_from}
use Rattle.plan_identities.specs.Identities.{value_by}
use Rattle.plan_identities.specs.declared.Identities.{Identities}
use Rattle.writing.specs.Text.{decimal_of, signed_of}
use Rattle.writing.proofs.Wrotes.{decimal_low, decimal_high}
use Rattle.listing_lines.specs.Lines.{name_text, header_line, column_line, define_line, member_text, nonnull_line, kind_word}
use Rattle.listing_lines.specs.Lines.{value_text, literal_line, form_text, bound_text, range_line, residual_line}

-- a number below 10 to the k, k not 0, has at most k digits
pub decimal_length : (k n : ℕ) → n < 10 ^ suc k → length (decimal_of n) ≤ suc k
decimal_length zero n l = rw (decimal_low n l) (omega arith)
decimal_length (suc k) n l =
    elim (dec_lt n 10) [
      | yes g ↦ rw (decimal_low n g) (omega arith)
      | no g ↦ (let h : 10 ≤ n = omega arith in
          let m : length (decimal_of (n / 10)) ≤ suc k = decimal_length k (n / 10) (omega arith) in
          rw (decimal_high n h, length-append (decimal_of (n / 10)) ((48 + n % 10) ∷ [])) (omega arith))
    ]

digits_length : (k n : ℕ) → length (last_digits 16 k n) ≡ k
digits_length zero n = refl
digits_length (suc k) n = length-append (last_digits 16 k (n / 16)) _ ∙ ap (λ (m : ℕ). m + 1) (digits_length k (n / 16)) ∙ omega arith

-- ---- names
first_small : (f : ℕ → Bool) (m n i : ℕ) → 0 < m → i + n ≤ m → first_from f (λ (c : ℕ). c) 0 i n < m
unfolding first_from
first_small f m zero i z l = z
first_small f m (suc n) i z l = go (f i) (omega arith) (first_small f m n (suc i) z (omega arith))
  where
    go : (b : Bool) {x : ℕ} → i < m → x < m → cond b i x < m
    go true h k = h
    go false h k = k

-- the name of an identity below 128 has at most three bytes, of any other number of eight bits at most four
pub name-length : (ids : Identities) (k i : ℕ) → i < 64 + 10 ^ suc (suc k) → length (name_text ids i) ≤ suc (suc (suc k))
unfolding name_text value_by
name-length ids k i l =
    elim (dec_lt i 64) [
      | yes g ↦ rw (lt-ltb i 64 g) (base (first_from (λ (c : ℕ). eqb (get_or ids.base c 0) i) (λ (c : ℕ). c) 0 0 (min ids.columns 64))
          (first_small _ 64 (min ids.columns 64) 0 (omega arith) (omega arith)))
      | no g ↦ (let h : 64 ≤ i = omega arith in rw (le-ltb i 64 h) (omega (arith, decimal_length (suc k) (i - 64) (omega arith))))
    ]
  where
    base : (c : ℕ) → c < 64 → suc (length (decimal_of c)) ≤ suc (suc (suc k))
    base c h = omega (arith, decimal_length 1 c (omega arith))

-- ---- values
-- 19 digits and a sign hold every number of 64 bits
signed-length : (n : ℤ) → SFits w64 n → length (signed_of n) ≤ 20
signed-length (pos n) f = omega (arith, decimal_length 18 n (omega (arith, f.sfits)))
signed-length (negsuc n) f = omega (arith, decimal_length 18 (n + 1) (omega (arith, f.sfits)))

-- 10 digits and a sign every number of 32 bits
signed-length_32 : (n : ℤ) → SFits w32 n → length (signed_of n) ≤ 11
signed-length_32 (pos n) f = omega (arith, decimal_length 9 n (omega (arith, f.sfits)))
signed-length_32 (negsuc n) f = omega (arith, decimal_length 9 (n + 1) (omega (arith, f.sfits)))

bits-length : (x : Float) → length (last_digits 16 16 (to_bits binary64 x)) ≡ 16
bits-length x = digits_length 16 (to_bits binary64 x)

kind-length : (k : Kind) → length (kind_word k) ≤ 6
kind-length K.Boolean = omega arith
kind-length K.Int32 = omega arith
kind-length K.Int64 = omega arith
kind-length K.Float64 = omega arith
kind-length K.Date32 = omega arith

value-length : (v : ScalarValue) → Typed v → length (value_text v) ≤ 25
unfolding value_text
value-length (S.Null k) t = omega (arith, length-append (kind_word k) [], kind-length k)
value-length (S.Boolean true) t = omega arith
value-length (S.Boolean false) t = omega arith
value-length (S.Int32 n) t = omega (arith, signed-length_32 n t)
value-length (S.Int64 n) t = omega (arith, signed-length n t)
value-length (S.Float64 x) t = omega (arith, bits-length x)
value-length (S.Date32 n) t = omega (arith, signed-length_32 n t)

bound-length : (b : Bound) → length (bound_text b) ≤ 17
unfolding bound_text
bound-length b = go b.present b.inclusive
  where
    go : (p i : Bool) → length (cond p (last_digits 16 16 (to_bits binary64 b.value) ++ form_text i) (45 ∷ [])) ≤ 17
    go true true = omega (arith, length-append (last_digits 16 16 (to_bits binary64 b.value)) (105 ∷ []), bits-length b.value)
    go true false = omega (arith, length-append (last_digits 16 16 (to_bits binary64 b.value)) (120 ∷ []), bits-length b.value)
    go false i = omega arith

-- ---- lines
-- what stands in a list or not
length-cond_then : (b : Bool) (x : List ℕ) (n : ℕ) → length x ≤ n → length (cond b x []) ≤ n
length-cond_then true x n l = l
length-cond_then false x n l = omega arith

length-cond_else : (b : Bool) (x : List ℕ) (n : ℕ) → length x ≤ n → length (cond b [] x) ≤ n
length-cond_else true x n l = omega arith
length-cond_else false x n l = l

-- of an operator whose number has d + 1 digits
pub header_length : (d h : ℕ) (b : Bool) → h < 10 ^ suc d → length (header_line h b) ≤ 10 + d
unfolding header_line
header_length d h b l = go b
  where
    go : (b : Bool) → length (header_line h b) ≤ 10 + d
    go true = omega (arith, length-append (decimal_of h) (32 ∷ 49 ∷ 10 ∷ []), decimal_length d h l)
    go false = omega (arith, length-append (decimal_of h) (32 ∷ 48 ∷ 10 ∷ []), decimal_length d h l)

pub column-length : (ids : Identities) (k c v : ℕ) → c < 64 → v < 65 + 10 ^ suc (suc k) → length (column_line ids c v) ≤ 14 + k
unfolding column_line
column-length ids k c v lc lv =
    length-cond_else (eqb v 0) _ (14 + k)
    (omega (
      arith,
      length-append (decimal_of c) (32 ∷ [] ++ (name_text ids (v - 1) ++ (10 ∷ []))),
      length-append (name_text ids (v - 1)) (10 ∷ []),
      decimal_length 1 c (omega arith),
      name-length ids k (v - 1) (omega arith),
    ))

pub define_length : (e c d : ℕ) → c < 64 → d < 10 ^ suc e → length (define_line c d) ≤ 13 + e
unfolding define_line
define_length e c d lc ld =
    length-cond_else (eqb d 0) _ (13 + e)
    (omega (
      arith,
      length-append (decimal_of c) (32 ∷ 101 ∷ [] ++ (decimal_of (d - 1) ++ (10 ∷ []))),
      length-append (decimal_of (d - 1)) (10 ∷ []),
      decimal_length 1 c (omega arith),
      decimal_length e (d - 1) (omega arith),
    ))

name_3 : (ids : Identities) (i : ℕ) → i < 128 → length (name_text ids i) ≤ 3
name_3 ids i l = name-length ids 0 i (omega arith)

pub member-length : (ids : Identities) (root r i : ℕ) → i < 128 → length (member_text ids root r i) ≤ 4 * cond (eqb root r) 1 0
unfolding member_text
member-length ids root r i l = go (eqb root r)
  where
    go : (b : Bool) → length (cond b (32 ∷ [] ++ name_text ids i) []) ≤ 4 * cond b 1 0
    go true = omega (arith, name_3 ids i l)
    go false = omega arith

pub nonnull_length : (ids : Identities) (i : ℕ) (b : Bool) → i < 128 → length (nonnull_line ids i b) ≤ 12
unfolding nonnull_line
nonnull_length ids i b l = length-cond_then b _ 12 (omega (arith, length-append (name_text ids i) (10 ∷ []), name_3 ids i l))

pub literal-length : (ids : Identities) (i : ℕ) (h : Holder) → i < 128 → Typed h.value → length (literal_line ids i h) ≤ 37
unfolding literal_line
literal-length ids i h l t =
    length-cond_then h.present _ 37
    (omega (
      arith,
      length-append (name_text ids i) (value_text h.value ++ (10 ∷ [])),
      length-append (value_text h.value) (10 ∷ []),
      name_3 ids i l,
      value-length h.value t,
    ))

pub range_length : (ids : Identities) (i : ℕ) (e : Entry) → i < 128 → length (range_line ids i e) ≤ 46
unfolding range_line
range_length ids i e l =
    length-cond_then e.present _ 46
    (omega (
      arith,
      length-append (name_text ids i) (32 ∷ [] ++ (bound_text e.range.lower ++ (32 ∷ [] ++ (bound_text e.range.upper ++ (10 ∷ []))))),
      length-append (bound_text e.range.lower) (32 ∷ [] ++ (bound_text e.range.upper ++ (10 ∷ []))),
      length-append (bound_text e.range.upper) (10 ∷ []),
      name_3 ids i l,
      bound-length e.range.lower,
      bound-length e.range.upper,
    ))

pub residual-length : (d e : ℕ) → e < 10 ^ suc d → length (residual_line e) ≤ 12 + d
unfolding residual_line
residual-length d e l = omega (arith, length-append (decimal_of e) (10 ∷ []), decimal_length d e l)
