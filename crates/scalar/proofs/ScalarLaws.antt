-- Equality and order of scalars. Equality is symmetric, transitive, and reflexive but for the NaN; the same scalars have one kind, are NULL together,
-- compare alike with every scalar, and bound by the same number. Order is irreflexive and transitive, and total on one kind but for NULL and the NaN.
-- On exact values both are those of the values. Assumes nothing.
use Rattle.std.proofs.Common.{Some, None, Option}
use mathlib.Core.Path.{◌≡◌, refl, sym, ap, ap₂, ◌∙◌, subst}
use mathlib.Core.Bool.{Bool, true, false, not, cond, ◌&&◌, ◌||◌, beq, true≢false, false≢true}
use Prim.Native.Nat.{ℕ, zero, suc, ◌+◌, ◌-◌, ◌*◌, ◌/◌, ◌%◌, ◌^◌, compare}
use lib.Dec.{T, ltb, eqb→eq, eqb_refl}
use lib.Pow.{pow_pos}
use lib.IntN.{ℤ, pos, negsuc}
use lib.Signed.{lt_z}
use lib.Ieee.{Float, nan, inf, fin, binary64, Format, prec, emax, low, is_nan, lt, eq, fits, of_int, size, nearest, odd, units, round}
use lib.Ieee.Bits.{is_true}
use Rattle.scalar.specs.Exact.{eq_z, finite, exact_at, exact_in, whole_in}
use Rattle.scalar.specs.Kinds.{kind_code, kind_of_code, same_kind, kind_of, is_null}
use Rattle.scalar.specs.Scalars.{pairwise, same_scalar, less_scalar, small, scalar_to_f64, Typed, holds_nan, has_value, value_of}
use Rattle.scalar.specs.Coded.{case_code}
use Rattle.scalar.specs.declared.Kind.{Kind}
use Rattle.scalar.specs.declared.Kind.TheVariants as K
use Rattle.scalar.specs.declared.ScalarValue.{ScalarValue}
use Rattle.scalar.specs.declared.ScalarValue.TheVariants as S
use Rattle.scalar.proofs.WholeLaws.{eq_z→eq, eq_z-refl, lt→le, le_lt, irrefl, one_of}
use Rattle.scalar.proofs.ExactLaws.{lt-exact, eq-exact, lt_z_scale, eq_z_scale}
use Rattle.scalar.proofs.NumberLaws.{OfNumber, chosen}
use Rattle.scalar.proofs.FloatLaws.{yes, beq→eq, alike, eq_comm, eq_self, eq-left, lt-left, lt-right, lt-self, lt_trans, lt-total}

-- ---- cases
-- a test that passes has taken two scalars of one variant, and has passed on what they carry
module _ (P : ScalarValue → ScalarValue → Type 0) (fn : Kind → Kind → Bool) (fb : Bool → Bool → Bool) (fi fj : ℤ → ℤ → Bool) (ff : Float → Float →
    Bool)
    (fd : ℤ → ℤ → Bool)
    (pn : (x y : Kind) → fn x y ≡ true → P (S.Null x) (S.Null y)) (pb : (x y : Bool) → fb x y ≡ true → P (S.Boolean x) (S.Boolean y))
    (pi : (x y : ℤ) → fi x y ≡ true → P (S.Int32 x) (S.Int32 y)) (pj : (x y : ℤ) → fj x y ≡ true → P (S.Int64 x) (S.Int64 y))
    (pf : (x y : Float) → ff x y ≡ true → P (S.Float64 x) (S.Float64 y)) (pd : (x y : ℤ) → fd x y ≡ true → P (S.Date32 x) (S.Date32 y)) where
  pub pairs : (a b : ScalarValue) → pairwise false fn fb fi fj ff fd a b ≡ true → P a b
  pairs (S.Null x) (S.Null y) h = pn x y h
  pairs (S.Null x) (S.Boolean y) h = absurd (false≢true h)
  pairs (S.Null x) (S.Int32 y) h = absurd (false≢true h)
  pairs (S.Null x) (S.Int64 y) h = absurd (false≢true h)
  pairs (S.Null x) (S.Float64 y) h = absurd (false≢true h)
  pairs (S.Null x) (S.Date32 y) h = absurd (false≢true h)
  pairs (S.Boolean x) (S.Null y) h = absurd (false≢true h)
  pairs (S.Boolean x) (S.Boolean y) h = pb x y h
  pairs (S.Boolean x) (S.Int32 y) h = absurd (false≢true h)
  pairs (S.Boolean x) (S.Int64 y) h = absurd (false≢true h)
  pairs (S.Boolean x) (S.Float64 y) h = absurd (false≢true h)
  pairs (S.Boolean x) (S.Date32 y) h = absurd (false≢true h)
  pairs (S.Int32 x) (S.Null y) h = absurd (false≢true h)
  pairs (S.Int32 x) (S.Boolean y) h = absurd (false≢true h)
  pairs (S.Int32 x) (S.Int32 y) h = pi x y h
  pairs (S.Int32 x) (S.Int64 y) h = absurd (false≢true h)
  pairs (S.Int32 x) (S.Float64 y) h = absurd (false≢true h)
  pairs (S.Int32 x) (S.Date32 y) h = absurd (false≢true h)
  pairs (S.Int64 x) (S.Null y) h = absurd (false≢true h)
  pairs (S.Int64 x) (S.Boolean y) h = absurd (false≢true h)
  pairs (S.Int64 x) (S.Int32 y) h = absurd (false≢true h)
  pairs (S.Int64 x) (S.Int64 y) h = pj x y h
  pairs (S.Int64 x) (S.Float64 y) h = absurd (false≢true h)
  pairs (S.Int64 x) (S.Date32 y) h = absurd (false≢true h)
  pairs (S.Float64 x) (S.Null y) h = absurd (false≢true h)
  pairs (S.Float64 x) (S.Boolean y) h = absurd (false≢true h)
  pairs (S.Float64 x) (S.Int32 y) h = absurd (false≢true h)
  pairs (S.Float64 x) (S.Int64 y) h = absurd (false≢true h)
  pairs (S.Float64 x) (S.Float64 y) h = pf x y h
  pairs (S.Float64 x) (S.Date32 y) h = absurd (false≢true h)
  pairs (S.Date32 x) (S.Null y) h = absurd (false≢true h)
  pairs (S.Date32 x) (S.Boolean y) h = absurd (false≢true h)
  pairs (S.Date32 x) (S.Int32 y) h = absurd (false≢true h)
  pairs (S.Date32 x) (S.Int64 y) h = absurd (false≢true h)
  pairs (S.Date32 x) (S.Float64 y) h = absurd (false≢true h)
  pairs (S.Date32 x) (S.Date32 y) h = pd x y h

-- two scalars of one kind of which none is NULL are of one variant
module _ (P : ScalarValue → ScalarValue → Type 0)
    (pb : (x y : Bool) → P (S.Boolean x) (S.Boolean y)) (pi : (x y : ℤ) → P (S.Int32 x) (S.Int32 y)) (pj : (x y : ℤ) → P (S.Int64 x) (S.Int64 y))
    (pf : (x y : Float) → P (S.Float64 x) (S.Float64 y)) (pd : (x y : ℤ) → P (S.Date32 x) (S.Date32 y)) where
  pub one-kind : (a b : ScalarValue) → is_null a ≡ false → is_null b ≡ false → same_kind (kind_of a) (kind_of b) ≡ true → P a b
  one-kind (S.Null k) b na nb e = absurd (true≢false na)
  one-kind (S.Boolean x) (S.Null k) na nb e = absurd (true≢false nb)
  one-kind (S.Boolean x) (S.Boolean y) na nb e = pb x y
  one-kind (S.Boolean x) (S.Int32 y) na nb e = absurd (false≢true e)
  one-kind (S.Boolean x) (S.Int64 y) na nb e = absurd (false≢true e)
  one-kind (S.Boolean x) (S.Float64 y) na nb e = absurd (false≢true e)
  one-kind (S.Boolean x) (S.Date32 y) na nb e = absurd (false≢true e)
  one-kind (S.Int32 x) (S.Null k) na nb e = absurd (true≢false nb)
  one-kind (S.Int32 x) (S.Boolean y) na nb e = absurd (false≢true e)
  one-kind (S.Int32 x) (S.Int32 y) na nb e = pi x y
  one-kind (S.Int32 x) (S.Int64 y) na nb e = absurd (false≢true e)
  one-kind (S.Int32 x) (S.Float64 y) na nb e = absurd (false≢true e)
  one-kind (S.Int32 x) (S.Date32 y) na nb e = absurd (false≢true e)
  one-kind (S.Int64 x) (S.Null k) na nb e = absurd (true≢false nb)
  one-kind (S.Int64 x) (S.Boolean y) na nb e = absurd (false≢true e)
  one-kind (S.Int64 x) (S.Int32 y) na nb e = absurd (false≢true e)
  one-kind (S.Int64 x) (S.Int64 y) na nb e = pj x y
  one-kind (S.Int64 x) (S.Float64 y) na nb e = absurd (false≢true e)
  one-kind (S.Int64 x) (S.Date32 y) na nb e = absurd (false≢true e)
  one-kind (S.Float64 x) (S.Null k) na nb e = absurd (true≢false nb)
  one-kind (S.Float64 x) (S.Boolean y) na nb e = absurd (false≢true e)
  one-kind (S.Float64 x) (S.Int32 y) na nb e = absurd (false≢true e)
  one-kind (S.Float64 x) (S.Int64 y) na nb e = absurd (false≢true e)
  one-kind (S.Float64 x) (S.Float64 y) na nb e = pf x y
  one-kind (S.Float64 x) (S.Date32 y) na nb e = absurd (false≢true e)
  one-kind (S.Date32 x) (S.Null k) na nb e = absurd (true≢false nb)
  one-kind (S.Date32 x) (S.Boolean y) na nb e = absurd (false≢true e)
  one-kind (S.Date32 x) (S.Int32 y) na nb e = absurd (false≢true e)
  one-kind (S.Date32 x) (S.Int64 y) na nb e = absurd (false≢true e)
  one-kind (S.Date32 x) (S.Float64 y) na nb e = absurd (false≢true e)
  one-kind (S.Date32 x) (S.Date32 y) na nb e = pd x y

-- ---- kinds
pub kind-back : (k : Kind) → kind_of_code (kind_code k) ≡ k
kind-back K.Boolean = refl
kind-back K.Int32 = refl
kind-back K.Int64 = refl
kind-back K.Float64 = refl
kind-back K.Date32 = refl

pub kinds-same : (k l : Kind) → same_kind k l ≡ true → k ≡ l
kinds-same k l h = sym (kind-back k) ∙ ap kind_of_code (eqb→eq (kind_code k) (kind_code l) (yes h)) ∙ kind-back l

pub kind-self : (k : Kind) → same_kind k k ≡ true
kind-self k = is_true (same_kind k k) (eqb_refl (kind_code k))

-- ---- equality
-- the same scalars are one scalar, or floats that are `==`
module _ (P : ScalarValue → ScalarValue → Type 0) (self : (v : ScalarValue) → P v v) (float : (x y : Float) → eq x y ≡ true → P (S.Float64 x)
    (S.Float64 y))
  where
    pub same_cases : (a b : ScalarValue) → same_scalar a b ≡ true → P a b
    same_cases =
        pairs P same_kind beq eq_z eq_z eq eq_z
        (λ x y h. subst (λ (k : Kind). P (S.Null x) (S.Null k)) (kinds-same x y h) (self (S.Null x)))
        (λ x y h. subst (λ (b : Bool). P (S.Boolean x) (S.Boolean b)) (beq→eq x y h) (self (S.Boolean x)))
        (λ x y h. subst (λ (z : ℤ). P (S.Int32 x) (S.Int32 z)) (eq_z→eq x y (yes h)) (self (S.Int32 x)))
        (λ x y h. subst (λ (z : ℤ). P (S.Int64 x) (S.Int64 z)) (eq_z→eq x y (yes h)) (self (S.Int64 x)))
        float
        (λ x y h. subst (λ (z : ℤ). P (S.Date32 x) (S.Date32 z)) (eq_z→eq x y (yes h)) (self (S.Date32 x)))

-- a scalar is the same as itself, unless it is the NaN
pub same_self : (v : ScalarValue) → same_scalar v v ≡ not (holds_nan v)
same_self (S.Null k) = kind-self k
same_self (S.Boolean true) = refl
same_self (S.Boolean false) = refl
same_self (S.Int32 n) = is_true (eq_z n n) (eq_z-refl n)
same_self (S.Int64 n) = is_true (eq_z n n) (eq_z-refl n)
same_self (S.Float64 x) = eq_self x
same_self (S.Date32 n) = is_true (eq_z n n) (eq_z-refl n)

same-turned : (a b : ScalarValue) → same_scalar a b ≡ true → same_scalar a b ≡ same_scalar b a
same-turned = same_cases (λ (a b : ScalarValue). same_scalar a b ≡ same_scalar b a) (λ v. refl) (λ x y h. eq_comm x y)

pub same_comm : (a b : ScalarValue) → same_scalar a b ≡ same_scalar b a
same_comm a b = go (same_scalar a b) (same_scalar b a) (λ h. sym h ∙ same-turned a b h) (λ h. sym h ∙ same-turned b a h)
  where
    go : (p q : Bool) → (p ≡ true → true ≡ q) → (q ≡ true → true ≡ p) → p ≡ q
    go true q f g = f refl
    go false true f g = sym (g refl)
    go false false f g = refl

float_same : (x y : Float) → eq x y ≡ true → (c : ScalarValue) → same_scalar (S.Float64 x) c ≡ same_scalar (S.Float64 y) c
float_same x y h (S.Null z) = refl
float_same x y h (S.Boolean z) = refl
float_same x y h (S.Int32 z) = refl
float_same x y h (S.Int64 z) = refl
float_same x y h (S.Float64 z) = eq-left x y z h
float_same x y h (S.Date32 z) = refl

-- the same scalars are the same as every other scalar alike
pub same_left : (a b : ScalarValue) → same_scalar a b ≡ true → (c : ScalarValue) → same_scalar a c ≡ same_scalar b c
same_left = same_cases (λ (a b : ScalarValue). (c : ScalarValue) → same_scalar a c ≡ same_scalar b c) (λ v c. refl) float_same

pub same_trans : (a b c : ScalarValue) → same_scalar a b ≡ true → same_scalar b c ≡ true → same_scalar a c ≡ true
same_trans a b c h k = same_left a b h c ∙ k

-- the same scalars have one kind and one case, and are NULL together
pub same_kind_lem : (a b : ScalarValue) → same_scalar a b ≡ true → kind_code (kind_of a) ≡ kind_code (kind_of b)
same_kind_lem = same_cases (λ (a b : ScalarValue). kind_code (kind_of a) ≡ kind_code (kind_of b)) (λ v. refl) (λ x y h. refl)

pub same_case : (a b : ScalarValue) → same_scalar a b ≡ true → case_code a ≡ case_code b
same_case = same_cases (λ (a b : ScalarValue). case_code a ≡ case_code b) (λ v. refl) (λ x y h. refl)

pub same-null : (a b : ScalarValue) → same_scalar a b ≡ true → is_null a ≡ is_null b
same-null = same_cases (λ (a b : ScalarValue). is_null a ≡ is_null b) (λ v. refl) (λ x y h. refl)

-- ---- the numbers that they bound by
finite-alike : (x y : Float) → eq x y ≡ true → finite x ≡ finite y
finite-alike = alike finite (λ x y p q e. is_true (finite x) p ∙ sym (is_true (finite y) q))

finite_no_nan : (x : Float) → T (finite x) → is_nan x ≡ false
unfolding is_nan
finite_no_nan (fin s m e) t = refl
finite_no_nan nan t = elim t [ ]
finite_no_nan (inf _) t = elim t [ ]

odd_no_nan : (d : ℕ) (s : Bool) (q k l : ℕ) → is_nan (odd d s q k l) ≡ false
unfolding odd is_nan
odd_no_nan d s zero k l = refl
odd_no_nan d s (suc q) k l = refl

bounded_no_nan : (b : Bool) (x : Float) (s : Bool) → is_nan x ≡ false → is_nan (cond b x (inf s)) ≡ false
unfolding is_nan
bounded_no_nan true x s h = h
bounded_no_nan false x s h = refl

units_no_nan : (f : Format) (s : Bool) (q k : ℕ) → is_nan (units f s q k) ≡ false
unfolding units
units_no_nan f s q k = bounded_no_nan (ltb (q * 2 ^ k) (2 ^ (low f + suc (emax f)))) (odd (suc (prec f)) s q k (low f)) s
    (odd_no_nan (suc (prec f)) s q k (low f))

round_no_nan : (f : Format) (s : Bool) (num den : ℕ) → is_nan (round f s num den) ≡ false
unfolding round
round_no_nan f s num den =
    let n = num * 2 ^ low f in
    let k = size (n / den) - prec f in
    let u = den * 2 ^ k in
    units_no_nan f s (nearest (n / u) (compare (n % u * 2) u)) k

whole_no_nan : (n : ℤ) → is_nan (of_int binary64 n) ≡ false
unfolding of_int
whole_no_nan (pos n) = round_no_nan binary64 false n 1
whole_no_nan (negsuc n) = round_no_nan binary64 true (suc n) 1

no_nan : (v : ScalarValue) → OfNumber (λ (x : Float). is_nan x ≡ false) (scalar_to_f64 v)
no_nan (S.Null k) = tt
no_nan (S.Boolean b) = tt
no_nan (S.Int32 n) = whole_no_nan n
no_nan (S.Int64 n) = chosen (λ (x : Float). is_nan x ≡ false) (small n) (of_int binary64 n) (λ t. whole_no_nan n)
no_nan (S.Float64 x) = chosen (λ (y : Float). is_nan y ≡ false) (finite x) x (finite_no_nan x)
no_nan (S.Date32 n) = whole_no_nan n

-- no scalar bounds by the NaN
pub number_no_nan : (v : ScalarValue) (x : Float) → scalar_to_f64 v ≡ Some x → is_nan x ≡ false
number_no_nan v x e = subst (OfNumber (λ (y : Float). is_nan y ≡ false)) e (no_nan v)

-- numbers that are both none, or are `==`
abbrev pub same_number : Option Float → Option Float → Bool
same_number (Some x) (Some y) = eq x y
same_number (Some x) None = false
same_number None (Some y) = false
same_number None None = true

number-self : (r : Option Float) → OfNumber (λ (x : Float). is_nan x ≡ false) r → same_number r r ≡ true
number-self (Some x) h = eq_self x ∙ ap not h
number-self None h = refl

float-number : (x y : Float) → eq x y ≡ true → same_number (scalar_to_f64 (S.Float64 x)) (scalar_to_f64 (S.Float64 y)) ≡ true
float-number x y h = ap (λ (b : Bool). same_number (cond b (Some x) None) (cond (finite y) (Some y) None)) (finite-alike x y h) ∙ go (finite y)
  where
    go : (b : Bool) → same_number (cond b (Some x) None) (cond b (Some y) None) ≡ true
    go true = h
    go false = refl

-- the same scalars bound by the same number, or both by none
pub same_numbers : (a b : ScalarValue) → same_scalar a b ≡ true → same_number (scalar_to_f64 a) (scalar_to_f64 b) ≡ true
same_numbers = same_cases (λ (a b : ScalarValue). same_number (scalar_to_f64 a) (scalar_to_f64 b) ≡ true) (λ v. number-self (scalar_to_f64 v) (no_nan
    v)) float-number

pub same_number_lem : (a b : ScalarValue) (x y : Float) → same_scalar a b ≡ true → scalar_to_f64 a ≡ Some x → scalar_to_f64 b ≡ Some y → eq x y ≡ true
same_number_lem a b x y h e d = sym (ap₂ same_number e d) ∙ same_numbers a b h

pub same-nothing : (a b : ScalarValue) → same_scalar a b ≡ true → scalar_to_f64 a ≡ None → scalar_to_f64 b ≡ None
same-nothing a b h e = go (scalar_to_f64 b) (sym (ap (λ (r : Option Float). same_number r (scalar_to_f64 b)) e) ∙ same_numbers a b h)
  where
    go : (r : Option Float) → same_number None r ≡ true → r ≡ None
    go (Some y) k = absurd (false≢true k)
    go None k = refl

-- ---- order
float-less : (x y : Float) → eq x y ≡ true → (c : ScalarValue) → less_scalar (S.Float64 x) c ≡ less_scalar (S.Float64 y) c
float-less x y h (S.Null z) = refl
float-less x y h (S.Boolean z) = refl
float-less x y h (S.Int32 z) = refl
float-less x y h (S.Int64 z) = refl
float-less x y h (S.Float64 z) = lt-left x y z h
float-less x y h (S.Date32 z) = refl

float-more : (x y : Float) → eq x y ≡ true → (c : ScalarValue) → less_scalar c (S.Float64 x) ≡ less_scalar c (S.Float64 y)
float-more x y h (S.Null z) = refl
float-more x y h (S.Boolean z) = refl
float-more x y h (S.Int32 z) = refl
float-more x y h (S.Int64 z) = refl
float-more x y h (S.Float64 z) = lt-right x y z h
float-more x y h (S.Date32 z) = refl

-- the same scalars are below, and above, every other scalar alike
pub less-left : (a b : ScalarValue) → same_scalar a b ≡ true → (c : ScalarValue) → less_scalar a c ≡ less_scalar b c
less-left = same_cases (λ (a b : ScalarValue). (c : ScalarValue) → less_scalar a c ≡ less_scalar b c) (λ v c. refl) float-less

pub less-right : (a b : ScalarValue) → same_scalar a b ≡ true → (c : ScalarValue) → less_scalar c a ≡ less_scalar c b
less-right = same_cases (λ (a b : ScalarValue). (c : ScalarValue) → less_scalar c a ≡ less_scalar c b) (λ v c. refl) float-more

whole-irrefl : (n : ℤ) → lt_z n n ≡ false
whole-irrefl n = go (lt_z n n) (irrefl n)
  where
    go : (b : Bool) → (T b → ⊥) → b ≡ false
    go true f = absurd (f tt)
    go false f = refl

pub less-self : (v : ScalarValue) → less_scalar v v ≡ false
less-self (S.Null k) = refl
less-self (S.Boolean true) = refl
less-self (S.Boolean false) = refl
less-self (S.Int32 n) = whole-irrefl n
less-self (S.Int64 n) = whole-irrefl n
less-self (S.Float64 x) = lt-self x
less-self (S.Date32 n) = whole-irrefl n

-- what is below is not the same
pub less-apart : (a b : ScalarValue) → less_scalar a b ≡ true → same_scalar a b ≡ false
less-apart a b h = go (same_scalar a b) refl
  where
    go : (p : Bool) → same_scalar a b ≡ p → p ≡ false
    go true e = absurd (false≢true (sym (less-self b) ∙ sym (less-left a b e b) ∙ h))
    go false e = refl

whole_trans : (x y z : ℤ) → lt_z x y ≡ true → lt_z y z ≡ true → lt_z x z ≡ true
whole_trans x y z h k = is_true (lt_z x z) (le_lt x y z (lt→le x y (yes h)) (yes k))

bool_trans : (x y z : Bool) → (not x && y) ≡ true → (not y && z) ≡ true → (not x && z) ≡ true
bool_trans true y z h k = h
bool_trans false true z h k = absurd (false≢true k)
bool_trans false false z h k = k

int32_after : (x y : ℤ) → lt_z x y ≡ true → (c : ScalarValue) → less_scalar (S.Int32 y) c ≡ true → less_scalar (S.Int32 x) c ≡ true
int32_after x y h (S.Null z) k = absurd (false≢true k)
int32_after x y h (S.Boolean z) k = absurd (false≢true k)
int32_after x y h (S.Int32 z) k = whole_trans x y z h k
int32_after x y h (S.Int64 z) k = absurd (false≢true k)
int32_after x y h (S.Float64 z) k = absurd (false≢true k)
int32_after x y h (S.Date32 z) k = absurd (false≢true k)

int64_after : (x y : ℤ) → lt_z x y ≡ true → (c : ScalarValue) → less_scalar (S.Int64 y) c ≡ true → less_scalar (S.Int64 x) c ≡ true
int64_after x y h (S.Null z) k = absurd (false≢true k)
int64_after x y h (S.Boolean z) k = absurd (false≢true k)
int64_after x y h (S.Int32 z) k = absurd (false≢true k)
int64_after x y h (S.Int64 z) k = whole_trans x y z h k
int64_after x y h (S.Float64 z) k = absurd (false≢true k)
int64_after x y h (S.Date32 z) k = absurd (false≢true k)

date32_after : (x y : ℤ) → lt_z x y ≡ true → (c : ScalarValue) → less_scalar (S.Date32 y) c ≡ true → less_scalar (S.Date32 x) c ≡ true
date32_after x y h (S.Null z) k = absurd (false≢true k)
date32_after x y h (S.Boolean z) k = absurd (false≢true k)
date32_after x y h (S.Int32 z) k = absurd (false≢true k)
date32_after x y h (S.Int64 z) k = absurd (false≢true k)
date32_after x y h (S.Float64 z) k = absurd (false≢true k)
date32_after x y h (S.Date32 z) k = whole_trans x y z h k

float64_after : (x y : Float) → lt x y ≡ true → (c : ScalarValue) → less_scalar (S.Float64 y) c ≡ true → less_scalar (S.Float64 x) c ≡ true
float64_after x y h (S.Null z) k = absurd (false≢true k)
float64_after x y h (S.Boolean z) k = absurd (false≢true k)
float64_after x y h (S.Int32 z) k = absurd (false≢true k)
float64_after x y h (S.Int64 z) k = absurd (false≢true k)
float64_after x y h (S.Float64 z) k = lt_trans x y z h k
float64_after x y h (S.Date32 z) k = absurd (false≢true k)

boolean_after : (x y : Bool) → (not x && y) ≡ true → (c : ScalarValue) → less_scalar (S.Boolean y) c ≡ true → less_scalar (S.Boolean x) c ≡ true
boolean_after x y h (S.Null z) k = absurd (false≢true k)
boolean_after x y h (S.Boolean z) k = bool_trans x y z h k
boolean_after x y h (S.Int32 z) k = absurd (false≢true k)
boolean_after x y h (S.Int64 z) k = absurd (false≢true k)
boolean_after x y h (S.Float64 z) k = absurd (false≢true k)
boolean_after x y h (S.Date32 z) k = absurd (false≢true k)

pub less_trans : (a b c : ScalarValue) → less_scalar a b ≡ true → less_scalar b c ≡ true → less_scalar a c ≡ true
less_trans a b c h k =
    pairs (λ (a b : ScalarValue). (c : ScalarValue) → less_scalar b c ≡ true → less_scalar a c ≡ true)
    (λ (x y : Kind). false) (λ (x y : Bool). not x && y) lt_z lt_z lt lt_z
    (λ x y e. absurd (false≢true e)) boolean_after int32_after int64_after float64_after date32_after a b h c k

-- what is below has the other's kind, and neither is NULL
pub less-kind : (a b : ScalarValue) → less_scalar a b ≡ true → kind_code (kind_of a) ≡ kind_code (kind_of b)
less-kind =
    pairs (λ (a b : ScalarValue). kind_code (kind_of a) ≡ kind_code (kind_of b)) (λ (x y : Kind). false) (λ (x y : Bool). not x && y) lt_z lt_z lt
    lt_z
    (λ x y e. absurd (false≢true e)) (λ x y e. refl) (λ x y e. refl) (λ x y e. refl) (λ x y e. refl) (λ x y e. refl)

bool_total : (x y : Bool) → ((not x && y) || (beq x y || (not y && x))) ≡ true
bool_total true true = refl
bool_total true false = refl
bool_total false true = refl
bool_total false false = refl

-- of two scalars of one kind, neither NULL nor the NaN, one is below the other, or they are the same
pub less-total : (a b : ScalarValue) → is_null a ≡ false → is_null b ≡ false → same_kind (kind_of a) (kind_of b) ≡ true
    → holds_nan a ≡ false → holds_nan b ≡ false → (less_scalar a b || (same_scalar a b || less_scalar b a)) ≡ true
less-total =
    one-kind (λ (a b : ScalarValue). holds_nan a ≡ false → holds_nan b ≡ false → (less_scalar a b || (same_scalar a b || less_scalar b a)) ≡ true)
    (λ x y h k. bool_total x y) (λ x y h k. one_of x y) (λ x y h k. one_of x y) lt-total (λ x y h k. one_of x y)

-- ---- exact values
-- two scalars of one kind that have exact values are the same where those are, and below where those are
abbrev Exactly : (ScalarValue → ScalarValue → Bool) → (ℤ → ℤ → Bool) → ScalarValue → ScalarValue → Type 0
Exactly R Z a b = has_value a ≡ true → has_value b ≡ true → Typed a → Typed b → R a b ≡ Z (value_of a) (value_of b)

whole-lt : (x y : ℤ) → lt_z x y ≡ lt_z (whole_in binary64 x) (whole_in binary64 y)
whole-lt x y = sym (lt_z_scale x y (2 ^ low binary64) (pow_pos (low binary64)))

whole-eq : (x y : ℤ) → eq_z x y ≡ eq_z (whole_in binary64 x) (whole_in binary64 y)
whole-eq x y = sym (eq_z_scale x y (2 ^ low binary64) (pow_pos (low binary64)))

pub less-exact : (a b : ScalarValue) → is_null a ≡ false → is_null b ≡ false → same_kind (kind_of a) (kind_of b) ≡ true
    → has_value a ≡ true → has_value b ≡ true → Typed a → Typed b → less_scalar a b ≡ lt_z (value_of a) (value_of b)
less-exact =
    one-kind (Exactly less_scalar lt_z) (λ x y h. absurd (false≢true h)) (λ x y h k p q. whole-lt x y) (λ x y h k p q. whole-lt x y)
    (λ x y h k p q. lt-exact binary64 x y (yes h) (yes k) p q) (λ x y h k p q. whole-lt x y)

pub same-exact : (a b : ScalarValue) → is_null a ≡ false → is_null b ≡ false → same_kind (kind_of a) (kind_of b) ≡ true
    → has_value a ≡ true → has_value b ≡ true → Typed a → Typed b → same_scalar a b ≡ eq_z (value_of a) (value_of b)
same-exact =
    one-kind (Exactly same_scalar eq_z) (λ x y h. absurd (false≢true h)) (λ x y h k p q. whole-eq x y) (λ x y h k p q. whole-eq x y)
    (λ x y h k p q. eq-exact binary64 x y (yes h) (yes k) p q) (λ x y h k p q. whole-eq x y)

-- the same scalars have one exact value
float_value : (x y : Float) → eq x y ≡ true → T (fits binary64 x) → T (fits binary64 y) → exact_in binary64 x ≡ exact_in binary64 y
unfolding eq exact_at
float_value nan y h p q = absurd (false≢true h)
float_value (inf s) nan h p q = absurd (false≢true h)
float_value (inf s) (inf t) h p q = refl
float_value (inf s) (fin t n d) h p q = absurd (false≢true h)
float_value (fin s m e) nan h p q = absurd (false≢true h)
float_value (fin s m e) (inf t) h p q = absurd (false≢true h)
float_value (fin s m e) (fin t n d) h p q =
    let x = fin s m e in
    let y = fin t n d in
    eq_z→eq (exact_in binary64 x) (exact_in binary64 y) (yes (sym (eq-exact binary64 x y tt tt p q) ∙ h))

pub same-value : (a b : ScalarValue) → same_scalar a b ≡ true → Typed a → Typed b → value_of a ≡ value_of b
same-value = same_cases (λ (a b : ScalarValue). Typed a → Typed b → value_of a ≡ value_of b) (λ v p q. refl) float_value
