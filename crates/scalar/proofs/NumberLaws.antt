-- The number that a scalar gives is finite, fits an f64, and is the scalar's own exact value: the conversion loses nothing. So numbers of scalars compare
-- as the scalars' values do, and those of whole numbers as the whole numbers do. Assumes nothing.
use Rattle.std.proofs.Common.{Some, None, Option}
use mathlib.Core.Path.{◌≡◌, refl, ◌∙◌, ap₂, subst}
use mathlib.Core.Bool.{Bool, true, false, cond, false≢true}
use Prim.Native.Nat.{◌^◌}
use lib.Dec.{T}
use lib.Pow.{pow_pos}
use lib.IntN.{ℤ, pos, negsuc}
use lib.Signed.{lt_z}
use lib.Ieee.{Float, binary64, low, lt, eq, of_int, in_float, fits}
use lib.Ieee.Fits.{of_int-fits}
use lib.Ieee.Bits.{is_true}
use Rattle.scalar.specs.Exact.{eq_z, finite, exact_in, whole_in}
use Rattle.scalar.specs.Scalars.{small, scalar_to_f64, Typed, has_value, value_of, is_whole, whole_of}
use Rattle.scalar.specs.declared.ScalarValue.{ScalarValue}
use Rattle.scalar.specs.declared.ScalarValue.TheVariants as S
use Rattle.scalar.proofs.ExactLaws.{lt-exact, eq-exact, exact_of_int, of_int_finite, i32_in_float, lt_z_scale, eq_z_scale}

-- the small whole numbers are those that an f64 holds
pub small_in_float : (n : ℤ) → small n ≡ in_float binary64 n
unfolding in_float
small_in_float (pos n) = refl
small_in_float (negsuc n) = refl

pub record Converts (v : ScalarValue) (x : Float) : Type 0 where
  pub number : T (finite x)
  pub held : T (fits binary64 x)
  pub same : exact_in binary64 x ≡ value_of v

whole : (z : ℤ) → T (in_float binary64 z) → record {
  number : T (finite (of_int binary64 z));
  held : T (fits binary64 (of_int binary64 z));
  same : exact_in
      binary64 (of_int binary64 z) ≡ whole_in binary64 z;
}
whole z t = record { number = of_int_finite binary64 z t; held = of_int-fits binary64 z; same = exact_of_int binary64 z t }

-- P of the number, where there is one
abbrev pub OfNumber : (Float → Type 0) → Option Float → Type 0
OfNumber P (Some x) = P x
OfNumber P None = Unit {0}

pub chosen : (P : Float → Type 0) (b : Bool) (x : Float) → (T b → P x) → OfNumber P (cond b (Some x) None)
chosen P true x f = f tt
chosen P false x f = tt

all : (v : ScalarValue) → Typed v → OfNumber (Converts v) (scalar_to_f64 v)
all (S.Null k) h = tt
all (S.Boolean b) h = tt
all (S.Int32 n) h = let w = whole n (i32_in_float n h) in record { number = w.number; held = w.held; same = w.same }
all (S.Int64 n) h = chosen (Converts (S.Int64 n)) (small n) (of_int binary64 n)
    (λ t. let w = whole n (subst T (small_in_float n) t) in record { number = w.number; held = w.held; same = w.same })
all (S.Float64 x) h = chosen (Converts (S.Float64 x)) (finite x) x (λ t. record { number = t; held = h; same = refl })
all (S.Date32 n) h = let w = whole n (i32_in_float n h) in record { number = w.number; held = w.held; same = w.same }

pub converts : (v : ScalarValue) (x : Float) → Typed v → scalar_to_f64 v ≡ Some x → Converts v x
converts v x h e = subst (OfNumber (Converts v)) e (all v h)

-- a scalar that gives a number has an exact value
pub number-value : (v : ScalarValue) (x : Float) → scalar_to_f64 v ≡ Some x → has_value v ≡ true
number-value v x e = subst (OfNumber (λ (y : Float). has_value v ≡ true)) e (go v)
  where
    go : (v : ScalarValue) → OfNumber (λ (y : Float). has_value v ≡ true) (scalar_to_f64 v)
    go (S.Null k) = tt
    go (S.Boolean b) = tt
    go (S.Int32 n) = refl
    go (S.Int64 n) = chosen (λ (y : Float). true ≡ true) (small n) (of_int binary64 n) (λ t. refl)
    go (S.Float64 x) = chosen (λ (y : Float). finite x ≡ true) (finite x) x (λ t. is_true (finite x) t)
    go (S.Date32 n) = refl

-- the numbers of two scalars compare as the scalars' exact values do
module _ (v w : ScalarValue) (x y : Float) (hv : Typed v) (hw : Typed w) (ev : scalar_to_f64 v ≡ Some x) (ew : scalar_to_f64 w ≡ Some y) where
  pub number_lt : lt x y ≡ lt_z (value_of v) (value_of w)
  number_lt =
      let a = converts v x hv ev in
      let b = converts w y hw ew in
      lt-exact binary64 x y a.number b.number a.held b.held ∙ ap₂ lt_z a.same b.same

  pub number-eq : eq x y ≡ eq_z (value_of v) (value_of w)
  number-eq =
      let a = converts v x hv ev in
      let b = converts w y hw ew in
      eq-exact binary64 x y a.number b.number a.held b.held ∙ ap₂ eq_z a.same b.same

-- whole numbers of any of the three kinds keep their order and equality when they are converted
whole-value : (v : ScalarValue) → is_whole v ≡ true → value_of v ≡ whole_in binary64 (whole_of v)
whole-value (S.Null k) h = absurd (false≢true h)
whole-value (S.Boolean b) h = absurd (false≢true h)
whole-value (S.Int32 n) h = refl
whole-value (S.Int64 n) h = refl
whole-value (S.Float64 x) h = absurd (false≢true h)
whole-value (S.Date32 n) h = refl

module _ (v w : ScalarValue) (x y : Float) (hv : Typed v) (hw : Typed w) (ev : scalar_to_f64 v ≡ Some x) (ew : scalar_to_f64 w ≡ Some y)
    (wv : is_whole v ≡ true)
    (ww : is_whole w ≡ true) where
  pub wholes_lt : lt x y ≡ lt_z (whole_of v) (whole_of w)
  wholes_lt =
      number_lt v w x y hv hw ev ew ∙ ap₂ lt_z (whole-value v wv) (whole-value w ww)
      ∙ lt_z_scale (whole_of v) (whole_of w) (2 ^ low binary64) (pow_pos (low binary64))

  pub wholes_eq : eq x y ≡ eq_z (whole_of v) (whole_of w)
  wholes_eq =
      number-eq v w x y hv hw ev ew ∙ ap₂ eq_z (whole-value v wv) (whole-value w ww)
      ∙ eq_z_scale (whole_of v) (whole_of w) (2 ^ low binary64) (pow_pos (low binary64))
