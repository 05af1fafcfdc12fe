-- A bound says of a value of the literal's kind what the comparison does, and a value that is no NaN is the same as itself. Assumes nothing.
use Rattle.std.proofs.Common.{Some}
use mathlib.Core.Path.{◌≡◌, refl, sym, ap₂, ◌∙◌, subst}
use mathlib.Core.Bool.{Bool, true, false, not, ◌||◌, and-true}
use Prim.Native.Nat.{ℕ, ◌≤◌, ◌^◌}
use native.Mathlib.Decide.{dec_lt}
use native.Mathlib.Omega.{arith}
use lib.Dec.{T, ltb, eqb, leb→le, le→leb, lt→ltb, eqb→eq, eqb_refl}
use lib.Pow.{pow_pos}
use lib.IntN.{ℤ, pos, negsuc}
use lib.Signed.{lt_z, le_z}
use lib.Ieee.{Float, nan, inf, fin, binary64, low, lt, fits}
use lib.Ieee.Fits.{eq→eqb}
use Rattle.laws.proofs.Bools.{T_or_elim, T_or_inl, T_or_inr}
use Rattle.scalar.specs.Exact.{eq_z, exact_in, whole_in}
use Rattle.scalar.specs.Kinds.{kind_code, kind_of, is_null, same_kind}
use Rattle.scalar.specs.Scalars.{pairwise, scalar_to_f64, same_scalar, less_scalar, Typed, value_of}
use Rattle.scalar.specs.declared.Kind.{Kind}
use Rattle.scalar.specs.declared.ScalarValue.{ScalarValue}
use Rattle.scalar.specs.declared.ScalarValue.TheVariants as S
use Rattle.scalar.proofs.ExactLaws.{lt-exact, lt_z_scale, eq_z_scale}
use Rattle.scalar.proofs.NumberLaws.{converts}
use Rattle.scalar.proofs.WholeLaws.{iff, eq_z→eq, eq→eq_z, lt→le}
use Rattle.comparison.specs.declared.BinaryOp.TheVariants.{Lt, LtEq, Gt, GtEq}
use Rattle.constraint_spec.specs.Values.{Place, nowhere, lowest, highest, point, place_of_float, place_of, same_place, below_p, above_p, ok_range, is_na_n}
use Rattle.constraint_spec.specs.Sets.{bounds_by}
use Rattle.constraint_spec.proofs.Pairs.{by-pairs}
use Rattle.constraint_spec.proofs.ValueLaws.{eq-place}
use Rattle.constraint_spec.proofs.Places.{no_number}

-- ---- at most is below or at
le_cases : (a b : ℤ) → le_z a b ≡ (lt_z a b || eq_z a b)
le_cases a b = iff (le_z a b) (lt_z a b || eq_z a b) (to a b) (from a b)
  where
    from : (a b : ℤ) → T (lt_z a b || eq_z a b) → T (le_z a b)
    from a b t = T_or_elim (lt_z a b) (eq_z a b) t (lt→le a b) (λ e. subst (λ (z : ℤ). T (le_z a z)) (eq_z→eq a b e) (self a))
      where
        self : (a : ℤ) → T (le_z a a)
        self (pos n) = le→leb n n (omega arith)
        self (negsuc n) = le→leb n n (omega arith)

    nat : (m n : ℕ) → m ≤ n → T (ltb m n || eqb m n)
    nat m n h = elim (dec_lt m n) [
      | yes l ↦ T_or_inl (ltb m n) (eqb m n) (lt→ltb m n l)
      | no l ↦ T_or_inr (ltb m n) (eqb m n)
          (eq→eqb {a = m} {b = n} (omega arith))
    ]

    to : (a b : ℤ) → T (le_z a b) → T (lt_z a b || eq_z a b)
    to (pos a) (pos b) t = nat a b (leb→le a b t)
    to (pos a) (negsuc b) t = absurd t
    to (negsuc a) (pos b) t = tt
    to (negsuc a) (negsuc b) t =
        T_or_elim (ltb b a) (eqb b a) (nat b a (leb→le b a t)) (T_or_inl (ltb b a) (eqb a b)) (λ e. T_or_inr (ltb b a) (eqb a b) (eq→eqb (sym (eqb→eq
        b a e))))

below-cases : (p : Place) (z : ℤ) → below_p true p z ≡ (below_p false p z || same_place p (point z))
below-cases nowhere z = refl
below-cases lowest z = refl
below-cases highest z = refl
below-cases (point x) z = le_cases x z

above_cases : (p : Place) (z : ℤ) → above_p true z p ≡ (above_p false z p || same_place (point z) p)
above_cases nowhere z = refl
above_cases lowest z = refl
above_cases highest z = refl
above_cases (point x) z = le_cases z x

-- ---- floats against a finite one
module _ (t : Bool) (n : ℕ) (d : ℤ) (q : T (fits binary64 (fin t n d))) where
  abbrev y : Float
  y = fin t n d

  float-less : (x : Float) → T (fits binary64 x) → lt x y ≡ below_p false (place_of_float x) (exact_in binary64 y)
  unfolding lt
  float-less nan p = refl
  float-less (inf true) p = refl
  float-less (inf false) p = refl
  float-less (fin s m e) p = lt-exact binary64 (fin s m e) y tt tt p q

  float-more : (x : Float) → T (fits binary64 x) → lt y x ≡ above_p false (exact_in binary64 y) (place_of_float x)
  unfolding lt
  float-more nan p = refl
  float-more (inf true) p = refl
  float-more (inf false) p = refl
  float-more (fin s m e) p = lt-exact binary64 y (fin s m e) tt tt q p

-- ---- two of one kind, the second a number
record Measured (v l : ScalarValue) (z : ℤ) : Type 0 where
  pub less : less_scalar v l ≡ below_p false (place_of v) z
  pub more : less_scalar l v ≡ above_p false z (place_of v)
  pub level : same_scalar v l ≡ same_place (place_of v) (point z)
  pub turned : same_scalar l v ≡ same_place (point z) (place_of v)

-- both are of one variant, and no NULL
abbrev paired : ScalarValue → ScalarValue → Bool
paired = pairwise false (λ (k l : Kind). false) (λ (x y : Bool). true) (λ (x y : ℤ). true) (λ (x y : ℤ). true) (λ (x y : Float). true) (λ (x y : ℤ).
    true)

one-kind : (v l : ScalarValue) → T (not (is_null v)) → T (not (is_null l)) → T (same_kind (kind_of v) (kind_of l)) → T (paired v l)
one-kind (S.Null x) (S.Null y) n m k = absurd n
one-kind (S.Null x) (S.Boolean y) n m k = absurd n
one-kind (S.Null x) (S.Int32 y) n m k = absurd n
one-kind (S.Null x) (S.Int64 y) n m k = absurd n
one-kind (S.Null x) (S.Float64 y) n m k = absurd n
one-kind (S.Null x) (S.Date32 y) n m k = absurd n
one-kind (S.Boolean x) (S.Null y) n m k = absurd m
one-kind (S.Boolean x) (S.Boolean y) n m k = tt
one-kind (S.Boolean x) (S.Int32 y) n m k = k
one-kind (S.Boolean x) (S.Int64 y) n m k = k
one-kind (S.Boolean x) (S.Float64 y) n m k = k
one-kind (S.Boolean x) (S.Date32 y) n m k = k
one-kind (S.Int32 x) (S.Null y) n m k = absurd m
one-kind (S.Int32 x) (S.Boolean y) n m k = k
one-kind (S.Int32 x) (S.Int32 y) n m k = tt
one-kind (S.Int32 x) (S.Int64 y) n m k = k
one-kind (S.Int32 x) (S.Float64 y) n m k = k
one-kind (S.Int32 x) (S.Date32 y) n m k = k
one-kind (S.Int64 x) (S.Null y) n m k = absurd m
one-kind (S.Int64 x) (S.Boolean y) n m k = k
one-kind (S.Int64 x) (S.Int32 y) n m k = k
one-kind (S.Int64 x) (S.Int64 y) n m k = tt
one-kind (S.Int64 x) (S.Float64 y) n m k = k
one-kind (S.Int64 x) (S.Date32 y) n m k = k
one-kind (S.Float64 x) (S.Null y) n m k = absurd m
one-kind (S.Float64 x) (S.Boolean y) n m k = k
one-kind (S.Float64 x) (S.Int32 y) n m k = k
one-kind (S.Float64 x) (S.Int64 y) n m k = k
one-kind (S.Float64 x) (S.Float64 y) n m k = tt
one-kind (S.Float64 x) (S.Date32 y) n m k = k
one-kind (S.Date32 x) (S.Null y) n m k = absurd m
one-kind (S.Date32 x) (S.Boolean y) n m k = k
one-kind (S.Date32 x) (S.Int32 y) n m k = k
one-kind (S.Date32 x) (S.Int64 y) n m k = k
one-kind (S.Date32 x) (S.Float64 y) n m k = k
one-kind (S.Date32 x) (S.Date32 y) n m k = tt

measured : (v l : ScalarValue) → T (paired v l) → Typed v → Typed l → (x : Float) → scalar_to_f64 l ≡ Some x → Measured v l (value_of l)
measured =
    by-pairs (λ (v l : ScalarValue). Typed v → Typed l → (x : Float) → scalar_to_f64 l ≡ Some x → Measured v l (value_of l))
    (λ (k l : Kind). false) (λ (x y : Bool). true) (λ (x y : ℤ). true) (λ (x y : ℤ). true) (λ (x y : Float). true) (λ (x y : ℤ). true)
    (λ x y t. absurd t)
    (λ x y t p q u e. no_number u e)
    (λ a b t p q u e. record { less = sym (lts a b); more = sym (lts b a); level = sym (eqs a b); turned = sym (eqs b a) })
    (λ a b t p q u e. record { less = sym (lts a b); more = sym (lts b a); level = sym (eqs a b); turned = sym (eqs b a) })
    float
    (λ a b t p q u e. record { less = sym (lts a b); more = sym (lts b a); level = sym (eqs a b); turned = sym (eqs b a) })
  where
    lts : (a b : ℤ) → lt_z (whole_in binary64 a) (whole_in binary64 b) ≡ lt_z a b
    lts a b = lt_z_scale a b (2 ^ low binary64) (pow_pos (low binary64))

    eqs : (a b : ℤ) → eq_z (whole_in binary64 a) (whole_in binary64 b) ≡ eq_z a b
    eqs a b = eq_z_scale a b (2 ^ low binary64) (pow_pos (low binary64))

    float : (x y : Float) → T true → T (fits binary64 x) → T (fits binary64 y) → (u : Float) → scalar_to_f64 (S.Float64 y) ≡ Some u → Measured
        (S.Float64 x)
        (S.Float64 y) (exact_in binary64 y)
    float x nan t p q u e = no_number u e
    float x (inf s) t p q u e = no_number u e
    float x (fin s m d) t p q u e = record {
      less = float-less s m d q x p;
      more = float-more s m d q x p;
      level = eq-place x (fin s m d) p q;
      turned = eq-place (fin s m d) x q p;
    }

-- a literal that has a number is no NULL
pub number-not-null : (l : ScalarValue) (x : Float) → scalar_to_f64 l ≡ Some x → T (not (is_null l))
number-not-null (S.Null k) x e = no_number x e
number-not-null (S.Boolean b) x e = tt
number-not-null (S.Int32 n) x e = tt
number-not-null (S.Int64 n) x e = tt
number-not-null (S.Float64 y) x e = tt
number-not-null (S.Date32 n) x e = tt

-- what the four comparisons of a value with a literal say, as bounds
pub record Tested (v l : ScalarValue) (x : Float) : Type 0 where
  pub below : less_scalar v l ≡ ok_range (place_of v) (bounds_by Lt x)
  pub at_most : (less_scalar v l || same_scalar v l) ≡ ok_range (place_of v) (bounds_by LtEq x)
  pub above : less_scalar l v ≡ ok_range (place_of v) (bounds_by Gt x)
  pub at_least : (less_scalar l v || same_scalar l v) ≡ ok_range (place_of v) (bounds_by GtEq x)

-- of a value and a literal of one kind, neither NULL, each of the four comparisons is its bound. Assumes nothing
pub tested : (v l : ScalarValue) → T (not (is_null v)) → T (same_kind (kind_of v) (kind_of l)) → Typed v → Typed l → (x : Float) → scalar_to_f64 l ≡
    Some x → Tested v
    l x
tested v l n k tv tl x e =
    go (subst (Measured v l) (sym (converts l x tl e).same) (measured v l (one-kind v l n (number-not-null l x e) k) tv tl x e))
  where
    go : Measured v l (exact_in binary64 x) → Tested v l x
    go m = record {
      below = m.less;
      at_most = ap₂ (λ (a b : Bool). a || b) m.less m.level ∙ sym (below-cases (place_of v) (exact_in binary64 x));
      above = m.more ∙ sym (and-true (above_p false (exact_in binary64 x) (place_of v)));
      at_least = ap₂ (λ (a b : Bool). a || b) m.more m.turned ∙ sym (above_cases (place_of v) (exact_in binary64 x)) ∙ sym
          (and-true (above_p true (exact_in binary64 x) (place_of v)));
    }

-- a value that is no NaN is the same as itself. Assumes nothing
pub self-same : (v : ScalarValue) → Typed v → T (not (is_na_n v)) → T (same_scalar v v)
self-same (S.Null k) t n = eqb_refl (kind_code k)
self-same (S.Boolean true) t n = tt
self-same (S.Boolean false) t n = tt
self-same (S.Int32 z) t n = eq→eq_z z z refl
self-same (S.Int64 z) t n = eq→eq_z z z refl
self-same (S.Float64 nan) t n = absurd n
self-same (S.Float64 (inf true)) t n = subst T (sym (eq-place (inf true) (inf true) t t)) tt
self-same (S.Float64 (inf false)) t n = subst T (sym (eq-place (inf false) (inf false) t t)) tt
self-same (S.Float64 (fin s m e)) t n = subst T (sym (eq-place (fin s m e) (fin s m e) t t))
    (eq→eq_z (exact_in binary64 (fin s m e)) (exact_in binary64 (fin s m e)) refl)
self-same (S.Date32 z) t n = eq→eq_z z z refl
