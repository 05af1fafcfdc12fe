-- Equality and order of scalars, and the number that a scalar bounds by. Assumes nothing.
use Rattle.std.specs.Prelude.{Bool, true, false, not, cond, ◌&&◌, T, leb, ℤ, pos, nat_abs, Float, Some, None, Option}
use Rattle.std.specs.Bool.{beq}
use Rattle.std.specs.Int.Signed.{lt_z}
use Rattle.std.specs.Float.{binary64}
use Rattle.std.specs.Float.Ieee.{is_nan, lt, eq, fits, of_int}
use Rattle.std.specs.Int.{w32, w64}
use Rattle.std.proofs.Common.{SFits}
use Rattle.scalar.specs.Exact.{eq_z, finite, exact_in, whole_in}
use Rattle.scalar.specs.Kinds.{same_kind}
use Rattle.scalar.specs.declared.Kind.{Kind}
use Rattle.scalar.specs.declared.ScalarValue.{ScalarValue}
use Rattle.scalar.specs.declared.ScalarValue.TheVariants as S

-- two scalars of one variant by that variant's function, and two of different variants as `other` says
abbrev pub pairwise : {X : Type 0} → X → (Kind → Kind → X) → (Bool → Bool → X) → (ℤ → ℤ → X) → (ℤ → ℤ → X) → (Float → Float → X) → (ℤ → ℤ → X) → ScalarValue
    → ScalarValue → X
pairwise other n b i j f d (S.Null x) (S.Null y) = n x y
pairwise other n b i j f d (S.Null x) (S.Boolean y) = other
pairwise other n b i j f d (S.Null x) (S.Int32 y) = other
pairwise other n b i j f d (S.Null x) (S.Int64 y) = other
pairwise other n b i j f d (S.Null x) (S.Float64 y) = other
pairwise other n b i j f d (S.Null x) (S.Date32 y) = other
pairwise other n b i j f d (S.Boolean x) (S.Null y) = other
pairwise other n b i j f d (S.Boolean x) (S.Boolean y) = b x y
pairwise other n b i j f d (S.Boolean x) (S.Int32 y) = other
pairwise other n b i j f d (S.Boolean x) (S.Int64 y) = other
pairwise other n b i j f d (S.Boolean x) (S.Float64 y) = other
pairwise other n b i j f d (S.Boolean x) (S.Date32 y) = other
pairwise other n b i j f d (S.Int32 x) (S.Null y) = other
pairwise other n b i j f d (S.Int32 x) (S.Boolean y) = other
pairwise other n b i j f d (S.Int32 x) (S.Int32 y) = i x y
pairwise other n b i j f d (S.Int32 x) (S.Int64 y) = other
pairwise other n b i j f d (S.Int32 x) (S.Float64 y) = other
pairwise other n b i j f d (S.Int32 x) (S.Date32 y) = other
pairwise other n b i j f d (S.Int64 x) (S.Null y) = other
pairwise other n b i j f d (S.Int64 x) (S.Boolean y) = other
pairwise other n b i j f d (S.Int64 x) (S.Int32 y) = other
pairwise other n b i j f d (S.Int64 x) (S.Int64 y) = j x y
pairwise other n b i j f d (S.Int64 x) (S.Float64 y) = other
pairwise other n b i j f d (S.Int64 x) (S.Date32 y) = other
pairwise other n b i j f d (S.Float64 x) (S.Null y) = other
pairwise other n b i j f d (S.Float64 x) (S.Boolean y) = other
pairwise other n b i j f d (S.Float64 x) (S.Int32 y) = other
pairwise other n b i j f d (S.Float64 x) (S.Int64 y) = other
pairwise other n b i j f d (S.Float64 x) (S.Float64 y) = f x y
pairwise other n b i j f d (S.Float64 x) (S.Date32 y) = other
pairwise other n b i j f d (S.Date32 x) (S.Null y) = other
pairwise other n b i j f d (S.Date32 x) (S.Boolean y) = other
pairwise other n b i j f d (S.Date32 x) (S.Int32 y) = other
pairwise other n b i j f d (S.Date32 x) (S.Int64 y) = other
pairwise other n b i j f d (S.Date32 x) (S.Float64 y) = other
pairwise other n b i j f d (S.Date32 x) (S.Date32 y) = d x y

-- kind and payload are the same, a float as a float
abbrev pub same_scalar : ScalarValue → ScalarValue → Bool
same_scalar = pairwise false same_kind beq eq_z eq_z eq eq_z

-- below: FALSE is below TRUE, and no NULL is below anything
abbrev pub less_scalar : ScalarValue → ScalarValue → Bool
less_scalar = pairwise false (λ (k l : Kind). false) (λ (a b : Bool). not a && b) lt_z lt_z lt lt_z

-- magnitude at most 2 ^ 53
abbrev pub small : ℤ → Bool
small n = leb (nat_abs n) 9007199254740992

-- the number that a scalar bounds by: an Int32, a Date32, a small Int64 converted, and a finite Float64
abbrev pub scalar_to_f64 : ScalarValue → Option Float
scalar_to_f64 (S.Null k) = None
scalar_to_f64 (S.Boolean b) = None
scalar_to_f64 (S.Int32 n) = Some (of_int binary64 n)
scalar_to_f64 (S.Int64 n) = cond (small n) (Some (of_int binary64 n)) None
scalar_to_f64 (S.Float64 x) = cond (finite x) (Some x) None
scalar_to_f64 (S.Date32 n) = Some (of_int binary64 n)

-- what a scalar holds is a value of its type
abbrev pub Typed : ScalarValue → Type 0
Typed (S.Null k) = Unit {0}
Typed (S.Boolean b) = Unit {0}
Typed (S.Int32 n) = SFits w32 n
Typed (S.Int64 n) = SFits w64 n
Typed (S.Float64 x) = T (fits binary64 x)
Typed (S.Date32 n) = SFits w32 n

-- a Float64 that is the NaN
abbrev pub holds_nan : ScalarValue → Bool
holds_nan (S.Null k) = false
holds_nan (S.Boolean b) = false
holds_nan (S.Int32 n) = false
holds_nan (S.Int64 n) = false
holds_nan (S.Float64 x) = is_nan x
holds_nan (S.Date32 n) = false

-- a scalar has an exact value where it is a whole number or a finite float
abbrev pub has_value : ScalarValue → Bool
has_value (S.Null k) = false
has_value (S.Boolean b) = false
has_value (S.Int32 n) = true
has_value (S.Int64 n) = true
has_value (S.Float64 x) = finite x
has_value (S.Date32 n) = true

-- that exact value in units of 2 ^ -1074
abbrev pub value_of : ScalarValue → ℤ
value_of (S.Null k) = pos 0
value_of (S.Boolean b) = pos 0
value_of (S.Int32 n) = whole_in binary64 n
value_of (S.Int64 n) = whole_in binary64 n
value_of (S.Float64 x) = exact_in binary64 x
value_of (S.Date32 n) = whole_in binary64 n

-- an Int32, an Int64 or a Date32, and the whole number that it holds
abbrev pub is_whole : ScalarValue → Bool
is_whole (S.Null k) = false
is_whole (S.Boolean b) = false
is_whole (S.Int32 n) = true
is_whole (S.Int64 n) = true
is_whole (S.Float64 x) = false
is_whole (S.Date32 n) = true

abbrev pub whole_of : ScalarValue → ℤ
whole_of (S.Null k) = pos 0
whole_of (S.Boolean b) = pos 0
whole_of (S.Int32 n) = n
whole_of (S.Int64 n) = n
whole_of (S.Float64 x) = pos 0
whole_of (S.Date32 n) = n
