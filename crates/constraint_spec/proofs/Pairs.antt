-- What holds of every two scalars of one variant whose test passes holds of every two whose pairwise test passes. Assumes nothing.
use mathlib.Core.Bool.{Bool, false}
use lib.Dec.{T}
use lib.IntN.{ℤ}
use lib.Ieee.{Float}
use Rattle.scalar.specs.Scalars.{pairwise}
use Rattle.scalar.specs.declared.Kind.{Kind}
use Rattle.scalar.specs.declared.ScalarValue.{ScalarValue}
use Rattle.scalar.specs.declared.ScalarValue.TheVariants as S

module _ (P : ScalarValue → ScalarValue → Type 0)
    (n : Kind → Kind → Bool) (b : Bool → Bool → Bool) (i j : ℤ → ℤ → Bool) (f : Float → Float → Bool) (d : ℤ → ℤ → Bool)
    (hn : (x y : Kind) → T (n x y) → P (S.Null x) (S.Null y))
    (hb : (x y : Bool) → T (b x y) → P (S.Boolean x) (S.Boolean y))
    (hi : (x y : ℤ) → T (i x y) → P (S.Int32 x) (S.Int32 y))
    (hj : (x y : ℤ) → T (j x y) → P (S.Int64 x) (S.Int64 y))
    (hf : (x y : Float) → T (f x y) → P (S.Float64 x) (S.Float64 y))
    (hd : (x y : ℤ) → T (d x y) → P (S.Date32 x) (S.Date32 y)) where
  pub by-pairs : (v w : ScalarValue) → T (pairwise false n b i j f d v w) → P v w
  by-pairs (S.Null x) (S.Null y) t = hn x y t
  by-pairs (S.Null x) (S.Boolean y) t = absurd t
  by-pairs (S.Null x) (S.Int32 y) t = absurd t
  by-pairs (S.Null x) (S.Int64 y) t = absurd t
  by-pairs (S.Null x) (S.Float64 y) t = absurd t
  by-pairs (S.Null x) (S.Date32 y) t = absurd t
  by-pairs (S.Boolean x) (S.Null y) t = absurd t
  by-pairs (S.Boolean x) (S.Boolean y) t = hb x y t
  by-pairs (S.Boolean x) (S.Int32 y) t = absurd t
  by-pairs (S.Boolean x) (S.Int64 y) t = absurd t
  by-pairs (S.Boolean x) (S.Float64 y) t = absurd t
  by-pairs (S.Boolean x) (S.Date32 y) t = absurd t
  by-pairs (S.Int32 x) (S.Null y) t = absurd t
  by-pairs (S.Int32 x) (S.Boolean y) t = absurd t
  by-pairs (S.Int32 x) (S.Int32 y) t = hi x y t
  by-pairs (S.Int32 x) (S.Int64 y) t = absurd t
  by-pairs (S.Int32 x) (S.Float64 y) t = absurd t
  by-pairs (S.Int32 x) (S.Date32 y) t = absurd t
  by-pairs (S.Int64 x) (S.Null y) t = absurd t
  by-pairs (S.Int64 x) (S.Boolean y) t = absurd t
  by-pairs (S.Int64 x) (S.Int32 y) t = absurd t
  by-pairs (S.Int64 x) (S.Int64 y) t = hj x y t
  by-pairs (S.Int64 x) (S.Float64 y) t = absurd t
  by-pairs (S.Int64 x) (S.Date32 y) t = absurd t
  by-pairs (S.Float64 x) (S.Null y) t = absurd t
  by-pairs (S.Float64 x) (S.Boolean y) t = absurd t
  by-pairs (S.Float64 x) (S.Int32 y) t = absurd t
  by-pairs (S.Float64 x) (S.Int64 y) t = absurd t
  by-pairs (S.Float64 x) (S.Float64 y) t = hf x y t
  by-pairs (S.Float64 x) (S.Date32 y) t = absurd t
  by-pairs (S.Date32 x) (S.Null y) t = absurd t
  by-pairs (S.Date32 x) (S.Boolean y) t = absurd t
  by-pairs (S.Date32 x) (S.Int32 y) t = absurd t
  by-pairs (S.Date32 x) (S.Int64 y) t = absurd t
  by-pairs (S.Date32 x) (S.Float64 y) t = absurd t
  by-pairs (S.Date32 x) (S.Date32 y) t = hd x y t
