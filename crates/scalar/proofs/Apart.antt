-- What the `_` arms of a match on two scalars rest on. Assumes nothing.
use mathlib.Core.Path.{◌≡◌, refl, sym, subst}
use mathlib.Core.Bool.{Bool, not}
use mathlib.Core.List.{List}
use Prim.Native.Nat.{ℕ}
use lib.Dec.{T}
use lib.IntN.{ℤ}
use lib.Ieee.{Float}
use mir.Val.{has_key}
use types.Run.{OneOf, miss}
use denote.Enum.Declared.{tag_of}
use Rattle.scalar.specs.Scalars.{pairwise}
use Rattle.scalar.specs.declared.Kind.{Kind}
use Rattle.scalar.specs.declared.ScalarValue.{ScalarValue}
use Rattle.scalar.specs.declared.ScalarValue.TheVariants as S
use Rattle.scalar.specs.contracts.ScalarValue.{the_type}

-- a is the variant i, and b is one of the variants ks, which i is not
module _ {X : Type 0} (other : X) (fn : Kind → Kind → X) (fb : Bool → Bool → X) (fi fj : ℤ → ℤ → X) (ff : Float → Float → X) (fd : ℤ → ℤ → X) (i : ℕ)
    (ks : List ℕ) where
  pub apart : (a b : ScalarValue) → tag_of the_type a ≡ i → T (not (has_key ks i)) → OneOf ks (tag_of the_type b) → other ≡ pairwise other fn fb fi fj ff fd a b
  apart (S.Null x) (S.Null y) e h o = absurd (miss ks 0 (subst (λ (k : ℕ). T (not (has_key ks k))) (sym e) h) o)
  apart (S.Null x) (S.Boolean y) e h o = refl
  apart (S.Null x) (S.Int32 y) e h o = refl
  apart (S.Null x) (S.Int64 y) e h o = refl
  apart (S.Null x) (S.Float64 y) e h o = refl
  apart (S.Null x) (S.Date32 y) e h o = refl
  apart (S.Boolean x) (S.Null y) e h o = refl
  apart (S.Boolean x) (S.Boolean y) e h o = absurd (miss ks 1 (subst (λ (k : ℕ). T (not (has_key ks k))) (sym e) h) o)
  apart (S.Boolean x) (S.Int32 y) e h o = refl
  apart (S.Boolean x) (S.Int64 y) e h o = refl
  apart (S.Boolean x) (S.Float64 y) e h o = refl
  apart (S.Boolean x) (S.Date32 y) e h o = refl
  apart (S.Int32 x) (S.Null y) e h o = refl
  apart (S.Int32 x) (S.Boolean y) e h o = refl
  apart (S.Int32 x) (S.Int32 y) e h o = absurd (miss ks 2 (subst (λ (k : ℕ). T (not (has_key ks k))) (sym e) h) o)
  apart (S.Int32 x) (S.Int64 y) e h o = refl
  apart (S.Int32 x) (S.Float64 y) e h o = refl
  apart (S.Int32 x) (S.Date32 y) e h o = refl
  apart (S.Int64 x) (S.Null y) e h o = refl
  apart (S.Int64 x) (S.Boolean y) e h o = refl
  apart (S.Int64 x) (S.Int32 y) e h o = refl
  apart (S.Int64 x) (S.Int64 y) e h o = absurd (miss ks 3 (subst (λ (k : ℕ). T (not (has_key ks k))) (sym e) h) o)
  apart (S.Int64 x) (S.Float64 y) e h o = refl
  apart (S.Int64 x) (S.Date32 y) e h o = refl
  apart (S.Float64 x) (S.Null y) e h o = refl
  apart (S.Float64 x) (S.Boolean y) e h o = refl
  apart (S.Float64 x) (S.Int32 y) e h o = refl
  apart (S.Float64 x) (S.Int64 y) e h o = refl
  apart (S.Float64 x) (S.Float64 y) e h o = absurd (miss ks 4 (subst (λ (k : ℕ). T (not (has_key ks k))) (sym e) h) o)
  apart (S.Float64 x) (S.Date32 y) e h o = refl
  apart (S.Date32 x) (S.Null y) e h o = refl
  apart (S.Date32 x) (S.Boolean y) e h o = refl
  apart (S.Date32 x) (S.Int32 y) e h o = refl
  apart (S.Date32 x) (S.Int64 y) e h o = refl
  apart (S.Date32 x) (S.Float64 y) e h o = refl
  apart (S.Date32 x) (S.Date32 y) e h o = absurd (miss ks 5 (subst (λ (k : ℕ). T (not (has_key ks k))) (sym e) h) o)
