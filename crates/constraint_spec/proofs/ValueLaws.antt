-- Being the same value is symmetric and transitive, and the same values lie at the same place. Assumes nothing.
use mathlib.Core.Path.{◌≡◌, refl, sym, ap, ◌∙◌, subst}
use mathlib.Core.Bool.{Bool, true, false, not, ◌&&◌, beq}
use lib.Dec.{T}
use lib.IntN.{ℤ}
use lib.Ieee.{Float, nan, inf, fin, binary64, eq, fits}
use lib.Ieee.Fits.{and_i, and_l, and_r}
use lib.Ieee.Bits.{is_true}
use Rattle.laws.proofs.Bools.{T_or_elim, T_or_inl, T_or_inr}
use Rattle.scalar.specs.Exact.{eq_z}
use Rattle.scalar.specs.Kinds.{same_kind, is_null}
use Rattle.scalar.specs.Scalars.{same_scalar, Typed}
use Rattle.scalar.specs.declared.ScalarValue.{ScalarValue}
use Rattle.scalar.specs.declared.ScalarValue.TheVariants as S
use Rattle.scalar.proofs.ExactLaws.{eq-exact}
use Rattle.scalar.proofs.WholeLaws.{eq_z→eq}
use Rattle.scalar.proofs.ScalarLaws.{same-null, same_trans, same_comm}
use Rattle.constraint_spec.specs.Values.{same, equals, Place, nowhere, lowest, highest, point, place_of_float, place_of, same_place}
use Rattle.constraint_spec.proofs.Pairs.{by-pairs}

-- ---- places and floats
pub beq-eq : (a b : Bool) → T (beq a b) → a ≡ b
beq-eq true true t = refl
beq-eq true false t = absurd t
beq-eq false true t = absurd t
beq-eq false false t = refl

pub place-eq : (a b : Place) → T (same_place a b) → a ≡ b
place-eq nowhere b t = absurd t
place-eq lowest nowhere t = absurd t
place-eq lowest lowest t = refl
place-eq lowest highest t = absurd t
place-eq lowest (point z) t = absurd t
place-eq highest nowhere t = absurd t
place-eq highest lowest t = absurd t
place-eq highest highest t = refl
place-eq highest (point z) t = absurd t
place-eq (point x) nowhere t = absurd t
place-eq (point x) lowest t = absurd t
place-eq (point x) highest t = absurd t
place-eq (point x) (point z) t = ap point (eq_z→eq x z t)

pub eq-place : (x y : Float) → T (fits binary64 x) → T (fits binary64 y) → eq x y ≡ same_place (place_of_float x) (place_of_float y)
unfolding eq
eq-place nan y p q = refl
eq-place (inf true) nan p q = refl
eq-place (inf false) nan p q = refl
eq-place (inf true) (inf true) p q = refl
eq-place (inf true) (inf false) p q = refl
eq-place (inf false) (inf true) p q = refl
eq-place (inf false) (inf false) p q = refl
eq-place (inf true) (fin u n d) p q = refl
eq-place (inf false) (fin u n d) p q = refl
eq-place (fin s m e) nan p q = refl
eq-place (fin s m e) (inf true) p q = refl
eq-place (fin s m e) (inf false) p q = refl
eq-place (fin s m e) (fin u n d) p q = eq-exact binary64 (fin s m e) (fin u n d) tt tt p q

-- ---- scalars
pub T-same-null : (v w : ScalarValue) → T (same_scalar v w) → is_null v ≡ is_null w
T-same-null v w t = same-null v w (is_true (same_scalar v w) t)

pub same_place_lem : (v w : ScalarValue) → T (same_scalar v w) → Typed v → Typed w → place_of v ≡ place_of w
same_place_lem =
    by-pairs (λ (v w : ScalarValue). Typed v → Typed w → place_of v ≡ place_of w) same_kind beq eq_z eq_z eq eq_z
    (λ x y t p q. refl) (λ x y t p q. refl)
    (λ x y t p q. ap (λ (z : ℤ). place_of (S.Int32 z)) (eq_z→eq x y t))
    (λ x y t p q. ap (λ (z : ℤ). place_of (S.Int64 z)) (eq_z→eq x y t))
    (λ x y t p q. place-eq (place_of_float x) (place_of_float y) (subst T (eq-place x y p q) t))
    (λ x y t p q. ap (λ (z : ℤ). place_of (S.Date32 z)) (eq_z→eq x y t))

-- one that is the same as another is the same as whatever that is the same as
pub T-same_trans : (v w : ScalarValue) → T (same_scalar v w) → Typed v → Typed w → (u : ScalarValue) → Typed u → T (same_scalar w u) → T (same_scalar
    v u)
T-same_trans v w t p q u r k = subst T (sym (same_trans v w u (is_true (same_scalar v w) t) (is_true (same_scalar w u) k))) tt

pub same-sym : (v w : ScalarValue) → T (same_scalar v w) → Typed v → Typed w → T (same_scalar w v)
same-sym v w t p q = subst T (same_comm v w) t

-- ---- the same value, NULL with NULL
pub both : (a b : Bool) → T a → T b → a ≡ b
both true true p q = refl
both true false p q = absurd q
both false b p q = absurd p

module _ (v w : ScalarValue) (tv : Typed v) (tw : Typed w) where
  pub alike-null : T (same v w) → is_null v ≡ is_null w
  alike-null t =
      T_or_elim (is_null v && is_null w) (same_scalar v w) t
      (λ n. both (is_null v) (is_null w) (and_l (is_null v) (is_null w) n) (and_r (is_null v) (is_null w) n)) (T-same-null v w)

  pub alike-sym : T (same v w) → T (same w v)
  alike-sym t =
      T_or_elim (is_null v && is_null w) (same_scalar v w) t
      (λ n. T_or_inl (is_null w && is_null v) (same_scalar w v) (and_i (is_null w) (is_null v) (and_r (is_null v) (is_null w) n) (and_l (is_null v)
      (is_null w) n)))
      (λ s. T_or_inr (is_null w && is_null v) (same_scalar w v) (same-sym v w s tv tw))

  pub alike_trans : (u : ScalarValue) → Typed u → T (same v w) → T (same w u) → T (same v u)
  alike_trans u tu t k =
      T_or_elim (is_null w && is_null u) (same_scalar w u) k
      (λ n. T_or_inl (is_null v && is_null u) (same_scalar v u) (and_i (is_null v) (is_null u) (subst T (sym (alike-null t)) (and_l (is_null w)
      (is_null u) n))
      (and_r (is_null w) (is_null u) n)))
      (λ s.
      T_or_elim (is_null v && is_null w) (same_scalar v w) t
      (λ n. T_or_inl (is_null v && is_null u) (same_scalar v u)
      (and_i (is_null v) (is_null u) (and_l (is_null v) (is_null w) n) (subst T (T-same-null w u s) (and_r (is_null v) (is_null w) n))))
      (λ m. T_or_inr (is_null v && is_null u) (same_scalar v u) (T-same_trans v w m tv tw u tu s)))

  pub alike-place : T (same v w) → place_of v ≡ place_of w
  alike-place t =
      T_or_elim (is_null v && is_null w) (same_scalar v w) t
      (λ n. null-place v (and_l (is_null v) (is_null w) n) ∙ sym (null-place w (and_r (is_null v) (is_null w) n)))
      (λ s. same_place_lem v w s tv tw)
    where
      null-place : (u : ScalarValue) → T (is_null u) → place_of u ≡ nowhere
      null-place (S.Null k) t = refl
      null-place (S.Boolean z) t = absurd t
      null-place (S.Int32 z) t = absurd t
      null-place (S.Int64 z) t = absurd t
      null-place (S.Float64 z) t = absurd t
      null-place (S.Date32 z) t = absurd t

  -- a literal that one of them equals the other equals too
  pub alike-equals : (l : ScalarValue) → Typed l → T (same v w) → T (equals v l) → T (equals w l)
  alike-equals l tl t k =
      let n = and_l (not (is_null v)) (same_scalar v l) k in
      let s = and_r (not (is_null v)) (same_scalar v l) k in
      and_i (not (is_null w)) (same_scalar w l) (subst (λ (b : Bool). T (not b)) (alike-null t) n)
      (T_or_elim (is_null v && is_null w) (same_scalar v w) t
      (λ m. absurd (clash (is_null v) n (and_l (is_null v) (is_null w) m)))
      (λ m. T-same_trans w v (same-sym v w m tv tw) tw tv l tl s))
    where
      clash : (b : Bool) → T (not b) → T b → ⊥
      clash true p q = p
      clash false p q = q
