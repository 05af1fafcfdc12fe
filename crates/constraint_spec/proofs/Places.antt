-- Where a value lies, against ranges: tightening a range by another admits what both admit, an empty range admits nothing, and a literal outside a
-- range is the value of nothing within. Assumes nothing.
use Rattle.std.proofs.Common.{Some, None, Option}
use mathlib.Core.Path.{◌≡◌, refl, sym, ap, ap₂, ◌∙◌, subst}
use mathlib.Core.Bool.{Bool, true, false, not, ◌&&◌, ◌||◌, cond, and-true, and-false}
use Prim.Native.Nat.{ℕ}
use native.Mathlib.Omega.{arith}
use lib.Dec.{T}
use lib.IntN.{ℤ}
use lib.Signed.{lt_z}
use lib.Ieee.{Float, nan, inf, fin, binary64, lt, eq, fits}
use lib.Ieee.Bits.{is_true}
use lib.Ieee.Fits.{and_l, and_r}
use Rattle.laws.proofs.Bools.{T_or_neg_resolve_left, T_or_elim}
use Rattle.scalar.specs.Exact.{eq_z, finite, exact_in}
use Rattle.scalar.specs.Scalars.{scalar_to_f64, same_scalar, Typed}
use Rattle.value_range.specs.Ranges.{Sound, bound_at, takes_lower, takes_upper, tighten_lower, tighten_upper, empty_range, up_to}
use Rattle.value_range.specs.declared.Bound.{Bound}
use Rattle.value_range.specs.declared.ValueRange.{ValueRange}
use Rattle.scalar.specs.declared.ScalarValue.{ScalarValue}
use Rattle.scalar.specs.declared.ScalarValue.TheVariants as S
use Rattle.value_range.proofs.RangeLaws.{up_to_le, upper_tightened, upper_keeps, upper_end-sound, lower-tightened, lower-keeps, lower-end-sound, nothing-within}
use Rattle.scalar.proofs.NumberLaws.{converts}
use Rattle.scalar.proofs.ExactLaws.{lt-exact, eq-exact}
use Rattle.scalar.proofs.WholeLaws.{eq_z→eq, le_lt, lt_le, irrefl}
use Rattle.constraint_spec.specs.Values.{Place, nowhere, lowest, highest, point, place_of, below_p, above_p, ok_upper, ok_lower, ok_range}
use Rattle.constraint_spec.specs.Sets.{lower_by, upper_by, tighten_by, outside}
use Rattle.constraint_spec.specs.Meets.{SoundRange}
use Rattle.constraint_spec.proofs.ValueLaws.{same_place_lem}

-- a bound that every place of a sort passes, and one that none passes
passed-both : (p q : Bool) → (not p || true) ≡ ((not q || true) && true)
passed-both true true = refl
passed-both true false = refl
passed-both false true = refl
passed-both false false = refl

module _ (v : Float) (i : Bool) (fv : T (finite v)) (hv : T (fits binary64 v)) where
  failed_upper : (t : Bool) (r : ValueRange) → (t ≡ false → T r.upper.present)
      → (not (cond t (record { lower = r.lower; upper = bound_at v i }) r).upper.present || false) ≡ ((not r.upper.present || false) && false)
  failed_upper true r h = sym (and-false (not r.upper.present || false))
  failed_upper false r h = ap (λ (b : Bool). not b || false) (is_true r.upper.present (h refl)) ∙ sym (and-false (not r.upper.present || false))

  failed-lower : (t : Bool) (r : ValueRange) → (t ≡ false → T r.lower.present)
      → (not (cond t (record { lower = bound_at v i; upper = r.upper }) r).lower.present || false) ≡ ((not r.lower.present || false) && false)
  failed-lower true r h = sym (and-false (not r.lower.present || false))
  failed-lower false r h = ap (λ (b : Bool). not b || false) (is_true r.lower.present (h refl)) ∙ sym (and-false (not r.lower.present || false))

  there : (p q : Bool) → (not p || q) ≡ false → T p
  there true q e = tt
  there false q e = absurd (subst T e tt)

  pub ok_upper_lem : (p : Place) (r : ValueRange) → Sound r.upper → ok_upper p (tighten_upper r v i).upper
      ≡ (ok_upper p r.upper && below_p i p (exact_in binary64 v))
  ok_upper_lem nowhere r s = failed_upper (takes_upper r.upper v i) r (λ e. there r.upper.present _ e)
  ok_upper_lem lowest r s = passed-both (tighten_upper r v i).upper.present r.upper.present
  ok_upper_lem highest r s = failed_upper (takes_upper r.upper v i) r (λ e. there r.upper.present _ e)
  ok_upper_lem (point x) r s = upper_tightened v i r fv hv x s

  pub ok-lower : (p : Place) (r : ValueRange) → Sound r.lower → ok_lower p (tighten_lower r v i).lower
      ≡ (ok_lower p r.lower && above_p i (exact_in binary64 v) p)
  ok-lower nowhere r s = failed-lower (takes_lower r.lower v i) r (λ e. there r.lower.present _ e)
  ok-lower lowest r s = failed-lower (takes_lower r.lower v i) r (λ e. there r.lower.present _ e)
  ok-lower highest r s = passed-both (tighten_lower r v i).lower.present r.lower.present
  ok-lower (point x) r s = lower-tightened v i r fv hv x s

-- ---- by a bound, there or not
abbrev upper_if : (b : Bound) (t : ValueRange) → Bool → ValueRange
upper_if b t p = cond p (tighten_upper t b.value b.inclusive) t

upper_by_lem : (p : Place) (t : ValueRange) (b : Bound) → Sound t.upper → Sound b → ok_upper p (upper_by t b).upper ≡ (ok_upper p t.upper && ok_upper p b)
upper_by_lem p t b st sb = go b.present sb
  where
    go : (q : Bool) → (T q → T (finite b.value) × T (fits binary64 b.value))
        → ok_upper p (cond q (tighten_upper t b.value b.inclusive) t).upper
        ≡ (ok_upper p t.upper && (not q || below_p b.inclusive p (exact_in binary64 b.value)))
    go true s = ok_upper_lem b.value b.inclusive (s tt).0 (s tt).1 p t st
    go false s = sym (and-true (ok_upper p t.upper))

upper_by-lower : (t : ValueRange) (b : Bound) → Sound b → (upper_by t b).lower ≡ t.lower
upper_by-lower t b sb = go b.present sb
  where
    go : (q : Bool) → (T q → T (finite b.value) × T (fits binary64 b.value)) → (cond q (tighten_upper t b.value b.inclusive) t).lower ≡ t.lower
    go true s = upper_keeps b.value b.inclusive t
    go false s = refl

upper_by-sound : (t : ValueRange) (b : Bound) → Sound t.upper → Sound b → Sound (upper_by t b).upper
upper_by-sound t b st sb = go b.present sb
  where
    go : (q : Bool) → (T q → T (finite b.value) × T (fits binary64 b.value)) → Sound (cond q (tighten_upper t b.value b.inclusive) t).upper
    go true s = upper_end-sound b.value b.inclusive t (s tt).0 (s tt).1 st
    go false s = st

lower_by_lem : (p : Place) (t : ValueRange) (b : Bound) → Sound t.lower → Sound b → ok_lower p (lower_by t b).lower ≡ (ok_lower p t.lower && ok_lower p b)
lower_by_lem p t b st sb = go b.present sb
  where
    go : (q : Bool) → (T q → T (finite b.value) × T (fits binary64 b.value))
        → ok_lower p (cond q (tighten_lower t b.value b.inclusive) t).lower
        ≡ (ok_lower p t.lower && (not q || above_p b.inclusive (exact_in binary64 b.value) p))
    go true s = ok-lower b.value b.inclusive (s tt).0 (s tt).1 p t st
    go false s = sym (and-true (ok_lower p t.lower))

lower-by_upper : (t : ValueRange) (b : Bound) → Sound b → (lower_by t b).upper ≡ t.upper
lower-by_upper t b sb = go b.present sb
  where
    go : (q : Bool) → (T q → T (finite b.value) × T (fits binary64 b.value)) → (cond q (tighten_lower t b.value b.inclusive) t).upper ≡ t.upper
    go true s = lower-keeps b.value b.inclusive t
    go false s = refl

lower-by-sound : (t : ValueRange) (b : Bound) → Sound t.lower → Sound b → Sound (lower_by t b).lower
lower-by-sound t b st sb = go b.present sb
  where
    go : (q : Bool) → (T q → T (finite b.value) × T (fits binary64 b.value)) → Sound (cond q (tighten_lower t b.value b.inclusive) t).lower
    go true s = lower-end-sound b.value b.inclusive t (s tt).0 (s tt).1 st
    go false s = st

-- ---- by a range
regroup : (a b c d : Bool) → ((a && b) && (c && d)) ≡ ((a && c) && (b && d))
regroup true true c d = refl
regroup true false c d = sym (and-false c)
regroup false b c d = refl

module _ (t r : ValueRange) (st : SoundRange t) (sr : SoundRange r) where
  new-lower : (tighten_by t r).lower ≡ (lower_by t r.lower).lower
  new-lower = upper_by-lower (lower_by t r.lower) r.upper sr.1

  kept_upper : (lower_by t r.lower).upper ≡ t.upper
  kept_upper = lower-by_upper t r.lower sr.0

  pub ok_tighten : (p : Place) → ok_range p (tighten_by t r) ≡ (ok_range p t && ok_range p r)
  ok_tighten p =
      ap₂ (λ (a b : Bool). a && b)
      (ap (ok_lower p) new-lower ∙ lower_by_lem p t r.lower st.0 sr.0)
      (upper_by_lem p (lower_by t r.lower) r.upper (subst Sound (sym kept_upper) st.1) sr.1 ∙ ap (λ (b : Bound). ok_upper p b && ok_upper p r.upper)
      kept_upper)
      ∙ regroup (ok_lower p t.lower) (ok_lower p r.lower) (ok_upper p t.upper) (ok_upper p r.upper)

  pub tighten_sound : SoundRange (tighten_by t r)
  tighten_sound = (
    subst Sound (sym new-lower) (lower-by-sound t r.lower st.0 sr.0),
    upper_by-sound (lower_by t r.lower) r.upper (subst Sound (sym kept_upper) st.1) sr.1,
  )

-- ---- an empty range
pub ok-empty : (p : Place) (r : ValueRange) → SoundRange r → T (empty_range r) → T (ok_range p r) → ⊥
ok-empty nowhere r s e k = T_or_neg_resolve_left r.lower.present false (and_l r.lower.present _ e) (and_l (not r.lower.present || false) _ k)
ok-empty lowest r s e k = T_or_neg_resolve_left r.lower.present false (and_l r.lower.present _ e) (and_l (not r.lower.present || false) _ k)
ok-empty highest r s e k =
    T_or_neg_resolve_left r.upper.present false (and_l r.upper.present _ (and_r r.lower.present _ e))
    (and_r (not r.lower.present || true) (not r.upper.present || false) k)
ok-empty (point x) r s e k = subst T (nothing-within x r s (is_true (empty_range r) e)) k

-- ---- a literal outside a range
pub no_number : {X : Type 0} (x : Float) → None ≡ Some x → X
no_number x e = absurd (let z : ◌≡◌ {A = ℕ} 0 1 = cc in omega arith)

pub number-place : (l : ScalarValue) (x : Float) → Typed l → scalar_to_f64 l ≡ Some x → place_of l ≡ point (exact_in binary64 x)
number-place (S.Null k) x t e = no_number x e
number-place (S.Boolean b) x t e = no_number x e
number-place (S.Int32 n) x t e = ap point (sym (converts (S.Int32 n) x t e).same)
number-place (S.Int64 n) x t e = ap point (sym (converts (S.Int64 n) x t e).same)
number-place (S.Float64 nan) x t e = no_number x e
number-place (S.Float64 (inf s)) x t e = no_number x e
number-place (S.Float64 (fin s m d)) x t e = ap point (sym (converts (S.Float64 (fin s m d)) x t e).same)
number-place (S.Date32 n) x t e = ap point (sym (converts (S.Date32 n) x t e).same)

-- b before a, at it or not, and a below b, or at it where it may not be
below_no : (w : Bool) (a b : ℤ) → T (lt_z a b || (eq_z a b && not w)) → T (up_to w b a) → ⊥
below_no w a b t k =
    T_or_elim (lt_z a b) (eq_z a b && not w) t
    (λ l. irrefl a (lt_le a b a l (up_to_le w b a k)))
    (λ e. strict w (and_r (eq_z a b) (not w) e) (subst (λ (z : ℤ). T (up_to w z a)) (sym (eq_z→eq a b (and_l (eq_z a b) (not w) e))) k))
  where
    strict : (w : Bool) → T (not w) → T (up_to w a a) → ⊥
    strict true n k = n
    strict false n k = irrefl a k

above_no : (w : Bool) (a b : ℤ) → T (lt_z b a || (eq_z a b && not w)) → T (up_to w a b) → ⊥
above_no w a b t k =
    T_or_elim (lt_z b a) (eq_z a b && not w) t
    (λ l. irrefl a (le_lt a b a (up_to_le w a b k) l))
    (λ e. strict w (and_r (eq_z a b) (not w) e) (subst (λ (z : ℤ). T (up_to w a z)) (sym (eq_z→eq a b (and_l (eq_z a b) (not w) e))) k))
  where
    strict : (w : Bool) → T (not w) → T (up_to w a a) → ⊥
    strict true n k = n
    strict false n k = irrefl a k

module _ (x : Float) (fx : T (finite x)) (hx : T (fits binary64 x)) (r : ValueRange) (s : SoundRange r) where
  abbrev ex : Float → ℤ
  ex y = exact_in binary64 y

  pub outside_no : T (outside (Some x) r) → T (ok_range (point (exact_in binary64 x)) r) → ⊥
  outside_no t k =
      let l = r.lower in
      let u = r.upper in
      let below = lt x l.value || (eq x l.value && not l.inclusive) in
      let above = lt u.value x || (eq x u.value && not u.inclusive) in
      T_or_elim (l.present && below) (u.present && above) t
      (λ b.
      let p = and_l l.present below b in
      below_no l.inclusive (ex x) (ex l.value)
      (subst T
      (ap₂ (λ (a c : Bool). a || (c && not l.inclusive)) (lt-exact binary64 x l.value fx (s.0 p).0 hx (s.0 p).1)
      (eq-exact binary64 x l.value fx (s.0 p).0 hx (s.0 p).1))
      (and_r l.present below b))
      (T_or_neg_resolve_left l.present (up_to l.inclusive (ex l.value) (ex x)) p (and_l (ok_lower (point (ex x)) l) (ok_upper (point (ex x)) u) k)))
      (λ b.
      let p = and_l u.present above b in
      above_no u.inclusive (ex x) (ex u.value)
      (subst T
      (ap₂ (λ (a c : Bool). a || (c && not u.inclusive)) (lt-exact binary64 u.value x (s.1 p).0 fx (s.1 p).1 hx)
      (eq-exact binary64 x u.value fx (s.1 p).0 hx (s.1 p).1))
      (and_r u.present above b))
      (T_or_neg_resolve_left u.present (up_to u.inclusive (ex x) (ex u.value)) p (and_r (ok_lower (point (ex x)) l) (ok_upper (point (ex x)) u) k)))

-- a value that is the literal is not in a range that the literal is outside of
pub literal-outside : (v l : ScalarValue) → Typed v → Typed l → T (same_scalar v l) → (r : ValueRange) → SoundRange r → T (outside (scalar_to_f64 l) r) → T
    (ok_range (place_of v) r) → ⊥
literal-outside v l tv tl e r s = go (scalar_to_f64 l) refl
  where
    go : (n : Option Float) → scalar_to_f64 l ≡ n → T (outside n r) → T (ok_range (place_of v) r) → ⊥
    go None g t k = t
    go (Some x) g t k =
        let c = converts l x tl g in
        outside_no x c.number c.held r s t (subst (λ (p : Place). T (ok_range p r)) (same_place_lem v l e tv tl ∙ number-place l x tl g) k)
