-- A number is within a tightened range exactly when it was within the range and meets the new bound; an empty range holds no number; bounds stay finite.
-- One law for both ends. Assumes nothing.
use mathlib.Core.Path.{◌≡◌, refl, sym, ap, ap₂, ◌∙◌, subst}
use mathlib.Core.Bool.{Bool, true, false, not, ◌&&◌, ◌||◌, cond, and_assoc, and_comm}
use lib.Dec.{T, not_T}
use lib.IntN.{ℤ}
use lib.Signed.{lt_z, le_z}
use lib.Ieee.{Float, binary64, lt, eq, fits}
use lib.Ieee.Bits.{is_true, is_false}
use lib.Ieee.Fits.{and_l, and_r}
use Rattle.laws.proofs.Bools.{T_or_elim, T_nor_left, T_nor_right, T_or_neg_resolve_left, cond-apply, cond_same}
use Rattle.scalar.specs.Exact.{eq_z, finite, exact_in}
use Rattle.scalar.proofs.ExactLaws.{lt-exact, eq-exact}
use Rattle.scalar.proofs.WholeLaws.{eq_z→eq, eq_z_comm, le_lt, lt_le, lt→le, other_way, irrefl}
use Rattle.value_range.specs.Ranges.{unbounded_range, bound_at, takes_lower, takes_upper, tighten_lower, tighten_upper, empty_range, up_to, meets_lower}
use Rattle.value_range.specs.Ranges.{meets_upper, within, Sound, SoundRange}
use Rattle.value_range.specs.declared.Bound.{Bound}
use Rattle.value_range.specs.declared.ValueRange.{ValueRange}

-- ---- tests
by_case : {X : Type 0} (a : Bool) → (T a → X) → (T (not a) → X) → X
by_case true f g = f tt
by_case false f g = g tt

and-absorbed-left : (a b : Bool) → (T b → T a) → b ≡ (a && b)
and-absorbed-left true b f = refl
and-absorbed-left false true f = absurd (f tt)
and-absorbed-left false false f = refl

and-absorbed-right : (a b : Bool) → (T a → T b) → a ≡ (a && b)
and-absorbed-right true true f = refl
and-absorbed-right true false f = absurd (f tt)
and-absorbed-right false b f = refl

-- ---- one law for both ends: an order, and the same the other way round
record Order (L E : ℤ → ℤ → Bool) : Type 0 where
  pub through : (a b c : ℤ) → T (E a b) → T (L b c) → T (L a c)
  pub weaker : (a b : ℤ) → T (L a b) → T (E a b)
  pub total : (a b : ℤ) → T (not (L a b)) → T (not (eq_z a b)) → T (L b a)

upwards : Order lt_z le_z
upwards = record { through = le_lt; weaker = lt→le; total = other_way }

downwards : Order (λ (a b : ℤ). lt_z b a) (λ (a b : ℤ). le_z b a)
downwards = record {
  through = λ a b c h k. lt_le c b a k h;
  weaker = λ a b h. lt→le b a h;
  total = λ a b h k. other_way b a h (subst (λ (e : Bool). T (not e)) (eq_z_comm a b) k);
}

abbrev ex : Float → ℤ
ex v = exact_in binary64 v

module _ (L E : ℤ → ℤ → Bool) (o : Order L E) where
  -- x keeps to y, at it where w is true
  abbrev keeps : Bool → ℤ → ℤ → Bool
  keeps w x y = cond w (E x y) (L x y)

  keeps_le : (w : Bool) (x y : ℤ) → T (keeps w x y) → T (E x y)
  keeps_le true x y t = t
  keeps_le false x y t = o.weaker x y t

  keeps-lt : (w : Bool) (x y : ℤ) → T (L x y) → T (keeps w x y)
  keeps-lt true x y t = o.weaker x y t
  keeps-lt false x y t = t

  at_same : (w i : Bool) (x y : ℤ) → T (w && not i) → T (keeps i x y) → T (keeps w x y)
  at_same true true x y t k = k
  at_same true false x y t k = o.weaker x y k
  at_same false i x y t k = absurd t

  at_same' : (w i : Bool) (x y : ℤ) → T (not (w && not i)) → T (keeps w x y) → T (keeps i x y)
  at_same' true true x y t k = k
  at_same' true false x y t k = absurd t
  at_same' false true x y t k = o.weaker x y k
  at_same' false false x y t k = k

  -- a bound z that replaces y is tighter, and one that does not is looser
  tighter : (x y z : ℤ) (w i : Bool) → T (L z y || (eq_z z y && (w && not i))) → T (keeps i x z) → T (keeps w x y)
  tighter x y z w i t k =
      T_or_elim (L z y) (eq_z z y && (w && not i)) t
      (λ l. keeps-lt w x y (o.through x z y (keeps_le i x z k) l))
      (λ e.
      let p : z ≡ y = eq_z→eq z y (and_l (eq_z z y) (w && not i) e) in
      at_same w i x y (and_r (eq_z z y) (w && not i) e) (subst (λ (u : ℤ). T (keeps i x u)) p k))

  looser : (x y z : ℤ) (w i : Bool) → T (not (L z y || (eq_z z y && (w && not i)))) → T (keeps w x y) → T (keeps i x z)
  looser x y z w i t k =
      let n = T_nor_left (L z y) (eq_z z y && (w && not i)) t in
      by_case (eq_z z y)
      (λ e.
      let p : z ≡ y = eq_z→eq z y e in
      subst (λ (u : ℤ). T (keeps i x u)) (sym p)
      (at_same' w i x y (subst (λ (b : Bool). T (not (b && (w && not i)))) (is_true (eq_z z y) e) (T_nor_right (L z y) (eq_z z y && (w && not i)) t)) k))
      (λ d. keeps-lt i x z (o.through x y z (keeps_le w x y k) (o.total z y n d)))

  -- an end of a range, where F is the order on floats: v replaces the bound there or does not
  module _ (F : Float → Float → Bool)
      (exact : (x y : Float) → T (finite x) → T (finite y) → T (fits binary64 x) → T (fits binary64 y) → F x y ≡ L (ex x) (ex y))
      (x : ℤ) (v : Float) (i : Bool) (fv : T (finite v)) (hv : T (fits binary64 v)) where
    abbrev takes : Bool → Bool → Float → Bool
    takes p w c = not p || (F v c || (eq v c && (w && not i)))

    abbrev meets : Bool → Bool → Float → Bool
    meets p w c = not p || keeps w x (ex c)

    abbrev Finite : Bool → Float → Type 0
    Finite p c = T p → T (finite c) × T (fits binary64 c)

    -- the test that the code makes, on exact values
    test : (w : Bool) (c : Float) → T (finite c) × T (fits binary64 c) → (F v c || (eq v c && (w && not i)))
        ≡ (L (ex v) (ex c) || (eq_z (ex v) (ex c) && (w && not i)))
    test w c f = ap₂ (λ (l e : Bool). l || (e && (w && not i))) (exact v c fv f.0 hv f.1) (eq-exact binary64 v c fv f.0 hv f.1)

    taken : (p w : Bool) (c : Float) → Finite p c → T (takes p w c) → T (keeps i x (ex v)) → T (meets p w c)
    taken false w c f t k = tt
    taken true w c f t k = tighter x (ex c) (ex v) w i (subst T (test w c (f tt)) t) k

    left : (p w : Bool) (c : Float) → Finite p c → T (not (takes p w c)) → T (meets p w c) → T (keeps i x (ex v))
    left false w c f t k = absurd t
    left true w c f t k = looser x (ex c) (ex v) w i (subst (λ (b : Bool). T (not b)) (test w c (f tt)) t) k

    abbrev meets_bound : Bound → Bool
    meets_bound b = meets b.present b.inclusive b.value

    tightened : (b : Bound) → Sound b → meets_bound (cond (takes b.present b.inclusive b.value) (bound_at v i) b) ≡ (meets_bound b && keeps i x (ex v))
    tightened b s = go (takes b.present b.inclusive b.value) (taken b.present b.inclusive b.value s)
        (left b.present b.inclusive b.value s)
      where
        go : (t : Bool) → (T t → T (keeps i x (ex v)) → T (meets_bound b)) → (T (not t) → T (meets_bound b) → T (keeps i x (ex v))) → meets_bound
            (cond t (bound_at v i) b) ≡ (meets_bound b && keeps i x (ex v))
        go true f g = and-absorbed-left (meets_bound b) (keeps i x (ex v)) (f tt)
        go false f g = and-absorbed-right (meets_bound b) (keeps i x (ex v)) (g tt)

-- a bound that is taken or left is finite
sound-end : (t : Bool) (v : Float) (i : Bool) (b : Bound) → T (finite v) → T (fits binary64 v) → Sound b → Sound (cond t (bound_at v i) b)
sound-end true v i b fv hv s = λ p. (fv, hv)
sound-end false v i b fv hv s = s

-- ---- tightening
module _ (v : Float) (i : Bool) (r : ValueRange) where
  upper_end : (tighten_upper r v i).upper ≡ cond (takes_upper r.upper v i) (bound_at v i) r.upper
  upper_end = cond-apply (λ (s : ValueRange). s.upper) (takes_upper r.upper v i) (record { lower = r.lower; upper = bound_at v i }) r

  lower-end : (tighten_lower r v i).lower ≡ cond (takes_lower r.lower v i) (bound_at v i) r.lower
  lower-end = cond-apply (λ (s : ValueRange). s.lower) (takes_lower r.lower v i) (record { lower = bound_at v i; upper = r.upper }) r

  -- the other bound stays
  pub upper_keeps : (tighten_upper r v i).lower ≡ r.lower
  upper_keeps = cond-apply (λ (s : ValueRange). s.lower) (takes_upper r.upper v i) (record { lower = r.lower; upper = bound_at v i }) r ∙ cond_same
      (takes_upper r.upper v i) r.lower

  pub lower-keeps : (tighten_lower r v i).upper ≡ r.upper
  lower-keeps = cond-apply (λ (s : ValueRange). s.upper) (takes_lower r.lower v i) (record { lower = bound_at v i; upper = r.upper }) r ∙ cond_same
      (takes_lower r.lower v i) r.upper

  module _ (fv : T (finite v)) (hv : T (fits binary64 v)) where
    -- a finite bound keeps an end, and so a range, of finite bounds one
    pub upper_end-sound : Sound r.upper → Sound (tighten_upper r v i).upper
    upper_end-sound s = subst Sound (sym upper_end) (sound-end (takes_upper r.upper v i) v i r.upper fv hv s)

    pub lower-end-sound : Sound r.lower → Sound (tighten_lower r v i).lower
    lower-end-sound s = subst Sound (sym lower-end) (sound-end (takes_lower r.lower v i) v i r.lower fv hv s)

    pub upper_sound : SoundRange r → SoundRange (tighten_upper r v i)
    upper_sound s = (subst Sound (sym upper_keeps) s.0, upper_end-sound s.1)

    pub lower-sound : SoundRange r → SoundRange (tighten_lower r v i)
    lower-sound s = (lower-end-sound s.0, subst Sound (sym lower-keeps) s.1)

    -- the tightened bound asks what the old one and the new one ask
    pub upper_tightened : (x : ℤ) → Sound r.upper → meets_upper x (tighten_upper r v i).upper ≡ (meets_upper x r.upper && up_to i x (exact_in binary64 v))
    upper_tightened x s = ap (meets_upper x) upper_end ∙ tightened lt_z le_z upwards lt (lt-exact binary64) x v i fv hv r.upper s

    pub lower-tightened : (x : ℤ) → Sound r.lower → meets_lower x (tighten_lower r v i).lower ≡ (meets_lower x r.lower && up_to i (exact_in binary64 v) x)
    lower-tightened x s =
        ap (meets_lower x) lower-end
        ∙ tightened (λ (a b : ℤ). lt_z b a) (λ (a b : ℤ). le_z b a) downwards (λ (a b : Float). lt b a) (λ y z p q h k. lt-exact binary64 z y q p k h) x v i fv
        hv r.lower s

    -- within the tightened range is what was within the range and meets the new bound
    pub within_upper : (x : ℤ) → SoundRange r → within x (tighten_upper r v i) ≡ (within x r && up_to i x (exact_in binary64 v))
    within_upper x s =
        ap₂ (λ (l : Bound) (m : Bool). meets_lower x l && m) upper_keeps (upper_tightened x s.1)
        ∙ sym (and_assoc (meets_lower x r.lower) (meets_upper x r.upper) (up_to i x (ex v)))

    pub within-lower : (x : ℤ) → SoundRange r → within x (tighten_lower r v i) ≡ (within x r && up_to i (exact_in binary64 v) x)
    within-lower x s =
        ap₂ (λ (m : Bool) (u : Bound). m && meets_upper x u) (lower-tightened x s.0) lower-keeps
        ∙ swap (meets_lower x r.lower) (up_to i (ex v) x) (meets_upper x r.upper)
      where
        swap : (a b c : Bool) → (a && b && c) ≡ (a && c && b)
        swap true b c = and_comm b c
        swap false b c = refl

-- ---- the range without bounds holds every number
pub within_unbounded : (x : ℤ) → within x unbounded_range ≡ true
within_unbounded x = refl

pub unbounded_sound : SoundRange unbounded_range
unbounded_sound = (λ p. absurd p, λ p. absurd p)

-- ---- an empty range holds none
pub up_to_le : (w : Bool) (x y : ℤ) → T (up_to w x y) → T (le_z x y)
up_to_le true x y t = t
up_to_le false x y t = lt→le x y t

-- a keeps below x and x below a, and not both may meet
gap : (p q : Bool) (a x : ℤ) → T (not (p && q)) → T (up_to p a x) → T (up_to q x a) → ⊥
gap true true a x n h k = n
gap true false a x n h k = irrefl a (le_lt a x a h k)
gap false q a x n h k = irrefl a (lt_le a x a h (up_to_le q x a k))

admits : (x a b : ℤ) (p q : Bool) → T (lt_z b a || (eq_z a b && not (p && q))) → T (up_to p a x) → T (up_to q x b) → ⊥
admits x a b p q t h k =
    T_or_elim (lt_z b a) (eq_z a b && not (p && q)) t
    (λ l. irrefl x (le_lt x b x (up_to_le q x b k) (lt_le b a x l (up_to_le p a x h))))
    (λ e. gap p q a x (and_r (eq_z a b) (not (p && q)) e) h (subst (λ (u : ℤ). T (up_to q x u)) (sym (eq_z→eq a b (and_l (eq_z a b) (not (p && q)) e))) k))

pub nothing-within : (x : ℤ) (r : ValueRange) → SoundRange r → empty_range r ≡ true → within x r ≡ false
nothing-within x r s e = is_false (within x r) (not_T (within x r) (λ m. go (subst T (sym e) tt) m))
  where
    go : T (empty_range r) → T (within x r) → ⊥
    go t m =
        let l = r.lower in
        let u = r.upper in
        let cross = lt u.value l.value || (eq l.value u.value && not (l.inclusive && u.inclusive)) in
        let tl = and_l l.present (u.present && cross) t in
        let rest = and_r l.present (u.present && cross) t in
        let tu = and_l u.present cross rest in
        let fl = s.0 tl in
        let fu = s.1 tu in
        let test = subst T
        (ap₂ (λ (a b : Bool). a || (b && not (l.inclusive && u.inclusive)))
        (lt-exact binary64 u.value l.value fu.0 fl.0 fu.1 fl.1)
        (eq-exact binary64 l.value u.value fl.0 fu.0 fl.1 fu.1))
        (and_r u.present cross rest) in
        admits x (ex l.value) (ex u.value) l.inclusive u.inclusive test
        (T_or_neg_resolve_left l.present (up_to l.inclusive (ex l.value) x) tl (and_l (meets_lower x l) (meets_upper x u) m))
        (T_or_neg_resolve_left u.present (up_to u.inclusive x (ex u.value)) tu (and_r (meets_lower x l) (meets_upper x u) m))
