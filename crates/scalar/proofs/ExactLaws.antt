-- A float's exact value: `<` and `==` on finite floats are those of the exact values, and a whole number that a cast takes is that many times 2 ^ low units.
-- Assumes nothing.
use mathlib.Core.Path.{◌≡◌, refl, sym, ap, ap₂, ◌∙◌}
use mathlib.Core.Bool.{Bool, true, false, not, ◌&&◌, ◌||◌, beq, and-true, and-false, and_self}
use Prim.Native.Nat.{ℕ, zero, suc, ◌+◌, ◌-◌, ◌*◌, ◌%◌, ◌^◌, ◌≤◌, ◌<◌}
use native.Mathlib.Nat.{lt_of_mul-lt-mul_right, mul-lt-mul_of_pos_right, eq_of_mul-eq-mul_right, add-mul, mul_right_comm, mul_assoc, mul_comm}
use native.Mathlib.Nat.{zero-mul, mul-one, zero-add, mul-pos, lt_irrefl, lt_of_lt_of_le}
use native.Mathlib.Omega.{arith}
use lib.Dec.{T, leb, ltb, eqb, lt→ltb, le→leb, ltb→lt, leb→le, eqb→eq, nleb→lt, leb-suc-zero, leb-suc-suc, leb-zero, eqb-zero-suc, eqb-suc-zero, eqb-suc-suc}
use lib.Pow.{pow-add, pow_pos, pow-lt}
use lib.IntN.{ℤ, pos, negsuc, ◌*ℤ◌}
use lib.Signed.{lt_z}
use lib.Ieee.{Float, nan, inf, fin, Format, binary64, prec, emax, low, up, down, below, level, lt, eq, fits, of_int, in_float, round}
use lib.Ieee.Fits.{eq→eqb, and_l, and_r, down_pos, of_int-fits}
use lib.Ieee.Digits.{back}
use lib.Ieee.Exact.{HasValue}
use lib.Ieee.Back.{round_whole}
use mir.Syntax.{w32}
use mir.Val.{SFits}
use Rattle.scalar.specs.Exact.{eq_z, finite, signed, units_at, exact_at, exact_in}
use Rattle.scalar.proofs.WholeLaws.{iff}

-- ---- a common factor changes no test
pub ltb_scale : (a b p : ℕ) → 0 < p → ltb (a * p) (b * p) ≡ ltb a b
ltb_scale a b p h = iff (ltb (a * p) (b * p)) (ltb a b)
    (λ t. lt→ltb a b (lt_of_mul-lt-mul_right p (ltb→lt (a * p) (b * p) t)))
    (λ t. lt→ltb (a * p) (b * p) (mul-lt-mul_of_pos_right (ltb→lt a b t) h))

pub eqb_scale : (a b p : ℕ) → 0 < p → eqb (a * p) (b * p) ≡ eqb a b
eqb_scale a b p h = iff (eqb (a * p) (b * p)) (eqb a b)
    (λ t. eq→eqb (eq_of_mul-eq-mul_right p h a b (eqb→eq (a * p) (b * p) t)))
    (λ t. eq→eqb (ap (λ (x : ℕ). x * p) (eqb→eq a b t)))

below_scale : (s : Bool) (a : ℕ) (t : Bool) (b p : ℕ) → 0 < p → below s (a * p) t (b * p) ≡ below s a t b
below_scale false a false b p h = ltb_scale a b p h
below_scale false a true b p h = refl
below_scale true a false b p h = ap₂ ltb (sym (zero-mul p)) (sym (add-mul a b p)) ∙ ltb_scale 0 (a + b) p h
below_scale true a true b p h = ltb_scale b a p h

level_scale : (s : Bool) (a : ℕ) (t : Bool) (b p : ℕ) → 0 < p → level s (a * p) t (b * p) ≡ level s a t b
level_scale s a t b p h =
    ap₂ (λ (x y : Bool). x && (beq s t || y)) (eqb_scale a b p h) (ap (λ (z : ℕ). eqb (a * p) z) (sym (zero-mul p)) ∙ eqb_scale a 0 p h)

-- ---- the tests on signs and sizes are those on whole numbers
below-signed : (s : Bool) (a : ℕ) (t : Bool) (b : ℕ) → below s a t b ≡ lt_z (signed s a) (signed t b)
below-signed false a false b = refl
below-signed false a true zero = sym (leb-suc-zero a)
below-signed false a true (suc b) = refl
below-signed true zero false b = ap (λ (x : ℕ). ltb 0 x) (zero-add b)
below-signed true (suc a) false b = iff (ltb 0 (suc a + b)) true (λ t. tt) (λ t. lt→ltb 0 (suc a + b) (omega arith))
below-signed true zero true zero = refl
below-signed true zero true (suc b) = leb-suc-zero (suc b)
below-signed true (suc a) true zero = leb-suc-suc 0 a ∙ leb-zero a
below-signed true (suc a) true (suc b) = leb-suc-suc (suc b) a

level-signed : (s : Bool) (a : ℕ) (t : Bool) (b : ℕ) → level s a t b ≡ eq_z (signed s a) (signed t b)
level-signed false a false b = and-true (eqb a b)
level-signed false a true zero = and_self (eqb a 0)
level-signed false zero true (suc b) = ap (λ (x : Bool). x && eqb 0 0) (eqb-zero-suc b)
level-signed false (suc a) true (suc b) = ap (λ (x : Bool). eqb (suc a) (suc b) && x) (eqb-suc-zero a) ∙ and-false (eqb (suc a) (suc b))
level-signed true zero false b = and-true (eqb 0 b)
level-signed true (suc a) false b = ap (λ (x : Bool). eqb (suc a) b && x) (eqb-suc-zero a) ∙ and-false (eqb (suc a) b)
level-signed true zero true zero = refl
level-signed true zero true (suc b) = and-true (eqb 0 (suc b)) ∙ eqb-zero-suc b
level-signed true (suc a) true zero = and-true (eqb (suc a) 0) ∙ eqb-suc-zero a
level-signed true (suc a) true (suc b) = and-true (eqb (suc a) (suc b)) ∙ eqb-suc-suc a b

-- ---- units
low-one : (d l : ℕ) → 1 * d ≡ 1 → 0 < l → d ≤ l
low-one d l e h = omega arith

fits-down : (f : Format) (s : Bool) (m : ℕ) (e : ℤ) → T (fits f (fin s m e)) → down e ≤ 2 ^ low f
unfolding fits
fits-down f s zero (pos k) t = pow_pos (low f)
fits-down f s zero (negsuc k) t = low-one (2 ^ suc k) (2 ^ low f) (eqb→eq (1 * 2 ^ suc k) 1 t) (pow_pos (low f))
fits-down f s (suc m) e t =
    leb→le (down e) (2 ^ low f) (and_r (eqb (suc m % 2) 1 && ltb (suc m) (2 ^ prec f)) (leb (down e) (2 ^ low f))
    (and_l (eqb (suc m % 2) 1 && ltb (suc m) (2 ^ prec f) && leb (down e) (2 ^ low f)) (ltb (suc m * up e) (2 ^ suc (emax f) * down e)) t))

exponent_le : (k l : ℕ) → 2 ^ suc k ≤ 2 ^ l → suc k ≤ l
exponent_le k l h = go (leb (suc k) l) (leb→le (suc k) l) (nleb→lt (suc k) l)
  where
    go : (b : Bool) → (T b → suc k ≤ l) → (T (not b) → l < suc k) → suc k ≤ l
    go true y n = y tt
    go false y n = absurd (lt_irrefl (2 ^ l) (lt_of_lt_of_le (pow-lt (n tt)) h))

-- the units of 2 ^ -l reach a float's last digit
abbrev pub Reaches : ℕ → Float → Type 0
Reaches l nan = Unit {0}
Reaches l (inf s) = Unit {0}
Reaches l (fin s m e) = down e ≤ 2 ^ l

pub fits-reaches : (f : Format) (x : Float) → T (fits f x) → Reaches (low f) x
fits-reaches f nan t = tt
fits-reaches f (inf s) t = tt
fits-reaches f (fin s m e) t = fits-down f s m e t

units_val : (l m : ℕ) (e : ℤ) → down e ≤ 2 ^ l → units_at l m e * down e ≡ m * up e * 2 ^ l
units_val l m (pos k) h = mul-one (m * 2 ^ (k + l)) ∙ ap (λ (x : ℕ). m * x) (pow-add 2 k l) ∙ sym (mul_assoc m (2 ^ k) (2 ^ l))
units_val l m (negsuc k) h =
    mul_assoc m (2 ^ (l - suc k)) (2 ^ suc k)
    ∙ ap (λ (x : ℕ). m * x) (sym (pow-add 2 (l - suc k) (suc k)) ∙ ap (λ (x : ℕ). 2 ^ x) (back l (suc k) (exponent_le k l h)))
    ∙ ap (λ (x : ℕ). x * 2 ^ l) (sym (mul-one m))

-- ---- `<` and `==` on finite floats
-- a / d in units, u of them, at the other's scale g
crossed : (a d g u l : ℕ) → u * d ≡ a * l → a * g * l ≡ u * (d * g)
crossed a d g u l h = mul_right_comm a g l ∙ ap (λ (x : ℕ). x * g) (sym h) ∙ mul_assoc u d g

-- two floats at one scale
module _ (l : ℕ) where
  pub lt_at : (x y : Float) → T (finite x) → T (finite y) → Reaches l x → Reaches l y → lt x y ≡ lt_z (exact_at l x) (exact_at l y)
  unfolding lt exact_at
  lt_at (fin s m e) (fin t n d) p q h k =
      let g = down e * down d in
      let u = units_at l m e in
      let v = units_at l n d in
      sym (below_scale s (m * up e * down d) t (n * up d * down e) (2 ^ l) (pow_pos l))
      ∙ ap₂ (λ (x y : ℕ). below s x t y)
      (crossed (m * up e) (down e) (down d) u (2 ^ l) (units_val l m e h))
      (crossed (n * up d) (down d) (down e) v (2 ^ l) (units_val l n d k) ∙ ap (λ (x : ℕ). v * x) (mul_comm (down d) (down e)))
      ∙ below_scale s u t v g (mul-pos (down_pos e) (down_pos d))
      ∙ below-signed s u t v
  lt_at nan y p q h k = elim p [ ]
  lt_at (inf _) y p q h k = elim p [ ]
  lt_at (fin s m e) nan p q h k = elim q [ ]
  lt_at (fin s m e) (inf _) p q h k = elim q [ ]

  pub eq-at : (x y : Float) → T (finite x) → T (finite y) → Reaches l x → Reaches l y → eq x y ≡ eq_z (exact_at l x) (exact_at l y)
  unfolding eq exact_at
  eq-at (fin s m e) (fin t n d) p q h k =
      let g = down e * down d in
      let u = units_at l m e in
      let v = units_at l n d in
      sym (level_scale s (m * up e * down d) t (n * up d * down e) (2 ^ l) (pow_pos l))
      ∙ ap₂ (λ (x y : ℕ). level s x t y)
      (crossed (m * up e) (down e) (down d) u (2 ^ l) (units_val l m e h))
      (crossed (n * up d) (down d) (down e) v (2 ^ l) (units_val l n d k) ∙ ap (λ (x : ℕ). v * x) (mul_comm (down d) (down e)))
      ∙ level_scale s u t v g (mul-pos (down_pos e) (down_pos d))
      ∙ level-signed s u t v
  eq-at nan y p q h k = elim p [ ]
  eq-at (inf _) y p q h k = elim p [ ]
  eq-at (fin s m e) nan p q h k = elim q [ ]
  eq-at (fin s m e) (inf _) p q h k = elim q [ ]

module _ (f : Format) where
  -- `<` and `==` on finite floats of a format are order and equality of the exact values
  pub lt-exact : (x y : Float) → T (finite x) → T (finite y) → T (fits f x) → T (fits f y) → lt x y ≡ lt_z (exact_in f x) (exact_in f y)
  lt-exact x y p q h k = lt_at (low f) x y p q (fits-reaches f x h) (fits-reaches f y k)

  pub eq-exact : (x y : Float) → T (finite x) → T (finite y) → T (fits f x) → T (fits f y) → eq x y ≡ eq_z (exact_in f x) (exact_in f y)
  eq-exact x y p q h k = eq-at (low f) x y p q (fits-reaches f x h) (fits-reaches f y k)

  -- ---- whole numbers
  exact_val : (x : Float) (s : Bool) (n : ℕ) → T (fits f x) → HasValue x s n 1 → exact_in f x ≡ signed s (n * 2 ^ low f)
  unfolding exact_at
  exact_val (fin t m e) s n h v =
      ap₂ signed v.0
      (eq_of_mul-eq-mul_right (down e) (down_pos e) (units_at (low f) m e) (n * 2 ^ low f)
      (units_val (low f) m e (fits-down f t m e h)
      ∙ ap (λ (x : ℕ). x * 2 ^ low f) (sym (mul-one (m * up e)) ∙ v.1)
      ∙ mul_right_comm n (down e) (2 ^ low f)))
  exact_val nan s n h v = elim v [ ]
  exact_val (inf _) s n h v = elim v [ ]

  pub exact_of_int : (z : ℤ) → T (in_float f z) → exact_in f (of_int f z) ≡ z *ℤ pos (2 ^ low f)
  unfolding of_int in_float
  exact_of_int (pos n) t = exact_val (round f false n 1) false n (of_int-fits f (pos n)) (round_whole f false n (leb→le n (2 ^ prec f) t))
  exact_of_int (negsuc n) t = exact_val (round f true (suc n) 1) true (suc n) (of_int-fits f (negsuc n)) (round_whole f true (suc n) (ltb→lt n (2 ^ prec f) t))

-- a common factor changes no test on whole numbers
pub lt_z_scale : (a b : ℤ) (p : ℕ) → 0 < p → lt_z (a *ℤ pos p) (b *ℤ pos p) ≡ lt_z a b
lt_z_scale (pos a) (pos b) p h = ltb_scale a b p h
lt_z_scale (pos a) (negsuc b) p h = sym (below-signed false (a * p) true (suc b * p))
lt_z_scale (negsuc a) (pos b) p h = sym (below-signed true (suc a * p) false (b * p)) ∙ below_scale true (suc a) false b p h ∙ below-signed true (suc a) false b
lt_z_scale (negsuc a) (negsuc b) p h = sym (below-signed true (suc a * p) true (suc b * p)) ∙ below_scale true (suc a) true (suc b) p h ∙ below-signed true
    (suc a) true (suc b)

pub eq_z_scale : (a b : ℤ) (p : ℕ) → 0 < p → eq_z (a *ℤ pos p) (b *ℤ pos p) ≡ eq_z a b
eq_z_scale (pos a) (pos b) p h = eqb_scale a b p h
eq_z_scale (pos a) (negsuc b) p h = sym (level-signed false (a * p) true (suc b * p)) ∙ level_scale false a true (suc b) p h ∙ level-signed false a true (suc b)
eq_z_scale (negsuc a) (pos b) p h = sym (level-signed true (suc a * p) false (b * p)) ∙ level_scale true (suc a) false b p h ∙ level-signed true (suc a) false b
eq_z_scale (negsuc a) (negsuc b) p h = sym (level-signed true (suc a * p) true (suc b * p)) ∙ level_scale true (suc a) true (suc b) p h ∙ level-signed true
    (suc a) true (suc b)

-- a whole number as a float is finite
whole-finite : (x : Float) (s : Bool) (n : ℕ) → HasValue x s n 1 → T (finite x)
whole-finite (fin t m e) s n v = tt
whole-finite nan s n v = elim v [ ]
whole-finite (inf _) s n v = elim v [ ]

pub of_int_finite : (f : Format) (z : ℤ) → T (in_float f z) → T (finite (of_int f z))
unfolding of_int in_float
of_int_finite f (pos n) t = whole-finite (round f false n 1) false n (round_whole f false n (leb→le n (2 ^ prec f) t))
of_int_finite f (negsuc n) t = whole-finite (round f true (suc n) 1) true (suc n) (round_whole f true (suc n) (ltb→lt n (2 ^ prec f) t))

-- whole numbers that are cast compare as they did
module _ (f : Format) (a b : ℤ) (p : T (in_float f a)) (q : T (in_float f b)) where
  pub lt_of_int : lt (of_int f a) (of_int f b) ≡ lt_z a b
  lt_of_int =
      lt-exact f (of_int f a) (of_int f b) (of_int_finite f a p) (of_int_finite f b q) (of_int-fits f a) (of_int-fits f b)
      ∙ ap₂ lt_z (exact_of_int f a p) (exact_of_int f b q) ∙ lt_z_scale a b (2 ^ low f) (pow_pos (low f))

  pub eq_of_int : eq (of_int f a) (of_int f b) ≡ eq_z a b
  eq_of_int =
      eq-exact f (of_int f a) (of_int f b) (of_int_finite f a p) (of_int_finite f b q) (of_int-fits f a) (of_int-fits f b)
      ∙ ap₂ eq_z (exact_of_int f a p) (exact_of_int f b q) ∙ eq_z_scale a b (2 ^ low f) (pow_pos (low f))

-- every i32 is such a number
pub i32_in_float : (z : ℤ) → SFits w32 z → T (in_float binary64 z)
unfolding in_float
i32_in_float (pos n) h = le→leb n (2 ^ 53) (omega (arith, h.sfits))
i32_in_float (negsuc n) h = lt→ltb n (2 ^ 53) (omega (arith, h.sfits))
