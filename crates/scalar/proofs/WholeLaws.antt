-- Whole numbers: the test for equality decides it, the order is total, transitive and irreflexive, and a signed number is what its bits say. Assumes nothing.
use mathlib.Core.Path.{◌≡◌, refl, sym, ap, ap₂, ◌∙◌, subst}
use mathlib.Core.Bool.{Bool, true, false, not, ◌||◌}
use Prim.Native.Nat.{ℕ}
use native.Mathlib.Omega.{arith}
use lib.Dec.{T, T_not, eqb, leb→le, le→leb, ltb→lt, lt→ltb, nltb→le, eqb→eq, eqb_refl}
use lib.IntN.{ℤ, pos, negsuc}
use lib.Signed.{lt_z, le_z, lt_z_yes, <ℤ_irrefl}
use lib.Ieee.Fits.{eq→eqb}
use lib.Ieee.Bits.{is_true}
use mir.Syntax.{Width}
use mir.Val.{of_z, to_z, SFits}
use mir.ValLaws.{to_z-of_z}
use Rattle.scalar.specs.Exact.{eq_z}

-- two tests of which each passes where the other does are the same
pub iff : (x y : Bool) → (T x → T y) → (T y → T x) → x ≡ y
iff true true f g = refl
iff true false f g = absurd (f tt)
iff false true f g = absurd (g tt)
iff false false f g = refl

-- ---- equality
pub eq_z→eq : (a b : ℤ) → T (eq_z a b) → a ≡ b
eq_z→eq (pos a) (pos b) t = ap pos (eqb→eq a b t)
eq_z→eq (pos a) (negsuc b) t = absurd t
eq_z→eq (negsuc a) (pos b) t = absurd t
eq_z→eq (negsuc a) (negsuc b) t = ap negsuc (eqb→eq a b t)

pub eq_z-refl : (a : ℤ) → T (eq_z a a)
eq_z-refl (pos a) = eqb_refl a
eq_z-refl (negsuc a) = eqb_refl a

pub eq→eq_z : (a b : ℤ) → a ≡ b → T (eq_z a b)
eq→eq_z a b e = subst (λ (z : ℤ). T (eq_z a z)) e (eq_z-refl a)

pub eq_z_comm : (a b : ℤ) → eq_z a b ≡ eq_z b a
eq_z_comm a b = iff (eq_z a b) (eq_z b a) (λ t. eq→eq_z b a (sym (eq_z→eq a b t))) (λ t. eq→eq_z a b (sym (eq_z→eq b a t)))

-- ---- order
neqb→ne : (a b : ℕ) → T (not (eqb a b)) → a ≡ b → ⊥
neqb→ne a b h e = T_not (eqb a b) h (eq→eqb e)

pub le_lt : (a b c : ℤ) → T (le_z a b) → T (lt_z b c) → T (lt_z a c)
le_lt (pos a) (pos b) (pos c) h k = lt→ltb a c (omega (arith, leb→le a b h, ltb→lt b c k))
le_lt (pos a) (pos b) (negsuc c) h k = k
le_lt (pos a) (negsuc b) c h k = absurd h
le_lt (negsuc a) (pos b) (pos c) h k = tt
le_lt (negsuc a) (pos b) (negsuc c) h k = absurd k
le_lt (negsuc a) (negsuc b) (pos c) h k = tt
le_lt (negsuc a) (negsuc b) (negsuc c) h k = lt→ltb c a (omega (arith, leb→le b a h, ltb→lt c b k))

pub lt_le : (a b c : ℤ) → T (lt_z a b) → T (le_z b c) → T (lt_z a c)
lt_le (pos a) (pos b) (pos c) h k = lt→ltb a c (omega (arith, ltb→lt a b h, leb→le b c k))
lt_le (pos a) (pos b) (negsuc c) h k = k
lt_le (pos a) (negsuc b) c h k = absurd h
lt_le (negsuc a) (pos b) (pos c) h k = tt
lt_le (negsuc a) (pos b) (negsuc c) h k = absurd k
lt_le (negsuc a) (negsuc b) (pos c) h k = tt
lt_le (negsuc a) (negsuc b) (negsuc c) h k = lt→ltb c a (omega (arith, ltb→lt b a h, leb→le c b k))

pub lt→le : (a b : ℤ) → T (lt_z a b) → T (le_z a b)
lt→le (pos a) (pos b) h = le→leb a b (omega (arith, ltb→lt a b h))
lt→le (pos a) (negsuc b) h = h
lt→le (negsuc a) (pos b) h = tt
lt→le (negsuc a) (negsuc b) h = le→leb b a (omega (arith, ltb→lt b a h))

pub other_way : (a b : ℤ) → T (not (lt_z a b)) → T (not (eq_z a b)) → T (lt_z b a)
other_way (pos a) (pos b) h k = lt→ltb b a (omega (arith, nltb→le a b h, neqb→ne a b k))
other_way (pos a) (negsuc b) h k = tt
other_way (negsuc a) (pos b) h k = absurd h
other_way (negsuc a) (negsuc b) h k = lt→ltb a b (omega (arith, nltb→le b a h, neqb→ne a b k))

pub irrefl : (a : ℤ) → T (lt_z a a) → ⊥
irrefl a h = <ℤ_irrefl {a = a} (lt_z_yes h)

-- of two numbers one is below the other, or they are the same
pub one_of : (a b : ℤ) → (lt_z a b || (eq_z a b || lt_z b a)) ≡ true
one_of a b = go (lt_z a b) (eq_z a b) (other_way a b)
  where
    go : (p q : Bool) → (T (not p) → T (not q) → T (lt_z b a)) → (p || (q || lt_z b a)) ≡ true
    go true q f = refl
    go false true f = refl
    go false false f = is_true (lt_z b a) (f tt tt)

-- ---- bits
-- two signed numbers have the same bits where they are the same
pub bits-eq : (w : Width) (a b : ℤ) → SFits w a → SFits w b → eqb (of_z w a) (of_z w b) ≡ eq_z a b
bits-eq w a b p q = iff (eqb (of_z w a) (of_z w b)) (eq_z a b)
    (λ t. eq→eq_z a b (sym (to_z-of_z w a p) ∙ ap (to_z w) (eqb→eq (of_z w a) (of_z w b) t) ∙ to_z-of_z w b q))
    (λ t. eq→eqb (ap (of_z w) (eq_z→eq a b t)))

pub signed_lt : (w : Width) (a b : ℤ) → SFits w a → SFits w b → lt_z (to_z w (of_z w a)) (to_z w (of_z w b)) ≡ lt_z a b
signed_lt w a b p q = ap₂ lt_z (to_z-of_z w a p) (to_z-of_z w b q)
