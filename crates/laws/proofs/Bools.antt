-- Laws of Bool: what a test of two parts says of each, in the form `≡ true` and in the form `T`; and a choice by a Bool. Assumes nothing.
use Prim.Native.Nat.{ℕ, ◌≤◌}
use mathlib.Core.Path.{◌≡◌, refl, sym, ◌∙◌}
use mathlib.Core.Bool.{Bool, true, false, cond, not, ◌&&◌, ◌||◌, true≢false, false≢true}
use mathlib.Core.Logic.{◌⊎◌, inl, inr}
use native.Mathlib.Omega.{arith}
use lib.Dec.{T}

-- ---- both
pub and_left : (a b : Bool) → (a && b) ≡ true → a ≡ true
and_left true b e = refl
and_left false b e = e

pub and_right : (a b : Bool) → (a && b) ≡ true → b ≡ true
and_right true b e = e
and_right false b e = absurd (false≢true e)

pub and_both : (a b : Bool) → a ≡ true → b ≡ true → (a && b) ≡ true
and_both a b p q = rw (p, q)

-- of four
pub and4_first : (a b c d : Bool) → (((a && b) && c) && d) ≡ true → a ≡ true
and4_first a b c d e = and_left a b (and_left (a && b) c (and_left ((a && b) && c) d e))

pub and4_second : (a b c d : Bool) → (((a && b) && c) && d) ≡ true → b ≡ true
and4_second a b c d e = and_right a b (and_left (a && b) c (and_left ((a && b) && c) d e))

-- ---- one or the other
pub or_inl : (a b : Bool) → a ≡ true → (a || b) ≡ true
or_inl a b e = rw e

pub or_inr : (a b : Bool) → b ≡ true → (a || b) ≡ true
or_inr true b e = refl
or_inr false b e = e

pub or_cases : (a b : Bool) → (a || b) ≡ true → (a ≡ true) ⊎ (b ≡ true)
or_cases true b e = inl refl
or_cases false b e = inr e

pub or_elim : {X : Type 0} (a b : Bool) → (a || b) ≡ true → (a ≡ true → X) → (b ≡ true → X) → X
or_elim true b e f g = f refl
or_elim false b e f g = g e

pub or_resolve_left : (a b : Bool) → a ≡ false → (a || b) ≡ true → b ≡ true
or_resolve_left true b f e = absurd (true≢false f)
or_resolve_left false b f e = e

pub or_neg_resolve_left : (a b : Bool) → a ≡ true → (not a || b) ≡ true → b ≡ true
or_neg_resolve_left true b e h = h
or_neg_resolve_left false b e h = absurd (false≢true e)

-- ---- neither
pub or_false-left : (a b : Bool) → (a || b) ≡ false → a ≡ false
or_false-left true b e = e
or_false-left false b e = refl

pub or_false-right : (a b : Bool) → (a || b) ≡ false → b ≡ false
or_false-right true b e = absurd (true≢false e)
or_false-right false b e = e

pub ne-false-of-true : (b : Bool) → b ≡ true → b ≡ false → ⊥
ne-false-of-true b p q = true≢false (sym p ∙ q)

-- ---- the same in the form `T`
pub T_or_inl : (a b : Bool) → T a → T (a || b)
T_or_inl true b t = tt
T_or_inl false b t = absurd t

pub T_or_inr : (a b : Bool) → T b → T (a || b)
T_or_inr true b t = tt
T_or_inr false b t = t

pub T_or_elim : {X : Type 0} (a b : Bool) → T (a || b) → (T a → X) → (T b → X) → X
T_or_elim true b t f g = f tt
T_or_elim false b t f g = g t

pub T_or_neg_resolve_left : (a b : Bool) → T a → T (not a || b) → T b
T_or_neg_resolve_left true b t u = u
T_or_neg_resolve_left false b t u = absurd t

pub T_nor_left : (a b : Bool) → T (not (a || b)) → T (not a)
T_nor_left true b t = t
T_nor_left false b t = tt

pub T_nor_right : (a b : Bool) → T (not (a || b)) → T (not b)
T_nor_right true b t = absurd t
T_nor_right false b t = t

pub T_nor_intro : (a b : Bool) → T (not a) → T (not b) → T (not (a || b))
T_nor_intro true b s t = s
T_nor_intro false b s t = t

-- ---- a choice
pub cond_same : {A : Type 0} (t : Bool) (x : A) → cond t x x ≡ x
cond_same true x = refl
cond_same false x = refl

pub cond-apply : {A B : Type 0} (g : A → B) (t : Bool) (x y : A) → g (cond t x y) ≡ cond t (g x) (g y)
cond-apply g true x y = refl
cond-apply g false x y = refl

pub cond_elim : {A : Type 0} (P : A → Type 0) (b : Bool) (x y : A) → (b ≡ true → P x) → (b ≡ false → P y) → P (cond b x y)
cond_elim P true x y f g = f refl
cond_elim P false x y f g = g refl

pub cond_T_elim : {A : Type 0} (P : A → Type 0) (b : Bool) (x y : A) → (T b → P x) → P y → P (cond b x y)
cond_T_elim P true x y f q = f tt
cond_T_elim P false x y f q = q

pub cond-one_le : (b : Bool) → cond {A = ℕ} b 1 0 ≤ 1
cond-one_le true = omega arith
cond-one_le false = omega arith
