-- Lists whose handles are all in another, and what may be left out of a list for that. Assumes nothing.
use Prim.Native.Nat.{ℕ}
use mathlib.Core.Path.{◌≡◌, refl, sym, ap, ◌∙◌}
use mathlib.Core.Bool.{Bool, true, false, cond, ◌||◌, or_assoc}
use mathlib.Core.List.{List, [], ◌∷◌, ◌++◌}
use mathlib.Core.Logic.{inl, inr, ⊎_elim}
use native.Mathlib.Omega.{arith}
use lib.Dec.{eqb}
use borrow.Author.Tests.{eq-eqb}
use Rattle.laws.proofs.Bools.{or_inl, or_inr, or_cases, and_both}
use Rattle.apply_shared.specs.Thinned.{is_in, Thinned}
use Rattle.apply_shared.specs.Turns.{Within}

pub contrary : {A : Type 0} (t : Bool) → t ≡ false → t ≡ true → A
contrary t f e = absurd (let z : ◌≡◌ {A = ℕ} 0 1 = ap (λ (y : Bool). cond {A = ℕ} y 1 0) (sym f ∙ e) in omega arith)

in_none : (h : ℕ) → is_in h [] ≡ false
unfolding is_in
in_none h = refl

in_append : (h : ℕ) (xs ys : List ℕ) → is_in h (xs ++ ys) ≡ (is_in h xs || is_in h ys)
unfolding is_in
in_append h [] ys = refl
in_append h (x ∷ xs) ys = ap (λ (t : Bool). eqb x h || t) (in_append h xs ys) ∙ sym (or_assoc (eqb x h) (is_in h xs) (is_in h ys))

in_first : (x : ℕ) (xs : List ℕ) → is_in x (x ∷ xs) ≡ true
unfolding is_in
in_first x xs = or_inl (eqb x x) (is_in x xs) (eq-eqb x x refl)

pub within_none : (ys : List ℕ) → Within [] ys
within_none ys h p = contrary (is_in h []) (in_none h) p

pub within-left : (xs ys : List ℕ) → Within xs (xs ++ ys)
within-left xs ys h p = in_append h xs ys ∙ or_inl (is_in h xs) (is_in h ys) p

pub within-right : (xs ys : List ℕ) → Within ys (xs ++ ys)
within-right xs ys h p = in_append h xs ys ∙ or_inr (is_in h xs) (is_in h ys) p

pub within_both : (xs ys zs : List ℕ) → Within xs zs → Within ys zs → Within (xs ++ ys) zs
within_both xs ys zs f g h p = ⊎_elim (f h) (g h) (or_cases (is_in h xs) (is_in h ys) (sym (in_append h xs ys) ∙ p))

within-tail : (x : ℕ) (xs ys : List ℕ) → Within (x ∷ xs) ys → Within xs ys
unfolding is_in
within-tail x xs ys f h p = f h (or_inr (eqb x h) (is_in h xs) p)

-- ---- a part that stands before and comes again may be left out
pub thin_drop : (old xs ys ks : List ℕ) → Within xs old → Within xs ys → Thinned old ys ks → Thinned old (xs ++ ys) ks
thin_drop old [] ys ks f g t = t
thin_drop old (x ∷ xs) ys ks f g t =
    inl (
      and_both (is_in x old) (is_in x (xs ++ ys)) (f x (in_first x xs)) (within-right xs ys x (g x (in_first x xs))),
      thin_drop old xs ys ks (within-tail x xs old f) (within-tail x xs ys g) t,
    )

-- and a handle may be kept
pub thin_keep : (old : List ℕ) (h : ℕ) (hs ks : List ℕ) → Thinned (old ++ (h ∷ [])) hs ks → Thinned old (h ∷ hs) (h ∷ ks)
thin_keep old h hs ks t = inr (record { others = ks; is = refl; rest = t })
