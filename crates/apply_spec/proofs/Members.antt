-- Properties of every member of a list. Assumes nothing.
use mathlib.Core.Path.{sym, subst}
use mathlib.Core.List.{List, [], ◌∷◌, ◌++◌}
use Prim.Native.Nat.{ℕ, zero, suc, ◌+◌, ◌<◌}
use native.Mathlib.Omega.{arith}
use lib.ListN.{get_or, take, drop}
use lib.Seq.{get_or-drop}
use Rattle.apply_spec.specs.Meaning.{AllOf}

module _ {A : Type 0} (P : A → Type 0) where
  -- of two lists one after the other, and back
  pub all_append : (l m : List A) → AllOf P l → AllOf P m → AllOf P (l ++ m)
  all_append [] m p q = q
  all_append (x ∷ l) m p q = (p.0, all_append l m p.1 q)

  pub all_left : (l m : List A) → AllOf P (l ++ m) → AllOf P l
  all_left [] m p = tt
  all_left (x ∷ l) m p = (p.0, all_left l m p.1)

  pub all_right : (l m : List A) → AllOf P (l ++ m) → AllOf P m
  all_right [] m p = p
  all_right (x ∷ l) m p = all_right l m p.1

  -- a property that follows
  pub all_map : (Q : A → Type 0) → ((x : A) → P x → Q x) → (l : List A) → AllOf P l → AllOf Q l
  all_map Q f [] p = tt
  all_map Q f (x ∷ l) p = (f x p.0, all_map Q f l p.1)

  -- by the numbers of the members
  pub all_take : (d : A) (n : ℕ) (l : List A) → ((j : ℕ) → j < n → P (get_or l j d)) → AllOf P (take n l)
  all_take d zero l f = tt
  all_take d (suc n) [] f = tt
  all_take d (suc n) (x ∷ l) f = (f 0 (omega arith), all_take d n l (λ j h. f (suc j) (omega arith)))

  -- the same of a run that starts further on
  pub all-run : (d : A) (s n : ℕ) (l : List A) → ((j : ℕ) → j < n → P (get_or l (s + j) d)) → AllOf P (take n (drop s l))
  all-run d s n l f = all_take d n (drop s l) (λ j h. subst P (sym (get_or-drop s l j d)) (f j h))
