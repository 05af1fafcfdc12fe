-- A pass that puts what a list has of each identity at its representative in a new list, place by place, over any kind of content. Assumes nothing.
use mathlib.Core.Path.{◌≡◌, refl, sym, ap, ◌∙◌, subst}
use mathlib.Core.Bool.{Bool, true, false, cond, ◌||◌}
use mathlib.Core.List.{List}
use mathlib.Core.Logic.{◌⊎◌, ⊎_elim}
use Prim.Native.Nat.{ℕ, zero, suc, ◌≤◌, ◌<◌}
use native.Mathlib.Decide.{ℕ_discrete}
use native.Mathlib.Omega.{arith}
use borrow.Author.Tests.{eq-eqb, ne_eqb}
use lib.Dec.{eqb}
use lib.ListN.{length, get_or, set, replicate, length-set, length-replicate, get_or-replicate}
use lib.Seq.{get_or-set_same, get_or-set_other, ext_get_or}
use Rattle.laws.proofs.Bools.{or_inr, or_inl, cond_T_elim}
use Rattle.constraint_set.specs.Settled.{Stands, moved_to}

-- ---- flags
pub or_keeps : (f x : Bool) → (x ≡ true → f ≡ true) → (f || x) ≡ f
or_keeps true x h = refl
or_keeps false true h = sym (h refl) ∙ refl
or_keeps false false h = refl

same_cond : {A : Type 0} (b c : Bool) (x y : A) → x ≡ y → cond b x y ≡ cond c x y
same_cond true true x y e = refl
same_cond true false x y e = e
same_cond false true x y e = sym e
same_cond false false x y e = refl

-- ---- the pass
module _ {A : Type 0} (none : A) (put : A → A → A) (root : ℕ → ℕ) (d : A) (l : List A) where
  -- what has come to the place r from the first k identities
  unfoldable pub gathered : ℕ → ℕ → A
  gathered r zero = none
  gathered r (suc k) = cond (eqb (root k) r) (put (gathered r k) (get_or l k d)) (gathered r k)

  -- the new list after k identities
  unfoldable pub filled_to : ℕ → List A
  filled_to zero = replicate 128 none
  filled_to (suc k) = set (filled_to k) (root k) (put (get_or (filled_to k) (root k) d) (get_or l k d))

  pub filled-length : (k : ℕ) → length (filled_to k) ≡ 128
  unfolding filled_to
  filled-length zero = length-replicate 128 none
  filled-length (suc k) = length-set (filled_to k) (root k) _ ∙ filled-length k

  module _ (low : (k : ℕ) → k < 128 → root k < 128) where
    pub filled_at : (k r : ℕ) → k ≤ 128 → r < 128 → get_or (filled_to k) r d ≡ gathered r k
    unfolding filled_to gathered
    filled_at zero r h g = get_or-replicate 128 r none d g
    filled_at (suc k) r h g = elim (ℕ_discrete (root k) r) [
      | yes e ↦ rw (eq-eqb _ _ e, e) (get_or-set_same (filled_to k) r _ d (omega (arith, filled-length k)) ∙ ap (λ (x : A). put x (get_or l k d))
          (filled_at k r (omega arith) g))
      | no n ↦ rw (ne_eqb _ _ n) (get_or-set_other (filled_to k) (root k) r _ d (λ q. n (sym q)) ∙ filled_at k r (omega arith) g)
    ]

  -- ---- what it leaves
  gathered-away : ((k : ℕ) → k < 128 → root (root k) ≡ root k) → (r k : ℕ) → k ≤ 128 → (root r ≡ r → ⊥) → gathered r k ≡ none
  unfolding gathered
  gathered-away idem r zero h n = refl
  gathered-away idem r (suc k) h n =
      let off : root k ≡ r → ⊥ = λ e. n (subst (λ (x : ℕ). root x ≡ x) e (idem k (omega arith))) in
      rw (ne_eqb _ _ off) (gathered-away idem r k (omega arith) n)

  gathered-has : (P : A → Type 0) → P none → ((x y : A) → P x → P (put x y)) → (r k : ℕ) → P (gathered r k)
  unfolding gathered
  gathered-has P z more r zero = z
  gathered-has P z more r (suc k) =
      let p = gathered-has P z more r k in
      cond_T_elim P (eqb (root k) r) (put (gathered r k) (get_or l k d)) (gathered r k) (λ t. more (gathered r k) (get_or l k d) p) p

  module _ (low : (k : ℕ) → k < 128 → root k < 128) (idem : (k : ℕ) → k < 128 → root (root k) ≡ root k) (empty : put none none ≡ none)
      (again : (x y : A) → put none x ≡ x → put none (put x y) ≡ put x y) where
    gathered-same : (r k : ℕ) → put none (gathered r k) ≡ gathered r k
    gathered-same r k = gathered-has (λ (x : A). put none x ≡ x) empty again r k

    -- what a pass leaves another would not change. Assumes nothing
    pub filled_stands : Stands none put root d (filled_to 128)
    filled_stands = record {
      long = filled-length 128;
      away = λ i h n. filled_at low 128 i (omega arith) h ∙ gathered-away idem i 128 (omega arith) n;
      same = λ i h. subst (λ (x : A). put none x ≡ x) (sym (filled_at low 128 i (omega arith) h)) (gathered-same i 128);
    }

  -- ---- the flag
  module _ (bad : A → A → Bool) (f : Bool) where
    unfoldable pub flag_to : ℕ → Bool
    flag_to zero = f
    flag_to (suc k) = flag_to k || bad (gathered (root k) k) (get_or l k d)

  module _ (bad : A → A → Bool) (f : Bool) (empty : put none none ≡ none) (again : (x y : A) → put none x ≡ x → put none (put x y) ≡ put x y)
      (calm : bad none none ≡ false)
      (tells : (x y : A) → put none x ≡ x → bad none (put x y) ≡ true → (bad x y ≡ true) ⊎ (bad none x ≡ true)) where
    told : (k r : ℕ) → bad none (gathered r k) ≡ true → flag_to bad f k ≡ true
    unfolding gathered flag_to
    told zero r e = absurd (subst (λ (b : Bool). cond b Unit ⊥) (sym e ∙ calm) tt)
    told (suc k) r e = elim (ℕ_discrete (root k) r) [
      | yes q ↦ ⊎_elim
          (λ (u : bad (gathered r k) (get_or l k d) ≡ true). or_inr (flag_to bad f k) _ (subst (λ (x : ℕ). bad (gathered x k) (get_or l k d) ≡ true)
          (sym q) u))
          (λ u. or_inl (flag_to bad f k) _ (told k r u))
          (tells (gathered r k) (get_or l k d) (gathered-has (λ (x : A). put none x ≡ x) empty again r k) (rw (eq-eqb _ _ q) at e))
      | no n ↦ or_inl (flag_to bad f k) _ (told k r (rw (ne_eqb _ _ n) at e))
    ]

    pub filled-told : ((k : ℕ) → k < 128 → root k < 128) → (i : ℕ) → i < 128 → bad none (get_or (filled_to 128) i d) ≡ true → flag_to bad f 128 ≡ true
    filled-told low i h e = told 128 i (subst (λ (x : A). bad none x ≡ true) (filled_at low 128 i (omega arith) h) e)

-- ---- a pass over a list that stands, where two representatives a and b have become one, a
-- where what is at i goes
abbrev pub goes_to : ℕ → ℕ → ℕ → ℕ
goes_to a b i = cond (eqb i b) a i

pub goes_b : (a b : ℕ) → goes_to a b b ≡ a
goes_b a b = rw (eq-eqb b b refl)

pub goes_other : (a b i : ℕ) → (i ≡ b → ⊥) → goes_to a b i ≡ i
goes_other a b i n = rw (ne_eqb i b n)

module _ {A : Type 0} (none : A) (put : A → A → A) (root : ℕ → ℕ) (d : A) (l : List A) (a b : ℕ) (less : a < b) (high : b < 128)
    (idle : (x : A) → put x none ≡ x) (same : (i : ℕ) → i < 128 → put none (get_or l i d) ≡ get_or l i d)
    (goes : (i : ℕ) → i < 128 → (get_or l i d ≡ none) ⊎ (root i ≡ goes_to a b i)) where
  abbrev old : ℕ → A
  old i = get_or l i d

  abbrev now : ℕ → ℕ → A
  now r k = gathered none put root d l r k

  step : (r i : ℕ) → i < 128 → now r (suc i) ≡ cond (eqb (goes_to a b i) r) (put (now r i) (old i)) (now r i)
  unfolding gathered
  step r i h =
      ⊎_elim (λ (e : old i ≡ none). same_cond (eqb (root i) r) (eqb (goes_to a b i) r) (put (now r i) (old i)) (now r i) (ap (put (now r i)) e ∙ idle
      (now r i)))
      (λ e. ap (λ (x : ℕ). cond (eqb x r) (put (now r i) (old i)) (now r i)) e)
      (goes i h)

  step-here : (r i : ℕ) → i < 128 → goes_to a b i ≡ r → now r (suc i) ≡ put (now r i) (old i)
  step-here r i h e = step r i h ∙ ap (λ (c : Bool). cond c (put (now r i) (old i)) (now r i)) (eq-eqb _ _ e)

  step_past : (r i : ℕ) → i < 128 → (goes_to a b i ≡ r → ⊥) → now r (suc i) ≡ now r i
  step_past r i h n = step r i h ∙ ap (λ (c : Bool). cond c (put (now r i) (old i)) (now r i)) (ne_eqb _ _ n)

  -- where nothing comes to r from the identities m to k
  still : (r m k : ℕ) → m ≤ k → k ≤ 128 → ((i : ℕ) → m ≤ i → i < k → goes_to a b i ≡ r → ⊥) → now r k ≡ now r m
  still r m zero h g n = ap (now r) (omega arith)
  still r m (suc k) h g n = elim (ℕ_discrete m (suc k)) [
    | yes e ↦ ap (now r) (sym e)
    | no q ↦ step_past r k (omega arith) (n k (omega arith) (omega arith)) ∙ still r m k (omega arith) (omega arith) (λ i lo hi. n i lo (omega arith))
  ]

  start : (r : ℕ) → now r 0 ≡ none
  unfolding gathered
  start r = refl

  off : (i r : ℕ) → (i ≡ r → ⊥) → (r ≡ a → ⊥) → goes_to a b i ≡ r → ⊥
  off i r n m = elim (ℕ_discrete i b) [
    | yes e ↦ (λ q. m (sym q ∙ ap (goes_to a b) e ∙ goes_b a b))
    | no q ↦ (λ e. n (sym (goes_other a b i q) ∙ e))
  ]

  off_a : (i : ℕ) → (i ≡ a → ⊥) → (i ≡ b → ⊥) → goes_to a b i ≡ a → ⊥
  off_a i n m e = n (sym (goes_other a b i m) ∙ e)

  -- the place i has nothing until what was there comes
  before : (i : ℕ) → i < 128 → (i ≡ b → ⊥) → now i i ≡ none
  before i h m = still i 0 i (omega arith) (omega arith) (elim (ℕ_discrete i a) [
    | yes e ↦ (λ j lo hi. subst (λ (r : ℕ). goes_to a b j ≡ r → ⊥) (sym e) (off_a j (omega arith) (omega arith)))
    | no n ↦ (λ j lo hi. off j i (omega arith) n)
  ]) ∙ start i

  comes : (i : ℕ) → i < 128 → (i ≡ b → ⊥) → now i (suc i) ≡ old i
  comes i h m = step-here i i h (goes_other a b i m) ∙ ap (λ (x : A). put x (old i)) (before i h m) ∙ same i h

  at_other : (r : ℕ) → r < 128 → (r ≡ a → ⊥) → (r ≡ b → ⊥) → now r 128 ≡ old r
  at_other r h n m = still r (suc r) 128 (omega arith) (omega arith) (λ i lo hi. off i r (omega arith) n) ∙ comes r h m

  at_b : now b 128 ≡ none
  at_b = still b 0 128 (omega arith) (omega arith) (λ i lo hi. none-to_b i) ∙ start b
    where
      none-to_b : (i : ℕ) → goes_to a b i ≡ b → ⊥
      none-to_b i = elim (ℕ_discrete i b) [
        | yes e ↦ (λ q. let z : a ≡ b = sym (ap (goes_to a b) e ∙ goes_b a b) ∙ q in omega arith)
        | no n ↦ (λ q. n (sym (goes_other a b i n) ∙ q))
      ]

  until_b : now a b ≡ old a
  until_b = still a (suc a) b (omega arith) (omega arith) (λ i lo hi. off_a i (omega arith) (omega arith)) ∙ comes a (omega arith) (omega arith)

  at_a : now a 128 ≡ put (old a) (old b)
  at_a =
      still a (suc b) 128 (omega arith) (omega arith) (λ i lo hi. off_a i (omega arith) (omega arith)) ∙ step-here a b high (goes_b a b)
      ∙ ap (λ (x : A). put x (old b)) until_b

  -- what is at b has come to a, and the rest is as it was
  pub filled-moved : ((k : ℕ) → k < 128 → root k < 128) → length l ≡ 128 → filled_to none put root d l 128 ≡ moved_to l a b (put (old a) (old b)) none
  filled-moved low long =
      ext_get_or d (filled_to none put root d l 128) (moved_to l a b (put (old a) (old b)) none)
      (filled-length none put root d l 128 ∙ sym (length-set (set l a _) b none ∙ length-set l a _ ∙ long))
      (λ i h. let g : i < 128 = omega (arith, filled-length none put root d l 128) in filled_at none put root d l low 128 i (omega arith) g ∙ sym
      (place i g))
    where
      place : (i : ℕ) → i < 128 → get_or (moved_to l a b (put (old a) (old b)) none) i d ≡ now i 128
      place i h = elim (ℕ_discrete i b) [
        | yes e ↦ rw e (get_or-set_same (set l a _) b none d (omega (arith, length-set l a (put (old a) (old b)))) ∙ sym at_b)
        | no n ↦ get_or-set_other (set l a _) b i none d n ∙ elim (ℕ_discrete i a) [
          | yes e ↦ rw e (get_or-set_same l a _ d (omega arith) ∙ sym at_a)
          | no m ↦ get_or-set_other l a i _ d m ∙ sym (at_other i h m n)
        ]
      ]

  -- ---- its flag
  module _ (bad : A → A → Bool) (f : Bool) (calm : (x : A) → bad x none ≡ false) (quiet : (i : ℕ) → i < 128 → bad none (old i) ≡ true → f ≡ true)
    where
      abbrev flag : ℕ → Bool
      flag k = flag_to none put root d l bad f k

      hushed : (i : ℕ) → i < 128 → (i ≡ b → ⊥) → bad (now (root i) i) (old i) ≡ true → f ≡ true
      hushed i h m =
          ⊎_elim (λ (e : old i ≡ none) (t : bad (now (root i) i) (old i) ≡ true). absurd
          (subst (λ (c : Bool). cond c Unit ⊥) (sym t ∙ ap (bad (now (root i) i)) e ∙ calm (now (root i) i)) tt))
          (λ e t. quiet i h (subst (λ (x : A). bad x (old i) ≡ true) (ap (λ (r : ℕ). now r i) (e ∙ goes_other a b i m) ∙ before i h m) t))
          (goes i h)

      flag-before : (k : ℕ) → k ≤ b → flag k ≡ f
      unfolding flag_to
      flag-before zero h = refl
      flag-before (suc k) h = ap (λ (c : Bool). c || bad (now (root k) k) (old k)) (flag-before k (omega arith)) ∙ or_keeps f _
          (hushed k (omega arith) (omega arith))

      met : bad (now (root b) b) (old b) ≡ bad (old a) (old b)
      met = ⊎_elim (λ (e : old b ≡ none). ap (bad (now (root b) b)) e ∙ calm _ ∙ sym (ap (bad (old a)) e ∙ calm _))
          (λ e. ap (λ (x : A). bad x (old b)) (ap (λ (r : ℕ). now r b) (e ∙ goes_b a b) ∙ until_b))
          (goes b high)

      flag-after : (k : ℕ) → b < k → k ≤ 128 → flag k ≡ (f || bad (old a) (old b))
      unfolding flag_to
      flag-after zero lo hi = absurd (omega arith)
      flag-after (suc k) lo hi = elim (ℕ_discrete k b) [
        | yes e ↦ ap (λ (j : ℕ). flag j || bad (now (root j) j) (old j)) e ∙ ap (λ (c : Bool). c || bad (now (root b) b) (old b)) (flag-before b (omega
            arith))
            ∙ ap (λ (c : Bool). f || c) met
        | no n ↦ ap (λ (c : Bool). c || bad (now (root k) k) (old k)) (flag-after k (omega arith) (omega arith))
            ∙ or_keeps (f || bad (old a) (old b)) _ (λ t. or_inl f _ (hushed k (omega arith) n t))
      ]

      pub flag-moved : flag 128 ≡ (f || bad (old a) (old b))
      flag-moved = flag-after 128 (omega arith) (omega arith)
