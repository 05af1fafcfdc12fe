-- The members of a class, one after the other. Assumes nothing.
use Prim.Native.Nat.{ℕ, zero, suc, ◌+◌, ◌-◌, ◌≤◌, ◌<◌}
use mathlib.Core.List.{List, [], ◌∷◌, ◌++◌}
use mathlib.Core.Path.{◌≡◌, sym, ap, ◌∙◌}
use native.Mathlib.Decide.{dec_lt, ℕ_discrete}
use native.Mathlib.Omega.{arith}
use native.Mathlib.Numerals.{add-one}
use borrow.Author.Tests.{eq-eqb, ne_eqb}
use mathlib.Core.Bool.{true}
use lib.ListN.{length, get_or, set, take, replicate, get_or-replicate}
use lib.Seq.{get_or-set_same, get_or-set_other, get_or-take, ext_get_or}
use Rattle.value_classes.specs.Parents.{root_of, parents_ok, each}
use Rattle.value_classes.specs.Classes.{Falling, canonical_of}
use Rattle.value_classes.specs.Listed.{roots_of, members_to, first_from, first_member, next_member, members_of}
use Rattle.value_classes.specs.declared.ValueEquivalenceClasses.{ValueEquivalenceClasses}
use Rattle.value_classes.proofs.RootLaws.{falls, parent_in_lem, root_below, root-step, root_le, take-each-more, take-each-done, length-each, each_at}

-- a list is f 0, f 1, .. where each of its entries is
pub each_all : (f : ℕ → ℕ) (n : ℕ) (l : List ℕ) → length l ≡ n → ((i : ℕ) → i < n → get_or l i 0 ≡ f i) → l ≡ each f n
each_all f n l e h = ext_get_or 0 l (each f n) (e ∙ sym (length-each f n)) (λ i b. h i (omega arith) ∙ sym (each_at f n i (omega arith)))

module _ (c : ValueEquivalenceClasses) (r : ℕ) where
  first_ge : (n i : ℕ) → i ≤ first_from c r i n
  unfolding first_from
  first_ge zero i = omega arith
  first_ge (suc n) i = elim (ℕ_discrete (canonical_of c i) r)
      [ yes e ↦ rw (eq-eqb _ _ e) (omega arith) | no d ↦ rw (ne_eqb _ _ d) (omega (arith, first_ge n (suc i))) ]

  first_le : (n i : ℕ) → first_from c r i n ≤ i + n
  unfolding first_from
  first_le zero i = omega arith
  first_le (suc n) i = elim (ℕ_discrete (canonical_of c i) r)
      [ yes e ↦ rw (eq-eqb _ _ e) (omega arith) | no d ↦ rw (ne_eqb _ _ d) (omega (arith, first_le n (suc i))) ]

  first-root : (n i : ℕ) → first_from c r i n < i + n → canonical_of c (first_from c r i n) ≡ r
  unfolding first_from
  first-root zero i h = absurd (omega arith)
  first-root (suc n) i h = elim (ℕ_discrete (canonical_of c i) r) [
    | yes e ↦ rw (eq-eqb _ _ e) e
    | no d ↦ rw (ne_eqb _ _ d) (first-root n (suc i) (rw (ne_eqb _ _ d) at (let g : first_from c r i (suc n) < suc i + n = omega arith in g)))
  ]

  first-not : (n i j : ℕ) → i ≤ j → j < first_from c r i n → canonical_of c j ≡ r → ⊥
  unfolding first_from
  first-not zero i j lo hi e = omega arith
  first-not (suc n) i j lo hi e = elim (ℕ_discrete (canonical_of c i) r) [
    | yes q ↦ (let h : j < i = rw (eq-eqb _ _ q) at hi in omega arith)
    | no d ↦ (let h : j < first_from c r (suc i) n = rw (ne_eqb _ _ d) at hi in elim (ℕ_discrete i j)
        [ yes q ↦ d (ap (canonical_of c) q ∙ e) | no g ↦ first-not n (suc i) j (omega arith) h e ])
  ]

  -- ---- the first member from i on
  pub first-at-least : (i : ℕ) → i ≤ first_member c r i
  first-at-least i = first_ge (128 - i) i

  pub first-at_most : (i : ℕ) → i ≤ 128 → first_member c r i ≤ 128
  first-at_most i h = omega (arith, first_le (128 - i) i)

  -- what it finds is a member, and there is none before it. Assumes nothing
  pub first_member_lem : (i : ℕ) → i ≤ 128 → first_member c r i < 128 → canonical_of c (first_member c r i) ≡ r
  first_member_lem i h g = first-root (128 - i) i (omega arith)

  pub first_skips : (i j : ℕ) → i ≤ j → j < first_member c r i → canonical_of c j ≡ r → ⊥
  first_skips i j lo hi e = first-not (128 - i) i j lo hi e

  -- one step of the search
  pub first-here : (i : ℕ) → i < 128 → canonical_of c i ≡ r → first_member c r i ≡ i
  unfolding first_from
  first-here i h e = let n : 128 - i ≡ suc (128 - (i + 1)) = omega arith in rw (n, eq-eqb _ _ e)

  pub first-later : (i : ℕ) → i < 128 → (canonical_of c i ≡ r → ⊥) → first_member c r i ≡ first_member c r (i + 1)
  unfolding first_from
  first-later i h d = let n : 128 - i ≡ suc (128 - (i + 1)) = omega arith in rw (n, ne_eqb _ _ d, add-one)

  -- ---- the list of members
  skip : (j i : ℕ) → i ≤ j → ((k : ℕ) → i ≤ k → k < j → canonical_of c k ≡ r → ⊥) → members_to c r j ≡ members_to c r i
  unfolding members_to
  skip zero i h d = let e : i ≡ 0 = omega arith in rw e
  skip (suc j) i h d = elim (ℕ_discrete i (suc j)) [
    | yes e ↦ rw e
    | no n ↦ rw (ne_eqb _ _ (d j (omega arith) (omega arith))) (skip j i (omega arith) (λ k lo hi. d k lo (omega arith)))
  ]

  -- before the first member there is none, and after a member there is none before the next. Assumes nothing
  pub members_first : members_to c r (first_member c r 0) ≡ []
  unfolding members_to
  members_first = skip (first_member c r 0) 0 (omega arith) (λ k lo hi. first_skips 0 k lo hi)

  pub members_next : (i : ℕ) → i < 128 → canonical_of c i ≡ r → members_to c r (next_member c i) ≡ members_to c r i ++ (i ∷ [])
  unfolding members_to
  members_next i h e =
      let s = skip (next_member c i) (i + 1) (rw e (first-at-least (i + 1))) (λ k lo hi. first_skips (i + 1) k lo (rw e at hi)) in
      s ∙ rw (add-one, eq-eqb _ _ e)

  -- the first member of a class is its representative. Assumes that parents fall
  pub first-least : Falling c → r < 128 → canonical_of c r ≡ r → first_member c r 0 ≡ r
  first-least f h e =
      let le : first_member c r 0 ≤ r = (elim (dec_lt r (first_member c r 0)) [
        | yes g ↦ absurd (first_skips 0 r (omega arith) g e)
        | no g ↦ omega
            arith
      ]) in
      let m = first_member_lem 0 (omega arith) (omega arith) in
      omega (arith, root_le c.parents f (first_member c r 0))

-- ---- both arrays, from the last identity to the first
abbrev pub FirstsFrom : ValueEquivalenceClasses → ℕ → List ℕ → Type 0
FirstsFrom c i first = (r : ℕ) → r < 128 → get_or first r 0 ≡ first_member c r i

abbrev pub NextsFrom : ValueEquivalenceClasses → ℕ → List ℕ → Type 0
NextsFrom c i next = (j : ℕ) → i ≤ j → j < 128 → get_or next j 0 ≡ next_member c j

module _ (c : ValueEquivalenceClasses) where
  pub firsts-start : FirstsFrom c 128 (replicate 128 128)
  unfolding first_from
  firsts-start r h = get_or-replicate 128 r 128 0 h

  module _ (i k r : ℕ) (ei : i ≡ k + 1) (hi : i ≤ 128) (er : r ≡ canonical_of c k) (hr : r < 128) (first : List ℕ) (lf : length first ≡ 128) where
    pub firsts-again : FirstsFrom c i first → FirstsFrom c k (set first r k)
    firsts-again f q h = elim (ℕ_discrete q r) [
      | yes e ↦ rw (e, get_or-set_same first r k 0 (omega arith)) (sym (first-here c r k (omega arith) (sym er)))
      | no n ↦ rw (get_or-set_other first r q k 0 n, f q h, ei) (sym (first-later c q k (omega arith) (λ e. n (sym e ∙ sym er))))
    ]

    pub nexts_again : (next : List ℕ) → length next ≡ 128 → FirstsFrom c i first → NextsFrom c i next → NextsFrom c k (set next k (get_or first r 0))
    nexts_again next ln f g j lo hj = elim (ℕ_discrete j k) [
      | yes e ↦ rw (e, get_or-set_same next k (get_or first r 0) 0 (omega arith), f r hr, ei, er)
      | no n ↦ rw (get_or-set_other next k j (get_or first r 0) 0 n) (g j (omega arith) hj)
    ]

-- ---- the tables read at a place
pub roots_at : (c : ValueEquivalenceClasses) (i : ℕ) → i < 128 → get_or (roots_of c).of i 0 ≡ canonical_of c i
unfolding roots_of
roots_at c i h = each_at (canonical_of c) 128 i h

pub first-at : (c : ValueEquivalenceClasses) (r : ℕ) → r < 128 → get_or (members_of c).first r 0 ≡ first_member c r 0
unfolding members_of
first-at c r h = each_at (λ (q : ℕ). first_member c q 0) 128 r h

pub next-at : (c : ValueEquivalenceClasses) (i : ℕ) → i < 128 → get_or (members_of c).next i 0 ≡ next_member c i
unfolding members_of
next-at c i h = each_at (λ (j : ℕ). next_member c j) 128 i h

-- ---- the representatives in one pass
-- where parents are in order, that of i is that of its parent, which the list of those before i has
pub root-known : (p l : List ℕ) (n i q : ℕ) → length p ≡ n → parents_ok p ≡ true → q ≡ get_or p i 0 → q < i → i < n → take i l ≡ each (root_of p) i →
    get_or l q 0
    ≡ root_of p i
root-known p l n i q e ok eq low h t =
    sym (get_or-take i l q 0 low) ∙ ap (λ (x : List ℕ). get_or x q 0) t ∙ each_at (root_of p) i q low
    ∙ ap (root_of p) (eq ∙ sym (parent_in_lem p i (omega arith) (omega arith)))
    ∙ sym (root-step p (falls p ok) i)

-- what the two loops need that fill these tables
pub ruleset roots_loop = (root_below, root-known, take-each-more, take-each-done)

pub ruleset members_loop = (root_below, firsts-start, firsts-again, nexts_again, each_all)
