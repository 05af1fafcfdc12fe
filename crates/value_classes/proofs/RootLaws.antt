-- Representatives, and joining two classes. Assumes nothing.
use Prim.Native.Nat.{ℕ, zero, suc, ◌+◌, ◌-◌, ◌≤◌, ◌<◌, min, max}
use mathlib.Core.Bool.{Bool, true}
use mathlib.Core.List.{List, [], ◌∷◌}
use mathlib.Core.Logic.{◌⊎◌, inl, inr, ◌↔◌}
use mathlib.Core.Path.{◌≡◌, refl, sym, ap, ◌∙◌}
use native.Mathlib.Decide.{dec_lt, dec_le, ℕ_discrete}
use native.Mathlib.Omega.{arith}
use native.Mathlib.Numerals.{add-one}
use borrow.Author.Tests.{leb-true, le-leb, lt-ltb, le-ltb}
use lib.Dec.{leb}
use lib.ListN.{length, get_or, set, take, length-set, length-append, get_or-append}
use lib.Seq.{get_or-set_same, get_or-set_other, take-suc-set, take_all, get_or_at, set-get_or}
use Rattle.lists.proofs.RangeLaws.{all-at, all_of}
use Rattle.value_classes.specs.Parents.{Falls, parent_in, climb, root_of, parents_ok, joined, each}

abbrev pub low_test : List ℕ → ℕ → Bool
low_test p i = leb (get_or p i 0) i

-- the test says that the parents fall. Assumes nothing
pub falls : (p : List ℕ) → parents_ok p ≡ true → Falls p
unfolding parents_ok
falls p e i h = leb-true _ _ (all-at (low_test p) (length p) 0 e i (omega arith) (omega arith))

pub falls-ok : (p : List ℕ) → Falls p → parents_ok p ≡ true
unfolding parents_ok
falls-ok p f = all_of (low_test p) (length p) 0 (λ i lo hi. le-leb _ _ (f i (omega arith)))

-- ---- one parent
-- one past the identities is its own parent
pub parent_past : (p : List ℕ) (i : ℕ) → length p ≤ i → parent_in p i ≡ i
unfolding parent_in
parent_past p i h = rw (le-ltb _ _ h)

pub parent_in_lem : (p : List ℕ) (i : ℕ) → i < length p → get_or p i 0 < length p → parent_in p i ≡ get_or p i 0
unfolding parent_in
parent_in_lem p i h g = rw (lt-ltb _ _ h, lt-ltb _ _ g)

pub parent_out : (p : List ℕ) (i : ℕ) → length p ≤ get_or p i 0 → parent_in p i ≡ i
unfolding parent_in
parent_out p i g = elim (dec_lt i (length p)) [ yes h ↦ rw (lt-ltb _ _ h, le-ltb _ _ g) | no h ↦ rw (le-ltb i (length p) (omega arith)) ]

-- an identity's parent is an identity, whatever the parents are
parent_small : (p : List ℕ) (i : ℕ) → i < length p → parent_in p i < length p
parent_small p i h = elim (dec_lt (get_or p i 0) (length p)) [ yes g ↦ rw (parent_in_lem p i h g) g | no g ↦ rw (parent_out p i (omega arith)) h ]

pub parent_below : (p : List ℕ) (n i x : ℕ) → length p ≡ n → x ≡ parent_in p i → i < n → x < n
parent_below p n i x l e h = omega (arith, parent_small p i (omega arith))

climb-small : (p : List ℕ) (k i : ℕ) → i < length p → climb p k i < length p
unfolding climb
climb-small p zero i h = h
climb-small p (suc k) i h = climb-small p k (parent_in p i) (parent_small p i h)

-- and so is its representative. Assumes nothing
pub root-small : (p : List ℕ) (i : ℕ) → i < length p → root_of p i < length p
unfolding root_of
root-small p i h = climb-small p (length p) i h

pub root_below : (p : List ℕ) (n i x : ℕ) → length p ≡ n → x ≡ root_of p i → i < n → x < n
root_below p n i x l e h = omega (arith, root-small p i (omega arith))

-- one that is its own parent stays where it is
pub climb-own : (p : List ℕ) (k i : ℕ) → parent_in p i ≡ i → climb p k i ≡ i
unfolding climb
climb-own p zero i e = refl
climb-own p (suc k) i e = rw e (climb-own p k i e)

-- a climb of n steps, the k-th of them
pub climb-step : (p : List ℕ) (n k i : ℕ) → k < n → climb p (n - k) i ≡ climb p (n - (k + 1)) (parent_in p i)
unfolding climb
climb-step p n k i h = let e : n - k ≡ suc (n - (k + 1)) = omega arith in rw e

pub climb-none : (p : List ℕ) (n k i : ℕ) → n ≤ k → climb p (n - k) i ≡ i
unfolding climb
climb-none p n k i h = let e : n - k ≡ 0 = omega arith in rw e

-- what a walk up to a representative needs, one parent at a time
pub ruleset climb_loop = (parent_below, climb-own, climb-step, climb-none)

pub root-of-own : (p : List ℕ) (i : ℕ) → parent_in p i ≡ i → root_of p i ≡ i
unfolding root_of
root-of-own p i e = climb-own p (length p) i e

module _ (p : List ℕ) (f : Falls p) where
  pub parent_le : (i : ℕ) → parent_in p i ≤ i
  parent_le i = elim (dec_lt i (length p)) [
    | yes h ↦ rw (parent_in_lem p i h (omega (arith, f i h))) (f i h)
    | no h ↦ rw (parent_past p i (omega arith)) (omega arith)
  ]

  -- a longer climb ends at the same place
  climbs : (k m i : ℕ) → i ≤ k → i ≤ m → climb p k i ≡ climb p m i
  unfolding climb
  climbs zero m i h g = let e : i ≡ 0 = omega arith in rw e (sym (climb-own p m 0 (let z = parent_le 0 in omega arith)))
  climbs (suc k) zero i h g = let e : i ≡ 0 = omega arith in rw e (climb-own p (suc k) 0 (let z = parent_le 0 in omega arith))
  climbs (suc k) (suc m) i h g = elim (ℕ_discrete (parent_in p i) i) [
    | yes e ↦ climb-own p (suc k) i e ∙ sym (climb-own p (suc m) i e)
    | no n ↦ (let z = parent_le i in climbs k m (parent_in p i) (omega arith) (omega arith))
  ]

  fixed : (k i : ℕ) → i ≤ k → parent_in p (climb p k i) ≡ climb p k i
  unfolding climb
  fixed zero i h = let z = parent_le i in omega arith
  fixed (suc k) i h = elim (ℕ_discrete (parent_in p i) i) [
    | yes e ↦ rw (climb-own p (suc k) i e) e
    | no n ↦ (let z = parent_le i in fixed k (parent_in p i) (omega arith))
  ]

  below : (k i : ℕ) → climb p k i ≤ i
  unfolding climb
  below zero i = omega arith
  below (suc k) i = omega (arith, below k (parent_in p i), parent_le i)

  -- a representative is its own parent. Assumes that parents fall
  pub root-own : (i : ℕ) → parent_in p (root_of p i) ≡ root_of p i
  unfolding root_of
  root-own i = elim (dec_lt i (length p)) [
    | yes h ↦ fixed (length p) i (omega arith)
    | no h ↦ (let e = parent_past p i (omega arith) in rw (climb-own p (length p) i e) e)
  ]

  -- the parent is in the same class
  pub root-step : (i : ℕ) → root_of p i ≡ root_of p (parent_in p i)
  unfolding root_of
  root-step i = elim (dec_lt i (length p)) [
    | yes h ↦ (climbs (length p) (suc (length p)) i (omega arith) (omega arith) ∙ unfold climb in refl)
    | no h ↦ rw (parent_past p i (omega arith))
  ]

  pub root_le : (i : ℕ) → root_of p i ≤ i
  unfolding root_of
  root_le i = below (length p) i

  pub root_idempotent : (i : ℕ) → root_of p (root_of p i) ≡ root_of p i
  root_idempotent i = root-of-own p (root_of p i) (root-own i)

  -- the representative is the least member of its class. Assumes that parents fall
  pub root-least : (i j : ℕ) → root_of p i ≡ root_of p j → root_of p i ≤ j
  root-least i j e = omega (arith, root_le j)

-- ---- joining

-- what becomes of a representative t where x moves to y: it is u
abbrev pub Moved : ℕ → ℕ → ℕ → ℕ → Type 0
Moved x y t u = ((t ≡ x) × (u ≡ y)) ⊎ ((t ≡ x → ⊥) × (u ≡ t))

module _ (p : List ℕ) (x y : ℕ) (le : y ≤ x) (in-x : x < length p) where
  set_same : parent_in (set p x y) x ≡ y
  set_same =
      let l = length-set p x y in
      let e = get_or-set_same p x y 0 in-x in
      parent_in_lem (set p x y) x (omega arith) (omega arith) ∙ e

  set_other : (i : ℕ) → (i ≡ x → ⊥) → parent_in (set p x y) i ≡ parent_in p i
  unfolding parent_in
  set_other i n = rw (length-set p x y, get_or-set_other p x i y 0 n)

module _ (p : List ℕ) (f : Falls p) (x y : ℕ) (le : y ≤ x) (in-x : x < length p) (own-y : parent_in p y ≡ y) where
  set-falls : Falls (set p x y)
  set-falls i h = elim (ℕ_discrete i x) [
    | yes e ↦ rw (e, get_or-set_same p x y 0 in-x) le
    | no n ↦ rw (get_or-set_other p x i y 0 n) (f i (omega (arith, length-set p x y)))
  ]

  set_own : parent_in (set p x y) y ≡ y
  set_own = elim (ℕ_discrete y x) [
    | yes e ↦ ap (λ (n : ℕ). parent_in (set p x y) n) e ∙ set_same p x y le in-x
    | no n ↦ set_other p x y le in-x y n ∙ own-y
  ]

  here : parent_in p x ≡ x → Moved x y (root_of p x) (root_of (set p x y) x)
  here own =
      inl (root-of-own p x own, rw (root-step (set p x y) set-falls x, set_same p x y le in-x) (root-of-own (set p x y) y set_own))

  stays : (i : ℕ) → (i ≡ x → ⊥) → parent_in p i ≡ i → Moved x y (root_of p i) (root_of (set p x y) i)
  stays i n e =
      let a : root_of p i ≡ i = root-of-own p i e in
      let b : root_of (set p x y) i ≡ i = root-of-own (set p x y) i (set_other p x y le in-x i n ∙ e) in
      inr (λ t. n (cc), cc)

  by_parent : (i : ℕ) → (i ≡ x → ⊥) → Moved x y (root_of p (parent_in p i)) (root_of (set p x y) (parent_in p i)) → Moved x y (root_of p i) (root_of
      (set p x y) i)
  by_parent i n m = rw (root-step p f i, root-step (set p x y) set-falls i, set_other p x y le in-x i n) m

  -- the class of x goes to y, and every other class stays
  moves : parent_in p x ≡ x → (k i : ℕ) → i ≤ k → Moved x y (root_of p i) (root_of (set p x y) i)
  moves own zero i h = elim (ℕ_discrete i x) [ yes e ↦ rw e (here own) | no n ↦ stays i n (omega (arith, parent_le p f i)) ]
  moves own (suc k) i h = elim (ℕ_discrete i x) [
    | yes e ↦ rw e (here own)
    | no n ↦ elim (ℕ_discrete (parent_in p i) i) [
      | yes e ↦ stays i n e
      | no m ↦ by_parent i n (moves own k (parent_in p i) (omega (
        arith,
        parent_le p
            f i,
      )))
    ]
  ]

-- numbers alone: after the larger of l and r has moved to the smaller, two are the same exactly if they were, or were l and r
abbrev pub Met : ℕ → ℕ → ℕ → ℕ → Type 0
Met l r a b = (a ≡ b) ⊎ ((a ≡ l) × (b ≡ r)) ⊎ ((a ≡ r) × (b ≡ l))

module _ (l r a b a' b' : ℕ) where
  met : Moved (max l r) (min l r) a a' → Moved (max l r) (min l r) b b' → a' ≡ b' → Met l r a b
  met (inl m) (inl n) e = inl (omega arith)
  met (inl m) (inr n) e = elim (dec_le l r) [ yes h ↦ inr (inr (omega arith)) | no h ↦ inr (inl (omega arith)) ]
  met (inr m) (inl n) e = elim (dec_le l r) [ yes h ↦ inr (inl (omega arith)) | no h ↦ inr (inr (omega arith)) ]
  met (inr m) (inr n) e = inl (omega arith)

  unmet : Moved (max l r) (min l r) a a' → Moved (max l r) (min l r) b b' → Met l r a b → a' ≡ b'
  unmet (inl m) (inl n) (inl e) = omega arith
  unmet (inl m) (inl n) (inr (inl e)) = omega arith
  unmet (inl m) (inl n) (inr (inr e)) = omega arith
  unmet (inl m) (inr n) (inl e) = omega arith
  unmet (inl m) (inr n) (inr (inl e)) = omega arith
  unmet (inl m) (inr n) (inr (inr e)) = omega arith
  unmet (inr m) (inl n) (inl e) = omega arith
  unmet (inr m) (inl n) (inr (inl e)) = omega arith
  unmet (inr m) (inl n) (inr (inr e)) = omega arith
  unmet (inr m) (inr n) (inl e) = omega arith
  unmet (inr m) (inr n) (inr (inl e)) = omega arith
  unmet (inr m) (inr n) (inr (inr e)) = omega arith

module _ (p : List ℕ) (f : Falls p) (l r : ℕ) (in-l : l < length p) (in-r : r < length p) where
  either-own : (x : ℕ) → (x ≡ root_of p l) ⊎ (x ≡ root_of p r) → parent_in p x ≡ x
  either-own x (inl e) = rw e (root-own p f l)
  either-own x (inr e) = rw e (root-own p f r)

  own-max : parent_in p (max (root_of p l) (root_of p r)) ≡ max (root_of p l) (root_of p r)
  own-max = either-own (max (root_of p l) (root_of p r)) (elim (dec_le (root_of p l) (root_of p r)) [
    | yes h ↦ inr (omega arith)
    | no h ↦ inl (omega
        arith)
  ])

  own-min : parent_in p (min (root_of p l) (root_of p r)) ≡ min (root_of p l) (root_of p r)
  own-min = either-own (min (root_of p l) (root_of p r)) (elim (dec_le (root_of p l) (root_of p r)) [
    | yes h ↦ inl (omega arith)
    | no h ↦ inr (omega
        arith)
  ])

  in_max : max (root_of p l) (root_of p r) < length p
  in_max = omega (arith, root_le p f l, root_le p f r)

  joined-moves : (i : ℕ) → Moved (max (root_of p l) (root_of p r)) (min (root_of p l) (root_of p r)) (root_of p i) (root_of (joined p l r) i)
  unfolding joined
  joined-moves i = moves p f (max (root_of p l) (root_of p r)) (min (root_of p l) (root_of p r)) (omega arith) in_max own-min own-max i i (omega
      arith)

  -- joining keeps the rule. Assumes that parents fall
  pub joined-falls : Falls (joined p l r)
  unfolding joined
  joined-falls = set-falls p f (max (root_of p l) (root_of p r)) (min (root_of p l) (root_of p r)) (omega arith) in_max own-min

  -- where the two are in one class already nothing changes
  pub joined_same : root_of p l ≡ root_of p r → joined p l r ≡ p
  unfolding joined
  joined_same e =
      let m : max (root_of p l) (root_of p r) ≡ root_of p l = omega arith in
      let small = root-small p l in-l in
      let own : get_or p (root_of p l) 0 ≡ root_of p l = sym (parent_in_lem p (root_of p l) small (omega (arith, f (root_of p l) small))) ∙ root-own p
      f l in
      let n : min (root_of p l) (root_of p r) ≡ get_or p (root_of p l) 0 = omega arith in
      rw (m, n) (set-get_or p (root_of p l) 0)

  -- after joining l and r two are in one class exactly if they were, or one was with l and the other with r. Assumes that parents fall
  pub joined-exact : (a b : ℕ) → (root_of (joined p l r) a ≡ root_of (joined p l r) b) ↔ Met (root_of p l) (root_of p r) (root_of p a) (root_of p b)
  joined-exact a b = (
    met (root_of p l) (root_of p r) (root_of p a) (root_of p b) _ _ (joined-moves a) (joined-moves b),
    unmet (root_of p l) (root_of p r) (root_of p a) (root_of p b) _ _ (joined-moves a) (joined-moves b),
  )

pub joined_length : (p : List ℕ) (l r : ℕ) → length (joined p l r) ≡ length p
unfolding joined
joined_length p l r = simp length-set

-- ---- lists f 0, f 1, ..
pub take-each-more : (f : ℕ → ℕ) (l : List ℕ) (i x : ℕ) → i < length l → x ≡ f i → take i l ≡ each f i → take (i + 1) (set l i x) ≡ each f (i + 1)
unfolding each
take-each-more f l i x h e t = rw (add-one, take-suc-set l i x h, t, e)

pub take-each-done : (f : ℕ → ℕ) (n : ℕ) (l : List ℕ) (i : ℕ) → length l ≡ n → i ≡ n → take i l ≡ each f i → l ≡ each f n
take-each-done f n l i e g t = sym (take_all n l (omega arith)) ∙ rw g at t

-- what a loop needs that fills a list in order
pub ruleset each_loop = (take-each-more, take-each-done)

pub length-each : (f : ℕ → ℕ) (n : ℕ) → length (each f n) ≡ n
unfolding each
length-each f zero = refl
length-each f (suc n) = simp (length-append, length-each f n, add-one)

pub each_at : (f : ℕ → ℕ) (n i : ℕ) → i < n → get_or (each f n) i 0 ≡ f i
unfolding each
each_at f zero i h = omega arith
each_at f (suc n) i h = elim (dec_lt i n) [
  | yes l ↦ rw (get_or-append (each f n) (f n ∷ []) 0 i (omega (arith, length-each f n))) (each_at f n i l)
  | no g ↦ (let e : i ≡ n = omega arith in rw e (get_or_at (each f n) (f n) [] 0 n (length-each f n)))
]

abbrev pub own : ℕ → ℕ
own i = i

pub own-falls : (n : ℕ) → Falls (each own n)
own-falls n i h = omega (arith, each_at own n i (omega (arith, length-each own n)))

-- where each is its own parent each is its own representative. Assumes nothing
pub own_root : (n i : ℕ) → i < n → root_of (each own n) i ≡ i
own_root n i h =
    let e = each_at own n i h in
    let l = length-each own n in
    root-of-own (each own n) i (parent_in_lem (each own n) i (omega arith) (omega arith) ∙ e)
