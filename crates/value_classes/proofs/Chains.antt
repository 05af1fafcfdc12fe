-- After any unions from the empty classes, two identities are in one class exactly if the united pairs chain them together. Assumes nothing.
use Prim.Native.Nat.{ℕ, ◌≤◌, ◌<◌}
use mathlib.Core.Bool.{true}
use mathlib.Core.List.{List, [], ◌∷◌}
use mathlib.Core.Logic.{inl, inr, ◌↔◌, ⊎_elim}
use mathlib.Core.Path.{◌≡◌, refl, sym, ◌∙◌, subst}
use native.Mathlib.Omega.{arith}
use Rattle.value_classes.specs.Classes.{Whole, Falling, classes_ok, empty_classes, canonical_of, union_of}
use Rattle.value_classes.specs.declared.ValueEquivalenceClasses.{ValueEquivalenceClasses}
use Rattle.value_classes.proofs.RootLaws.{own, own-falls, length-each, Met}
use Rattle.value_classes.proofs.Unions.{union_classes}
use Rattle.value_classes.proofs.ClassLaws.{falling-ok, canonical_le, alone_canonical, joined-whole, joined-falling, joined-met}

-- the unions asked for one after the other, the last first
unfoldable pub asked : List (ℕ × ℕ) → ValueEquivalenceClasses
asked [] = empty_classes
asked (x ∷ ps) = (union_of (asked ps) x.0 x.1).classes

abbrev pub InRange : List (ℕ × ℕ) → Type 0
InRange [] = Unit {0}
InRange (x ∷ ps) = (x.0 < 128) × (x.1 < 128) × InRange ps

-- the least equivalence that has every pair
pub data Chain : List (ℕ × ℕ) → ℕ → ℕ → Type 0 where
  same : {ps : List (ℕ × ℕ)} {a : ℕ} → Chain ps a a
  back : {ps : List (ℕ × ℕ)} {a b : ℕ} → Chain ps a b → Chain ps b a
  on : {ps : List (ℕ × ℕ)} {a b c : ℕ} → Chain ps a b → Chain ps b c → Chain ps a c
  here : {ps : List (ℕ × ℕ)} {l r : ℕ} → Chain ((l, r) ∷ ps) l r
  there : {x : ℕ × ℕ} {ps : List (ℕ × ℕ)} {a b : ℕ} → Chain ps a b → Chain (x ∷ ps) a b

-- all parents are there, and none is above its child
abbrev pub Sound : ValueEquivalenceClasses → Type 0
Sound c = Whole c × Falling c

pub empty-sound : Sound empty_classes
unfolding empty_classes
empty-sound = (length-each own 128, own-falls 128)

pub union_sound : (c : ValueEquivalenceClasses) (l r : ℕ) → l < 128 → r < 128 → Sound c → Sound (union_of c l r).classes
union_sound c l r hl hr s = subst Sound (sym (union_classes c l r hl hr s.0 s.1))
    (joined-whole c l r s.0, joined-falling c s.0 s.1 l r hl hr)

-- the rule is kept by every union. Assumes nothing
pub asked-sound : (ps : List (ℕ × ℕ)) → InRange ps → Sound (asked ps)
unfolding asked
asked-sound [] h = empty-sound
asked-sound (x ∷ ps) h = union_sound (asked ps) x.0 x.1 h.0 h.1 (asked-sound ps h.2)

pub asked-ok : (ps : List (ℕ × ℕ)) → InRange ps → classes_ok (asked ps) ≡ true
asked-ok ps h = falling-ok (asked ps) (asked-sound ps h).1

-- after a union two are in one class exactly if they were, or one was with l and the other with r. Assumes 128 parents that fall
pub union_exact : (c : ValueEquivalenceClasses) (l r : ℕ) → l < 128 → r < 128 → Sound c → (a b : ℕ)
    → (canonical_of (union_of c l r).classes a ≡ canonical_of (union_of c l r).classes b) ↔ Met (canonical_of c l) (canonical_of c r) (canonical_of c a)
    (canonical_of c b)
union_exact c l r hl hr s a b = rw (union_classes c l r hl hr s.0 s.1) (joined-met c s.0 s.1 l r hl hr a b)

exact : (x : ℕ × ℕ) (ps : List (ℕ × ℕ)) → InRange (x ∷ ps) → (a b : ℕ)
    → (canonical_of (asked (x ∷ ps)) a ≡ canonical_of (asked (x ∷ ps)) b) ↔ Met (canonical_of (asked ps) x.0) (canonical_of (asked ps) x.1)
    (canonical_of (asked ps) a) (canonical_of (asked ps) b)
unfolding asked
exact x ps h a b = union_exact (asked ps) x.0 x.1 h.0 h.1 (asked-sound ps h.2) a b

chained-together : {ps : List (ℕ × ℕ)} {a b : ℕ} → InRange ps → Chain ps a b → canonical_of (asked ps) a ≡ canonical_of (asked ps) b
chained-together h same = refl
chained-together h (back c) = sym (chained-together h c)
chained-together h (on c d) = chained-together h c ∙ chained-together h d
chained-together h (here {ps = ps} {l = l} {r = r}) = (exact (l, r) ps h l r).1 (inr (inl (refl, refl)))
chained-together h (there {x = x} {ps = ps} {a = a} {b = b} c) = (exact x ps h a b).1 (inl (chained-together h.2 c))

empty-root : (a : ℕ) → a < 128 → canonical_of (asked []) a ≡ a
unfolding asked
empty-root a h = alone_canonical a h

together-chained : (ps : List (ℕ × ℕ)) → InRange ps → (a b : ℕ) → a < 128 → b < 128 → canonical_of (asked ps) a ≡ canonical_of (asked ps) b → Chain ps a b
together-chained [] h a b ha hb e = let z : a ≡ b = sym (empty-root a ha) ∙ e ∙ empty-root b hb in rw z same
together-chained (x ∷ ps) h a b ha hb e =
    let tail = together-chained ps h.2 in
    ⊎_elim (λ m. there (tail a b ha hb m))
    (⊎_elim (λ m. on (there (tail a x.0 ha h.0 m.0)) (on here (back (there (tail b x.1 hb h.1 m.1)))))
    (λ m. on (there (tail a x.1 ha h.1 m.0)) (on (back here) (back (there (tail b x.0 hb h.0 m.1))))))
    ((exact x ps h a b).0 e)

-- a class is exactly what the unions chain together. Assumes nothing
pub classes-exact : (ps : List (ℕ × ℕ)) → InRange ps → (a b : ℕ) → a < 128 → b < 128 → (canonical_of (asked ps) a ≡ canonical_of (asked ps) b) ↔ Chain ps a b
classes-exact ps h a b ha hb = (together-chained ps h a b ha hb, chained-together h)

-- and its representative is its least member. Assumes nothing
pub classes-least : (ps : List (ℕ × ℕ)) → InRange ps → (a b : ℕ) → Chain ps a b → canonical_of (asked ps) a ≤ b
classes-least ps h a b c = omega (arith, chained-together h c, canonical_le (asked ps) (asked-sound ps h).1 b)
