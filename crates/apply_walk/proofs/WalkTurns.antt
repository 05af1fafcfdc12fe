-- What a frame does next says what its numbers are, and the walk that is moved so goes on. Assumes nothing.
use Prim.Native.Nat.{ℕ, suc, ◌+◌, ◌<◌, ◌≤◌}
use mathlib.Core.Path.{◌≡◌, refl, sym, ap, subst, ◌∙◌}
use mathlib.Core.Bool.{Bool, true, false, cond, ◌||◌}
use mathlib.Core.List.{List, [], ◌∷◌}
use native.Mathlib.Omega.{arith}
use lib.Dec.{ltb, leb, eqb}
use lib.ListN.{length, get_or}
use borrow.Author.Tests.{ltb-true, ne_eqb}
use Rattle.plan.specs.declared.Expressions.{Expressions}
use Rattle.apply_walk.specs.declared.Frame.{Frame}
use Rattle.apply_walk.specs.declared.Walk.{Walk}
use Rattle.apply_walk.specs.declared.Move.{Move}
use Rattle.apply_walk.specs.declared.Move.TheVariants.{Pop, Skip, Enter, Found}
use Rattle.apply_walk.specs.Walks.{and_in, no_frame, frame_at, top_of, top_frame, popped, passed, entered, operand_turn, turn_of, frame_turn, moved}
use Rattle.apply_walk.proofs.Guards.{goes_on}
use Rattle.apply_walk.specs.Rests.{Good, Goes, Turned}
use Rattle.apply_walk.proofs.Stepping.{pop_goes, skip-goes, found-goes, enter_goes, enter_room}

-- ---- what each turn says of a frame
module _ (t : Expressions) (items : List ℕ) (f : Frame) where
  abbrev operand : ℕ
  operand = get_or items f.at 0

  -- it has an operand, which stands before its And or not
  pub record Operand (before : Bool) : Type 0 where
    pub some : 1 ≤ f.left
    pub low : f.at < 2048
    pub stands : ltb operand f.owner ≡ before

  -- and which is e, an And or not
  pub record Named (and : Bool) (e : ℕ) : Type 0 where
    pub has : Operand true
    pub opened : and_in t operand ≡ and
    pub is : operand ≡ e

  abbrev pub Said : Move → Type 0
  Said Pop = (eqb f.left 0 || leb 2048 f.at) ≡ true
  Said Skip = Operand false
  Said (Enter e) = Named true e
  Said (Found e) = Named false e

  operand-said : (1 ≤ f.left) × (f.at < 2048) → Said (operand_turn t.kind t.code f.owner operand)
  operand-said h = go (ltb operand f.owner) (and_in t operand) refl refl
    where
      go : (l y : Bool) → ltb operand f.owner ≡ l → and_in t operand ≡ y → Said (cond l (cond y (Enter operand) (Found operand)) Skip)
      go true true p q = record { has = record { some = h.0; low = h.1; stands = p }; opened = q; is = refl }
      go true false p q = record { has = record { some = h.0; low = h.1; stands = p }; opened = q; is = refl }
      go false y p q = record { some = h.0; low = h.1; stands = p }

  said : Said (frame_turn t items f)
  unfolding turn_of
  said = go (eqb f.left 0 || leb 2048 f.at) refl
    where
      go : (b : Bool) → (eqb f.left 0 || leb 2048 f.at) ≡ b → Said (cond b Pop (operand_turn t.kind t.code f.owner operand))
      go true p = p
      go false p = operand-said (goes_on f.left f.at p)

  pub move_said : (m : Move) → m ≡ frame_turn t items f → Said m
  move_said m e = subst Said (sym e) said

  -- a frame that is not done has an operand among the items
  pub has_operand : (m : Move) → m ≡ frame_turn t items f → (m ≡ Pop → ⊥) → (1 ≤ f.left) × (f.at < 2048)
  has_operand m e other = go m (move_said m e) other
    where
      go : (m : Move) → Said m → (m ≡ Pop → ⊥) → (1 ≤ f.left) × (f.at < 2048)
      go Pop s n = absurd (n refl)
      go Skip s n = (s.some, s.low)
      go (Enter x) s n = (s.has.some, s.has.low)
      go (Found x) s n = (s.has.some, s.has.low)

-- a turn of a good walk with a frame, by what `turn` tells. Assumes nothing
pub turned : (t : Expressions) {items : List ℕ} {w v : Walk} {m : Move} → m ≡ frame_turn t items (top_frame w) → v ≡ moved w m → length items ≡ 2048
    → Good w → 0 < w.depth → Turned t items w v m
turned t {items} {w} told done long good some =
    record {
      long = long;
      good = good;
      some = some;
      told = told ∙ ap (λ (b : Bool). frame_turn t items (cond b no_frame (frame_at w (top_of w)))) (ne_eqb
          w.depth 0 (λ e. omega (arith, some, e)));
      done = done;
    }

-- ---- a turn of a walk
module _ {t : Expressions} {items : List ℕ} {w v : Walk} {m : Move} (r : Turned t items w v m) where
  abbrev k : ℕ
  k = top_of w

  abbrev f : Frame
  f = frame_at w k

  pub top : w.depth ≡ suc k
  top = omega (arith, r.some)

  -- the And of the frame stands in the tables
  pub owner_within : f.owner < 1024
  owner_within = omega (arith, r.good.low k (omega (arith, r.some)))

  pub turn_said : (x : Move) → m ≡ x → Said t items f x
  turn_said x e = move_said t items f x (sym e ∙ r.told)

  pub turn_leaves : (x : Move) → m ≡ x → v ≡ moved w x
  turn_leaves x e = r.done ∙ ap (moved w) e

  goes : (u : Walk) (found : List ℕ) → v ≡ u → Goes t items w u found → Goes t items w v found
  goes u found e = subst (λ (x : Walk). Goes t items w x found) (sym e)

  -- and so does an operand that counts
  pub enter_low : (x : ℕ) → m ≡ Enter x → x < 1024
  enter_low x e = let h = turn_said (Enter x) e in omega (arith, h.is, ltb-true (get_or items f.at 0) f.owner h.has.stands, owner_within)

  pub found_low : (x : ℕ) → m ≡ Found x → x < 1024
  found_low x e = let h = turn_said (Found x) e in omega (arith, h.is, ltb-true (get_or items f.at 0) f.owner h.has.stands, owner_within)

  pub pop_turn : m ≡ Pop → Goes t items w v []
  pop_turn e = goes (popped w k) [] (turn_leaves Pop e) (pop_goes t items r.long w r.good k top (turn_said Pop e))

  pub skip-turn : m ≡ Skip → Goes t items w v []
  skip-turn e = let h = turn_said Skip e in goes (passed w k) [] (turn_leaves Skip e) (skip-goes t items r.long w r.good k top h.some h.low h.stands)

  module _ (x : ℕ) where
    pub found_turn : m ≡ Found x → Goes t items w v (x ∷ [])
    found_turn e =
        let h = turn_said (Found x) e in
        subst (λ (y : ℕ). Goes t items w v (y ∷ [])) h.is
        (goes (passed w k) _ (turn_leaves (Found x) e) (found-goes t items r.long w r.good k top h.has.some h.has.low h.has.stands h.opened))

    module _ (e : m ≡ Enter x) where
      h : Named t items f true x
      h = turn_said (Enter x) e

      -- there is room for a frame for it
      pub enter_within : v.depth + x ≤ 1023
      enter_within =
          subst (λ (u : Walk). u.depth + x ≤ 1023) (sym (turn_leaves (Enter x) e))
          (omega (arith, enter_room t items r.long w r.good k top h.has.some h.has.low h.has.stands, h.is))

      pub enter_turn : Goes t items w (entered t v x) []
      enter_turn =
          subst (λ (y : ℕ). Goes t items w (entered t v y) []) h.is
          (subst (λ (u : Walk). Goes t items w (entered t u (get_or items f.at 0)) []) (sym (turn_leaves (Enter x) e))
          (enter_goes t items r.long w r.good k top h.has.some h.has.low h.has.stands h.opened))
