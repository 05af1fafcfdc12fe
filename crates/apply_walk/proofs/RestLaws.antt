-- What one operand less and one frame more make of what is to come in a walk, and of what is left to do. Assumes nothing.
use Prim.Native.Nat.{ℕ, zero, suc, ◌+◌, ◌-◌, ◌<◌, ◌≤◌}
use mathlib.Core.Path.{◌≡◌, refl, sym, ap, subst, ◌∙◌}
use mathlib.Core.List.{List, [], ◌∷◌}
use mathlib.Core.Logic.{⊎_elim}
use native.Mathlib.Omega.{arith}
use native.Mathlib.Numerals.{add-one}
use lib.ListN.{length, get_or, set, take, drop, length-set, drop_of_length-le}
use lib.Seq.{drop-cons, take-nil, get_or-set_same, get_or-set_other}
use borrow.Author.Tests.{lt-ltb}
use native.Mathlib.Nat.{ne_of_lt}
use Rattle.lists.proofs.RangeLaws.{below_or_not}
use Rattle.apply_walk.specs.declared.Frame.{Frame}
use Rattle.apply_walk.specs.declared.Walk.{Walk}
use Rattle.apply_walk.specs.Walks.{no_frame, frame_at, less, pushed, popped, passed}
use Rattle.apply_walk.specs.Rests.{fold_to, of_frame, fold_of, Good}

fold_same : {A : Type 0} (op : A → A → A) (none : A) (f g : ℕ → A) (n : ℕ) → ((k : ℕ) → k < n → f k ≡ g k) → fold_to op none f n ≡ fold_to op none g n
unfolding fold_to
fold_same op none f g zero h = refl
fold_same op none f g (suc n) h = λ i. op (h n (omega arith) i) (fold_same op none f g n (λ k l. h k (omega arith)) i)

-- ---- the operands of a run, one less
module _ (items : List ℕ) (long : length items ≡ 2048) where
  pub run-cons : (at left : ℕ) → 1 ≤ left → at < 2048 → take left (drop at items) ≡ get_or items at 0 ∷ take (left - 1) (drop (at + 1) items)
  run-cons at zero some low = absurd (omega arith)
  run-cons at (suc left) some low = let e : suc left - 1 ≡ left = omega arith in rw (drop-cons items at 0 (omega arith), e, add-one)

  pub run_past : (at left : ℕ) → 2048 ≤ at → take left (drop at items) ≡ []
  run_past at left high = rw (drop_of_length-le items {i = at} (omega arith)) (take-nil left)

-- ---- what the frames of a walk are after a store
module _ (w : Walk) (g : Good w) (k : ℕ) (top : w.depth ≡ suc k) where
  pub passed-depth : (passed w k).depth ≡ w.depth
  unfolding passed
  passed-depth = refl

  -- the frame on top has an operand less, and the others are as they were
  pub passed-top : frame_at (passed w k) k ≡ less (frame_at w k)
  unfolding passed
  passed-top = get_or-set_same w.frames k (less (frame_at w k)) no_frame (omega (arith, g.many, g.few))

  pub passed-below : (j : ℕ) → j < k → frame_at (passed w k) j ≡ frame_at w j
  unfolding passed
  passed-below j l = get_or-set_other w.frames k j (less (frame_at w k)) no_frame (ne_of_lt l)

  pub passed-owner : (j : ℕ) → j < suc k → (frame_at (passed w k) j).owner ≡ (frame_at w j).owner
  passed-owner j l =
      ⊎_elim (λ m. ap (λ (f : Frame). f.owner) (passed-below j m))
      (λ m. let e : k ≡ j = omega arith in subst (λ (i : ℕ). (frame_at (passed w k) i).owner ≡ (frame_at w i).owner) e (ap (λ (f : Frame). f.owner) passed-top))
      (below_or_not j k)

  pub passed-good : Good (passed w k)
  unfolding passed
  passed-good = record {
    many = length-set w.frames k _ ∙ g.many;
    few = g.few;
    low = λ j l. omega (arith, g.low j l, passed-owner j (omega (arith, top)));
  }

  pub popped-good : Good (popped w k)
  popped-good = record { many = g.many; few = omega (arith, g.few); low = λ j l. g.low j (omega arith) }

-- one frame more
module _ (w : Walk) (g : Good w) (f : Frame) (room : w.depth + f.owner ≤ 1023) where
  abbrev more : Walk
  more = record { frames = set w.frames w.depth f; depth = w.depth + 1 }

  pub pushed-is : pushed w f ≡ more
  unfolding pushed
  pushed-is = rw (lt-ltb w.depth 1024 (omega arith))

  pub pushed-top : frame_at more w.depth ≡ f
  pushed-top = get_or-set_same w.frames w.depth f no_frame (omega (arith, g.many))

  pub pushed-below : (j : ℕ) → j < w.depth → frame_at more j ≡ frame_at w j
  pushed-below j l = get_or-set_other w.frames w.depth j f no_frame (ne_of_lt l)

  more-low : (k : ℕ) → k < w.depth + 1 → k + (frame_at more k).owner ≤ 1023
  more-low k l = ⊎_elim older last (below_or_not k w.depth)
    where
      older : k < w.depth → k + (frame_at more k).owner ≤ 1023
      older m = omega (arith, g.low k m, ap (λ (x : Frame). x.owner) (pushed-below k m))

      last : w.depth ≤ k → k + (frame_at more k).owner ≤ 1023
      last m =
          let q : w.depth ≡ k = omega arith in
          subst (λ (j : ℕ). j + (frame_at more j).owner ≤ 1023) q (omega (arith, room, ap (λ (x : Frame). x.owner) pushed-top))

  more-good : Good more
  more-good = record { many = length-set w.frames w.depth f ∙ g.many; few = omega arith; low = more-low }

  pub pushed-good : Good (pushed w f)
  pushed-good = subst Good (sym pushed-is) more-good

-- ---- the same of what the frames make together
module _ {A : Type 0} (op : A → A → A) (none : A) (run : Frame → A) where
  pub fold_top : (w : Walk) (k : ℕ) → w.depth ≡ suc k → fold_of op none run w ≡ op (of_frame run w k) (fold_of op none run (popped w k))
  unfolding fold_of fold_to
  fold_top w k top = ap (fold_to op none (of_frame run w)) top

  pub fold_passed : (w : Walk) (g : Good w) (k : ℕ) → w.depth ≡ suc k
      → fold_of op none run (passed w k) ≡ op (run (less (frame_at w k))) (fold_of op none run (popped w k))
  unfolding fold_of
  fold_passed w g k top =
      fold_top (passed w k) k (passed-depth w g k top ∙ top)
      ∙ (λ i. op (run (passed-top w g k top i)) (fold_same op none _ _ k (λ j l. ap run (passed-below w g k top j l)) i))

  pub fold_pushed : (w : Walk) (g : Good w) (f : Frame) → w.depth + f.owner ≤ 1023 → fold_of op none run (pushed w f) ≡ op (run f) (fold_of op none run w)
  unfolding fold_of
  fold_pushed w g f room =
      ap (fold_of op none run) (pushed-is w g f room)
      ∙ fold_top (more w g f room) w.depth (add-one w.depth)
      ∙ (λ i. op (run (pushed-top w g f room i)) (fold_same op none _ _ w.depth (λ j l. ap run (pushed-below w g f room j l)) i))

  pub fold_none : (w : Walk) → w.depth ≡ 0 → fold_of op none run w ≡ none
  unfolding fold_of fold_to
  fold_none w e = ap (fold_to op none (of_frame run w)) e
