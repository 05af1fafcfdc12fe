-- Conjuncts thinned while a walk goes on: whatever is kept of the rest of the walk, the list kept so far and that are a thinned list of all, if
-- what was passed over comes again in the rest. Assumes nothing.
use Prim.Native.Nat.{ℕ, ◌+◌, ◌<◌, ◌≤◌}
use mathlib.Core.Path.{◌≡◌, refl, sym, ap, subst, ◌∙◌}
use mathlib.Core.Bool.{Bool, true, false}
use mathlib.Core.List.{List, [], ◌∷◌, ◌++◌, append-nil, append_assoc}
use native.Mathlib.Omega.{arith}
use native.Mathlib.Numerals.{add-one}
use lib.ListN.{length, get_or, set, take, replicate}
use lib.Seq.{take-suc-set, set-set, get_or-set_same}
use borrow.Author.Tests.{ltb-true, ltb-false}
use Rattle.laws.proofs.Lists.{get_d_replicate-self}
use Rattle.plan.specs.declared.Expressions.{Expressions}
use Rattle.plan_data.specs.Nodes.{node_from}
use Rattle.apply_spec.specs.Conjuncts.{conjuncts_to}
use Rattle.apply_walk.specs.declared.Frame.{Frame}
use Rattle.apply_walk.specs.declared.Walk.{Walk}
use Rattle.apply_walk.specs.declared.Move.{Move}
use Rattle.apply_walk.specs.declared.Move.TheVariants.{Pop, Skip, Enter, Found}
use Rattle.apply_walk.specs.Walks.{and_in, empty_walk, frame_at, top_of, passed, entered, moved}
use Rattle.apply_walk.specs.Rests.{Good, rest_of, steps_left, Turned}
use Rattle.apply_walk.proofs.RestLaws.{passed-depth, passed-good}
use Rattle.apply_walk.proofs.Stepping.{nothing_left, start-good, start-rest}
use Rattle.apply_walk.proofs.WalkTurns.{top, owner_within, turn_said, turn_leaves, enter_low, found_low, pop_turn, skip-turn, found_turn, enter_turn}
use Rattle.apply_walk.proofs.WalkTurns.{enter_within}
use Rattle.apply_shared.specs.Thinned.{Thinned}
use Rattle.apply_shared.specs.declared.Mark.{Mark}
use Rattle.apply_shared.specs.declared.Thin.{Thin}
use Rattle.apply_shared.specs.declared.Thinner.{Thinner}
use Rattle.apply_shared.specs.Turns.{no_mark, mark_at, Within, SoFar, kept_of, conj, Covered, Held, GoesOn}
use Rattle.apply_shared.proofs.Within.{contrary, within_none, within-left, within-right, thin_drop, thin_keep}
use Rattle.apply_shared.proofs.Marks.{mark-either, mark-taken, mark_same, mark-stays}
use Rattle.apply_shared.proofs.Frames.{first_below, first_past, conj-other, popped-within, popped-covered, passed-covered}
use Rattle.apply_shared.proofs.Frames.{deeper-covered, over-rest, over-less, start-covered}

abbrev is_seen : Mark → Bool
is_seen m = m.seen

abbrev is_owed : Mark → Bool
is_owed m = m.owed

-- ---- lists alone
module _ (own : ℕ → List ℕ) where
  module _ (whole there rest : List ℕ) (marks : List Mark) (x : ℕ) (m : Mark) where
    -- all of x is passed over
    so_dropped : x < length marks → m.owed ≡ true → Within (own x) there → SoFar own whole there (own x ++ rest) marks
        → SoFar own whole there rest (set marks x m)
    so_dropped l o known was comes ks t =
        was (λ h q i j. within-right (own x) rest i (comes h (mark-stays is_owed marks x m l o h q) i j)) ks
        (thin_drop there (own x) rest ks known (comes x (ap is_owed (get_or-set_same marks x m no_mark l) ∙ o)) t)

    -- all of x is to come
    so-entered : SoFar own whole there (own x ++ rest) marks → SoFar own whole there (own x ++ rest) (set marks x m)
    so-entered was comes ks t =
        was (mark-taken is_owed (λ (h : ℕ). Within (own h) (own x ++ rest)) marks x m (within-left (own x) rest) comes) ks t

    -- x is kept
    so-kept : own x ≡ x ∷ [] → SoFar own whole there (x ∷ rest) marks → SoFar own whole (there ++ (x ∷ [])) rest (set marks x m)
    so-kept alone was comes ks t =
        subst (Thinned [] whole) (sym (append_assoc there (x ∷ []) ks))
        (was
        (mark-taken is_owed (λ (h : ℕ). Within (own h) (x ∷ rest)) marks x m
        (subst (λ (l : List ℕ). Within l (x ∷ rest)) (sym alone) (within-left (x ∷ []) rest))
        (λ h q i j. within-right (x ∷ []) rest i (comes h q i j)))
        (x ∷ ks) (thin_keep there x rest ks t))

  -- nothing is to come, and nothing is owed
  so-ended : (whole there rest : List ℕ) (marks : List Mark) → rest ≡ [] → ((h : ℕ) → (mark_at marks h).owed ≡ false) → SoFar own whole there rest marks
      → Thinned [] whole there
  so-ended whole there rest marks e none was =
      subst (Thinned [] whole) (append-nil there)
      (was (λ h q. contrary (mark_at marks h).owed (none h) q) [] (subst (λ (l : List ℕ). Thinned there l []) (sym e) refl))

-- ---- a turn, where the walk moves by m to u
module _ (t : Expressions) (items : List ℕ) (s : Thinner) where
  abbrev k : ℕ
  k = top_of s.walk

  abbrev f : Frame
  f = frame_at s.walk k

  abbrev v : Walk
  v = passed s.walk k

  abbrev operand : ℕ
  operand = get_or items f.at 0

  abbrev there : List ℕ
  there = kept_of s.thin

  abbrev own : ℕ → List ℕ
  own = conj t items

  abbrev rest : Walk → List ℕ
  rest = rest_of (node_from t) items

  abbrev popped_marks : List Mark
  popped_marks = set s.marks f.owner (record { seen = true; owed = (mark_at s.marks f.owner).owed })

  -- x is owed or not
  abbrev marked : ℕ → Bool → Mark
  marked x b = record { seen = (mark_at s.marks x).seen; owed = b }

  abbrev marks_then : ℕ → Bool → List Mark
  marks_then x b = set s.marks x (marked x b)

  abbrev longer : ℕ → List ℕ
  longer x = there ++ (x ∷ [])

  abbrev one_more : ℕ → Thin
  one_more x = record { handles = set s.thin.handles s.thin.count x; count = s.thin.count + 1 }

  abbrev kept_mark : Mark
  kept_mark = record { seen = true; owed = false }

  -- the same is to come, in other words
  so_said : (e : ℕ) (marks : List Mark) (l l2 : List ℕ) → l ≡ l2 → SoFar own (own e) there l marks → SoFar own (own e) there l2 marks
  so_said e marks l l2 q = subst (λ (x : List ℕ). SoFar own (own e) there x marks) q

  -- the same is owed, and the same is seen
  so_owed : (e : ℕ) (l : List ℕ) (marks : List Mark) → ((h : ℕ) → (mark_at marks h).owed ≡ (mark_at s.marks h).owed) → SoFar own (own e) there l s.marks
      → SoFar own (own e) there l marks
  so_owed e l marks same was comes = was (λ h q. comes h (same h ∙ q))

  known_same : (marks : List Mark) → ((h : ℕ) → (mark_at marks h).seen ≡ (mark_at s.marks h).seen)
      → ((h : ℕ) → (mark_at s.marks h).seen ≡ true → Within (own h) there) → (h : ℕ) → (mark_at marks h).seen ≡ true → Within (own h) there
  known_same marks same was h q = was h (sym (same h) ∙ q)

  -- s with the walk moved, other marks and other handles
  abbrev next : Walk → List Bool → List Mark → Thin → Thinner
  next w last marks thin = record { walk = w; last = last; marks = marks; thin = thin }

  module _ {u : Walk} {m : Move} (r : Turned t items s.walk u m) where
    -- what is covered by the walk that is left
    covers : (x : Move) → m ≡ x → (there2 : List ℕ) → Covered t items there2 (moved s.walk x) → Covered t items there2 u
    covers x p there2 = subst (Covered t items there2) (sym (turn_leaves r x p))

    -- ---- x is the operand, a conjunct or an And; its conjuncts come next
    pub record Has (x : ℕ) : Type 0 where
      pub within : x < 1024
      pub some_left : 1 ≤ f.left
      pub low : f.at < 2048
      pub first : get_or (conjuncts_to (node_from t) items f.owner) operand [] ≡ own x
      pub walk : u ≡ v
      pub good : Good u
      pub to-come : rest s.walk ≡ own x ++ rest u
      pub less : steps_left t items u < steps_left t items s.walk

    found-alone : (x : ℕ) → m ≡ Found x → own x ≡ x ∷ []
    found-alone x p = let n = turn_said r (Found x) p in conj-other t items x (subst (λ (y : ℕ). and_in t y ≡ false) n.is n.opened)

    pub found_has : (x : ℕ) → m ≡ Found x → Has x
    found_has x p =
        let n = turn_said r (Found x) p in
        let go = found_turn r x p in
        record {
          within = found_low r x p;
          some_left = n.has.some;
          low = n.has.low;
          first = first_below t items f.owner operand (ltb-true operand f.owner n.has.stands) ∙ ap own n.is;
          walk = turn_leaves r (Found x) p;
          good = go.good;
          to-come = go.to-come ∙ ap (λ (l : List ℕ). l ++ rest u) (sym (found-alone x p));
          less = go.less;
        }

    pub enter_has : (x : ℕ) → m ≡ Enter x → Has x
    enter_has x p =
        let n = turn_said r (Enter x) p in
        let same = sym (turn_leaves r (Enter x) p) in
        record {
          within = enter_low r x p;
          some_left = n.has.some;
          low = n.has.low;
          first = first_below t items f.owner operand (ltb-true operand f.owner n.has.stands) ∙ ap own n.is;
          walk = turn_leaves r (Enter x) p;
          good = subst Good same (passed-good s.walk r.good k (top r));
          to-come =
              over-rest t items r.long s.walk r.good k (top r) n.has.some n.has.low n.has.stands n.opened
              ∙ ap (λ (y : ℕ). own y ++ rest v) n.is
              ∙ ap (λ (w : Walk). own x ++ rest w) same;
          less =
              subst (λ (w : Walk). steps_left t items w < steps_left t items s.walk) same
              (over-less t items r.long s.walk r.good k (top r) n.has.some n.has.low n.has.stands n.opened);
        }

    -- there is a frame for an And
    pub frame_within : (x : ℕ) → m ≡ Enter x → s.walk.depth < 1024
    frame_within x p =
        omega (arith, enter_within r x p, ap (λ (w : Walk). w.depth) (turn_leaves r (Enter x) p), passed-depth s.walk r.good k (top r))

    module _ (room : s.thin.count < 2048) (places : length s.marks ≡ 1024) (slots : length s.thin.handles ≡ 2048) where
      -- ---- the frame is done: all conjuncts of its And are there
      module _ (p : m ≡ Pop) where
        pub when_popped : GoesOn t items s (next u s.last popped_marks s.thin)
        when_popped =
            let go = pop_turn r p in
            record {
              good = go.good;
              few = omega arith;
              held = λ e was. record {
                so_far =
                    so_owed e (rest u) popped_marks (mark_same is_owed s.marks f.owner (record {
                      seen = true;
                      owed = (mark_at s.marks f.owner).owed;
                    }) (omega (arith, owner_within r, places)) refl)
                    (so_said e s.marks (rest s.walk) (rest u) go.to-come was.so_far);
                known =
                    mark-either is_seen (λ (h : ℕ). Within (own h) there) s.marks f.owner (record {
                      seen = true;
                      owed = (mark_at s.marks f.owner).owed;
                    }) (popped-within t items r.long there s.walk r.good k (top r) was.frames (turn_said r Pop p)) was.known;
                frames = covers Pop p there (popped-covered t items r.long there s.walk r.good k (top r) was.frames (turn_said r Pop p));
              };
              less = go.less;
            }

      -- ---- nothing comes of the operand
      module _ (p : m ≡ Skip) where
        pub when_skipped : GoesOn t items s (next u s.last s.marks s.thin)
        when_skipped =
            let go = skip-turn r p in
            let h = turn_said r Skip p in
            record {
              good = go.good;
              few = omega arith;
              held = λ e was. record {
                so_far = so_said e s.marks (rest s.walk) (rest u) go.to-come was.so_far;
                known = was.known;
                frames =
                    covers Skip p there
                    (passed-covered t items r.long there s.walk r.good k (top r) was.frames h.some h.low []
                    (first_past t items f.owner operand (ltb-false operand f.owner h.stands)) there (λ i q. q) (within_none there));
              };
              less = go.less;
            }

      module _ (x : ℕ) (h : Has x) where
        in_marks : x < length s.marks
        in_marks = omega (arith, h.within, places)

        seen_same : (b : Bool) (i : ℕ) → (mark_at (marks_then x b) i).seen ≡ (mark_at s.marks i).seen
        seen_same b = mark_same is_seen s.marks x (marked x b) in_marks refl

        so_next : (e : ℕ) → Held t items e s → SoFar own (own e) there (own x ++ rest u) s.marks
        so_next e was = so_said e s.marks (rest s.walk) (own x ++ rest u) h.to-come was.so_far

        -- the walk that is left covers what it did, if the conjuncts of x are among what is there
        on_covers : (e : ℕ) → Held t items e s → (there2 : List ℕ) → Within there there2 → Within (own x) there2 → Covered t items there2 u
        on_covers e was there2 grows known =
            subst (Covered t items there2) (sym h.walk)
            (passed-covered t items r.long there s.walk r.good k (top r) was.frames h.some_left h.low (own x) h.first there2 grows known)

        -- it is passed over
        pub when_over : (mark_at s.marks x).seen ≡ true → GoesOn t items s (next u s.last (marks_then x true) s.thin)
        when_over seen =
            record {
              good = h.good;
              few = omega arith;
              held = λ e was. record {
                so_far = so_dropped own (own e) there (rest u) s.marks x (marked x true) in_marks refl (was.known x seen) (so_next e was);
                known = known_same (marks_then x true) (seen_same true) was.known;
                frames = on_covers e was there (λ i q. q) (was.known x seen);
              };
              less = h.less;
            }

        -- it is an And, and entered
        module _ (p : m ≡ Enter x) where
          pub when_entered : (w : Walk) → w ≡ entered t u x → (last : List Bool) → GoesOn t items s (next w last (marks_then x false) s.thin)
          when_entered w ew last =
              let go = enter_turn r x p in
              let n = turn_said r (Enter x) p in
              subst (λ (y : Walk). GoesOn t items s (next y last (marks_then x false) s.thin)) (sym ew)
              (record {
                good = go.good;
                few = omega arith;
                held = λ e was. record {
                  so_far =
                      so_said e (marks_then x false) (own x ++ rest u) (rest (entered t u x)) (sym h.to-come ∙ go.to-come)
                      (so-entered own (own e) there (rest u) s.marks x (marked x false) (so_next e was));
                  known = known_same (marks_then x false) (seen_same false) was.known;
                  frames =
                      subst (λ (y : Walk). Covered t items there (entered t y x)) (sym h.walk)
                      (deeper-covered t items r.long there s.walk r.good k (top r) was.frames h.some_left h.low (own x) h.first x
                      (subst (λ (y : ℕ). and_in t y ≡ true) n.is n.opened) refl
                      (subst (λ (y : Walk). y.depth + x ≤ 1023) h.walk (enter_within r x p)) (passed-depth s.walk r.good k (top r)));
                };
                less = go.less;
              })

        -- it is another conjunct, and kept
        module _ (p : m ≡ Found x) where
          longer_is : kept_of (one_more x) ≡ longer x
          longer_is = rw add-one (take-suc-set s.thin.handles s.thin.count x (omega (arith, slots, room)))

          at_once : GoesOn t items s (next u s.last (set s.marks x kept_mark) (one_more x))
          at_once = record {
            good = h.good;
            few = omega arith;
            held = λ e was. let alone = found-alone x p in record {
              so_far =
                  subst (λ (l : List ℕ). SoFar own (own e) l (rest u) (set s.marks x kept_mark)) (sym longer_is)
                  (so-kept own (own e) there (rest u) s.marks x kept_mark alone
                  (so_said e s.marks (own x ++ rest u) (x ∷ rest u) (ap (λ (l : List ℕ). l ++ rest u) alone) (so_next e was)));
              known =
                  subst (λ (l : List ℕ). (i : ℕ) → (mark_at (set s.marks x kept_mark) i).seen ≡ true → Within (own i) l) (sym longer_is)
                  (mark-either is_seen (λ (i : ℕ). Within (own i) (longer x)) s.marks x kept_mark
                  (subst (λ (l : List ℕ). Within l (longer x)) (sym alone) (within-right there (x ∷ [])))
                  (λ i q j q2. within-left there (x ∷ []) j (was.known i q j q2)));
              frames =
                  subst (λ (l : List ℕ). Covered t items l u) (sym longer_is)
                  (on_covers e was (longer x) (within-left there (x ∷ []))
                  (subst (λ (l : List ℕ). Within l (longer x)) (sym alone) (within-right there (x ∷ []))));
            };
            less = h.less;
          }

          -- first it is not owed, then it is seen
          pub when_kept : GoesOn t items s
              (next u s.last (set (marks_then x false) x (record { seen = true; owed = (mark_at (marks_then x false) x).owed })) (one_more x))
          when_kept =
              subst (λ (ms : List Mark). GoesOn t items s (next u s.last ms (one_more x)))
              (sym (ap (λ (b : Bool). set (marks_then x false) x (record { seen = true; owed = b }))
              (ap is_owed (get_or-set_same s.marks x (marked x false) no_mark in_marks))
              ∙ set-set s.marks x (marked x false) kept_mark)) at_once

-- ---- the walk is done
module _ (t : Expressions) (items : List ℕ) (e : ℕ) where
  pub ended : (s : Thinner) → Held t items e s → s.walk.depth ≡ 0 → ((h : ℕ) → (mark_at s.marks h).owed ≡ false) → Thinned [] (conj t items e) (kept_of s.thin)
  ended s had none owes =
      so-ended (conj t items) (conj t items e) (kept_of s.thin) (rest_of (node_from t) items s.walk) s.marks (nothing_left t items s.walk none) owes
      had.so_far

  -- ---- its start: nothing is seen yet, and nothing is owed
  module _ (low : e < 1024) (y : and_in t e ≡ true) where
    pub first_good : (w : Walk) → w ≡ entered t empty_walk e → Good w
    first_good w ew = subst Good (sym ew) (start-good t items e low)

    abbrev first_marks : List Mark
    first_marks = replicate 1024 no_mark

    pub first_held : (w : Walk) → w ≡ entered t empty_walk e → (last : List Bool)
        → Held t items e (record { walk = w; last = last; marks = first_marks; thin = record { handles = replicate 2048 0; count = 0 } })
    first_held w ew last =
        subst (λ (x : Walk). Held t items e (record {
          walk = x;
          last = last;
          marks = first_marks;
          thin = record { handles = replicate 2048 0; count = 0 };
        })) (sym ew)
        (record {
          so_far =
              λ comes ks.
              subst (λ (l : List ℕ). Thinned [] l ks → Thinned [] (conj t items e) ks) (start-rest t items e low y) (λ q. q);
          known = λ h q. contrary (mark_at first_marks h).seen (ap is_seen (get_d_replicate-self 1024 h no_mark)) q;
          frames = start-covered t items e y;
        })

-- ---- an expression that is no And is its own conjunct
pub thinned_alone : (t : Expressions) (items : List ℕ) (e : ℕ) → and_in t e ≡ false → Thinned [] (conj t items e) (take 1 (replicate 2048 e))
thinned_alone t items e f = subst (λ (l : List ℕ). Thinned [] l (e ∷ [])) (sym (conj-other t items e f)) (thin_keep [] e [] [] refl)
