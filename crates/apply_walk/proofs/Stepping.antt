-- A walk that goes on: the conjunct that it finds is the next one, and what it leaves to come are the others. Assumes nothing.
use Prim.Native.Nat.{ℕ, zero, suc, ◌+◌, ◌-◌, ◌<◌, ◌≤◌}
use mathlib.Core.Path.{◌≡◌, refl, sym, ap, ◌∙◌}
use mathlib.Core.Bool.{Bool, true, false, cond, ◌||◌}
use mathlib.Core.List.{List, [], ◌∷◌, ◌++◌, append_assoc, append-nil}
use native.Mathlib.Omega.{arith}
use lib.Dec.{ltb, leb, eqb}
use lib.ListN.{length, get_or, take, drop, length-replicate}
use borrow.Author.Tests.{ltb-true, ltb-false, leb-true, ne_eqb}
use Rattle.laws.proofs.Bools.{or_resolve_left}
use Rattle.plan.specs.declared.Expressions.{Expressions}
use Rattle.plan_data.specs.Nodes.{node_from}
use Rattle.plan_data.specs.declared.ExprData.{ExprData}
use Rattle.apply_spec.specs.Conjuncts.{joined_of, conjuncts_to, conjuncts_of}
use Rattle.apply_spec.proofs.Readings.{conjuncts_past, conjuncts_at}
use Rattle.rows_spec.proofs.InOrderLaws.{in_order_at}
use Rattle.apply_walk.specs.declared.Frame.{Frame}
use Rattle.apply_walk.specs.declared.Walk.{Walk}
use Rattle.apply_walk.specs.Walks.{and_in, no_frame, empty_walk, frame_at, frame_of, less, popped, passed, entered}
use Rattle.apply_walk.proofs.Entries.{and-entry, other-entry}
use Rattle.apply_walk.specs.Rests.{run_rest, rest_of, steps_in, frame_steps, steps_by, steps_to, run_steps, steps_left, Good, Goes}
use Rattle.apply_walk.proofs.RestLaws.{run-cons, run_past, passed-depth, passed-good, popped-good, pushed-good, fold_top, fold_passed, fold_pushed, fold_none}

module _ (t : Expressions) (items : List ℕ) where
  abbrev node : ℕ → ExprData
  node = node_from t

  abbrev rest : Walk → List ℕ
  rest = rest_of node items

  abbrev steps : Walk → ℕ
  steps = steps_left t items

  run-some : (f : Frame) → 1 ≤ run_steps t items f
  unfolding run_steps
  run-some f = omega arith

  -- the conjuncts and the steps of an And's frame
  and-rest : (o e : ℕ) → e < o → and_in t e ≡ true → get_or (conjuncts_to node items o) e [] ≡ run_rest node items (frame_of t e)
  unfolding run_rest
  and-rest o e l y = conjuncts_at node items o e l ∙ and-entry (conjuncts_to node items e) items e t.kind t.code t.a t.b t.bits t.start y

  and-steps : (o e : ℕ) → e < o → and_in t e ≡ true → get_or (steps_to t items o) e 0 ≡ run_steps t items (frame_of t e)
  unfolding run_steps
  and-steps o e l y =
      in_order_at (steps_by t items) 0 o e l
      ∙ ap (λ (b : Bool). cond b (frame_steps items (steps_to t items e) (frame_of t e)) 0) y

  -- nothing is to come of a walk without frames
  pub nothing_left : (w : Walk) → w.depth ≡ 0 → rest w ≡ []
  nothing_left w e = fold_none ◌++◌ [] (run_rest node items) w e

  -- nor is there anything to do; any other walk has something to do
  pub no_steps : (w : Walk) → w.depth ≡ 0 → steps w ≡ 0
  no_steps w e = fold_none ◌+◌ 0 (run_steps t items) w e

  pub some-steps : (w : Walk) → 0 < w.depth → 0 < steps w
  some-steps w some =
      let k = w.depth - 1 in
      omega (arith, fold_top ◌+◌ 0 (run_steps t items) w k (omega arith), run-some (frame_at w k))

  -- ---- where a walk starts: with the operands of an And
  empty-good : Good empty_walk
  unfolding empty_walk
  empty-good = record { many = length-replicate {A = Frame} 1024 no_frame; few = omega arith; low = λ k l. absurd (omega arith) }

  empty-depth : empty_walk.depth ≡ 0
  unfolding empty_walk
  empty-depth = refl

  module _ (e : ℕ) (l : e < 1024) where
    room-first : empty_walk.depth + e ≤ 1023
    room-first = omega (arith, empty-depth)

    pub start-good : Good (entered t empty_walk e)
    unfolding entered
    start-good = pushed-good empty_walk empty-good (frame_of t e) room-first

    pub start-rest : and_in t e ≡ true → conjuncts_of node items e ≡ rest (entered t empty_walk e)
    unfolding entered
    start-rest y =
        and-rest (suc e) e (omega arith) y
        ∙ sym (append-nil (run_rest node items (frame_of t e)))
        ∙ ap (λ (x : List ℕ). run_rest node items (frame_of t e) ++ x) (sym (nothing_left empty_walk empty-depth))
        ∙ sym (fold_pushed ◌++◌ [] (run_rest node items) empty_walk empty-good (frame_of t e) room-first)

  module _ (long : length items ≡ 2048) where
    -- ---- the frame on top has no operand left
    empty-run : (left at : ℕ) → (eqb left 0 || leb 2048 at) ≡ true → take left (drop at items) ≡ []
    empty-run zero at e = refl
    empty-run (suc left) at e =
        run_past items long at (suc left) (leb-true 2048 at (or_resolve_left (eqb (suc left) 0) _ (ne_eqb (suc left) 0 (λ q. omega arith)) e))

    pub run-done : (f : Frame) → (eqb f.left 0 || leb 2048 f.at) ≡ true → run_rest node items f ≡ []
    unfolding run_rest joined_of
    run-done f e = ap (joined_of (conjuncts_to node items f.owner)) (empty-run f.left f.at e)

    module _ (w : Walk) (g : Good w) (k : ℕ) (top : w.depth ≡ suc k) where
      pub pop_goes : (eqb (frame_at w k).left 0 || leb 2048 (frame_at w k).at) ≡ true → Goes t items w (popped w k) []
      pop_goes e =
          record {
            good = popped-good w g k top;
            to-come = fold_top ◌++◌ [] (run_rest node items) w k top ∙ ap (λ (l : List ℕ). l ++ rest (popped w k)) (run-done (frame_at w k) e);
            less = omega (arith, fold_top ◌+◌ 0 (run_steps t items) w k top, run-some (frame_at w k));
          }

    -- ---- the frame on top has one
    module _ (f : Frame) (some : 1 ≤ f.left) (low : f.at < 2048) where
      abbrev next : ℕ
      next = get_or items f.at 0

      pub run-rest : run_rest node items f ≡ get_or (conjuncts_to node items f.owner) next [] ++ run_rest node items (less f)
      unfolding run_rest joined_of
      run-rest = ap (joined_of (conjuncts_to node items f.owner)) (run-cons items long f.at f.left some low)

      run-steps : run_steps t items f ≡ suc (get_or (steps_to t items f.owner) next 0) + run_steps t items (less f)
      unfolding run_steps steps_in
      run-steps = ap (λ (l : List ℕ). suc (steps_in (steps_to t items f.owner) l)) (run-cons items long f.at f.left some low) ∙ omega arith

    module _ (w : Walk) (g : Good w) (k : ℕ) (top : w.depth ≡ suc k) (some : 1 ≤ (frame_at w k).left) (low : (frame_at w k).at < 2048) where
      abbrev f : Frame
      f = frame_at w k

      abbrev o : ℕ
      o = f.owner

      abbrev e : ℕ
      e = get_or items f.at 0

      abbrev v : Walk
      v = passed w k

      -- what the operand that is done has, comes first
      pass_rest : rest w ≡ get_or (conjuncts_to node items o) e [] ++ rest v
      pass_rest =
          fold_top ◌++◌ [] (run_rest node items) w k top
          ∙ ap (λ (l : List ℕ). l ++ rest (popped w k)) (run-rest f some low)
          ∙ append_assoc (get_or (conjuncts_to node items o) e []) (run_rest node items (less f)) (rest (popped w k))
          ∙ ap (λ (l : List ℕ). get_or (conjuncts_to node items o) e [] ++ l) (sym (fold_passed ◌++◌ [] (run_rest node items) w g k top))

      pass_steps : steps w ≡ suc (get_or (steps_to t items o) e 0) + steps v
      pass_steps =
          omega (
            arith,
            fold_top ◌+◌ 0 (run_steps t items) w k top,
            run-steps f some low,
            fold_passed ◌+◌ 0 (run_steps t items) w g k top,
          )

      v_good : Good v
      v_good = passed-good w g k top

      pub skip-goes : ltb e o ≡ false → Goes t items w v []
      skip-goes b =
          record {
            good = v_good;
            to-come = pass_rest ∙ ap (λ (l : List ℕ). l ++ rest v) (conjuncts_past node items o e (ltb-false e o b));
            less = omega (arith, pass_steps);
          }

      pub found-goes : ltb e o ≡ true → and_in t e ≡ false → Goes t items w v (e ∷ [])
      found-goes l b =
          record {
            good = v_good;
            to-come =
                pass_rest
                ∙ ap (λ (x : List ℕ). x ++ rest v)
                (conjuncts_at node items o e (ltb-true e o l) ∙ other-entry (conjuncts_to node items e) items e t.kind t.code t.a t.b t.bits t.start b);
            less = omega (arith, pass_steps);
          }

      -- an And's operand stands before it, so there is a frame for the operand
      pub enter_room : ltb e o ≡ true → v.depth + e ≤ 1023
      enter_room l = omega (arith, passed-depth w g k top, g.low k (omega arith), ltb-true e o l)

      pub enter_goes : ltb e o ≡ true → and_in t e ≡ true → Goes t items w (entered t v e) []
      unfolding entered
      enter_goes l y =
          let room = enter_room l in
          record {
            good = pushed-good v v_good (frame_of t e) room;
            to-come =
                pass_rest ∙ ap (λ (x : List ℕ). x ++ rest v) (and-rest o e (ltb-true e o l) y)
                ∙ sym (fold_pushed ◌++◌ [] (run_rest node items) v v_good (frame_of t e) room);
            less = omega (arith, pass_steps, and-steps o e (ltb-true e o l) y, fold_pushed ◌+◌ 0 (run_steps t items) v v_good (frame_of t e) room);
          }
