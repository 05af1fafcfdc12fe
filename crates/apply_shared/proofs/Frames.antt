-- What a frame of a walk has to come, and what the frames of a walk cover as its turns move it. Assumes nothing.
use Prim.Native.Nat.{ℕ, suc, ◌+◌, ◌<◌, ◌≤◌}
use mathlib.Core.Path.{◌≡◌, sym, ap, subst, ◌∙◌}
use mathlib.Core.Bool.{true, false, ◌||◌}
use mathlib.Core.List.{List, [], ◌∷◌, ◌++◌}
use native.Mathlib.Omega.{arith}
use native.Mathlib.Numerals.{add-one}
use lib.Dec.{ltb, leb, eqb}
use lib.ListN.{length, get_or, set}
use Rattle.plan.specs.declared.Expressions.{Expressions}
use Rattle.plan_data.specs.Nodes.{node_from}
use Rattle.plan_data.specs.declared.ExprData.{ExprData}
use Rattle.apply_spec.specs.Conjuncts.{conjuncts_to}
use Rattle.apply_spec.proofs.Readings.{conjuncts_past, conjuncts_at}
use Rattle.apply_walk.specs.declared.Frame.{Frame}
use Rattle.apply_walk.specs.declared.Walk.{Walk}
use Rattle.apply_walk.specs.Walks.{and_in, empty_walk, frame_at, frame_of, less, pushed, popped, passed, entered}
use Rattle.apply_walk.proofs.Entries.{and-entry, other-entry}
use Rattle.apply_walk.specs.Rests.{run_rest, rest_of, run_steps, steps_left, Good, Goes}
use Rattle.apply_walk.proofs.RestLaws.{passed-good, passed-top, passed-below, passed-owner, pushed-is, pushed-top, pushed-below, fold_pushed}
use Rattle.apply_walk.proofs.Stepping.{enter_goes, enter_room, run-done, run-rest}
use Rattle.apply_shared.specs.Turns.{Within, Chain, conj, owns, runs, Covered}
use Rattle.apply_shared.proofs.Chains.{done-within, done_chain, passed_chain, entered_chain, first_chain}

module _ (t : Expressions) (items : List ℕ) where
  abbrev node : ℕ → ExprData
  node = node_from t

  abbrev own : ℕ → List ℕ
  own = conj t items

  abbrev run : Frame → List ℕ
  run = run_rest node items

  abbrev mine_of : Walk → ℕ → List ℕ
  mine_of = owns t items

  abbrev runs_of : Walk → ℕ → List ℕ
  runs_of = runs t items

  -- ---- the conjuncts of an operand of the And o
  abbrev first_of : ℕ → ℕ → List ℕ
  first_of o x = get_or (conjuncts_to node items o) x []

  pub first_below : (o x : ℕ) → x < o → first_of o x ≡ own x
  first_below o x l = conjuncts_at node items o x l ∙ sym (conjuncts_at node items (suc x) x (omega arith))

  pub first_past : (o x : ℕ) → o ≤ x → first_of o x ≡ []
  first_past o x l = conjuncts_past node items o x l

  pub conj-other : (x : ℕ) → and_in t x ≡ false → own x ≡ x ∷ []
  conj-other x f =
      conjuncts_at node items (suc x) x (omega arith) ∙ other-entry (conjuncts_to node items x) items x t.kind t.code t.a t.b t.bits t.start f

  pub conj-and : (x : ℕ) → and_in t x ≡ true → own x ≡ run (frame_of t x)
  unfolding run_rest
  conj-and x y = conjuncts_at node items (suc x) x (omega arith) ∙ and-entry (conjuncts_to node items x) items x t.kind t.code t.a t.b t.bits t.start y

  -- ---- the walk into an And has one frame, and all of it is to come
  pub start-covered : (e : ℕ) → and_in t e ≡ true → Covered t items [] (entered t empty_walk e)
  unfolding entered pushed empty_walk
  start-covered e y = first_chain (mine_of (entered t empty_walk e)) (runs_of (entered t empty_walk e)) (conj-and e y)

  module _ (long : length items ≡ 2048) where
    module _ (there : List ℕ) (w : Walk) (g : Good w) (k : ℕ) (top : w.depth ≡ suc k) (c : Covered t items there w) where
      abbrev f : Frame
      f = frame_at w k

      at_top : Chain there (mine_of w) (runs_of w) (suc k) []
      at_top = subst (λ (n : ℕ). Chain there (mine_of w) (runs_of w) n []) top c

      -- the frame on top is done
      module _ (e : (eqb f.left 0 || leb 2048 f.at) ≡ true) where
        pub popped-within : Within (own f.owner) there
        popped-within = done-within there (mine_of w) (runs_of w) k (run-done t items long f e) at_top

        pub popped-covered : Covered t items there (popped w k)
        popped-covered = done_chain there (mine_of w) (runs_of w) k (run-done t items long f e) at_top

      -- it has an operand
      module _ (some : 1 ≤ f.left) (low : f.at < 2048) (first : List ℕ) (is : first_of f.owner (get_or items f.at 0) ≡ first) where
        abbrev v : Walk
        v = passed w k

        split : (run2 : List ℕ) → run2 ≡ run (less f) → runs_of w k ≡ first ++ run2
        split run2 e = run-rest t items long f some low ∙ (λ i. is i ++ sym e i)

        owns_same : (j : ℕ) → j < suc k → mine_of v j ≡ mine_of w j
        owns_same j l = ap own (passed-owner w g k top j l)

        runs_below : (j : ℕ) → j < k → runs_of v j ≡ runs_of w j
        runs_below j l = ap run (passed-below w g k top j l)

        pub passed-covered : (there2 : List ℕ) → Within there there2 → Within first there2 → Covered t items there2 (passed w k)
        unfolding passed
        passed-covered there2 grows known =
            subst (λ (n : ℕ). Chain there2 (mine_of v) (runs_of v) n []) (sym top)
            (passed_chain there there2 (mine_of w) (runs_of w) (mine_of v) (runs_of v) k first (owns_same k (omega arith))
            (split (runs_of v k) (ap run (passed-top w g k top)))
            (λ j l. owns_same j (omega arith)) runs_below at_top grows known)

        module _ (x : ℕ) (y : and_in t x ≡ true) (mine : own x ≡ first) (room : v.depth + x ≤ 1023) (same : v.depth ≡ w.depth) where
          abbrev u : Walk
          u = record { frames = set v.frames v.depth (frame_of t x); depth = v.depth + 1 }

          v_good : Good v
          v_good = passed-good w g k top

          -- the frames of u below its top are those of v
          below : (j : ℕ) → j < suc k → frame_at u j ≡ frame_at v j
          below j l = pushed-below v v_good (frame_of t x) room j (omega (arith, top, same))

          last : frame_at u (suc k) ≡ frame_of t x
          last = subst (λ (n : ℕ). frame_at u n ≡ frame_of t x) (same ∙ top) (pushed-top v v_good (frame_of t x) room)

          own_below : (j : ℕ) → j < suc k → mine_of u j ≡ mine_of w j
          own_below j l = ap (λ (f : Frame). own f.owner) (below j l) ∙ owns_same j l

          u_covered : Covered t items there u
          u_covered =
              subst (λ (n : ℕ). Chain there (mine_of u) (runs_of u) n []) (sym (add-one v.depth ∙ ap suc (same ∙ top)))
              (entered_chain there there (mine_of w) (runs_of w) (mine_of u) (runs_of u) k first (own_below k (omega arith))
              (split (runs_of u k) (ap run (below k (omega arith) ∙ passed-top w g k top)))
              (λ j l. own_below j (omega arith)) (λ j l. ap run (below j (omega arith)) ∙ runs_below j l) at_top
              (ap (λ (f : Frame). own f.owner) last ∙ mine) (ap run last ∙ sym (conj-and x y) ∙ mine))

          pub deeper-covered : Covered t items there (entered t v x)
          unfolding entered
          deeper-covered = subst (Covered t items there) (sym (pushed-is v v_good (frame_of t x) room)) u_covered

    -- ---- an And among the operands is passed over: its conjuncts stood next
    module _ (w : Walk) (g : Good w) (k : ℕ) (top : w.depth ≡ suc k) (some : 1 ≤ (frame_at w k).left) (low : (frame_at w k).at < 2048) where
      abbrev x : ℕ
      x = get_or items (frame_at w k).at 0

      module _ (l : ltb x (frame_at w k).owner ≡ true) (y : and_in t x ≡ true) where
        go : Goes t items w (entered t (passed w k) x) []
        go = enter_goes t items long w g k top some low l y

        room_for : (passed w k).depth + x ≤ 1023
        room_for = enter_room t items long w g k top some low l

        pub over-rest : rest_of node items w ≡ own x ++ rest_of node items (passed w k)
        unfolding entered
        over-rest =
            go.to-come
            ∙ fold_pushed ◌++◌ [] run (passed w k) (passed-good w g k top) (frame_of t x) room_for
            ∙ ap (λ (z : List ℕ). z ++ rest_of node items (passed w k)) (sym (conj-and x y))

        pub over-less : steps_left t items (passed w k) < steps_left t items w
        unfolding entered
        over-less =
            omega (arith, go.less, fold_pushed ◌+◌ 0 (run_steps t items) (passed w k) (passed-good w g k top) (frame_of t x) room_for)
