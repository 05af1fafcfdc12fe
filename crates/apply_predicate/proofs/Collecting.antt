-- Conjuncts collected while a walk goes on: what was found comes before what is to come. Assumes nothing.
use Prim.Native.Nat.{ℕ, ◌+◌, ◌<◌, ◌≤◌}
use mathlib.Core.Path.{◌≡◌, refl, sym, ap, ◌∙◌}
use mathlib.Core.List.{List, [], ◌∷◌, ◌++◌, append_assoc}
use native.Mathlib.Omega.{arith}
use native.Mathlib.Numerals.{add-one}
use lib.ListN.{length, set, take, length-set}
use lib.Seq.{take-suc-set}
use Rattle.plan.specs.declared.Expressions.{Expressions}
use Rattle.plan_data.specs.Nodes.{node_from}
use Rattle.apply_walk.specs.declared.Walk.{Walk}
use Rattle.apply_walk.specs.declared.Move.{Move}
use Rattle.apply_walk.specs.declared.Move.TheVariants.{Pop, Skip, Enter, Found}
use Rattle.apply_walk.specs.Walks.{entered}
use Rattle.apply_walk.specs.Rests.{Good, rest_of, steps_left, Goes, Turned}
use Rattle.apply_walk.proofs.Stepping.{no_steps, some-steps}
use Rattle.apply_walk.proofs.WalkTurns.{pop_turn, skip-turn, found_turn, enter_turn}

-- from the walk w on, n conjuncts were found in j turns and v is left of it; each turn took a step and found one at most
pub record Collected (t : Expressions) (items : List ℕ) (w v : Walk) (handles : List ℕ) (n j : ℕ) : Type 0 where
  pub good : Good v
  pub slots : length handles ≡ 1024
  pub one_each : n ≤ j
  pub to-come : rest_of (node_from t) items w ≡ take n handles ++ rest_of (node_from t) items v
  pub spent : j + steps_left t items v ≤ steps_left t items w

module _ {t : Expressions} {items : List ℕ} {w : Walk} where
  pub nothing-yet : (v : Walk) (handles : List ℕ) → v ≡ w → Good w → length handles ≡ 1024 → Collected t items w v handles 0 0
  nothing-yet v handles e good slots =
      rw e (record { good = good; slots = slots; one_each = omega arith; to-come = refl; spent = omega arith })

  module _ {v : Walk} {handles : List ℕ} {n j : ℕ} (had : Collected t items w v handles n j) where
    moved_on : (u : Walk) → Goes t items v u [] → Collected t items w u handles n (j + 1)
    moved_on u go =
        record {
          good = go.good;
          slots = had.slots;
          one_each = omega (arith, had.one_each);
          to-come = had.to-come ∙ ap (λ (l : List ℕ). take n handles ++ l) go.to-come;
          spent = omega (arith, had.spent, go.less);
        }

    found-one : j < 1024 → (u : Walk) (e : ℕ) → Goes t items v u (e ∷ []) → Collected t items w u (set handles n e) (n + 1) (j + 1)
    found-one room u e go =
        record {
          good = go.good;
          slots = length-set handles n e ∙ had.slots;
          one_each = omega (arith, had.one_each);
          to-come =
              had.to-come
              ∙ ap (λ (l : List ℕ). take n handles ++ l) go.to-come
              ∙ sym (append_assoc (take n handles) (e ∷ []) (rest_of (node_from t) items u))
              ∙ ap (λ (l : List ℕ). l ++ rest_of (node_from t) items u) (sym one_more);
          spent = omega (arith, had.spent, go.less);
        }
      where
        one_more : take (n + 1) (set handles n e) ≡ take n handles ++ (e ∷ [])
        one_more = rw add-one (take-suc-set handles n e (omega (arith, had.slots, had.one_each)))

    -- ---- after a turn m
    module _ {u : Walk} {m : Move} (r : Turned t items v u m) where
      pub popped_on : m ≡ Pop → Collected t items w u handles n (j + 1)
      popped_on e = moved_on u (pop_turn r e)

      pub skipped_on : m ≡ Skip → Collected t items w u handles n (j + 1)
      skipped_on e = moved_on u (skip-turn r e)

      pub entered_on : (x : ℕ) → m ≡ Enter x → (z : Walk) → z ≡ entered t u x → Collected t items w z handles n (j + 1)
      entered_on x e z q = rw q (moved_on (entered t u x) (enter_turn r x e))

      pub found_on : j < 1024 → (x : ℕ) → m ≡ Found x → Collected t items w u (set handles n x) (n + 1) (j + 1)
      found_on room x e = found-one room u x (found_turn r x e)

    -- ---- the walk is done, or 1,024 turns are: something was done either way
    pub all_done : v.depth ≡ 0 → 0 < w.depth → steps_left t items v < steps_left t items w
    all_done z some = omega (arith, no_steps t items v z, some-steps t items w some)

    pub turns_done : 1024 ≤ j → steps_left t items v < steps_left t items w
    turns_done e = omega (arith, had.spent)
