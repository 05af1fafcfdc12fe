-- The conjuncts that are still to come in a walk, and how much is left to do. Assumes nothing.
use Rattle.std.specs.Prelude.{ℕ, zero, suc, ◌+◌, ◌<◌, ◌≤◌, ◌≡◌, cond, List, [], ◌∷◌, ◌++◌, length, get_or, take, drop}
use Rattle.plan.specs.declared.Expressions.{Expressions}
use Rattle.plan_data.specs.Nodes.{node_from}
use Rattle.plan_data.specs.declared.ExprData.{ExprData}
use Rattle.apply_spec.specs.Conjuncts.{joined_of, conjuncts_to}
use Rattle.rows_spec.specs.InOrder.{in_order}
use Rattle.apply_walk.specs.declared.Frame.{Frame}
use Rattle.apply_walk.specs.declared.Walk.{Walk}
use Rattle.apply_walk.specs.declared.Move.{Move}
use Rattle.apply_walk.specs.Walks.{and_in, frame_at, frame_of, top_turn, moved}

-- ---- something of each frame taken together, from the frame on top down
unfoldable pub fold_to : {A : Type 0} → (A → A → A) → A → (ℕ → A) → ℕ → A
fold_to op none f zero = none
fold_to op none f (suc k) = op (f k) (fold_to op none f k)

abbrev pub of_frame : {A : Type 0} → (Frame → A) → Walk → ℕ → A
of_frame run w k = run (frame_at w k)

unfoldable pub fold_of : {A : Type 0} → (A → A → A) → A → (Frame → A) → Walk → A
fold_of op none run w = fold_to op none (of_frame run w) w.depth

-- ---- the conjuncts to come: of a frame, its operands that are left
unfoldable pub run_rest : (ℕ → ExprData) → List ℕ → Frame → List ℕ
run_rest node items f = joined_of (conjuncts_to node items f.owner) (take f.left (drop f.at items))

abbrev pub rest_of : (ℕ → ExprData) → List ℕ → Walk → List ℕ
rest_of node items = fold_of ◌++◌ [] (run_rest node items)

-- ---- the steps to come: one for each frame, one for each operand, and those of the Ands among them
unfoldable pub steps_in : List ℕ → List ℕ → ℕ
steps_in below [] = 0
steps_in below (e ∷ es) = suc (get_or below e 0) + steps_in below es

-- those of a frame, by those of each expression
abbrev pub frame_steps : List ℕ → List ℕ → Frame → ℕ
frame_steps items below f = suc (steps_in below (take f.left (drop f.at items)))

abbrev pub steps_by : Expressions → List ℕ → List ℕ → ℕ → ℕ
steps_by t items below h = cond (and_in t h) (frame_steps items below (frame_of t h)) 0

abbrev pub steps_to : Expressions → List ℕ → ℕ → List ℕ
steps_to t items = in_order (steps_by t items)

unfoldable pub run_steps : Expressions → List ℕ → Frame → ℕ
run_steps t items f = frame_steps items (steps_to t items f.owner) f

abbrev pub steps_left : Expressions → List ℕ → Walk → ℕ
steps_left t items = fold_of ◌+◌ 0 (run_steps t items)

-- ---- walks as the steps make them: a frame's And stands at most as high as there is room for the frames below it, so there is always room
pub record Good (w : Walk) : Type 0 where
  pub many : length w.frames ≡ 1024
  pub few : w.depth ≤ 1024
  pub low : (k : ℕ) → k < w.depth → k + (frame_at w k).owner ≤ 1023

module _ (t : Expressions) (items : List ℕ) where
  -- the walk w goes on to v: v is good, what was found comes before what is to come of v, and less is left to do
  pub record Goes (w v : Walk) (found : List ℕ) : Type 0 where
    pub good : Good v
    pub to-come : rest_of (node_from t) items w ≡ found ++ rest_of (node_from t) items v
    pub less : steps_left t items v < steps_left t items w

  -- a turn m of the good walk w, among 2,048 items, that leaves v
  pub record Turned (w v : Walk) (m : Move) : Type 0 where
    pub long : length items ≡ 2048
    pub good : Good w
    pub some : 0 < w.depth
    pub told : m ≡ top_turn t items w
    pub done : v ≡ moved w m
