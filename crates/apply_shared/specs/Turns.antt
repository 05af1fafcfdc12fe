-- What is known in the middle of a walk whose conjuncts are thinned, and what a turn of it keeps. Assumes nothing.
use Rattle.std.specs.Prelude.{ℕ, zero, suc, ◌<◌, ◌≤◌, ◌≡◌, Bool, true, false, List, [], ◌++◌, get_or, set, take}
use Rattle.plan.specs.declared.Expressions.{Expressions}
use Rattle.plan_data.specs.Nodes.{node_from}
use Rattle.apply_spec.specs.Conjuncts.{conjuncts_of}
use Rattle.apply_walk.specs.declared.Walk.{Walk}
use Rattle.apply_walk.specs.Walks.{frame_at}
use Rattle.apply_walk.specs.Rests.{of_frame, run_rest, rest_of, steps_left, Good}
use Rattle.apply_shared.specs.declared.Mark.{Mark}
use Rattle.apply_shared.specs.declared.Thin.{Thin}
use Rattle.apply_shared.specs.declared.Thinner.{Thinner}
use Rattle.apply_shared.specs.Thinned.{is_in, Thinned}

-- ---- marks
abbrev pub no_mark : Mark
no_mark = record { seen = false; owed = false }

abbrev pub mark_at : List Mark → ℕ → Mark
mark_at ms h = get_or ms h no_mark

-- x is owed or not; it is seen as it was
abbrev pub with_mark : Thinner → ℕ → Bool → Thinner
with_mark s x b = record s { marks = set s.marks x (record { seen = (mark_at s.marks x).seen; owed = b }) }

-- ---- lists
-- every handle of the one list is in the other
abbrev pub Within : List ℕ → List ℕ → Type 0
Within xs ys = (h : ℕ) → is_in h xs ≡ true → is_in h ys ≡ true

-- n frames of a walk, each covered: what its And has is there already, or to come in the frame, or had by the And of the frame above. `own` has
-- what the And of each has, `run` what is to come in it, and `more` what comes from above
unfoldable pub Chain : List ℕ → (ℕ → List ℕ) → (ℕ → List ℕ) → ℕ → List ℕ → Type 0
Chain there own run zero more = Unit {0}
Chain there own run (suc k) more = Within (own k) (there ++ (run k ++ more)) × Chain there own run k (own k)

module _ (own : ℕ → List ℕ) where
  -- whatever is owed comes
  abbrev pub Comes : List Mark → List ℕ → Type 0
  Comes marks rest = (h : ℕ) → (mark_at marks h).owed ≡ true → Within (own h) rest

  -- all of `whole` so far, where `there` was kept, `rest` is to come, and `own h` is owed of every handle h that is marked so
  abbrev pub SoFar : List ℕ → List ℕ → List ℕ → List Mark → Type 0
  SoFar whole there rest marks = Comes marks rest → (ks : List ℕ) → Thinned there rest ks → Thinned [] whole (there ++ ks)

-- the handles kept so far
abbrev pub kept_of : Thin → List ℕ
kept_of h = take h.count h.handles

module _ (t : Expressions) (items : List ℕ) where
  abbrev pub conj : ℕ → List ℕ
  conj h = conjuncts_of (node_from t) items h

  abbrev pub owns : Walk → ℕ → List ℕ
  owns w j = conj (frame_at w j).owner

  abbrev pub runs : Walk → ℕ → List ℕ
  runs w j = of_frame (run_rest (node_from t) items) w j

  -- the frames of the walk w are covered
  abbrev pub Covered : List ℕ → Walk → Type 0
  Covered there w = Chain there (owns w) (runs w) w.depth []

  -- of the And e all is well so far; where a handle is seen, its conjuncts are among those kept
  pub record Held (e : ℕ) (s : Thinner) : Type 0 where
    pub so_far : SoFar conj (conj e) (kept_of s.thin) (rest_of (node_from t) items s.walk) s.marks
    pub known : (h : ℕ) → (mark_at s.marks h).seen ≡ true → Within (conj h) (kept_of s.thin)
    pub frames : Covered (kept_of s.thin) s.walk

  -- a turn makes u of s
  pub record GoesOn (s u : Thinner) : Type 0 where
    pub good : Good u.walk
    pub few : u.thin.count ≤ 2048
    pub held : (e : ℕ) → Held e s → Held e u
    pub less : steps_left t items u.walk < steps_left t items s.walk
