-- The conjuncts of a walk applied as they are found, from its start to its end. Assumes nothing.
use Prim.Native.Nat.{ℕ, suc}
use mathlib.Core.Path.{◌≡◌, refl, sym, ap, ◌∙◌}
use mathlib.Core.Bool.{true, false, cond}
use mathlib.Core.List.{List, [], ◌∷◌, ◌++◌, append-nil}
use native.Mathlib.Omega.{arith}
use Rattle.constraint_spec.specs.Answers.{Applied}
use Rattle.constraint_spec.specs.Sets.{done}
use Rattle.constraint_spec.specs.declared.ConstraintSet.{ConstraintSet}
use Rattle.constraint_normal.specs.Ready.{Ready}
use Rattle.plan.specs.declared.Expressions.{Expressions}
use Rattle.plan_data.specs.Nodes.{node_from}
use Rattle.plan_data.specs.declared.ExprData.{ExprData}
use Rattle.apply_spec.specs.Conjuncts.{conjuncts_to, conjuncts_of}
use Rattle.apply_spec.specs.Apply.{conjunct_applied, all_applied}
use Rattle.apply_spec.proofs.Readings.{conjuncts_at}
use Rattle.apply_spec.proofs.Applications.{refused-stays}
use Rattle.apply_walk.specs.Walks.{and_in}
use Rattle.apply_walk.specs.declared.Walk.{Walk}
use Rattle.apply_walk.proofs.Entries.{other-entry}
use Rattle.apply_walk.specs.Rests.{rest_of}
use Rattle.apply_walk.proofs.Stepping.{nothing_left}
use Rattle.apply_shared.specs.Thinned.{Thinned}
use Rattle.apply_shared_laws.specs.Given.{or_given}
use Rattle.apply_shared_laws.proofs.EndsEnough.{ends_are_enough}

module _ (t : Expressions) (items lineage : List ℕ) where
  abbrev node : ℕ → ExprData
  node = node_from t

  abbrev conjunct : ConstraintSet → ℕ → Applied
  conjunct = conjunct_applied lineage node

  abbrev rest : Walk → List ℕ
  rest = rest_of node items

  abbrev whole : ℕ → List ℕ
  whole e = conjuncts_of node items e

  -- the conjuncts of two lists, one after the other
  after : (xs ys : List ℕ) (a : Applied) → all_applied conjunct (xs ++ ys) a ≡ all_applied conjunct ys (all_applied conjunct xs a)
  unfolding all_applied
  after [] ys a = refl
  after (h ∷ hs) ys a = after hs ys (cond a.refused a (conjunct a.constraints h))

  -- ---- a loop over a walk, by what it has of the whole list hs so far
  abbrev pub Left : List ℕ → ConstraintSet → Walk → ConstraintSet → Type 0
  Left hs s w q = all_applied conjunct hs (done s) ≡ all_applied conjunct (rest w) (done q)

  module _ (hs : List ℕ) (s : ConstraintSet) (w v : Walk) (q : ConstraintSet) (found : List ℕ) (had : Left hs s w q) (some : rest w ≡ found ++ rest v) where
    split : all_applied conjunct hs (done s) ≡ all_applied conjunct (rest v) (all_applied conjunct found (done q))
    split = had ∙ ap (λ (l : List ℕ). all_applied conjunct l (done q)) some ∙ after found (rest v) (done q)

    pub some_more : (z : ConstraintSet) → done z ≡ all_applied conjunct found (done q) → Left hs s v z
    some_more z e = split ∙ ap (all_applied conjunct (rest v)) (sym e)

    pub refused_on : (a : Applied) → a.refused ≡ true → a ≡ all_applied conjunct found (done q) → a ≡ all_applied conjunct hs (done s)
    refused_on a r e = sym (split ∙ ap (all_applied conjunct (rest v)) (sym e) ∙ refused-stays conjunct (rest v) a r)

  pub walk_done : (hs : List ℕ) (s : ConstraintSet) (w : Walk) (q : ConstraintSet) → Left hs s w q → w.depth ≡ 0 → done q ≡ all_applied conjunct hs (done s)
  unfolding all_applied
  walk_done hs s w q had e = sym (had ∙ ap (λ (l : List ℕ). all_applied conjunct l (done q)) (nothing_left t items w e))

  -- an expression that is no And is its own conjunct
  pub alone_applied : (e : ℕ) → and_in t e ≡ false → (s : ConstraintSet) → conjunct s e ≡ all_applied conjunct (whole e) (done s)
  unfolding all_applied
  alone_applied e f s =
      sym
      (ap (λ (l : List ℕ). all_applied conjunct l (done s))
      (conjuncts_at node items (suc e) e (omega arith) ∙ other-entry (conjuncts_to node items e) items e t.kind t.code t.a t.b t.bits t.start f))

  -- ---- what is given back, whichever way the conjuncts were applied
  module _ (e : ℕ) (s : ConstraintSet) where
    abbrev pub Handed : Applied → Type 0
    Handed r = or_given s r ≡ or_given s (all_applied conjunct (whole e) (done s))

    -- those that were found, where nothing is left of the walk
    pub found_all : (w v : Walk) (hs : List ℕ) → rest w ≡ whole e → rest w ≡ hs ++ rest v → v.depth ≡ 0 → (r : Applied)
        → r ≡ all_applied conjunct hs (done s) → Handed r
    found_all w v hs all some none r er =
        ap (or_given s)
        (er
        ∙ ap (λ (l : List ℕ). all_applied conjunct l (done s))
        (sym (some ∙ ap (λ (l : List ℕ). hs ++ l) (nothing_left t items v none) ∙ append-nil hs) ∙ all))

    -- all that a walk has to come
    pub walked : (w : Walk) → rest w ≡ whole e → (r : Applied) → r ≡ all_applied conjunct (rest w) (done s) → Handed r
    walked w all r er = ap (or_given s) (er ∙ ap (λ (l : List ℕ). all_applied conjunct l (done s)) all)

    -- a ready set, and only some of the conjuncts that repeat left out
    pub thinned_all : (ks : List ℕ) → Ready s → Thinned [] (whole e) ks → (r : Applied) → r ≡ all_applied conjunct ks (done s) → Handed r
    thinned_all ks ready thin r er =
        ap (or_given s) er ∙ sym (ends_are_enough lineage t.kind t.code t.a t.b t.bits t.start (whole e) ks s ready thin)
