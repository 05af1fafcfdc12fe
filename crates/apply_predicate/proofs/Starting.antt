-- The walk over an And's operands has its conjuncts to come. Assumes nothing.
use Prim.Native.Nat.{ℕ, ◌<◌}
use mathlib.Core.Path.{◌≡◌, sym, ap, subst, ◌∙◌}
use mathlib.Core.Bool.{true}
use mathlib.Core.List.{List}
use Rattle.plan.specs.declared.Expressions.{Expressions}
use Rattle.plan_data.specs.Nodes.{node_from}
use Rattle.apply_spec.specs.Conjuncts.{conjuncts_of}
use Rattle.apply_walk.specs.Walks.{and_in, empty_walk, entered}
use Rattle.apply_walk.specs.declared.Walk.{Walk}
use Rattle.apply_walk.specs.Rests.{rest_of, Good}
use Rattle.apply_walk.proofs.Stepping.{start-good, start-rest}

module _ (t : Expressions) (items : List ℕ) (e : ℕ) (low : e < 1024) (y : and_in t e ≡ true) (v w : Walk) (p : v ≡ empty_walk)
    (q : w ≡ entered t v e) where
  same_start : w ≡ entered t empty_walk e
  same_start = q ∙ ap (λ (u : Walk). entered t u e) p

  pub start_ready : Good w
  start_ready = subst Good (sym same_start) (start-good t items e low)

  pub start_whole : rest_of (node_from t) items w ≡ conjuncts_of (node_from t) items e
  start_whole = ap (rest_of (node_from t) items) same_start ∙ sym (start-rest t items e low y)
