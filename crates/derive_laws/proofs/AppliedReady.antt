-- A predicate that is applied to a ready set and not refused leaves a ready set. Assumes nothing.
use Prim.Native.Nat.{ℕ}
use mathlib.Core.Path.{◌≡◌, refl, sym, ◌∙◌, subst}
use mathlib.Core.Bool.{Bool, true, false, cond, true≢false}
use mathlib.Core.List.{List, [], ◌∷◌}
use Rattle.constraint_spec.specs.Sets.{done}
use Rattle.constraint_spec.specs.declared.ConstraintSet.{ConstraintSet}
use Rattle.constraint_spec.specs.Answers.{Applied}
use Rattle.plan.specs.declared.Plan.{Plan}
use Rattle.plan_data.specs.Nodes.{node_at}
use Rattle.plan_data.specs.declared.ExprData.{ExprData}
use Rattle.apply_spec.specs.Conjuncts.{conjuncts_of}
use Rattle.apply_spec.specs.Apply.{conjunct_applied, all_applied}
use Rattle.apply_spec.specs.Entries.{predicate_applied}
use Rattle.constraint_normal.specs.Ready.{Ready}
use Rattle.apply_action.specs.Actions.{action_of}
use Rattle.apply_action.proofs.Acts.{acts, proper}
use Rattle.apply_shared_laws.proofs.ActedTwice.{acted_ready}
use Rattle.apply_shared_laws.proofs.Numbers.{numbered}

-- what was not refused is ready
abbrev pub ReadyUnlessRefused : Applied → Type 0
ReadyUnlessRefused a = a.refused ≡ false → Ready a.constraints

module _ (lineage : List ℕ) (node : ℕ → ExprData) where
  abbrev apply : ConstraintSet → ℕ → Applied
  apply = conjunct_applied lineage node

  one_ready : (s : ConstraintSet) (h : ℕ) → Ready s → ReadyUnlessRefused (apply s h)
  one_ready s h r =
      subst ReadyUnlessRefused (acts s h lineage node) (acted_ready (action_of lineage node h) (proper lineage node h) (numbered lineage node h) s r h)

  -- the next conjunct, if none was refused yet
  next_ready : (a : Applied) (h : ℕ) → ReadyUnlessRefused a → ReadyUnlessRefused (cond a.refused a (apply a.constraints h))
  next_ready a h r = go a.refused refl
    where
      go : (b : Bool) → a.refused ≡ b → ReadyUnlessRefused (cond b a (apply a.constraints h))
      go true e = λ z. absurd (true≢false (sym e ∙ z))
      go false e = one_ready a.constraints h (r e)

  all_ready : (hs : List ℕ) (a : Applied) → ReadyUnlessRefused a → ReadyUnlessRefused (all_applied apply hs a)
  unfolding all_applied
  all_ready [] a r = r
  all_ready (h ∷ hs) a r = all_ready hs (cond a.refused a (apply a.constraints h)) (next_ready a h r)

pub predicate_ready : (p : Plan) (lineage : List ℕ) (s : ConstraintSet) (e : ℕ) → Ready s → ReadyUnlessRefused (predicate_applied p lineage s e)
unfolding predicate_applied
predicate_ready p lineage s e r = all_ready lineage (node_at p) (conjuncts_of (node_at p) p.items.a e) (done s) (λ z. r)
