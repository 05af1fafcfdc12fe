-- The conjuncts of an expression are read from the kinds, the codes, the first numbers and the starts of lists: second operands and literals are
-- not looked at. Assumes nothing.
use Prim.Native.Nat.{ℕ, zero, suc}
use mathlib.Core.Path.{◌≡◌, refl, sym, ap, ◌∙◌}
use mathlib.Core.Bool.{Bool, true, false}
use mathlib.Core.List.{List, [], ◌∷◌, ◌++◌}
use lib.ListN.{get_or}
use Rattle.plan.specs.declared.Expressions.{Expressions}
use Rattle.plan_data.specs.Nodes.{node_of, node_from}
use Rattle.plan_data.specs.declared.ExprData.{ExprData}
use Rattle.apply_spec.specs.Conjuncts.{conjuncts_by, conjuncts_to, conjuncts_of}
use Rattle.apply_walk.specs.Walks.{and_in}
use Rattle.apply_walk.proofs.Entries.{and-entry, other-entry}

module _ (t : Expressions) (items b bits : List ℕ) where
  -- the same expressions, but for what is not looked at
  abbrev node : ℕ → ExprData
  node = node_of t.kind t.code t.a b bits t.start

  entry_same : (below : List (List ℕ)) (h : ℕ) → conjuncts_by below items h (node_from t h) ≡ conjuncts_by below items h (node h)
  entry_same below h = go (and_in t h) refl
    where
      go : (and : Bool) → and_in t h ≡ and → conjuncts_by below items h (node_from t h) ≡ conjuncts_by below items h (node h)
      go true e =
          and-entry below items h t.kind t.code t.a t.b t.bits t.start e ∙ sym (and-entry below items h t.kind t.code t.a b bits t.start e)
      go false e =
          other-entry below items h t.kind t.code t.a t.b t.bits t.start e ∙ sym (other-entry below items h t.kind t.code t.a b bits t.start e)

  entries_same : (n : ℕ) → conjuncts_to (node_from t) items n ≡ conjuncts_to node items n
  unfolding conjuncts_to
  entries_same zero = refl
  entries_same (suc n) =
      (λ i. entries_same n i ++ (conjuncts_by (entries_same n i) items n (node_from t n) ∷ []))
      ∙ ap (λ (l : List ℕ). conjuncts_to node items n ++ (l ∷ [])) (entry_same (conjuncts_to node items n) n)

  pub conjuncts_same : (e : ℕ) → conjuncts_of (node_from t) items e ≡ conjuncts_of node items e
  conjuncts_same e = ap (λ (l : List (List ℕ)). get_or l e []) (entries_same (suc e))
