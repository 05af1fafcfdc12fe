-- One conjunct is what its action makes of a set, and conjuncts are applied one after the other. Assumes nothing.
use Prim.Native.Nat.{ℕ, suc, ◌+◌, ◌<◌, ◌≤◌}
use mathlib.Core.Path.{◌≡◌, refl, sym, ap, ◌∙◌}
use mathlib.Core.Bool.{Bool, true, false, cond}
use mathlib.Core.List.{List, [], ◌∷◌, ◌++◌}
use native.Mathlib.Numerals.{add-one}
use native.Mathlib.Omega.{arith}
use lib.ListN.{length, get_or, drop, drop_of_length-le}
use lib.Seq.{drop-cons}
use Rattle.constraint_spec.specs.Sets.{add_residual, applied_of, done}
use Rattle.constraint_spec.specs.Answers.{Applied}
use Rattle.constraint_spec.specs.declared.ConstraintSet.{ConstraintSet}
use Rattle.plan_data.specs.declared.ExprData.{ExprData}
use Rattle.apply_spec.specs.Apply.{conjunct_applied, all_applied}
use Rattle.apply_action.specs.Actions.{acted, action_of, is_residual, joined_by, recorded_in}
use Rattle.apply_action.specs.declared.Action.{Action}
use Rattle.apply_action.proofs.Acts.{acts, is_proper}
use Rattle.apply_spec.proofs.Applications.{refused-stays}
use Rattle.apply_conjuncts.proofs.KnownLaws.{root-at, root-low, knows_after}
use Rattle.apply_action.proofs.CellLaws.{acted-is}

-- its classes joined, what it records recorded, its handle kept
pub conjunct_is : (lineage : List ℕ) (node : ℕ → ExprData) (h : ℕ) (act : Action) (q u w : ConstraintSet) (a : Applied) → act ≡ action_of lineage node h
    → u ≡ joined_by act q → w ≡ recorded_in act u → a ≡ cond (is_residual act) (add_residual w h) (done w) → a ≡ conjunct_applied lineage node q h
conjunct_is lineage node h act q u w a ea eu ew e =
    e
    ∙ ap (λ (t : ConstraintSet). cond (is_residual act) (add_residual t h) (done t)) (ew ∙ ap (recorded_in act) eu)
    ∙ sym (acted-is act q h)
    ∙ ap (λ (x : Action). acted x q h) ea
    ∙ acts q h lineage node

module _ (apply : ConstraintSet → ℕ → Applied) where
  -- the conjuncts of two lists, one after the other
  pub applied_append : (xs ys : List ℕ) (a : Applied) → all_applied apply (xs ++ ys) a ≡ all_applied apply ys (all_applied apply xs a)
  unfolding all_applied
  applied_append [] ys a = refl
  applied_append (h ∷ hs) ys a = applied_append hs ys (cond a.refused a (apply a.constraints h))

  -- of a list, where `whole` is what comes of it, and those before i left s
  module _ (whole : Applied) (hs : List ℕ) (i : ℕ) (s : ConstraintSet) (e : whole ≡ all_applied apply (drop i hs) (done s)) where
    -- the next one leaves u, and refuses or not
    module _ (u : ConstraintSet) (r : Bool) (low : i < length hs) (made : applied_of u r ≡ apply s (get_or hs i 0)) where
      next_is : whole ≡ all_applied apply (drop (suc i) hs) (applied_of u r)
      unfolding all_applied
      next_is = e ∙ rw (drop-cons hs i 0 low, made)

      pub one_more : r ≡ false → whole ≡ all_applied apply (drop (i + 1) hs) (done u)
      one_more q = next_is ∙ (λ k. all_applied apply (drop (sym (add-one i) k) hs) (applied_of u (q k)))

      pub one_refused : (x : Bool) → x ≡ true → r ≡ true → applied_of u x ≡ whole
      one_refused x p q =
          ap (applied_of u) (p ∙ sym q) ∙ sym (refused-stays apply (drop (suc i) hs) (applied_of u r) q) ∙ sym next_is

    -- there is none
    pub none_left : length hs ≤ i → done s ≡ whole
    unfolding all_applied
    none_left high = sym (e ∙ rw (drop_of_length-le hs {i = i} high))

  -- ---- lists of none, one and two
  pub none_applied : (hs : List ℕ) (s : ConstraintSet) → length hs < 1 → done s ≡ all_applied apply hs (done s)
  unfolding all_applied
  none_applied [] s e = refl
  none_applied (x ∷ hs) s e = absurd (omega arith)

  module _ (s u : ConstraintSet) (r : Bool) where
    pub one_applied : (hs : List ℕ) → applied_of u r ≡ apply s (get_or hs 0 0) → 1 ≤ length hs → length hs < 2 → applied_of u r ≡ all_applied apply hs (done s)
    unfolding all_applied
    one_applied [] m some few = absurd (omega arith)
    one_applied (x ∷ []) m some few = m
    one_applied (x ∷ y ∷ l) m some few = absurd (omega arith)

    two_is : (hs : List ℕ) → applied_of u r ≡ apply s (get_or hs 0 0) → 2 ≤ length hs → length hs < 3
        → all_applied apply hs (done s) ≡ cond (r) (applied_of u r) (apply u (get_or hs 1 0))
    unfolding all_applied
    two_is [] m some few = absurd (omega arith)
    two_is (x ∷ []) m some few = absurd (omega arith)
    two_is (x ∷ y ∷ []) m some few = ap (λ (t : Applied). cond t.refused t (apply t.constraints y)) (sym m)
    two_is (x ∷ y ∷ z ∷ l) m some few = absurd (omega arith)

    module _ (hs : List ℕ) (made : applied_of u r ≡ apply s (get_or hs 0 0)) (some : 2 ≤ length hs) (few : length hs < 3) where
      pub first_refused : (x : Bool) → x ≡ true → r ≡ true → applied_of u x ≡ all_applied apply hs (done s)
      first_refused x p q =
          ap (applied_of u) (p ∙ sym q)
          ∙ sym (two_is hs made some few ∙ ap (λ (b : Bool). cond b (applied_of u r) (apply u (get_or hs 1 0))) q)

      pub both_applied : r ≡ false → (a : Applied) → a ≡ apply u (get_or hs 1 0) → a ≡ all_applied apply hs (done s)
      both_applied q a ea =
          ea ∙ sym (two_is hs made some few ∙ ap (λ (b : Bool). cond b (applied_of u r) (apply u (get_or hs 1 0))) q)

-- what `apply_one` and `apply_known` make of a conjunct
pub ruleset one_conjunct = (is_proper, conjunct_is)

pub ruleset known_conjunct = (is_proper, conjunct_is, root-at, root-low, knows_after)

-- a list of them
pub ruleset listed_conjuncts = (one_more, one_refused, none_left)

pub ruleset few_conjuncts = (none_applied, one_applied, first_refused, both_applied)
