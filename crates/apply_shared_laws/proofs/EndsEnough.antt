-- Of conjuncts that are applied to a ready set those that stand both before and after may be left out. Assumes nothing.
use Prim.Native.Nat.{ℕ}
use mathlib.Core.Path.{◌≡◌, refl, sym, ap, ◌∙◌, subst}
use mathlib.Core.Bool.{Bool, true, false, cond, ◌||◌, false≢true}
use mathlib.Core.List.{List, [], ◌∷◌, ◌++◌}
use mathlib.Core.Logic.{◌⊎◌, inl, inr}
use native.Mathlib.Omega.{arith}
use lib.Dec.{eqb}
use borrow.Author.Tests.{eqb-true}
use Rattle.laws.proofs.Bools.{and_left, and_right}
use Rattle.scalar.specs.declared.ScalarValue.{ScalarValue}
use Rattle.constraint_spec.specs.Sets.{applied_of, done, refused_with}
use Rattle.constraint_spec.specs.declared.ConstraintSet.{ConstraintSet}
use Rattle.constraint_spec.specs.Answers.{Applied}
use Rattle.plan_data.specs.Nodes.{node_of}
use Rattle.plan_data.specs.declared.ExprData.{ExprData}
use Rattle.apply_spec.specs.Apply.{conjunct_applied, all_applied}
use Rattle.apply_spec.proofs.Applications.{refused-stays}
use Rattle.constraint_normal.specs.Ready.{Ready}
use Rattle.apply_shared.specs.Thinned.{is_in, Thinned}
use Rattle.apply_action.specs.Actions.{acted, action_of, Proper}
use Rattle.apply_action.specs.declared.Action.{Action}
use Rattle.apply_action.specs.declared.Action.TheVariants.{Nothing, Contradiction, Residual, Same, Literal, Bound, Entry}
use Rattle.apply_action.proofs.Acts.{acts, proper}
use Rattle.apply_shared_laws.specs.Has.{Has}
use Rattle.apply_shared_laws.specs.Given.{or_given}
use Rattle.apply_shared_laws.proofs.CellTwice.{Plain}
use Rattle.apply_shared_laws.proofs.ActedTwice.{acted_ready, acted-keeps, acted-has, acted-again}
use Rattle.apply_shared_laws.proofs.Numbers.{numbered}
use Rattle.apply_shared_laws.proofs.LiteralAgain.{again, again-twice, Next, next}

-- ---- a refusal stays
refused-given : (apply : ConstraintSet → ℕ → Applied) (hs : List ℕ) (a : Applied) (g : ConstraintSet) → a.refused ≡ true → or_given g (all_applied apply hs a)
    ≡ refused_with g
refused-given apply hs a g e = ap (or_given g) (refused-stays apply hs a e) ∙ ap (λ (t : Bool). cond t (refused_with g) a) e

-- ---- what is in a list with one more
in_more : (k h : ℕ) (old : List ℕ) → is_in k (old ++ (h ∷ [])) ≡ true → (is_in k old ≡ true) ⊎ (h ≡ k)
unfolding is_in
in_more k h [] e = go (eqb h k) refl e
  where
    go : (b : Bool) → eqb h k ≡ b → (b || false) ≡ true → (is_in k [] ≡ true) ⊎ (h ≡ k)
    go true q z = inr (eqb-true h k q)
    go false q z = absurd (false≢true z)
in_more k h (x ∷ xs) e = go (eqb x k) (in_more k h xs) e
  where
    go : (b : Bool) → (is_in k (xs ++ (h ∷ [])) ≡ true → (is_in k xs ≡ true) ⊎ (h ≡ k)) → (b || is_in k (xs ++ (h ∷ []))) ≡ true → ((b || is_in k xs) ≡ true)
        ⊎ (h ≡ k)
    go true f z = inl refl
    go false f z = f z

-- ---- an action is a literal or not
record IsLiteral (a : Action) : Type 0 where
  pub place : ℕ
  pub value : ScalarValue
  pub is : a ≡ Literal place value

plain_or : (a : Action) → Plain a ⊎ IsLiteral a
plain_or Nothing = inl (omega arith)
plain_or Contradiction = inl (omega arith)
plain_or Residual = inl (omega arith)
plain_or (Same i j both) = inl (omega arith)
plain_or (Literal i v) = inr (record { place = i; value = v; is = refl })
plain_or (Bound i op x) = inl (omega arith)
plain_or (Entry i) = inl (omega arith)

module _ (lineage : List ℕ) (node : ℕ → ExprData) where
  abbrev act : ℕ → Action
  act h = action_of lineage node h

  abbrev apply : ConstraintSet → ℕ → Applied
  apply = conjunct_applied lineage node

  -- the set has what the conjuncts of a list ask for
  abbrev AllDone : List ℕ → ConstraintSet → Type 0
  AllDone old s = (k : ℕ) → is_in k old ≡ true → Has (act k) k s

  -- one conjunct, as the action that it is
  module _ (s : ConstraintSet) (rd : Ready s) (h : ℕ) where
    is : acted (act h) s h ≡ apply s h
    is = acts s h lineage node

    module _ (e : (apply s h).refused ≡ false) where
      not-refused : (acted (act h) s h).refused ≡ false
      not-refused = ap (λ (x : Applied). x.refused) is ∙ e

      plainly : apply s h ≡ done (apply s h).constraints
      plainly = λ i. applied_of (apply s h).constraints (e i)

      still_ready : Ready (apply s h).constraints
      still_ready = subst (λ (x : Applied). Ready x.constraints) is (acted_ready (act h) (proper lineage node h) (numbered lineage node h) s rd h
          not-refused)

      kept : (other : Action) (k : ℕ) → Proper other → Has other k s → Has other k (apply s h).constraints
      kept other k p d = subst (λ (x : Applied). Has other k x.constraints) is (acted-keeps (act h) (proper lineage node h) (numbered lineage node h) s rd
          h other k p d not-refused)

      gained : Has (act h) h (apply s h).constraints
      gained = subst (λ (x : Applied). Has (act h) h x.constraints) is (acted-has (act h) (proper lineage node h) (numbered lineage node h) s rd h
          not-refused)

      one_more : (old : List ℕ) → AllDone old s → AllDone (old ++ (h ∷ [])) (apply s h).constraints
      one_more old d k i = elim (in_more k h old i) [
        | inl q ↦ kept (act k) k (proper lineage node k) (d k q)
        | inr q ↦ subst (λ (n : ℕ). Has (act n) n (apply s h).constraints) q gained
      ]

  -- ---- a literal that comes again makes no difference
  module _ (g : ConstraintSet) (h i : ℕ) (v : ScalarValue) (l : act h ≡ Literal i v) where
    pa : Proper (Literal i v)
    pa = subst Proper l (proper lineage node h)

    abbrev once : ConstraintSet → ConstraintSet
    once = again i v pa h

    applied : (s : ConstraintSet) → apply s h ≡ done (once s)
    applied s = sym (acts s h lineage node) ∙ ap (λ (a : Action). acted a s h) l

    abbrev Alike : List ℕ → Type 0
    Alike hs = (s : ConstraintSet) → Ready s → Has (Literal i v) h s → is_in h hs ≡ true → or_given g (all_applied apply hs (done s)) ≡ or_given g
        (all_applied apply hs (done (once s)))

    after : (b : ℕ) (hs : List ℕ) → Alike hs → (s : ConstraintSet) → Ready s → Has (Literal i v) h s → is_in h hs ≡ true
        → or_given g (all_applied apply hs (apply s b)) ≡ or_given g (all_applied apply hs (apply (once s) b))
    after b hs rest s rd x e = elim both [
      | inl z ↦ refused-given apply hs (apply s b) g z.0 ∙ sym (refused-given apply hs (apply (once s) b) g z.1)
      | inr y ↦ elim y [
        | inl z ↦ ap (λ (d : Applied). or_given g (all_applied apply hs d)) (sym z)
        | inr z ↦ ap (λ (d : Applied). or_given g (all_applied apply hs d)) (plainly s rd b z.0)
            ∙ rest (apply s b).constraints (still_ready s rd b z.0) (kept s rd b z.0 (Literal i v) h pa x) e
            ∙ ap (λ (d : Applied). or_given g (all_applied apply hs d)) (sym z.1)
      ]
    ]
      where
        N : Applied → Applied → Type 0
        N = Next i v pa h s rd x (act b) (proper lineage node b) (numbered lineage node b) b

        both : Next i v pa h s rd x (act b) (proper lineage node b) (numbered lineage node b) b (apply s b) (apply (once s) b)
        both =
            subst (λ (d : Applied). N d (apply (once s) b)) (acts s b lineage node)
            (subst (N (acted (act b) s b)) (acts (once s) b lineage node) (next i v pa h s rd x (act b) (proper lineage node b) (numbered lineage node b) b))

    again-alike : (hs : List ℕ) → Alike hs
    unfolding all_applied is_in
    again-alike [] s rd x e = absurd (false≢true e)
    again-alike (b ∷ hs) s rd x e = go (eqb b h) refl e (again-alike hs)
      where
        go : (t : Bool) → eqb b h ≡ t → (t || is_in h hs) ≡ true → Alike hs → or_given g (all_applied apply hs (apply s b)) ≡ or_given g
            (all_applied apply hs (apply (once s) b))
        go true q z rest =
            ap (λ (d : Applied). or_given g (all_applied apply hs d))
            (subst (λ (k : ℕ). apply s k ≡ apply (once s) k) (sym (eqb-true b h q))
            (applied s ∙ sym (ap done (again-twice i v pa h s rd x)) ∙ sym (applied (once s))))
        go false q z rest = after b hs rest s rd x z

  -- ---- what is left out makes no difference
  module _ (g : ConstraintSet) where
    -- a conjunct that was applied and comes again
    left_out : (h : ℕ) (hs : List ℕ) (s : ConstraintSet) → Ready s → Has (act h) h s → is_in h hs ≡ true → or_given g (all_applied apply hs (apply s h))
        ≡ or_given g (all_applied apply hs (done s))
    left_out h hs s rd x e = elim (plain_or (act h)) [
      | inl p ↦ ap (λ (d : Applied). or_given g (all_applied apply hs d)) (sym (acts s h lineage node) ∙ acted-again (act h) (proper lineage node h)
          (numbered lineage node h) s rd h p x)
      | inr l ↦ ap (λ (d : Applied). or_given g (all_applied apply hs d)) (applied g h l.place l.value l.is s)
          ∙ sym (again-alike g h l.place l.value l.is hs s rd (subst (λ (a : Action). Has a h s) l.is x) e)
    ]

    abbrev Without : List ℕ → Type 0
    Without hs = (ks old : List ℕ) (s : ConstraintSet) → Ready s → AllDone old s → Thinned old hs ks → or_given g (all_applied apply hs (done s)) ≡ or_given g
        (all_applied apply ks (done s))

    -- one that is not left out
    step : (h : ℕ) (hs ks old : List ℕ) (s : ConstraintSet) → Ready s → AllDone old s → Without hs → Thinned (old ++ (h ∷ [])) hs ks → (r : Bool) → (apply s
        h).refused ≡ r
        → or_given g (all_applied apply hs (apply s h)) ≡ or_given g (all_applied apply ks (apply s h))
    step h hs ks old s rd d rest t true e = refused-given apply hs (apply s h) g e ∙ sym (refused-given apply ks (apply s h) g e)
    step h hs ks old s rd d rest t false e =
        let u = (apply s h).constraints in
        ap (λ (x : Applied). or_given g (all_applied apply hs x)) (plainly s rd h e)
        ∙ rest ks (old ++ (h ∷ [])) u (still_ready s rd h e) (one_more s rd h e old d) t
        ∙ ap (λ (x : Applied). or_given g (all_applied apply ks x)) (sym (plainly s rd h e))

    without : (hs : List ℕ) → Without hs
    unfolding all_applied
    without [] ks old s rd d t = ap (λ (l : List ℕ). or_given g (all_applied apply l (done s))) (sym t)
    without (h ∷ hs) ks old s rd d t = elim t [
      | inl z ↦ left_out h hs s rd (d h (and_left (is_in h old) (is_in h hs) z.0)) (and_right (is_in h old) (is_in h hs) z.0) ∙ without hs ks old s rd d
          z.1
      | inr z ↦ step h hs z.others old s rd d (without hs) z.rest (apply s h).refused refl ∙ ap
          (λ (l : List ℕ). or_given g (all_applied apply l (done s))) (sym z.is)
    ]

-- of the conjuncts of a plan that are applied to a ready set those that stand both before and after may be left out, and a refusal stays one. Assumes nothing
-- of the plan
pub ends_are_enough : (lineage kind code a b bits start : List ℕ) (hs ks : List ℕ) (s : ConstraintSet) → Ready s → Thinned [] hs ks
    → or_given s (all_applied (conjunct_applied lineage (node_of kind code a b bits start)) hs (done s)) ≡ or_given s
    (all_applied (conjunct_applied lineage (node_of kind code a b bits start)) ks (done s))
unfolding is_in
ends_are_enough lineage kind code a b bits start hs ks s rd t =
    without lineage (node_of kind code a b bits start) s hs ks [] s rd (λ k e. absurd (false≢true e)) t
