-- Simplifying an expression is one step over simplifying those before it. Assumes nothing.
use mathlib.Core.Path.{◌≡◌, refl, sym, ap, subst, ◌∙◌}
use mathlib.Core.Bool.{Bool, true, false, cond}
use Prim.Native.Nat.{ℕ, zero, suc, ◌+◌, ◌<◌}
use native.Mathlib.Omega.{arith}
use lib.Dec.{ltb, eqb}
use lib.ListN.{get_or}
use borrow.Author.Tests.{eqb-true, eqb-false, eq-eqb, ltb-true, lt-ltb}
use Rattle.comparison.specs.declared.BinaryOp.{BinaryOp}
use Rattle.simplify_spec.specs.OneExpression.{shape_in, kept, not_of, compare_of, enter_of, joined, operands_from, nary_of, step_by, step_at}
use Rattle.simplify_spec.specs.OneExpression.{simplify_below, simplify_at}
use Rattle.simplify_spec.specs.declared.Tables.{Tables}
use Rattle.simplify_spec.specs.Answers.{Simplified}
use Rattle.simplify_spec.specs.declared.Shape.{Shape}
use Rattle.simplify_spec.specs.declared.Shape.TheVariants.{Boolean, Not, Compare, And, Or, Other}

-- what is asked goes by the handles below h alone
module _ (f g : ℕ → Tables → Simplified) (h : ℕ) (q : (a : ℕ) (s : Tables) → a < h → f a s ≡ g a s) where
  enter_same : (ok : Bool) (st : Tables) (e : ℕ) → enter_of f h ok st e ≡ enter_of g h ok st e
  enter_same false st e = refl
  enter_same true st e = go (ltb e h) refl
    where
      go : (t : Bool) → ltb e h ≡ t → cond t (f e st) (kept st e) ≡ cond t (g e st) (kept st e)
      go true l = q e st (ltb-true e h l)
      go false l = refl

  operands_same : (all : Bool) (m : ℕ) (ok : Bool) (st : Tables) (p : ℕ) → operands_from f all h ok st p m ≡ operands_from g all h ok st p m
  unfolding operands_from
  operands_same all zero ok st p = refl
  operands_same all (suc m) ok st p =
      ap (λ (r : Simplified). joined all (get_or st.items.a p 0) r (operands_from f all h r.ok r.st (p + 1) m))
      (enter_same ok st (get_or st.items.a p 0))
      ∙ ap (joined all (get_or st.items.a p 0) (enter_of g h ok st (get_or st.items.a p 0)))
      (operands_same all m (enter_of g h ok st (get_or st.items.a p 0)).ok (enter_of g h ok st (get_or st.items.a p 0)).st (p + 1))

  compare_same : (st : Tables) (op : BinaryOp) (a b : ℕ)
      → compare_of h op a b (enter_of f h true st a).at (enter_of f h (enter_of f h true st a).ok (enter_of f h true st a).st b)
      ≡ compare_of h op a b (enter_of g h true st a).at (enter_of g h (enter_of g h true st a).ok (enter_of g h true st a).st b)
  compare_same st op a b =
      ap (λ (x : Simplified). compare_of h op a b x.at (enter_of f h x.ok x.st b)) (enter_same true st a)
      ∙ ap (compare_of h op a b (enter_of g h true st a).at) (enter_same (enter_of g h true st a).ok (enter_of g h true st a).st b)

  step_same : (st : Tables) (x : Shape) → step_by f h st x ≡ step_by g h st x
  step_same st (Boolean b) = refl
  step_same st (Not e) = ap (not_of h e.0) (enter_same true st e.0)
  step_same st (Compare op l r) = compare_same st op l.0 r.0
  step_same st (And start count) = ap (nary_of true h) (operands_same true count true st start)
  step_same st (Or start count) = ap (nary_of false h) (operands_same false count true st start)
  step_same st Other = refl

simplify_fix : (h : ℕ) (st : Tables) → simplify_at h st ≡ step_at h (simplify_below h) st
unfolding simplify_at simplify_below
simplify_fix h st = ap (λ (t : Bool). cond t (step_at h (simplify_below h) st) (simplify_below h h st)) (eq-eqb h h refl)

below-is : (m a : ℕ) (st : Tables) → a < m → simplify_below m a st ≡ simplify_at a st
unfolding simplify_below
below-is zero a st lt = absurd (omega arith)
below-is (suc m) a st lt = go (eqb a m) refl (λ l. below-is m a st l)
  where
    go : (t : Bool) → eqb a m ≡ t → (a < m → simplify_below m a st ≡ simplify_at a st)
        → cond t (step_at m (simplify_below m) st) (simplify_below m a st) ≡ simplify_at a st
    go true e rest = subst (λ (j : ℕ). step_at j (simplify_below j) st ≡ simplify_at a st) (eqb-true a m e) (sym (simplify_fix a st))
    go false e rest =
        let ne : (a ≡ m → ⊥) = eqb-false a m e in
        rest (omega arith)

-- one step at h, over itself below h
pub simplify_step : (h : ℕ) (st : Tables) → simplify_at h st ≡ step_at h simplify_at st
simplify_step h st = simplify_fix h st ∙ step_same (simplify_below h) simplify_at h (λ a s lt. below-is h a s lt) st (shape_in st h)

-- an operand that stands before its node is simplified, any other stays
pub enter_in : (h e : ℕ) (s : Tables) → e < h → enter_of simplify_at h true s e ≡ simplify_at e s
enter_in h e s l = rw (lt-ltb e h l)

-- the step at a node of a known shape
pub simplify_at_lem : (h : ℕ) (st : Tables) (x : Shape) → shape_in st h ≡ x → simplify_at h st ≡ step_by simplify_at h st x
simplify_at_lem h st x e = simplify_step h st ∙ ap (step_by simplify_at h st) e
