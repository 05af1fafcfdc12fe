-- The action that a conjunct is makes of a set what the definition of applying says. Assumes nothing.
use Rattle.std.proofs.Common.{Some, None, Option}
use Prim.Native.Nat.{ℕ}
use mathlib.Core.Path.{◌≡◌, refl, sym, ap, subst, ◌∙◌}
use mathlib.Core.Bool.{Bool, true, false, cond}
use mathlib.Core.List.{List}
use native.Mathlib.Omega.{arith}
use lib.Dec.{ltb}
use lib.Ieee.{Float}
use borrow.Author.Tests.{ltb-true, ltb-false}
use Rattle.scalar.specs.Kinds.{is_null}
use Rattle.scalar.specs.Scalars.{scalar_to_f64}
use Rattle.scalar.specs.declared.ScalarValue.{ScalarValue}
use Rattle.value_range.specs.Ranges.{unbounded_range}
use Rattle.value_classes.proofs.Unions.{left_out, right-out}
use Rattle.comparison.specs.Operators.{bounding}
use Rattle.comparison.specs.declared.BinaryOp.{BinaryOp}
use Rattle.comparison.specs.declared.BinaryOp.TheVariants.{Eq, NotEq, Lt, LtEq, Gt, GtEq, IsNotDistinctFrom}
use Rattle.constraint_spec.specs.Sets.{canonical_at, put_non_null, lay_range, bounds_by, union_values, add_non_null}
use Rattle.constraint_spec.specs.Sets.{add_literal, add_bound, ranged_by, add_range, add_residual, done}
use Rattle.constraint_spec.specs.declared.ConstraintSet.{ConstraintSet}
use Rattle.constraint_spec.proofs.Operations.{union_one}
use Rattle.plan_data.specs.declared.ExprData.{ExprData}
use Rattle.apply_spec.specs.Apply.{range_applied, recorded, conjunct_applied}
use Rattle.apply_spec.specs.declared.Seen.{Seen}
use Rattle.apply_spec.specs.declared.Seen.TheVariants.{Identity, Constant, Unseen}
use Rattle.apply_spec.proofs.Recordings.{Carries, node-carried, Each, node-each}
use Rattle.apply_action.specs.Actions.{acted, same_action, bounded_by, range_action, literal_action, actions, operands_action, action_of, Proper}
use Rattle.apply_action.specs.declared.Action.{Action}
use Rattle.apply_action.specs.declared.Action.TheVariants.{Nothing, Contradiction, Residual, Same, Literal, Bound, Entry}

module _ (s : ConstraintSet) (h : ℕ) where
  -- ---- two identities
  out : (i j : ℕ) → ltb i 128 ≡ false → union_values s i j ≡ s
  unfolding union_values
  out i j e = rw (← left_out s.equivalence_classes i j (ltb-false i 128 e))

  out-right : (i j : ℕ) → ltb i 128 ≡ true → ltb j 128 ≡ false → union_values s i j ≡ s
  unfolding union_values
  out-right i j e f = rw (← right-out s.equivalence_classes i j (ltb-true i 128 e) (ltb-false j 128 f))

  abbrev joined : Bool → ℕ → ConstraintSet → ConstraintSet
  joined both i t = cond both (add_non_null t i) t

  null-out : (both : Bool) (i : ℕ) (t : ConstraintSet) → ltb i 128 ≡ false → joined both i t ≡ t
  unfolding add_non_null
  null-out true i t e = rw e
  null-out false i t e = refl

  same-acts : (i j : ℕ) (both : Bool) → acted (same_action i j both) s h ≡ done (joined both i (union_values s i j))
  unfolding same_action
  same-acts i j both = go (ltb i 128) (ltb j 128) refl refl
    where
      go : (a b : Bool) → ltb i 128 ≡ a → ltb j 128 ≡ b → acted (cond a (cond b (Same i j both) (Same i i both)) Nothing) s h ≡ done
          (joined both i (union_values s i j))
      go true true p q = refl
      go true false p q = ap (λ (t : ConstraintSet). done (joined both i t))
          (union_one s i i (ltb-true i 128 p) (ltb-true i 128 p) refl ∙ sym (out-right i j p q))
      go false b p q = ap done (sym (null-out both i (union_values s i j) p ∙ out i j p))

  -- ---- an identity and a number
  no_bounds : (op : BinaryOp) (x : Float) → bounding op ≡ false → bounds_by op x ≡ unbounded_range
  no_bounds Eq x e = refl
  no_bounds NotEq x e = refl
  no_bounds Lt x e = cc
  no_bounds LtEq x e = cc
  no_bounds Gt x e = cc
  no_bounds GtEq x e = cc
  no_bounds IsNotDistinctFrom x e = refl

  bound-out : (op : BinaryOp) (i : ℕ) (x : Float) → ltb i 128 ≡ false → add_bound s i op x ≡ s
  unfolding add_bound
  bound-out op i x e = rw e

  entry_in : (op : BinaryOp) (i : ℕ) (x : Float) → ltb i 128 ≡ true → bounding op ≡ false
      → lay_range (put_non_null s (canonical_at s i)) (canonical_at s i) unbounded_range ≡ add_bound s i op x
  unfolding add_bound
  entry_in op i x e b = rw (e, b) (ap (lay_range (put_non_null s (canonical_at s i)) (canonical_at s i)) (sym (no_bounds op x b)))

  range-acts : (op : BinaryOp) (i : ℕ) (n : Option Float) → acted (bounded_by op i n) s h ≡ range_applied h (ranged_by s i op n)
  unfolding bounded_by
  range-acts op i None = refl
  range-acts op i (Some x) = go (bounding op) (ltb i 128) refl refl
    where
      go : (a b : Bool) → bounding op ≡ a → ltb i 128 ≡ b
          → acted (cond a (cond b (Bound i op x) Nothing) (cond b (Entry i) Residual)) s h ≡ cond a (done (add_bound s i op x))
          (add_residual (add_bound s i op x) h)
      go true true p q = refl
      go true false p q = ap done (sym (bound-out op i x q))
      go false true p q = ap (λ (t : ConstraintSet). add_residual t h) (entry_in op i x q p)
      go false false p q = ap (λ (t : ConstraintSet). add_residual t h) (sym (bound-out op i x q))

  ranged : (op : BinaryOp) (i : ℕ) (v : ScalarValue) → acted (range_action op i v) s h ≡ range_applied h (add_range s i op v)
  unfolding add_range
  ranged op i v = range-acts op i (scalar_to_f64 v)

  literal-acts : (i : ℕ) (v : ScalarValue) → acted (literal_action i v) s h ≡ done (add_literal s i v)
  unfolding literal_action add_literal
  literal-acts i v = go (ltb i 128) (is_null v) refl refl
    where
      go : (a b : Bool) → ltb i 128 ≡ a → is_null v ≡ b → acted (cond a (cond b Contradiction (Literal i v)) Nothing) s h ≡ done (add_literal s i v)
      go true true p q = rw (p, q)
      go true false p q = refl
      go false b p q = rw p

  -- ---- the six ways, and so the table
  acts-carried : Carries (λ (a : Action). acted a s h) actions (recorded s h)
  acts-carried = record {
    nothing = refl;
    contradiction = refl;
    residual = refl;
    same = same-acts;
    literal = literal-acts;
    range = ranged;
  }

  -- the two halves are `conjunct_applied`
  pub acts : (lineage : List ℕ) (node : ℕ → ExprData) → acted (action_of lineage node h) s h ≡ conjunct_applied lineage node s h
  unfolding action_of conjunct_applied
  acts lineage node = node-carried (λ (a : Action). acted a s h) actions (recorded s h) acts-carried lineage node (node h)

-- ---- every action is proper
same-proper : (i j : ℕ) (both : Bool) → Proper (same_action i j both)
unfolding same_action
same-proper i j both = go (ltb i 128) (ltb j 128) refl refl
  where
    go : (a b : Bool) → ltb i 128 ≡ a → ltb j 128 ≡ b → Proper (cond a (cond b (Same i j both) (Same i i both)) Nothing)
    go true true p q = (ltb-true i 128 p, ltb-true j 128 q)
    go true false p q = (ltb-true i 128 p, ltb-true i 128 p)
    go false b p q = omega arith

range-proper : (op : BinaryOp) (i : ℕ) (n : Option Float) → Proper (bounded_by op i n)
unfolding bounded_by
range-proper op i None = omega arith
range-proper op i (Some x) = go (bounding op) (ltb i 128) refl refl
  where
    go : (a b : Bool) → bounding op ≡ a → ltb i 128 ≡ b → Proper (cond a (cond b (Bound i op x) Nothing) (cond b (Entry i) Residual))
    go true true p q = (ltb-true i 128 q, p)
    go true false p q = omega arith
    go false true p q = ltb-true i 128 q
    go false false p q = omega arith

literal-proper : (i : ℕ) (v : ScalarValue) → Proper (literal_action i v)
unfolding literal_action
literal-proper i v = go (ltb i 128) (is_null v) refl refl
  where
    go : (a b : Bool) → ltb i 128 ≡ a → is_null v ≡ b → Proper (cond a (cond b Contradiction (Literal i v)) Nothing)
    go true true p q = omega arith
    go true false p q = (ltb-true i 128 p, q)
    go false b p q = omega arith

ways_proper : Each Proper actions
ways_proper = record {
  nothing = omega arith;
  contradiction = omega arith;
  residual = omega arith;
  same = same-proper;
  literal = literal-proper;
  range = λ op i v. range-proper op i (scalar_to_f64 v);
}

pub proper : (lineage : List ℕ) (node : ℕ → ExprData) (h : ℕ) → Proper (action_of lineage node h)
unfolding action_of
proper lineage node h = node-each Proper actions ways_proper lineage node (node h)

-- the same of what `action_of` answers
pub is_proper : (lineage : List ℕ) (node : ℕ → ExprData) (h : ℕ) (act : Action) → act ≡ action_of lineage node h → Proper act
is_proper lineage node h act e = subst Proper (sym e) (proper lineage node h)

-- ---- an operand that is neither a column with lineage nor a literal leaves a residual
pub unseen_left : (op : BinaryOp) (r : Seen) → operands_action op Unseen r ≡ Residual
unseen_left op (Identity j) = refl
unseen_left op (Constant w) = refl
unseen_left op Unseen = refl
