-- A set that keeps the rules, with residuals of the plan, stays so under a predicate of the plan and under a merge. Assumes nothing.
use Rattle.std.proofs.Common.{Some, None, Option, Float}
use mathlib.Core.Path.{sym, subst}
use mathlib.Core.Bool.{true, false, cond, ◌&&◌, ◌||◌}
use mathlib.Core.List.{List, [], ◌∷◌}
use Prim.Native.Nat.{ℕ, zero, suc, ◌+◌, ◌<◌, ◌≤◌, min}
use native.Mathlib.Decide.{ℕ_discrete}
use native.Mathlib.Omega.{arith}
use lib.Dec.{ltb}
use lib.ListN.{get_or, set}
use lib.Seq.{get_or-set_other}
use Rattle.laws.proofs.Bools.{cond_T_elim}
use Rattle.scalar.specs.Scalars.{scalar_to_f64}
use Rattle.scalar.specs.declared.ScalarValue.{ScalarValue}
use Rattle.scalar.specs.declared.ScalarValue.TheVariants as S
use Rattle.comparison.specs.Operators.{ordinary, bounding}
use Rattle.comparison.specs.declared.BinaryOp.{BinaryOp}
use Rattle.comparison.specs.declared.BinaryOp.TheVariants.{Eq, NotEq, Lt, LtEq, Gt, GtEq, IsNotDistinctFrom}
use Rattle.constraint_spec.specs.Sets.{handles, handle_at, with_residuals, with_flag, normalized, union_values, add_non_null, add_literal, add_bound}
use Rattle.constraint_spec.specs.Sets.{ranged_by, add_range, has_handle, room_for, push_residual, add_residual, done, refused_with, empty_set, steps_to}
use Rattle.constraint_spec.specs.Sets.{merge_residual, merge_residuals, merge_values, merged_set, merge_room, merge_from}
use Rattle.constraint_spec.specs.declared.ConstraintSet.{ConstraintSet}
use Rattle.constraint_spec.specs.Answers.{Applied}
use Rattle.constraint_spec.proofs.Steps.{steps-good}
use Rattle.constraint_spec.proofs.Beside.{Beside, beside_self, beside_flag, add_non_null_beside, add_literal_beside, add_bound_beside}
use Rattle.constraint_spec.proofs.Empty.{empty-good}
use Rattle.constraint_spec.proofs.RoomLaws.{SameList, beside_same, same_union, same-normalized, same-values}
use Rattle.constraint_spec.proofs.Rules.{Ruled, ruled_beside, ruled_union, ruled-residual, ruled-merged}
use Rattle.plan.specs.declared.Plan.{Plan}
use Rattle.plan_data.specs.Nodes.{node_at}
use Rattle.plan_data.specs.declared.ExprData.{ExprData}
use Rattle.plan_data.specs.declared.ExprData.TheVariants.{Literal, ColumnRef, Unary, Binary, Nary}
use Rattle.apply_spec.specs.Facts.{has_lineage, identity_of}
use Rattle.apply_spec.specs.Conjuncts.{conjuncts_of}
use Rattle.apply_spec.specs.Apply.{seen_of, is_null_literal, range_applied, operands_applied, comparison_by, comparison_applied, literal_applied, node_applied}
use Rattle.apply_spec.specs.Apply.{conjunct_applied, all_applied}
use Rattle.apply_spec.specs.Entries.{predicate_applied}
use Rattle.apply_spec.specs.Meaning.{AllOf}
use Rattle.apply_spec.specs.declared.Seen.{Seen}
use Rattle.apply_spec.specs.declared.Seen.TheVariants.{Identity, Constant, Unseen}
use Rattle.apply_spec.proofs.Members.{all_map}
use Rattle.apply_spec.proofs.Conjunctions.{conjuncts_within}
use Rattle.apply_spec.proofs.Applying.{Within}

-- what stands where a number was stored: that number, or nothing where the list is too short
pub stored : (P : ℕ → Type 0) (l : List ℕ) (i v : ℕ) → P 0 → P v → P (get_or (set l i v) i 0)
stored P [] i v z q = z
stored P (x ∷ xs) zero v z q = q
stored P (x ∷ xs) (suc i) v z q = stored P xs i v z q

-- the residuals are below ne
abbrev pub Below : ℕ → ConstraintSet → Type 0
Below ne s = (k : ℕ) → k < s.residuals → handle_at s k < ne

pub record RightSet (ne : ℕ) (s : ConstraintSet) : Type 0 where
  pub rules : Ruled s
  pub below : (k : ℕ) → k < s.residuals → handle_at s k < ne

module _ (ne : ℕ) where
  pub empty_right : RightSet ne empty_set
  unfolding empty_set
  empty_right = record { rules = (empty-good.long, empty-good.fall, empty-good.few); below = λ k l. absurd (omega arith) }

  below-same : (s t : ConstraintSet) → SameList s t → Below ne s → Below ne t
  below-same s t m b k l =
      subst (λ (hs : List ℕ). get_or hs k 0 < ne) (sym m.handles) (b k (subst (λ (n : ℕ). k < n) m.count l))

  below-push : (s : ConstraintSet) (h : ℕ) → h < ne → Below ne s → Below ne (push_residual s h)
  unfolding push_residual
  below-push s h l b =
      let u = with_residuals s (set (handles s) s.residuals h) (s.residuals + 1) in
      cond_T_elim (Below ne) (has_handle s h) s (cond (ltb s.residuals 64) u s) (λ t. b) (cond_T_elim (Below ne) (ltb s.residuals 64) u s (λ t. more) b)
    where
      more : (k : ℕ) → k < s.residuals + 1 → get_or (set (handles s) s.residuals h) k 0 < ne
      more k m = elim (ℕ_discrete k s.residuals) [
        | yes e ↦ subst (λ (j : ℕ). get_or (set (handles s) s.residuals h) j 0 < ne) (sym e)
            (stored (λ (v : ℕ). v < ne) (handles s) s.residuals h (omega arith) l)
        | no d ↦ subst (λ (v : ℕ). v < ne) (sym (get_or-set_other (handles s) s.residuals k h 0 d)) (b k (omega arith))
      ]

  -- ---- what is recorded of identities
  pub right_beside : (s t : ConstraintSet) → Beside s t → RightSet ne s → RightSet ne t
  right_beside s t b r = record { rules = ruled_beside s t b r.rules; below = below-same s t (beside_same s t b) r.below }

  right_union : (s : ConstraintSet) (i j : ℕ) → i < 128 → j < 128 → RightSet ne s → RightSet ne (union_values s i j)
  right_union s i j hi hj r =
      record { rules = ruled_union s i j hi hj r.rules; below = below-same s (union_values s i j) (same_union s i j) r.below }

  right-push : (s : ConstraintSet) (h : ℕ) → h < ne → RightSet ne s → RightSet ne (push_residual s h)
  right-push s h l r = record { rules = ruled-residual s h r.rules; below = below-push s h l r.below }

  -- ---- one conjunct, an expression of the plan
  abbrev Kept : Applied → Type 0
  Kept a = RightSet ne a.constraints

  module _ (h : ℕ) (hl : h < ne) where
    residual : (s : ConstraintSet) → RightSet ne s → Kept (add_residual s h)
    unfolding add_residual
    residual s r = cond_T_elim Kept (room_for s h) (done (push_residual s h)) (refused_with s) (λ t. right-push s h hl r) r

  module _ (h : ℕ) (hl : h < ne) (s : ConstraintSet) (r : RightSet ne s) where
    flagged : Kept (done (with_flag s true))
    flagged = right_beside s (with_flag s true) (beside_flag s s (beside_self s) true) r

    literal : (i : ℕ) (v : ScalarValue) → Kept (done (add_literal s i v))
    literal i v = right_beside s (add_literal s i v) (add_literal_beside s i v) r

    bounded : (i : ℕ) (op : BinaryOp) (n : Option Float) → Kept (range_applied h (ranged_by s i op n))
    bounded i op None = residual h hl s r
    bounded i op (Some x) =
        let q = right_beside s (add_bound s i op x) (add_bound_beside s i op x) r in
        cond_T_elim Kept (bounding op) (done (add_bound s i op x)) (add_residual (add_bound s i op x) h) (λ t. q) (residual h hl (add_bound s i op x) q)

    -- an operand that is an identity is one of the 128
    abbrev Small : Seen → Type 0
    Small (Identity i) = i < 128
    Small (Constant v) = Unit {0}
    Small Unseen = Unit {0}

    same_class_lem : (i j : ℕ) → i < 128 → j < 128 → Kept (done (add_non_null (union_values s i j) i))
    same_class_lem i j hi hj = right_beside (union_values s i j) (add_non_null (union_values s i j) i) (add_non_null_beside (union_values s i j) i)
        (right_union s i j hi hj r)

    operands : (op : BinaryOp) (a b : Seen) → Small a → Small b → Kept (operands_applied s h op a b)
    unfolding add_range
    operands Eq (Identity i) (Identity j) x y = same_class_lem i j x y
    operands NotEq (Identity i) (Identity j) x y = residual h hl s r
    operands Lt (Identity i) (Identity j) x y = residual h hl s r
    operands LtEq (Identity i) (Identity j) x y = residual h hl s r
    operands Gt (Identity i) (Identity j) x y = residual h hl s r
    operands GtEq (Identity i) (Identity j) x y = residual h hl s r
    operands IsNotDistinctFrom (Identity i) (Identity j) x y = right_union s i j x y r
    operands Eq (Identity i) (Constant v) x y = literal i v
    operands NotEq (Identity i) (Constant v) x y = bounded i NotEq (scalar_to_f64 v)
    operands Lt (Identity i) (Constant v) x y = bounded i Lt (scalar_to_f64 v)
    operands LtEq (Identity i) (Constant v) x y = bounded i LtEq (scalar_to_f64 v)
    operands Gt (Identity i) (Constant v) x y = bounded i Gt (scalar_to_f64 v)
    operands GtEq (Identity i) (Constant v) x y = bounded i GtEq (scalar_to_f64 v)
    operands IsNotDistinctFrom (Identity i) (Constant v) x y = bounded i IsNotDistinctFrom (scalar_to_f64 v)
    operands op (Identity i) Unseen x y = residual h hl s r
    operands Eq (Constant v) (Identity j) x y = literal j v
    operands NotEq (Constant v) (Identity j) x y = residual h hl s r
    operands Lt (Constant v) (Identity j) x y = bounded j Gt (scalar_to_f64 v)
    operands LtEq (Constant v) (Identity j) x y = bounded j GtEq (scalar_to_f64 v)
    operands Gt (Constant v) (Identity j) x y = bounded j Lt (scalar_to_f64 v)
    operands GtEq (Constant v) (Identity j) x y = bounded j LtEq (scalar_to_f64 v)
    operands IsNotDistinctFrom (Constant v) (Identity j) x y = residual h hl s r
    operands op (Constant v) (Constant w) x y = residual h hl s r
    operands op (Constant v) Unseen x y = residual h hl s r
    operands op Unseen (Identity j) x y = residual h hl s r
    operands op Unseen (Constant w) x y = residual h hl s r
    operands op Unseen Unseen x y = residual h hl s r

    comparison : (op : BinaryOp) (a b : Seen) → Small a → Small b → Kept (comparison_applied s h op a b)
    unfolding comparison_by
    comparison op a b x y =
        cond_T_elim Kept (ordinary op && (is_null_literal a || is_null_literal b)) (done (with_flag s true)) (operands_applied s h op a b) (λ t. flagged)
        (operands op a b x y)

    constant : (v : ScalarValue) → Kept (literal_applied s h v)
    constant (S.Null k) = flagged
    constant (S.Boolean true) = r
    constant (S.Boolean false) = flagged
    constant (S.Int32 n) = residual h hl s r
    constant (S.Int64 n) = residual h hl s r
    constant (S.Float64 x) = residual h hl s r
    constant (S.Date32 n) = residual h hl s r

    module _ (lineage : List ℕ) (small : Within lineage) (node : ℕ → ExprData) where
      seen_small : (x : ExprData) → Small (seen_of lineage x)
      seen_small (Literal v) = tt
      seen_small (ColumnRef c) = cond_T_elim Small (has_lineage lineage c.0) (Identity (identity_of lineage c.0)) Unseen (small c.0) tt
      seen_small (Unary op e) = tt
      seen_small (Binary op a b) = tt
      seen_small (Nary op a) = tt

      node-right : (x : ExprData) → Kept (node_applied lineage node s h x)
      node-right (Literal v) = constant v
      node-right (ColumnRef c) = residual h hl s r
      node-right (Unary op e) = residual h hl s r
      node-right (Binary op a b) =
          comparison op (seen_of lineage (node a.0)) (seen_of lineage (node b.0)) (seen_small (node a.0)) (seen_small (node b.0))
      node-right (Nary op a) = residual h hl s r

      conjunct-right : Kept (conjunct_applied lineage node s h)
      unfolding conjunct_applied
      conjunct-right = node-right (node h)

  -- ---- conjuncts in order
  module _ (lineage : List ℕ) (small : Within lineage) (node : ℕ → ExprData) where
    conjuncts_right : (hs : List ℕ) → AllOf (λ (h : ℕ). h < ne) hs → (a : Applied) → Kept a → Kept (all_applied (conjunct_applied lineage node) hs a)
    unfolding all_applied
    conjuncts_right [] q a r = r
    conjuncts_right (h ∷ hs) q a r =
        conjuncts_right hs q.1 (cond a.refused a (conjunct_applied lineage node a.constraints h))
        (cond_T_elim Kept a.refused a (conjunct_applied lineage node a.constraints h) (λ t. r)
        (conjunct-right h q.0 a.constraints r lineage small node))

  -- ---- a merge of two such sets
  pub merge_right : (a b : ConstraintSet) → RightSet ne a → RightSet ne b → RightSet ne (merge_from a b).constraints
  unfolding merge_from merged_set merge_residuals
  merge_right a b ra rb =
      cond_T_elim Kept (merge_room a b) (done (merged_set a b)) (refused_with a)
      (λ t. record { rules = ruled-merged a b ra.rules; below = below-same pushed (normalized pushed) (same-normalized pushed) pushed-below }) ra
    where
      n : ℕ
      n = min b.residuals 64

      pushed : ConstraintSet
      pushed = steps_to (merge_residual (handles b)) n (merge_values a b)

      pushed-below : Below ne pushed
      pushed-below =
          steps-good (Below ne) (merge_residual (handles b)) n (λ k l t q. below-push t (handle_at b k) (rb.below k (omega arith)) q) n (omega arith)
          (merge_values a b)
          (below-same a (merge_values a b) (same-values b a) ra.below)

-- a predicate of the plan, where every identity of the lineage is one of the 128
pub predicate-right : (p : Plan) (lineage : List ℕ) → Within lineage → (s : ConstraintSet) (e : ℕ) → e < p.expressions.count → RightSet
    p.expressions.count s
    → RightSet p.expressions.count (predicate_applied p lineage s e).constraints
unfolding predicate_applied
predicate-right p lineage small s e l r =
    conjuncts_right p.expressions.count lineage small (node_at p) (conjuncts_of (node_at p) p.items.a e)
    (all_map (λ (h : ℕ). h ≤ e) (λ (h : ℕ). h < p.expressions.count) (λ h q. omega arith) (conjuncts_of (node_at p) p.items.a e)
    (conjuncts_within (node_at p) p.items.a e))
    (done s) r
