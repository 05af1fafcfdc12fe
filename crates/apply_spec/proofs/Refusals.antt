-- A predicate is refused exactly where the Rust's list of residuals would pass 64, and else the list is that one. Assumes nothing.
use Rattle.std.proofs.Common.{Some, None, Option, Float, Ok, Err}
use Prim.Native.Nat.{ℕ, zero, suc, ◌+◌, ◌≤◌, ◌<◌}
use mathlib.Core.Path.{◌≡◌, refl, sym, ap, subst, ◌∙◌}
use mathlib.Core.Bool.{Bool, true, false, cond, not, ◌&&◌, ◌||◌}
use mathlib.Core.List.{List, [], ◌∷◌, ◌++◌}
use mathlib.Core.Logic.{inl, inr, ⊎_elim}
use native.Mathlib.Nat.{eq-or-lt_of_le}
use native.Mathlib.Omega.{arith}
use lib.Dec.{T, ltb, leb, eqb, ltb→lt}
use lib.ListN.{length, get_or, set, length-set, length-append, get_or-append}
use lib.Seq.{get_or-append_seam}
use borrow.Author.Tests.{lt-ltb, le-ltb, ltb-false, leb-true, eqb-false}
use Rattle.laws.proofs.Bools.{and_left, and_right, or_false-left, or_false-right}
use Rattle.lists.specs.Ranges.{all_from, any_from}
use Rattle.lists.proofs.RangeLaws.{below_or_not}
use Rattle.scalar.specs.Scalars.{scalar_to_f64}
use Rattle.scalar.specs.declared.ScalarValue.{ScalarValue}
use Rattle.scalar.specs.declared.ScalarValue.TheVariants as S
use Rattle.comparison.specs.Operators.{ordinary, bounding}
use Rattle.comparison.specs.declared.BinaryOp.{BinaryOp}
use Rattle.comparison.specs.declared.BinaryOp.TheVariants.{Eq, NotEq, Lt, LtEq, Gt, GtEq, IsNotDistinctFrom}
use Rattle.constraint_spec.specs.Sets.{classes_of, handles, with_residuals, with_flag, union_values, add_non_null, add_literal, add_bound, ranged_by}
use Rattle.constraint_spec.specs.Sets.{add_range, has_handle, room_for, push_residual, add_residual, done, set_ok}
use Rattle.value_classes.specs.Classes.{classes_ok}
use Rattle.constraint_spec.specs.Room.{listed, has, pushed}
use Rattle.constraint_spec.specs.declared.ConstraintSet.{ConstraintSet}
use Rattle.constraint_spec.specs.Answers.{Applied}
use Rattle.constraint_spec.proofs.Operations.{residual-done, residual-refused}
use Rattle.constraint_spec.proofs.RoomLaws.{SameList, same_self, same-through, same_flag, same_union, same_nonnull, same-add_literal, same-add_bound}
use Rattle.constraint_spec.proofs.RoomLaws.{same-listed, length-listed, room_noted, room-full, pushed_grows, Fits}
use Rattle.plan.specs.declared.Plan.{Plan}
use Rattle.plan.specs.declared.Expr.{Expr}
use Rattle.plan_rules.specs.Rules.{plan_ok}
use Rattle.plan_data.specs.Nodes.{node_at}
use Rattle.plan_data.specs.declared.ExprData.{ExprData}
use Rattle.plan_data.specs.declared.ExprData.TheVariants.{Literal, ColumnRef, Unary, Binary, Nary}
use Rattle.apply_spec.specs.Facts.{with_constraints, lineage_ok, definition_ok, facts_ok}
use Rattle.apply_spec.specs.Conjuncts.{conjuncts_of}
use Rattle.apply_spec.specs.Apply.{seen_of, is_null_literal, range_applied, operands_applied, comparison_by, comparison_applied, literal_applied, node_applied}
use Rattle.apply_spec.specs.Apply.{conjunct_applied, all_applied}
use Rattle.apply_spec.specs.Entries.{accepted, refused, answered, predicate_applied, apply_predicate}
use Rattle.apply_spec.specs.Wanted.{gives, operands_recorded, comparison_recorded, constant_recorded, node_recorded, conjunct_recorded, wanted_by}
use Rattle.apply_spec.specs.Wanted.{predicate_wanted}
use Rattle.apply_spec.specs.declared.LogicalFacts.{LogicalFacts}
use Rattle.apply_spec.specs.Told.{FactsAnswer}
use Rattle.apply_spec.specs.declared.FactsError.TheVariants.{Residuals, NoSuch}
use Rattle.apply_spec.specs.declared.Seen.{Seen}
use Rattle.apply_spec.specs.declared.Seen.TheVariants.{Identity, Constant, Unseen}

-- ---- sets with room for what they list
pub record Roomy (s : ConstraintSet) : Type 0 where
  pub few : s.residuals ≤ 64
  pub long : length (handles s) ≡ 64

pub same-roomy : (s t : ConstraintSet) → SameList s t → Roomy s → Roomy t
same-roomy s t e r = record { few = subst (λ (n : ℕ). n ≤ 64) (sym e.count) r.few; long = ap length e.handles ∙ r.long }

pub push-roomy : (s : ConstraintSet) → Roomy s → (h : ℕ) → Roomy (push_residual s h)
unfolding push_residual
push-roomy s r h = go (has_handle s h) (ltb s.residuals 64) (ltb→lt s.residuals 64)
  where
    go : (a b : Bool) → (T b → s.residuals < 64) → Roomy (cond a s (cond b (with_residuals s (set (handles s) s.residuals h) (s.residuals + 1)) s))
    go true b l = r
    go false true l = record { few = omega (arith, l tt); long = length-set (handles s) s.residuals h ∙ r.long }
    go false false l = r

-- ---- what one conjunct leaves of the list: as it was where it is recorded otherwise, else the handle once more
abbrev pub Leaves : ConstraintSet → ℕ → Bool → Applied → Type 0
Leaves s h recorded a = Roomy a.constraints × Fits a (cond recorded (listed s) (pushed (listed s) h))

module _ (s : ConstraintSet) (r : Roomy s) (h : ℕ) where
  kept : (t : ConstraintSet) → SameList s t → Leaves s h true (done t)
  kept t e = (same-roomy s t e r, inl (refl, same-listed s t e, omega (arith, length-listed s r.few r.long, r.few)))

  left : (t : ConstraintSet) → SameList s t → Leaves s h false (add_residual t h)
  left t e = go (room_for t h) refl
    where
      q : Roomy t
      q = same-roomy s t e r

      go : (b : Bool) → room_for t h ≡ b → Leaves s h false (add_residual t h)
      go true f =
          let room : T (room_for t h) = subst T (sym f) tt in
          let m = room_noted t q.few q.long h room in
          subst (Leaves s h false) (sym (residual-done t h room)) (
            push-roomy t q h,
            inl (refl, m.0 ∙ ap (λ (l : List ℕ). pushed l h) (same-listed s t e), subst (λ (l : List ℕ). length (pushed l h) ≤ 64) (same-listed s t e) m.1),
          )
      go false f =
          let full : T (not (room_for t h)) = subst (λ (b : Bool). T (not b)) (sym f) tt in
          subst (Leaves s h false) (sym (residual-refused t h full))
          (q, inr (refl, subst (λ (l : List ℕ). 64 < length (pushed l h)) (same-listed s t e) (room-full t q.few q.long h full)))

  residual : Leaves s h false (add_residual s h)
  residual = left s (same_self s)

  flagged : Leaves s h true (done (with_flag s true))
  flagged = kept (with_flag s true) (same_flag s true)

  -- a literal that gives bounds under one of the four that bound, and under another
  bounds : (i : ℕ) (op : BinaryOp) → bounding op ≡ true → (n : Option Float) → Leaves s h (gives n) (range_applied h (ranged_by s i op n))
  bounds i op e None = residual
  bounds i op e (Some x) =
      subst (λ (b : Bool). Leaves s h true (cond b (done (add_bound s i op x)) (add_residual (add_bound s i op x) h))) (sym e)
      (kept (add_bound s i op x) (same-add_bound s i op x))

  no_bounds : (i : ℕ) (op : BinaryOp) → bounding op ≡ false → (n : Option Float) → Leaves s h false (range_applied h (ranged_by s i op n))
  no_bounds i op e None = residual
  no_bounds i op e (Some x) =
      subst (λ (b : Bool). Leaves s h false (cond b (done (add_bound s i op x)) (add_residual (add_bound s i op x) h))) (sym e)
      (left (add_bound s i op x) (same-add_bound s i op x))

  literal : (i : ℕ) (v : ScalarValue) → Leaves s h true (done (add_literal s i v))
  literal i v = kept (add_literal s i v) (same-add_literal s i v)

  operands : (op : BinaryOp) (l q : Seen) → Leaves s h (operands_recorded op l q) (operands_applied s h op l q)
  unfolding add_range
  operands Eq (Identity i) (Identity j) =
      kept (add_non_null (union_values s i j) i) (same-through s (union_values s i j) (add_non_null (union_values s i j) i) (same_union s i j)
      (same_nonnull (union_values s i j) i))
  operands NotEq (Identity i) (Identity j) = residual
  operands Lt (Identity i) (Identity j) = residual
  operands LtEq (Identity i) (Identity j) = residual
  operands Gt (Identity i) (Identity j) = residual
  operands GtEq (Identity i) (Identity j) = residual
  operands IsNotDistinctFrom (Identity i) (Identity j) = kept (union_values s i j) (same_union s i j)
  operands Eq (Identity i) (Constant v) = literal i v
  operands NotEq (Identity i) (Constant v) = no_bounds i NotEq refl (scalar_to_f64 v)
  operands Lt (Identity i) (Constant v) = bounds i Lt refl (scalar_to_f64 v)
  operands LtEq (Identity i) (Constant v) = bounds i LtEq refl (scalar_to_f64 v)
  operands Gt (Identity i) (Constant v) = bounds i Gt refl (scalar_to_f64 v)
  operands GtEq (Identity i) (Constant v) = bounds i GtEq refl (scalar_to_f64 v)
  operands IsNotDistinctFrom (Identity i) (Constant v) = no_bounds i IsNotDistinctFrom refl (scalar_to_f64 v)
  operands op (Identity i) Unseen = residual
  operands Eq (Constant v) (Identity j) = literal j v
  operands NotEq (Constant v) (Identity j) = residual
  operands Lt (Constant v) (Identity j) = bounds j Gt refl (scalar_to_f64 v)
  operands LtEq (Constant v) (Identity j) = bounds j GtEq refl (scalar_to_f64 v)
  operands Gt (Constant v) (Identity j) = bounds j Lt refl (scalar_to_f64 v)
  operands GtEq (Constant v) (Identity j) = bounds j LtEq refl (scalar_to_f64 v)
  operands IsNotDistinctFrom (Constant v) (Identity j) = residual
  operands op (Constant v) (Constant w) = residual
  operands op (Constant v) Unseen = residual
  operands op Unseen (Identity j) = residual
  operands op Unseen (Constant w) = residual
  operands op Unseen Unseen = residual

  comparison : (op : BinaryOp) (l q : Seen) → Leaves s h (comparison_recorded op l q) (comparison_applied s h op l q)
  unfolding comparison_by comparison_recorded
  comparison op l q = go (ordinary op && (is_null_literal l || is_null_literal q))
    where
      go : (b : Bool) → Leaves s h (b || operands_recorded op l q) (cond b (done (with_flag s true)) (operands_applied s h op l q))
      go true = flagged
      go false = operands op l q

  constant : (v : ScalarValue) → Leaves s h (constant_recorded v) (literal_applied s h v)
  constant (S.Null k) = flagged
  constant (S.Boolean true) = kept s (same_self s)
  constant (S.Boolean false) = flagged
  constant (S.Int32 n) = residual
  constant (S.Int64 n) = residual
  constant (S.Float64 x) = residual
  constant (S.Date32 n) = residual

  node_leaves : (lineage : List ℕ) (node : ℕ → ExprData) (d : ExprData) → Leaves s h (node_recorded lineage node d) (node_applied lineage node s h d)
  node_leaves lineage node (Literal v) = constant v
  node_leaves lineage node (ColumnRef c) = residual
  node_leaves lineage node (Unary op e) = residual
  node_leaves lineage node (Binary op a b) = comparison op (seen_of lineage (node a.0)) (seen_of lineage (node b.0))
  node_leaves lineage node (Nary op a) = residual

  -- one conjunct, whatever was recorded before it
  pub conjunct_leaves : (lineage : List ℕ) (node : ℕ → ExprData) → Leaves s h (conjunct_recorded lineage node h) (conjunct_applied lineage node s h)
  unfolding conjunct_applied conjunct_recorded
  conjunct_leaves lineage node = node_leaves lineage node (node h)

-- ---- conjuncts in order: the walk ends where the list passes 64, and a list does not get shorter
grows : (b : Bool) (w : List ℕ) (h : ℕ) → 64 < length w → 64 < length (cond b w (pushed w h))
grows true w h l = l
grows false w h l = omega (arith, pushed_grows w h)

module _ (apply : ConstraintSet → ℕ → Applied) (recorded : ℕ → Bool) (law : (s : ConstraintSet) → Roomy s → (h : ℕ) → Leaves s h (recorded h) (apply s h)) where
  all_fit : (hs : List ℕ) (a : Applied) (w : List ℕ) → Roomy a.constraints → Fits a w → Fits (all_applied apply hs a) (wanted_by recorded w hs)
  unfolding all_applied wanted_by
  all_fit [] a w r f = f
  all_fit (h ∷ hs) a w r (inl f) =
      let k = law a.constraints r h in
      let next = cond (recorded h) w (pushed w h) in
      subst (λ (b : Bool). Fits (all_applied apply hs (cond b a (apply a.constraints h))) (wanted_by recorded next hs)) (sym f.0)
      (all_fit hs (apply a.constraints h) next k.0
      (subst (λ (l : List ℕ). Fits (apply a.constraints h) (cond (recorded h) l (pushed l h))) f.1 k.1))
  all_fit (h ∷ hs) a w r (inr f) =
      let next = cond (recorded h) w (pushed w h) in
      subst (λ (b : Bool). Fits (all_applied apply hs (cond b a (apply a.constraints h))) (wanted_by recorded next hs)) (sym f.0)
      (all_fit hs a next r (inr (f.0, grows (recorded h) w h f.1)))

fits-test : (a : Applied) (w : List ℕ) → Fits a w → a.refused ≡ ltb 64 (length w)
fits-test a w (inl f) = f.0 ∙ sym (le-ltb 64 (length w) f.2)
fits-test a w (inr f) = f.0 ∙ sym (lt-ltb 64 (length w) f.1)

-- ---- a whole predicate
module _ (p : Plan) (lineage : List ℕ) (s : ConstraintSet) (r : Roomy s) (e : ℕ) where
  -- the list is the Rust's, or it was refused, since it would pass 64
  pub predicate-fits : Fits (predicate_applied p lineage s e) (predicate_wanted p lineage s e)
  unfolding predicate_applied predicate_wanted
  predicate-fits =
      all_fit (conjunct_applied lineage (node_at p)) (conjunct_recorded lineage (node_at p)) (λ t q h. conjunct_leaves t q h lineage (node_at p))
      (conjuncts_of (node_at p) p.items.a e) (done s) (listed s) r (inl (refl, refl, omega (arith, length-listed s r.few r.long, r.few)))

  pub refused_exactly : (predicate_applied p lineage s e).refused ≡ ltb 64 (length (predicate_wanted p lineage s e))
  refused_exactly = fits-test (predicate_applied p lineage s e) (predicate_wanted p lineage s e) predicate-fits

-- ---- the public entry. That the table of handles has 64 places is what its type says
module _ (p : Plan) (f : LogicalFacts) (e : Expr) (long : length (handles f.constraints) ≡ 64)
    (ok : (plan_ok p && (ltb e.0 p.expressions.count && facts_ok p f)) ≡ true) where
  abbrev wanted : List ℕ
  wanted = predicate_wanted p f.lineage f.constraints e.0

  abbrev applied : Applied
  applied = predicate_applied p f.lineage f.constraints e.0

  facts-roomy : Roomy f.constraints
  unfolding facts_ok set_ok
  facts-roomy =
      let facts = and_right (ltb e.0 p.expressions.count) _ (and_right (plan_ok p) _ ok) in
      let later = and_right (all_from (definition_ok f.definitions p.columns.count p.expressions.count) 0 64) _
      (and_right (all_from (lineage_ok f.lineage p.columns.count) 0 64) _ facts) in
      let count = and_right (classes_ok (classes_of f.constraints)) _
      (and_left (classes_ok (classes_of f.constraints) && leb f.constraints.residuals 64) _ later) in
      record { few = leb-true f.constraints.residuals 64 count; long = long }

  answer : apply_predicate p f e ≡ answered f f applied
  unfolding apply_predicate
  answer = ap (λ (b : Bool). cond b (answered f f applied) (refused f (Err NoSuch))) ok

  -- refusal 7, exactly where the Rust's list would pass 64
  pub outcome_exactly : (apply_predicate p f e).outcome ≡ cond (ltb 64 (length wanted)) (Err Residuals) (Ok tt)
  outcome_exactly =
      ap (λ (a : FactsAnswer). a.outcome) answer ∙ by applied.refused
      ∙ ap (λ (b : Bool). cond b (Err Residuals) (Ok tt)) (refused_exactly p f.lineage f.constraints facts-roomy e.0)
    where
      by : (b : Bool) → (cond b (refused f (Err Residuals)) (accepted (with_constraints f applied.constraints))).outcome ≡ cond b (Err Residuals) (Ok tt)
      by true = refl
      by false = refl

  -- and else the new facts list just that
  pub list_exactly : ltb 64 (length wanted) ≡ false → listed (apply_predicate p f e).facts.constraints ≡ wanted
  list_exactly short = go (predicate-fits p f.lineage f.constraints facts-roomy e.0)
    where
      go : Fits applied wanted → listed (apply_predicate p f e).facts.constraints ≡ wanted
      go (inl q) =
          ap (λ (a : FactsAnswer). listed a.facts.constraints) answer
          ∙ ap (λ (b : Bool). listed (cond b (refused f (Err Residuals)) (accepted (with_constraints f applied.constraints))).facts.constraints) q.0 ∙ q.1
      go (inr q) = absurd (omega (arith, q.1, ltb-false 64 (length wanted) short))

-- ---- the list has each handle once, so that its length is the number of distinct handles
abbrev pub Distinct : List ℕ → Type 0
Distinct l = (i j : ℕ) → i < j → j < length l → get_or l i 0 ≡ get_or l j 0 → ⊥

any-lacks : (t : ℕ → Bool) (n i : ℕ) → any_from t i n ≡ false → (j : ℕ) → i ≤ j → j < i + n → t j ≡ false
unfolding any_from
any-lacks t zero i q j lo hi = absurd (omega arith)
any-lacks t (suc n) i q j lo hi =
    ⊎_elim (λ z. subst (λ (k : ℕ). t k ≡ false) z (or_false-left (t i) (any_from t (suc i) n) q))
    (λ z. any-lacks t n (suc i) (or_false-right (t i) (any_from t (suc i) n) q) j z (omega arith)) (eq-or-lt_of_le lo)

pushed_distinct : (l : List ℕ) (h : ℕ) → Distinct l → Distinct (pushed l h)
unfolding pushed
pushed_distinct l h d = go (has l h) refl
  where
    lacks : has l h ≡ false → (i : ℕ) → i < length l → get_or l i 0 ≡ h → ⊥
    lacks q i low z = eqb-false (get_or l i 0) h (any-lacks (λ (k : ℕ). eqb (get_or l k 0) h) (length l) 0 q i (omega arith) (omega arith)) z

    within : (i : ℕ) → i < length l → get_or (l ++ (h ∷ [])) i 0 ≡ get_or l i 0
    within i low = get_or-append l (h ∷ []) 0 i low

    last : (j : ℕ) → j ≡ length l → get_or (l ++ (h ∷ [])) j 0 ≡ h
    last j z = ap (λ (k : ℕ). get_or (l ++ (h ∷ [])) k 0) z ∙ get_or-append_seam l h [] 0

    go : (b : Bool) → has l h ≡ b → Distinct (cond b l (l ++ (h ∷ [])))
    go true q = d
    go false q =
        λ i j less low same.
        let size : length (l ++ (h ∷ [])) ≡ length l + 1 = length-append l (h ∷ []) in
        ⊎_elim (λ c. d i j less c (sym (within i (omega arith)) ∙ same ∙ within j c))
        (λ c. lacks q i (omega arith) (sym (within i (omega arith)) ∙ same ∙ last j (omega arith))) (below_or_not j (length l))

pub wanted_distinct : (recorded : ℕ → Bool) (l hs : List ℕ) → Distinct l → Distinct (wanted_by recorded l hs)
unfolding wanted_by
wanted_distinct recorded l [] d = d
wanted_distinct recorded l (h ∷ hs) d = wanted_distinct recorded (cond (recorded h) l (pushed l h)) hs (go (recorded h))
  where
    go : (b : Bool) → Distinct (cond b l (pushed l h))
    go true = d
    go false = pushed_distinct l h d
