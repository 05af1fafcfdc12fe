-- What a conjunct, and a run of them, makes of a set: every row that met the set and of which they are TRUE meets the result; every row that meets
-- the result met the set; and, where no NaN is compared with itself and no bound is of another kind, they are TRUE of it. Assumes nothing.
use Rattle.std.proofs.Common.{Some, None, Option}
use mathlib.Core.Path.{◌≡◌, refl, sym, ap, ap₂, ◌∙◌, subst}
use mathlib.Core.Bool.{Bool, true, false, cond, not, ◌&&◌, ◌||◌}
use mathlib.Core.List.{List, [], ◌∷◌}
use mathlib.Core.Logic.{◌↔◌, inl, inr}
use Prim.Native.Nat.{ℕ, ◌<◌}
use native.Mathlib.Omega.{arith}
use lib.Dec.{T, T_not}
use lib.Ieee.{Float}
use lib.Ieee.Fits.{and_i, and_l, and_r}
use Rattle.laws.proofs.Bools.{T_or_elim, T_or_inr}
use Rattle.scalar.specs.Kinds.{kind_of, is_null, same_kind}
use Rattle.scalar.specs.Scalars.{scalar_to_f64, same_scalar, Typed}
use Rattle.scalar.specs.declared.ScalarValue.{ScalarValue}
use Rattle.scalar.specs.declared.ScalarValue.TheVariants as S
use Rattle.scalar.proofs.NumberLaws.{converts}
use Rattle.comparison.specs.Operators.{ordinary, bounding, reversed_op}
use Rattle.comparison.specs.declared.BinaryOp.{BinaryOp}
use Rattle.comparison.specs.declared.BinaryOp.TheVariants.{Eq, NotEq, Lt, LtEq, Gt, GtEq, IsNotDistinctFrom}
use Rattle.comparison.proofs.OperatorLaws.{bounding-ordinary}
use Rattle.constraint_spec.specs.Values.{same, equals, place_of, ok_range, is_na_n}
use Rattle.constraint_spec.specs.Sets.{with_flag, union_values, add_non_null, add_literal, bounds_by, add_bound, add_range, room_for, push_residual}
use Rattle.constraint_spec.specs.Sets.{add_residual, done, refused_with}
use Rattle.constraint_spec.specs.Meets.{Like, Meets, Good}
use Rattle.constraint_spec.specs.declared.ConstraintSet.{ConstraintSet}
use Rattle.constraint_spec.specs.Answers.{Ranged}
use Rattle.constraint_spec.specs.Answers.{Applied}
use Rattle.constraint_spec.proofs.ValueLaws.{same-sym, alike-null, T-same-null}
use Rattle.constraint_spec.proofs.Bounding.{number-not-null, self-same}
use Rattle.constraint_spec.proofs.Goods.{flag-good}
use Rattle.constraint_spec.proofs.Operations.{union_good, union_iff, nonnull_good, nonnull_iff, add_literal-good, add_literal-iff, add_bound-good}
use Rattle.constraint_spec.proofs.Operations.{add_bound-iff, range_none, range-some, residual-good, residual-iff}
use Rattle.plan_data.specs.Nodes.{operands_of}
use Rattle.plan_data.specs.declared.ExprData.{ExprData}
use Rattle.plan_data.specs.declared.ExprData.TheVariants.{Literal, ColumnRef, Unary, Binary, Nary}
use Rattle.apply_spec.specs.Facts.{has_lineage, identity_of}
use Rattle.apply_spec.specs.Apply.{seen_of, is_null_literal, pair_applied, range_applied, bound_applied, bound_reversed, operands_applied}
use Rattle.apply_spec.specs.Apply.{comparison_by, comparison_applied, literal_applied, node_applied, conjunct_applied, all_applied}
use Rattle.apply_spec.specs.declared.Seen.{Seen}
use Rattle.apply_spec.specs.declared.Seen.TheVariants.{Identity, Constant, Unseen}
use Rattle.rows_spec.specs.Compare.{compare_of, truth_of}
use Rattle.rows_spec.specs.Values.{node_value, value_in, values, value_at}
use Rattle.rows_spec.proofs.ValueLaws.{value_in_lem}
use Rattle.apply_spec.specs.Meaning.{WholeRow, Consistent, OnNodes, AllOf}
use Rattle.apply_spec.specs.Conditions.{OneKind, ExactSeen, ExactNode}
use Rattle.apply_spec.proofs.Readings.{value-here}
use Rattle.apply_spec.proofs.Conjunctions.{OperandsBelow, truth_back-true}
use Rattle.apply_spec.proofs.Comparisons.{compared-of, of-compared, null-left, null-right, eq_iff, distinct_iff, compare-turned, compare-turned-back}
use Rattle.apply_spec.proofs.Comparisons.{tests-bound}

-- a literal holds a value of its type
abbrev pub TypedNode : ExprData → Type 0
TypedNode (Literal v) = Typed v
TypedNode (ColumnRef c) = Unit {0}
TypedNode (Unary op e) = Unit {0}
TypedNode (Binary op l r) = Unit {0}
TypedNode (Nary op es) = Unit {0}

-- a lineage names identities
abbrev pub Within : List ℕ → Type 0
Within lineage = (c : ℕ) → T (has_lineage lineage c) → identity_of lineage c < 128

abbrev is_eq : BinaryOp → Bool
is_eq Eq = true
is_eq NotEq = false
is_eq Lt = false
is_eq LtEq = false
is_eq Gt = false
is_eq GtEq = false
is_eq IsNotDistinctFrom = false

module _ (node : ℕ → ExprData) (items : List ℕ) (typed : (h : ℕ) → TypedNode (node h)) (lineage : List ℕ) (small : Within lineage) (row : WholeRow)
    (c : Consistent lineage row) where
  abbrev v : ℕ → ScalarValue
  v = row.ids

  abbrev O : ℕ → Type 0
  O h = OnNodes node items row h

  abbrev Here : ConstraintSet → Type 0
  Here s = Meets O v s

  -- ---- what a step has to show: new comes of s by what is TRUE where P holds
  pub record Step (s new : ConstraintSet) (P E : Type 0) : Type 0 where
    pub good : Good new
    pub sound : Meets (OnNodes node items row) row.ids s → P → Meets (OnNodes node items row) row.ids new
    pub back : Meets (OnNodes node items row) row.ids new → Meets (OnNodes node items row) row.ids s
    pub exact : E → Meets (OnNodes node items row) row.ids new → P

  step : (s new : ConstraintSet) (P E Q : Type 0) → Good new → Here new ↔ (Here s × Q) → (P → Q) → (E → Q → P) → Step s new P E
  step s new P E Q g i f b = record { good = g; sound = λ m p. i.1 (m, f p); back = λ m. (i.0 m).0; exact = λ e m. b e (i.0 m).1 }

  step-none : (s : ConstraintSet) (E : Type 0) → Good s → Step s s (Unit {0}) E
  step-none s E g = record { good = g; sound = λ m p. m; back = λ m. m; exact = λ e m. tt }

  step_then : (s t u : ConstraintSet) (P Q E F : Type 0) → Step s t P E → Step t u Q F → Step s u (P × Q) (E × F)
  step_then s t u P Q E F a b = record {
    good = b.good;
    sound = λ m p. b.sound (a.sound m p.0) p.1;
    back = λ m. a.back (b.back m);
    exact = λ e m. (a.exact e.0 (b.back m), b.exact e.1 m);
  }

  -- a flag that goes up: there is no such row
  flag : (s : ConstraintSet) (P E : Type 0) → Good s → (P → ⊥) → Step s (with_flag s true) P E
  flag s P E g f = record {
    good = flag-good s g true;
    sound = λ m p. absurd (f p);
    back = λ m. absurd m.core.clear;
    exact = λ e m. absurd
        m.core.clear;
  }

  -- a residual, after something that follows from it
  residual : (s t : ConstraintSet) (h : ℕ) (E Q : Type 0) → Good t → Here t ↔ (Here s × Q) → (O h → Q) → T (not (add_residual t h).refused) → Step s
      (add_residual t h).constraints (O h) E
  unfolding add_residual
  residual s t h E Q g i f = go (room_for t h) (λ r. r)
    where
      go : (b : Bool) → (T b → T (room_for t h)) → T (not (cond b (done (push_residual t h)) (refused_with t)).refused)
          → Step s (cond b (done (push_residual t h)) (refused_with t)).constraints (O h) E
      go true r u =
          let a = residual-iff t g h O v (r tt) in
          record {
            good = residual-good t g h;
            sound = λ m p. a.1 (i.1 (m, f p), p);
            back = λ m. (i.0 (a.0 m).0).0;
            exact = λ e m. (a.0 m).1;
          }
      go false r u = absurd u

  alone : (s : ConstraintSet) (h : ℕ) (E : Type 0) → Good s → T (not (add_residual s h).refused) → Step s (add_residual s h).constraints (O h) E
  alone s h E g = residual s s h E (Unit {0}) g (λ m. (m, tt), λ m. m.0) (λ p. tt)

  pick : (b : Bool) (x y : Applied) (s : ConstraintSet) (P E : Type 0) → (T b → T (not x.refused) → Step s x.constraints P E)
      → (T (not b) → T (not y.refused) → Step s y.constraints P E)
      → T (not (cond b x y).refused) → Step s (cond b x y).constraints P E
  pick true x y s P E f g = f tt
  pick false x y s P E f g = g tt

  -- ---- comparisons, by what the facts see of the two sides
  module _ (s : ConstraintSet) (g : Good s) (h : ℕ) where
    abbrev Says : BinaryOp → ScalarValue → ScalarValue → Type 0
    Says op a b = O h ↔ (compare_of op a b ≡ 2)

    pair_step : (op : BinaryOp) (i j : ℕ) → i < 128 → j < 128 → Says op (v i) (v j) → T (not (pair_applied s h op i j).refused) → Step s
        (pair_applied s h op i j).constraints (O h) (i ≡ j → T (not (is_na_n (v i))))
    pair_step Eq i j hi hj q u =
        let gu = union_good s i j hi hj g in
        let a = union_iff s i j hi hj g O v c.typed in
        let b = nonnull_iff (union_values s i j) gu i hi O v c.typed in
        step s (add_non_null (union_values s i j) i) (O h) (i ≡ j → T (not (is_na_n (v i)))) (Like v i j × T (not (is_null (v i))))
        (nonnull_good (union_values s i j) gu i hi)
        (λ m. (let k = b.0 m in let l = a.0 k.0 in (l.0, (l.1, k.1))), λ m. b.1 (a.1 (m.0, m.1.0), m.1.1))
        (λ p. let t = (eq_iff (v i) (v j)).0 (q.0 p)
        in (
          inr (T_or_inr (is_null (v i) && is_null (v j)) (same_scalar (v i) (v j)) (and_r (not (is_null (v i))) (same_scalar (v i) (v j)) t)),
          and_l
              (not (is_null (v i))) (same_scalar (v i) (v j)) t,
        ))
        (λ x r. q.1 ((eq_iff (v i) (v j)).1 (and_i (not (is_null (v i))) (same_scalar (v i) (v j)) r.1 (alike i j x r.0 r.1))))
      where
        alike : (i j : ℕ) → (i ≡ j → T (not (is_na_n (v i)))) → Like v i j → T (not (is_null (v i))) → T (same_scalar (v i) (v j))
        alike i j x (inl k) m = subst (λ (z : ℕ). T (same_scalar (v i) (v z))) k (self-same (v i) (c.typed i) (x k))
        alike i j x (inr t) m = T_or_elim (is_null (v i) && is_null (v j)) (same_scalar (v i) (v j)) t
            (λ b. absurd (T_not (is_null (v i)) m (and_l (is_null (v i)) (is_null (v j)) b))) (λ b. b)
    pair_step NotEq i j hi hj q u = alone s h _ g u
    pair_step Lt i j hi hj q u = alone s h _ g u
    pair_step LtEq i j hi hj q u = alone s h _ g u
    pair_step Gt i j hi hj q u = alone s h _ g u
    pair_step GtEq i j hi hj q u = alone s h _ g u
    pair_step IsNotDistinctFrom i j hi hj q u =
        step s (union_values s i j) (O h) (i ≡ j → T (not (is_na_n (v i)))) (Like v i j) (union_good s i j hi hj g) (union_iff s i j hi hj g O v c.typed)
        (λ p. inr ((distinct_iff (v i) (v j)).0 (q.0 p)))
        (λ x r. q.1 ((distinct_iff (v i) (v j)).1 (alike i j x r)))
      where
        alike : (i j : ℕ) → (i ≡ j → T (not (is_na_n (v i)))) → Like v i j → T (same (v i) (v j))
        alike i j x (inl k) = subst (λ (z : ℕ). T (same (v i) (v z))) k
            (T_or_inr (is_null (v i) && is_null (v i)) (same_scalar (v i) (v i)) (self-same (v i) (c.typed i) (x k)))
        alike i j x (inr t) = t

    module _ (i : ℕ) (hi : i < 128) (l : ScalarValue) (tl : Typed l) where
      abbrev Asks : BinaryOp → Float → Type 0
      Asks op x = T (not (is_null (v i))) × T (ok_range (place_of (v i)) (bounds_by op x))

      -- a bound, recorded
      bound-step : (op : BinaryOp) → T (bounding op) → (x : Float) → scalar_to_f64 l ≡ Some x → Says op (v i) l → Step s (add_bound s i op x) (O h)
          (OneKind (v i) op l)
      bound-step op o x w q =
          let r = converts l x tl w in
          step s (add_bound s i op x) (O h) (OneKind (v i) op l) (Asks op x)
          (add_bound-good s g i hi op x r.number r.held) (add_bound-iff s g i hi O v c.typed op x r.number r.held)
          (λ p. let m = compared-of op (v i) l (bounding-ordinary op o) (q.0 p)
          in (m.left, subst T (tests-bound op o (v i) l m.left m.kind (c.typed i) tl x w) m.holds))
          (λ k m.
          q.1 (T_or_elim (is_null (v i)) (same_kind (kind_of (v i)) (kind_of l)) (k o (number-not-null l x w)) (λ z. absurd (T_not (is_null (v i)) m.0 z))
          (λ z.
          of-compared op (v i) l (bounding-ordinary op o)
          (record {
            left = m.0;
            right = number-not-null l x w;
            kind = z;
            holds = subst T (sym (tests-bound op o (v i) l m.0 z (c.typed i) tl x w)) m.1;
          }))))

      abbrev Stepped : BinaryOp → Ranged → Type 0
      Stepped op r = T (not (range_applied h r).refused) → Step s (range_applied h r).constraints (O h) (OneKind (v i) op l)

      range-step : (op : BinaryOp) → T (not (is_eq op)) → Says op (v i) l → Stepped op (add_range s i op l)
      range-step op ne q = by_number (scalar_to_f64 l) refl
        where
          free : (op : BinaryOp) (x : Float) → T (not (bounding op)) → T (ok_range (place_of (v i)) (bounds_by op x))
          free Eq x o = tt
          free NotEq x o = tt
          free Lt x o = absurd o
          free LtEq x o = absurd o
          free Gt x o = absurd o
          free GtEq x o = absurd o
          free IsNotDistinctFrom x o = tt

          not_null : (op : BinaryOp) (x : Float) → scalar_to_f64 l ≡ Some x → T (not (is_eq op)) → T (not (bounding op)) → compare_of op (v i) l ≡ 2 → T
              (not (is_null (v i)))
          not_null Eq x w ne o p = absurd ne
          not_null NotEq x w ne o p = (compared-of NotEq (v i) l tt p).left
          not_null Lt x w ne o p = absurd o
          not_null LtEq x w ne o p = absurd o
          not_null Gt x w ne o p = absurd o
          not_null GtEq x w ne o p = absurd o
          not_null IsNotDistinctFrom x w ne o p = subst (λ (b : Bool). T (not b)) (sym (alike-null (v i) l (c.typed i) tl ((distinct_iff (v i) l).0 p)))
              (number-not-null l x w)

          by_number : (n : Option Float) → scalar_to_f64 l ≡ n → Stepped op (add_range s i op l)
          by_number None w = subst (Stepped op) (sym (range_none s i op l w)) (alone s h (OneKind (v i) op l) g)
          by_number (Some x) w =
              let r = converts l x tl w in
              subst (Stepped op) (sym (range-some s i op l x w))
              (pick (bounding op) (done (add_bound s i op x)) (add_residual (add_bound s i op x) h) s (O h) (OneKind (v i) op l)
              (λ o z. bound-step op o x w q)
              (λ o z.
              residual s (add_bound s i op x) h (OneKind (v i) op l) (Asks op x)
              (add_bound-good s g i hi op x r.number r.held) (add_bound-iff s g i hi O v c.typed op x r.number r.held)
              (λ p. (not_null op x w ne o (q.0 p), free op x o)) z))

      literal-step : (E : Type 0) → (O h ↔ T (equals (v i) l)) → Step s (add_literal s i l) (O h) E
      literal-step E q = step s (add_literal s i l) (O h) E (T (equals (v i) l)) (add_literal-good s g i hi l tl) (add_literal-iff s g i hi O v c.typed l tl)
          q.0 (λ e. q.1)

      right-step : (op : BinaryOp) → Says op (v i) l → T (not (bound_applied s h op i l).refused) → Step s (bound_applied s h op i l).constraints (O h)
          (OneKind (v i) op l)
      right-step Eq q u = literal-step (OneKind (v i) Eq l) (λ p. (eq_iff (v i) l).0 (q.0 p), λ p. q.1 ((eq_iff (v i) l).1 p))
      right-step NotEq q u = range-step NotEq tt q u
      right-step Lt q u = range-step Lt tt q u
      right-step LtEq q u = range-step LtEq tt q u
      right-step Gt q u = range-step Gt tt q u
      right-step GtEq q u = range-step GtEq tt q u
      right-step IsNotDistinctFrom q u = range-step IsNotDistinctFrom tt q u

      -- Eq with the literal on the left
      flip : (a b : ScalarValue) → Typed a → Typed b → T (equals a b) → T (equals b a)
      flip a b ta tb t =
          let m = and_l (not (is_null a)) (same_scalar a b) t in
          let k = and_r (not (is_null a)) (same_scalar a b) t in
          and_i (not (is_null b)) (same_scalar b a) (subst (λ (x : Bool). T (not x)) (T-same-null a b k) m) (same-sym a b k ta tb)

      turn : (op : BinaryOp) → T (bounding op) → Says op l (v i) → Says (reversed_op op) (v i) l
      turn op o q = (λ p. compare-turned op l (v i) tl (c.typed i) o (q.0 p), λ p. q.1 (compare-turned-back op l (v i) tl (c.typed i) o p))

      left_step : (op : BinaryOp) → Says op l (v i) → T (not (bound_reversed s h op i l).refused) → Step s (bound_reversed s h op i l).constraints (O h)
          (OneKind (v i) op l)
      left_step Eq q u =
          literal-step (OneKind (v i) Eq l)
          (λ p. flip l (v i) tl (c.typed i) ((eq_iff l (v i)).0 (q.0 p)), λ p. q.1 ((eq_iff l (v i)).1 (flip (v i) l (c.typed i) tl p)))
      left_step NotEq q u = alone s h _ g u
      left_step Lt q u = range-step Gt tt (turn Lt tt q) u
      left_step LtEq q u = range-step GtEq tt (turn LtEq tt q) u
      left_step Gt q u = range-step Lt tt (turn Gt tt q) u
      left_step GtEq q u = range-step LtEq tt (turn GtEq tt q) u
      left_step IsNotDistinctFrom q u = alone s h _ g u

    -- what the facts see of an operand is true of its value
    abbrev Sees : Seen → ScalarValue → Type 0
    Sees (Identity i) a = (i < 128) × (a ≡ v i)
    Sees (Constant l) a = (a ≡ l) × Typed l
    Sees Unseen a = Unit {0}

    along : (op : BinaryOp) (a b x y : ScalarValue) → a ≡ x → b ≡ y → Says op a b → Says op x y
    along op a b x y e f q = (λ p. sym (ap₂ (compare_of op) e f) ∙ q.0 p, λ t. q.1 (ap₂ (compare_of op) e f ∙ t))

    operands_step : (op : BinaryOp) (A B : Seen) (a b : ScalarValue) → Sees A a → Sees B b → Says op a b
        → T (not (operands_applied s h op A B).refused) → Step s (operands_applied s h op A B).constraints (O h) (ExactSeen v op A B)
    operands_step op (Identity i) (Identity j) a b x y q u = pair_step op i j x.0 y.0 (along op a b (v i) (v j) x.1 y.1 q) u
    operands_step op (Identity i) (Constant l) a b x y q u = right-step i x.0 l y.1 op (along op a b (v i) l x.1 y.0 q) u
    operands_step op (Identity i) Unseen a b x y q u = alone s h _ g u
    operands_step op (Constant l) (Identity j) a b x y q u = left_step j y.0 l x.1 op (along op a b l (v j) x.0 y.1 q) u
    operands_step op (Constant l) (Constant m) a b x y q u = alone s h _ g u
    operands_step op (Constant l) Unseen a b x y q u = alone s h _ g u
    operands_step op Unseen (Identity j) a b x y q u = alone s h _ g u
    operands_step op Unseen (Constant m) a b x y q u = alone s h _ g u
    operands_step op Unseen Unseen a b x y q u = alone s h _ g u

    null_seen : (A : Seen) (a : ScalarValue) → Sees A a → T (is_null_literal A) → T (is_null a)
    null_seen (Identity i) a x t = absurd t
    null_seen (Constant l) a x t = subst (λ (z : ScalarValue). T (is_null z)) (sym x.0) t
    null_seen Unseen a x t = absurd t

    comparison-step : (op : BinaryOp) (A B : Seen) (a b : ScalarValue) → Sees A a → Sees B b → Says op a b
        → T (not (comparison_applied s h op A B).refused) → Step s (comparison_applied s h op A B).constraints (O h) (ExactSeen v op A B)
    unfolding comparison_by
    comparison-step op A B a b x y q =
        let n = is_null_literal A || is_null_literal B in
        pick (ordinary op && n) (done (with_flag s true)) (operands_applied s h op A B) s (O h) (ExactSeen v op A B)
        (λ t z. flag s (O h) (ExactSeen v op A B) g (λ p.
        let o = and_l (ordinary op) n t in
        T_or_elim (is_null_literal A) (is_null_literal B) (and_r (ordinary op) n t)
        (λ w. null-left op a b o (null_seen A a x w) (q.0 p))
        (λ w. null-right op a b o (null_seen B b y w) (q.0 p))))
        (λ t z. operands_step op A B a b x y q z)

    -- ---- a literal as a predicate
    never-one : ◌≡◌ {A = ℕ} 1 2 → ⊥
    never-one e = absurd (omega (arith, e))

    never-zero : ◌≡◌ {A = ℕ} 0 2 → ⊥
    never-zero e = absurd (omega (arith, e))

    known_step : (l : ScalarValue) → (O h ↔ (truth_of l ≡ 2)) → T (not (literal_applied s h l).refused) → Step s (literal_applied s h l).constraints (O h)
        (Unit {0})
    known_step (S.Null k) q u = flag s (O h) (Unit {0}) g (λ p. never-one (q.0 p))
    known_step (S.Boolean true) q u = record { good = g; sound = λ m p. m; back = λ m. m; exact = λ x m. q.1 refl }
    known_step (S.Boolean false) q u = flag s (O h) (Unit {0}) g (λ p. never-zero (q.0 p))
    known_step (S.Int32 k) q u = alone s h (Unit {0}) g u
    known_step (S.Int64 k) q u = alone s h (Unit {0}) g u
    known_step (S.Float64 k) q u = alone s h (Unit {0}) g u
    known_step (S.Date32 k) q u = alone s h (Unit {0}) g u

    -- ---- what is seen of an expression
    sees : (e : ℕ) → Sees (seen_of lineage (node e)) (value_at row.cols node items e)
    sees e = subst (Sees (seen_of lineage (node e))) (sym (value-here row.cols node items e)) (go (node e) (typed e))
      where
        column : (k : ℕ) (b : Bool) → (T b → row.cols k ≡ row.ids (identity_of lineage k)) → (T b → identity_of lineage k < 128) → Sees
            (cond b (Identity (identity_of lineage k)) Unseen) (row.cols k)
        column k true f w = (w tt, f tt)
        column k false f w = tt

        go : (x : ExprData) → TypedNode x → Sees (seen_of lineage x) (node_value row.cols (value_in (values row.cols node items e)) (operands_of items) x)
        go (Literal l) t = (refl, t)
        go (ColumnRef k) t = column k.0 (has_lineage lineage k.0) (c.same k.0) (small k.0)
        go (Unary op x) t = tt
        go (Binary op l r) t = tt
        go (Nary op es) t = tt

    node-step : (x : ExprData) → OperandsBelow items h x → node h ≡ x → T (not (node_applied lineage node s h x).refused) → Step s
        (node_applied lineage node s h x).constraints (O h) (ExactNode v lineage node x)
    node-step (Literal l) b e u =
        let k = ap truth_of (value-here row.cols node items h) ∙ ap
        (λ (x : ExprData). truth_of (node_value row.cols (value_in (values row.cols node items h)) (operands_of items) x)) e in
        known_step l (λ p. sym k ∙ p, λ p. k ∙ p) u
    node-step (ColumnRef k) b e u = alone s h _ g u
    node-step (Unary op x) b e u = alone s h _ g u
    node-step (Binary op l r) b e u =
        let vals = values row.cols node items h in
        let k = ap truth_of (value-here row.cols node items h) ∙ ap (λ (x : ExprData). truth_of (node_value row.cols (value_in vals) (operands_of items) x))
        e in
        let w = truth_back-true (compare_of op (value_in vals l.0) (value_in vals r.0)) in
        comparison-step op (seen_of lineage (node l.0)) (seen_of lineage (node r.0)) (value_at row.cols node items l.0)
        (value_at row.cols node items r.0) (sees l.0) (sees r.0)
        (along op (value_in vals l.0) (value_in vals r.0) (value_at row.cols node items l.0) (value_at row.cols node items r.0)
        (value_in_lem row.cols node items h l.0 b.0) (value_in_lem row.cols node items h r.0 b.1)
        (λ p. w.0 (sym k ∙ p), λ t. k ∙ w.1 t)) u
    node-step (Nary op es) b e u = alone s h _ g u

    -- ---- one conjunct
    pub conjunct-step : OperandsBelow items h (node h) → T (not (conjunct_applied lineage node s h).refused) → Step s
        (conjunct_applied lineage node s h).constraints (O h) (ExactNode v lineage node (node h))
    unfolding conjunct_applied
    conjunct-step b u = node-step (node h) b refl u

  -- ---- a run of conjuncts
  abbrev E : ℕ → Type 0
  E h = ExactNode v lineage node (node h)

  abbrev Runs : List ℕ → Applied → Type 0
  Runs hs a =
      T (not (all_applied (conjunct_applied lineage node) hs a).refused)
      → T (not a.refused) × (Good a.constraints → Step a.constraints (all_applied (conjunct_applied lineage node) hs a).constraints (AllOf O hs)
      (AllOf E hs))

  -- a run of conjuncts that is not refused was refused nowhere on the way, and is a step. Assumes operands that stand before their node
  pub run_step : (hs : List ℕ) → AllOf (λ (h : ℕ). OperandsBelow items h (node h)) hs → (a : Applied) → Runs hs a
  unfolding all_applied
  run_step [] b a u = (u, λ g. step-none a.constraints (Unit {0}) g)
  run_step (h ∷ hs) b a u = go a.refused (λ t. t) (λ t. t) (run_step hs b.1 a) (run_step hs b.1 (conjunct_applied lineage node a.constraints h)) u
    where
      go : (x : Bool) → (T x → T a.refused) → (T (not x) → T (not a.refused)) → Runs hs a → Runs hs (conjunct_applied lineage node a.constraints h)
          → T (not (all_applied (conjunct_applied lineage node) hs (cond x a (conjunct_applied lineage node a.constraints h))).refused)
          → T (not a.refused)
          × (Good a.constraints → Step a.constraints
          (all_applied (conjunct_applied lineage node) hs (cond x a (conjunct_applied lineage node a.constraints h))).constraints (O h × AllOf O hs)
          (E h × AllOf E hs))
      go true k n r w u = absurd (T_not a.refused (r u).0 (k tt))
      go false k n r w u =
          let j = w u in
          let next = conjunct_applied lineage node a.constraints h in (
            n tt,
            λ g.
                let first = conjunct-step a.constraints g h b.0 j.0 in
                step_then a.constraints next.constraints (all_applied (conjunct_applied lineage node) hs next).constraints (O h) (AllOf O hs) (E h)
                (AllOf E hs) first (j.1 first.good),
          )
