-- When a comparison of two values is TRUE. Assumes nothing.
use Rattle.std.proofs.Common.{Some}
use mathlib.Core.Path.{◌≡◌, refl, sym, ap, ◌∙◌, subst}
use mathlib.Core.Bool.{Bool, true, false, cond, not, ◌&&◌, ◌||◌, beq}
use mathlib.Core.Logic.{◌↔◌, ◌⊎◌, inl, inr}
use lib.Dec.{T, T_not, eqb→eq}
use lib.Ieee.{Float, eq}
use lib.Ieee.Fits.{and_i, and_l, and_r, eq→eqb}
use Rattle.scalar.specs.Exact.{eq_z}
use Rattle.scalar.specs.Kinds.{kind_code, kind_of, is_null, same_kind}
use Rattle.scalar.specs.Scalars.{same_scalar, less_scalar, Typed, scalar_to_f64}
use Rattle.scalar.specs.declared.ScalarValue.{ScalarValue}
use Rattle.scalar.proofs.WholeLaws.{iff}
use Rattle.truth.specs.Truth.{is_true_code}
use Rattle.comparison.specs.Operators.{ordinary, bounding, reversed_op}
use Rattle.comparison.specs.declared.BinaryOp.{BinaryOp}
use Rattle.comparison.specs.declared.BinaryOp.TheVariants.{Eq, NotEq, Lt, LtEq, Gt, GtEq, IsNotDistinctFrom}
use Rattle.comparison.proofs.OperatorLaws.{bounding-ordinary, reversed_twice, reversed_bounding}
use Rattle.constraint_spec.specs.Values.{same, equals, place_of, ok_range}
use Rattle.constraint_spec.specs.Sets.{bounds_by}
use Rattle.constraint_spec.proofs.Pairs.{by-pairs}
use Rattle.constraint_spec.proofs.ValueLaws.{same-sym, T-same-null}
use Rattle.constraint_spec.proofs.Bounding.{Tested, tested}
use Rattle.rows_spec.specs.Compare.{known, compared, compare_of}

-- ---- the ordinary six
pub record Compared (op : BinaryOp) (a b : ScalarValue) : Type 0 where
  pub left : T (not (is_null a))
  pub right : T (not (is_null b))
  pub kind : T (same_kind (kind_of a) (kind_of b))
  pub holds : T (compared op a b)

ordinary-test : (o p q k t : Bool) → T o → is_true_code (cond (p || q) (cond o 1 (known (p && q))) (cond k (known t) (cond o 1 0))) ≡ (not p && (not q
    && (k && t)))
ordinary-test true true q k t o = refl
ordinary-test true false true k t o = refl
ordinary-test true false false true true o = refl
ordinary-test true false false true false o = refl
ordinary-test true false false false t o = refl
ordinary-test false p q k t o = absurd o

module _ (op : BinaryOp) (a b : ScalarValue) (o : T (ordinary op)) where
  abbrev tests : Bool
  tests = same_kind (kind_of a) (kind_of b) && compared op a b

  by_op : is_true_code (compare_of op a b) ≡ (not (is_null a) && (not (is_null b) && tests))
  unfolding compare_of
  by_op = ordinary-test (ordinary op) (is_null a) (is_null b) (same_kind (kind_of a) (kind_of b)) (compared op a b) o

  -- TRUE only where no side is NULL, the kinds are one, and the test holds. Assumes one of the six
  pub compared-of : compare_of op a b ≡ 2 → Compared op a b
  compared-of e =
      let t = subst T by_op (eq→eqb e) in
      let u = and_r (not (is_null a)) (not (is_null b) && tests) t in
      let w = and_r (not (is_null b)) tests u in
      record {
        left = and_l (not (is_null a)) (not (is_null b) && tests) t;
        right = and_l (not (is_null b)) tests u;
        kind = and_l (same_kind (kind_of a) (kind_of b)) (compared op a b) w;
        holds = and_r (same_kind (kind_of a) (kind_of b)) (compared op a b) w;
      }

  -- and where they are so it is TRUE
  pub of-compared : Compared op a b → compare_of op a b ≡ 2
  of-compared c =
      eqb→eq (compare_of op a b) 2 (subst T (sym by_op)
      (and_i (not (is_null a)) (not (is_null b) && tests) c.left
      (and_i (not (is_null b)) tests c.right (and_i (same_kind (kind_of a) (kind_of b)) (compared op a b) c.kind c.holds))))

  -- a NULL on either side makes it other than TRUE
  pub null-left : T (is_null a) → compare_of op a b ≡ 2 → ⊥
  null-left n e = T_not (is_null a) (compared-of e).left n

  pub null-right : T (is_null b) → compare_of op a b ≡ 2 → ⊥
  null-right n e = T_not (is_null b) (compared-of e).right n

-- ---- equality, and equality that knows NULL
same_kind_lem : (a b : ScalarValue) → T (same_scalar a b) → T (not (is_null a)) → T (same_kind (kind_of a) (kind_of b))
same_kind_lem =
    by-pairs (λ (a b : ScalarValue). T (not (is_null a)) → T (same_kind (kind_of a) (kind_of b))) same_kind beq eq_z eq_z eq eq_z
    (λ x y t n. absurd n) (λ x y t n. tt) (λ x y t n. tt) (λ x y t n. tt) (λ x y t n. tt) (λ x y t n. tt)

-- Eq is TRUE exactly where the left is the right, no NULL. Assumes nothing
pub eq_iff : (a b : ScalarValue) → (compare_of Eq a b ≡ 2) ↔ T (equals a b)
eq_iff a b = (
  λ e. let c = compared-of Eq a b tt e in and_i (not (is_null a)) (same_scalar a b) c.left c.holds,
  λ t.
      let n = and_l (not (is_null a)) (same_scalar a b) t in
      let s = and_r (not (is_null a)) (same_scalar a b) t in
      of-compared Eq a b tt (record {
        left = n;
        right = subst (λ (c : Bool). T (not c)) (T-same-null a b s) n;
        kind = same_kind_lem a b s n;
        holds = s;
      }),
)

distinct_test : (p q k t : Bool) → (p ≡ q) ⊎ T (not t) → (T t → T (not p) → T k) → is_true_code (cond (p || q) (known (p && q)) (cond k (known t) 0))
    ≡ ((p && q) || t)
distinct_test true true k t e f = refl
distinct_test true false k true (inl e) f = absurd (subst T e tt)
distinct_test true false k true (inr n) f = absurd n
distinct_test true false k false e f = refl
distinct_test false true k true (inl e) f = absurd (subst T (sym e) tt)
distinct_test false true k true (inr n) f = absurd n
distinct_test false true k false e f = refl
distinct_test false false true true e f = refl
distinct_test false false true false e f = refl
distinct_test false false false true e f = absurd (f tt tt)
distinct_test false false false false e f = refl

-- IsNotDistinctFrom is TRUE exactly where the two are the same value, NULL with NULL. Assumes nothing
pub distinct_iff : (a b : ScalarValue) → (compare_of IsNotDistinctFrom a b ≡ 2) ↔ T (same a b)
unfolding compare_of
distinct_iff a b =
    let e = distinct_test (is_null a) (is_null b) (same_kind (kind_of a) (kind_of b)) (same_scalar a b) (decide (same_scalar a b) (T-same-null a b))
    (λ t n. same_kind_lem a b t n) in
    (λ t. subst T e (eq→eqb t), λ t. eqb→eq _ 2 (subst T (sym e) t))
  where
    decide : (t : Bool) → (T t → is_null a ≡ is_null b) → (is_null a ≡ is_null b) ⊎ T (not t)
    decide true f = inl (f tt)
    decide false f = inr tt

-- ---- turned round
same_turn : (a b : ScalarValue) → Typed a → Typed b → same_scalar a b ≡ same_scalar b a
same_turn a b ta tb = iff (same_scalar a b) (same_scalar b a) (λ t. same-sym a b t ta tb) (λ t. same-sym b a t tb ta)

turned-tests : (op : BinaryOp) (a b : ScalarValue) → Typed a → Typed b → T (bounding op) → T (compared op a b) → T (compared (reversed_op op) b a)
turned-tests Eq a b ta tb o t = absurd o
turned-tests NotEq a b ta tb o t = absurd o
turned-tests Lt a b ta tb o t = t
turned-tests LtEq a b ta tb o t = subst (λ (x : Bool). T (less_scalar a b || x)) (same_turn a b ta tb) t
turned-tests Gt a b ta tb o t = t
turned-tests GtEq a b ta tb o t = subst (λ (x : Bool). T (less_scalar b a || x)) (same_turn a b ta tb) t
turned-tests IsNotDistinctFrom a b ta tb o t = absurd o

kind-turn : (a b : ScalarValue) → T (same_kind (kind_of a) (kind_of b)) → T (same_kind (kind_of b) (kind_of a))
kind-turn a b t = eq→eqb (sym (eqb→eq (kind_code (kind_of a)) (kind_code (kind_of b)) t))

-- one of the four says the same with its sides exchanged. Assumes values of their types
pub compare-turned : (op : BinaryOp) (a b : ScalarValue) → Typed a → Typed b → T (bounding op) → compare_of op a b ≡ 2 → compare_of (reversed_op op) b
    a ≡ 2
compare-turned op a b ta tb o e =
    let c = compared-of op a b (bounding-ordinary op o) e in
    of-compared (reversed_op op) b a (bounding-ordinary (reversed_op op) (subst T (sym (reversed_bounding op)) o))
    (record { left = c.right; right = c.left; kind = kind-turn a b c.kind; holds = turned-tests op a b ta tb o c.holds })

-- and back. Assumes values of their types
pub compare-turned-back : (op : BinaryOp) (a b : ScalarValue) → Typed a → Typed b → T (bounding op) → compare_of (reversed_op op) b a ≡ 2 → compare_of
    op a b ≡ 2
compare-turned-back op a b ta tb o e =
    subst (λ (c : BinaryOp). compare_of c a b ≡ 2) (reversed_twice op) (compare-turned (reversed_op op) b a tb ta (subst T (sym (reversed_bounding
    op)) o) e)

-- the comparison of a value with a literal of its kind is its bound. Assumes values of their types
pub tests-bound : (op : BinaryOp) → T (bounding op) → (v l : ScalarValue) → T (not (is_null v)) → T (same_kind (kind_of v) (kind_of l)) → Typed v →
    Typed l
    → (x : Float) → scalar_to_f64 l ≡ Some x → compared op v l ≡ ok_range (place_of v) (bounds_by op x)
tests-bound op o v l n k tv tl x e = go op o (tested v l n k tv tl x e)
  where
    go : (op : BinaryOp) → T (bounding op) → Tested v l x → compared op v l ≡ ok_range (place_of v) (bounds_by op x)
    go Eq o m = absurd o
    go NotEq o m = absurd o
    go Lt o m = m.below
    go LtEq o m = m.at_most
    go Gt o m = m.above
    go GtEq o m = ap (λ (x : Bool). less_scalar l v || x) (same_turn v l tv tl) ∙ m.at_least
    go IsNotDistinctFrom o m = absurd o
