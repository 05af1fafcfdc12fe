-- Values that are alike have the same truth and compare alike; And and Or of truths, with the literal that changes nothing and the one that decides.
-- Assumes nothing.
use mathlib.Core.Path.{◌≡◌, refl, sym, ap, ap₂, ◌∙◌}
use mathlib.Core.Bool.{Bool, true, false, not, cond, ◌&&◌, ◌||◌, false≢true}
use mathlib.Core.List.{List, [], ◌∷◌}
use Prim.Native.Nat.{ℕ, ◌<◌}
use Rattle.truth.specs.Truth.{is_false_code, is_true_code, and_t, or_t, all_of, any_of}
use Rattle.truth.proofs.TruthLaws.{and_unit, or_unit, and_t_comm, or_t_comm, all-code, any_code}
use Rattle.comparison.specs.Operators.{ordinary}
use Rattle.comparison.specs.declared.BinaryOp.{BinaryOp}
use Rattle.scalar.specs.Kinds.{kind_of, is_null, same_kind}
use Rattle.scalar.specs.declared.Kind.TheVariants as K
use Rattle.scalar.specs.declared.ScalarValue.{ScalarValue}
use Rattle.scalar.specs.declared.ScalarValue.TheVariants as S
use Rattle.rows_spec.specs.Compare.{known, compare_of, compared, truth_of, of_truth}
use Rattle.rows_spec.specs.Values.{truths}
use Rattle.rows_spec.specs.Values as values
use Rattle.rows_laws.proofs.ValueKinds.{of_kind}
use Rattle.simplify_spec.specs.Shapes.{nary_op_for}
use Rattle.simplify_spec.specs.Meaning.{bare, Alike}

pub truth_bare : (v : ScalarValue) → truth_of (bare v) ≡ truth_of v
truth_bare (S.Null k) = refl
truth_bare (S.Boolean b) = refl
truth_bare (S.Int32 n) = refl
truth_bare (S.Int64 n) = refl
truth_bare (S.Float64 x) = refl
truth_bare (S.Date32 n) = refl

pub same_truth : (v w : ScalarValue) → Alike v w → truth_of v ≡ truth_of w
same_truth v w e = sym (truth_bare v) ∙ ap truth_of e ∙ truth_bare w

-- a NULL's kind does not matter to a comparison
right-bare : (op : BinaryOp) (v w : ScalarValue) → compare_of op v (bare w) ≡ compare_of op v w
unfolding compare_of
right-bare op v (S.Null k) = go (is_null v)
  where
    go : (b : Bool) → cond (b || true) (cond (ordinary op) 1 (known (b && true)))
        (cond (same_kind (kind_of v) K.Boolean) (known (compared op v (S.Null K.Boolean))) (cond (ordinary op) 1 0))
        ≡ cond (b || true) (cond (ordinary op) 1 (known (b && true))) (cond (same_kind (kind_of v) k) (known (compared op v (S.Null k))) (cond
        (ordinary op) 1 0))
    go true = refl
    go false = refl
right-bare op v (S.Boolean b) = refl
right-bare op v (S.Int32 n) = refl
right-bare op v (S.Int64 n) = refl
right-bare op v (S.Float64 x) = refl
right-bare op v (S.Date32 n) = refl

left-bare : (op : BinaryOp) (v w : ScalarValue) → compare_of op (bare v) w ≡ compare_of op v w
unfolding compare_of
left-bare op (S.Null k) w = refl
left-bare op (S.Boolean b) w = refl
left-bare op (S.Int32 n) w = refl
left-bare op (S.Int64 n) w = refl
left-bare op (S.Float64 x) w = refl
left-bare op (S.Date32 n) w = refl

pub same-compare : (op : BinaryOp) (v v' w w' : ScalarValue) → Alike v v' → Alike w w' → compare_of op v w ≡ compare_of op v' w'
same-compare op v v' w w' e f =
    sym (left-bare op v w ∙ refl) ∙ sym (right-bare op (bare v) w)
    ∙ ap₂ (compare_of op) e f
    ∙ right-bare op (bare v') w' ∙ left-bare op v' w'

pub bare_truth : (t : ℕ) → bare (of_truth t) ≡ of_truth t
bare_truth t = go (is_false_code t) (is_true_code t)
  where
    go : (a b : Bool) → bare (cond a (S.Boolean false) (cond b (S.Boolean true) (S.Null K.Boolean))) ≡ cond a (S.Boolean false)
        (cond b (S.Boolean true) (S.Null K.Boolean))
    go true b = refl
    go false true = refl
    go false false = refl

-- the value of a truth is a Boolean value's, but for the kind of a NULL
pub boolean_bare : (v : ScalarValue) → of_kind K.Boolean v ≡ true → of_truth (truth_of v) ≡ bare v
boolean_bare (S.Null k) e = refl
boolean_bare (S.Boolean true) e = refl
boolean_bare (S.Boolean false) e = refl
boolean_bare (S.Int32 n) e = absurd (false≢true e)
boolean_bare (S.Int64 n) e = absurd (false≢true e)
boolean_bare (S.Float64 x) e = absurd (false≢true e)
boolean_bare (S.Date32 n) e = absurd (false≢true e)

-- ---- And (all) and Or of the operands' truths
abbrev pub truth_all : Bool → (ℕ → ScalarValue) → List ℕ → ℕ
truth_all all value l = values.nary_of (nary_op_for all) (truths value l)

abbrev pub join_t : Bool → ℕ → ℕ → ℕ
join_t true x y = and_t x y
join_t false x y = or_t x y

pub all_none : (all : Bool) (value : ℕ → ScalarValue) → truth_all all value [] ≡ known all
unfolding truths all_of any_of
all_none true value = refl
all_none false value = refl

pub all_first : (all : Bool) (value : ℕ → ScalarValue) (x : ℕ) (l : List ℕ) → truth_all all value (x ∷ l) ≡ join_t all (truth_of (value x)) (truth_all
    all value l)
unfolding truths all_of any_of
all_first true value x l = refl
all_first false value x l = refl

pub all_code3 : (all : Bool) (value : ℕ → ScalarValue) (l : List ℕ) → truth_all all value l < 3
all_code3 true value l = all-code (truths value l)
all_code3 false value l = any_code (truths value l)

pub join_unit : (all : Bool) (y : ℕ) → y < 3 → join_t all (known all) y ≡ y
join_unit true y lt = and_unit y lt
join_unit false y lt = or_unit y lt

pub join_one : (all : Bool) (y : ℕ) → y < 3 → join_t all y (known all) ≡ y
join_one true y lt = and_t_comm y 2 ∙ and_unit y lt
join_one false y lt = or_t_comm y 0 ∙ or_unit y lt

pub join-left : (all : Bool) (y : ℕ) → join_t all (known (not all)) y ≡ known (not all)
join-left true y = refl
join-left false y = refl

pub join-right : (all : Bool) (y : ℕ) → join_t all y (known (not all)) ≡ known (not all)
join-right true y = and_t_comm y 0
join-right false y = or_t_comm y 2

pub of-known : (b : Bool) → of_truth (known b) ≡ S.Boolean b
of-known true = refl
of-known false = refl
