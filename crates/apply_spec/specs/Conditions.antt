-- What is asked of a plan and of a row where facts say all that a predicate says. Nothing of this is asked where they say no more than it. Assumes nothing.
use Rattle.std.specs.Prelude.{◌≡◌, Bool, true, false, not, ◌||◌, List, ℕ, ◌<◌, T, get_or}
use Rattle.scalar.specs.Kinds.{kind_of, is_null, same_kind, kind_of_code}
use Rattle.scalar.specs.declared.Kind.{Kind}
use Rattle.scalar.specs.declared.Kind.TheVariants as K
use Rattle.scalar.specs.declared.ScalarValue.{ScalarValue}
use Rattle.comparison.specs.Operators.{bounding}
use Rattle.comparison.specs.declared.BinaryOp.{BinaryOp}
use Rattle.constraint_spec.specs.Values.{is_na_n}
use Rattle.plan.specs.declared.Plan.{Plan}
use Rattle.plan_data.specs.Nodes.{node_at}
use Rattle.plan_data.specs.declared.ExprData.{ExprData}
use Rattle.plan_data.specs.declared.ExprData.TheVariants.{Literal, ColumnRef, Unary, Binary, Nary}
use Rattle.apply_spec.specs.Facts.{has_lineage, identity_of}
use Rattle.apply_spec.specs.Conjuncts.{conjuncts_of}
use Rattle.apply_spec.specs.Apply.{seen_of}
use Rattle.apply_spec.specs.declared.Seen.{Seen}
use Rattle.apply_spec.specs.declared.Seen.TheVariants.{Identity, Constant, Unseen}
use Rattle.rows_spec.specs.Typing.{kind_at}
use Rattle.apply_spec.specs.Meaning.{AllOf}

-- ---- of one row: no NaN is compared with itself, and a value that is bounded by a literal is NULL or of the literal's kind
abbrev pub OneKind : ScalarValue → BinaryOp → ScalarValue → Type 0
OneKind v op l = T (bounding op) → T (not (is_null l)) → T (is_null v || same_kind (kind_of v) (kind_of l))

abbrev pub ExactSeen : (ℕ → ScalarValue) → BinaryOp → Seen → Seen → Type 0
ExactSeen v op (Identity i) (Identity j) = i ≡ j → T (not (is_na_n (v i)))
ExactSeen v op (Identity i) (Constant l) = OneKind (v i) op l
ExactSeen v op (Identity i) Unseen = Unit {0}
ExactSeen v op (Constant l) (Identity j) = OneKind (v j) op l
ExactSeen v op (Constant l) (Constant m) = Unit {0}
ExactSeen v op (Constant l) Unseen = Unit {0}
ExactSeen v op Unseen (Identity j) = Unit {0}
ExactSeen v op Unseen (Constant m) = Unit {0}
ExactSeen v op Unseen Unseen = Unit {0}

abbrev pub ExactNode : (ℕ → ScalarValue) → List ℕ → (ℕ → ExprData) → ExprData → Type 0
ExactNode v lineage node (Literal l) = Unit {0}
ExactNode v lineage node (ColumnRef c) = Unit {0}
ExactNode v lineage node (Unary op e) = Unit {0}
ExactNode v lineage node (Binary op l r) = ExactSeen v op (seen_of lineage (node l.0)) (seen_of lineage (node r.0))
ExactNode v lineage node (Nary op es) = Unit {0}

-- the same of each conjunct of a predicate
abbrev pub ExactPredicate : Plan → List ℕ → (ℕ → ScalarValue) → ℕ → Type 0
ExactPredicate p lineage v e = AllOf (λ (h : ℕ). ExactNode v lineage (node_at p) (node_at p h)) (conjuncts_of (node_at p) p.items.a e)

-- ---- of a plan and all its rows: every identity has a kind
-- NULL, or of the kind
abbrev pub of_kind : Kind → ScalarValue → Bool
of_kind k v = is_null v || same_kind (kind_of v) k

-- the values are of their identities' kinds, and none is NaN
pub record Kinded (kinds : ℕ → Kind) (v : ℕ → ScalarValue) : Type 0 where
  pub of : (i : ℕ) → T (of_kind (kinds i) (v i))
  pub number : (i : ℕ) → T (not (is_na_n (v i)))

-- a comparison has one kind on both sides
abbrev pub OneKinded : List ℕ → (ℕ → ExprData) → ExprData → Type 0
OneKinded columns node (Literal l) = Unit {0}
OneKinded columns node (ColumnRef c) = Unit {0}
OneKinded columns node (Unary op e) = Unit {0}
OneKinded columns node (Binary op l r) = T (same_kind (kind_at columns node l.0) (kind_at columns node r.0))
OneKinded columns node (Nary op es) = Unit {0}

-- each column with lineage is of its identity's kind, and each comparison of the plan has one kind on both sides
pub record OneKindPlan (p : Plan) (lineage : List ℕ) (kinds : ℕ → Kind) : Type 0 where
  pub columns : (c : ℕ) → T (has_lineage lineage c) → T (same_kind (kind_of_code (get_or p.columns.kind c 0)) (kinds (identity_of lineage c)))
  pub comparisons : (h : ℕ) → h < p.expressions.count → OneKinded p.columns.kind (node_at p) (node_at p h)

-- ---- the two kinds for which nothing is asked of the values but that they are of their kinds
abbrev pub int_or_boolean : Kind → Bool
int_or_boolean K.Boolean = true
int_or_boolean K.Int32 = true
int_or_boolean K.Int64 = false
int_or_boolean K.Float64 = false
int_or_boolean K.Date32 = false
