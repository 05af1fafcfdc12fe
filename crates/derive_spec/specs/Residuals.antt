-- The residual list that an operator would have where a list had no bound, as the Rust's has none; which operators an operator reaches.
-- Assumes nothing.
use Rattle.std.specs.Prelude.{ℕ, Bool, true, List, [], ◌≡◌, ◌⊎◌}
use Rattle.constraint_spec.specs.Room.{listed, joint_list}
use Rattle.plan.specs.declared.Plan.{Plan}
use Rattle.plan_data.specs.Nodes.{node_at, operator_at}
use Rattle.plan_data.specs.declared.JoinType.{JoinType}
use Rattle.plan_data.specs.declared.JoinType.TheVariants.{Inner, LeftSemi, LeftAnti, LeftOuter, Single, RightOuter, FullOuter, LeftMark}
use Rattle.plan_data.specs.declared.OperatorData.{OperatorData}
use Rattle.plan_data.specs.declared.OperatorData.TheVariants.{Scan, ConstScan, TableFunction, Selection, Projection, Rename, Map, Aggregation, Sort}
use Rattle.plan_data.specs.declared.OperatorData.TheVariants.{Limit, Output, CrossProduct, Join}
use Rattle.apply_spec.specs.Conjuncts.{conjuncts_of}
use Rattle.apply_spec.specs.Entries.{overridden}
use Rattle.apply_spec.specs.Wanted.{conjunct_recorded, wanted_by}
use Rattle.apply_spec.specs.declared.LogicalFacts.{LogicalFacts}
use Rattle.derive_spec.specs.Columns.{keys_ok}
use Rattle.derive_spec.specs.Operators.{outer_of, inner_of}
use Rattle.derive_spec.specs.Deriving.{answer_of}

-- the list l after the predicate e
abbrev pub predicate_list : Plan → List ℕ → List ℕ → ℕ → List ℕ
predicate_list p lineage l e = wanted_by (conjunct_recorded lineage (node_at p)) l (conjuncts_of (node_at p) p.items.a e)

-- a join of f and g on the predicate e: only Inner adds to a list
abbrev pub join_list : Plan → LogicalFacts → LogicalFacts → ℕ → JoinType → List ℕ
join_list p f g e Inner = predicate_list p (overridden f.lineage g.lineage) (joint_list f.constraints g.constraints) e
join_list p f g e LeftSemi = []
join_list p f g e LeftAnti = []
join_list p f g e LeftOuter = []
join_list p f g e Single = []
join_list p f g e RightOuter = []
join_list p f g e FullOuter = []
join_list p f g e (LeftMark c) = []

-- an operator over inputs with the facts f and g; one that adds nothing never passes a size
abbrev pub operator_list : Plan → LogicalFacts → LogicalFacts → OperatorData → List ℕ
operator_list p f g (Scan table columns) = []
operator_list p f g (ConstScan columns) = []
operator_list p f g (TableFunction columns) = []
operator_list p f g (Selection predicate input) = predicate_list p f.lineage (listed f.constraints) predicate.0
operator_list p f g (Projection input columns) = []
operator_list p f g (Rename input defs) = []
operator_list p f g (Map input computations) = []
operator_list p f g (Aggregation input keys aggregates) = []
operator_list p f g (Sort input keys) = []
operator_list p f g (Limit input) = []
operator_list p f g (Output input) = []
operator_list p f g (CrossProduct outer inner) = joint_list f.constraints g.constraints
operator_list p f g (Join joinType on outer inner) = join_list p f g on.0 joinType

-- the residual list of the operator h
abbrev pub residuals_at : Plan → ℕ → List ℕ
residuals_at p h = operator_list p (answer_of p (outer_of (operator_at p h))).facts (answer_of p (inner_of (operator_at p h))).facts (operator_at p h)

-- the keys of an Aggregation are column references
abbrev pub keys_fine : Plan → OperatorData → Bool
keys_fine p (Scan table columns) = true
keys_fine p (ConstScan columns) = true
keys_fine p (TableFunction columns) = true
keys_fine p (Selection predicate input) = true
keys_fine p (Projection input columns) = true
keys_fine p (Rename input defs) = true
keys_fine p (Map input computations) = true
keys_fine p (Aggregation input keys aggregates) = keys_ok (node_at p) p.items.a keys
keys_fine p (Sort input keys) = true
keys_fine p (Limit input) = true
keys_fine p (Output input) = true
keys_fine p (CrossProduct outer inner) = true
keys_fine p (Join joinType on outer inner) = true

-- i is an input
abbrev pub IsInput : OperatorData → ℕ → Type 0
IsInput (Scan table columns) i = ⊥
IsInput (ConstScan columns) i = ⊥
IsInput (TableFunction columns) i = ⊥
IsInput (Selection predicate input) i = i ≡ input.0
IsInput (Projection input columns) i = i ≡ input.0
IsInput (Rename input defs) i = i ≡ input.0
IsInput (Map input computations) i = i ≡ input.0
IsInput (Aggregation input keys aggregates) i = i ≡ input.0
IsInput (Sort input keys) i = i ≡ input.0
IsInput (Limit input) i = i ≡ input.0
IsInput (Output input) i = i ≡ input.0
IsInput (CrossProduct outer inner) i = (i ≡ outer.0) ⊎ (i ≡ inner.0)
IsInput (Join joinType on outer inner) i = (i ≡ outer.0) ⊎ (i ≡ inner.0)

-- the operators that the answer of h asks for
pub data Reached (p : Plan) : ℕ → ℕ → Type 0 where
  here : {h : ℕ} → Reached p h h
  through : {h i q : ℕ} → IsInput (operator_at p h) i → Reached p i q → Reached p h q
