-- What each operator derives from its inputs' answers, a line a kind, to be read beside the `match` of the Rust's `derive_logical_facts`.
-- Assumes nothing.
use Rattle.std.specs.Prelude.{ℕ, Bool, true, false, cond, Ok, Err, Result}
use Rattle.constraint_spec.specs.Sets.{empty_set}
use Rattle.plan.specs.declared.Plan.{Plan}
use Rattle.plan.specs.declared.Expr.{Expr}
use Rattle.plan.specs.declared.Operator.{Operator}
use Rattle.plan_data.specs.Nodes.{node_at}
use Rattle.plan_data.specs.declared.Run.{Run}
use Rattle.plan_data.specs.declared.JoinType.{JoinType}
use Rattle.plan_data.specs.declared.JoinType.TheVariants.{Inner, LeftSemi, LeftAnti, LeftOuter, Single, RightOuter, FullOuter, LeftMark}
use Rattle.plan_data.specs.declared.OperatorData.{OperatorData}
use Rattle.plan_data.specs.declared.OperatorData.TheVariants.{Scan, ConstScan, TableFunction, Selection, Projection, Rename, Map, Aggregation, Sort}
use Rattle.plan_data.specs.declared.OperatorData.TheVariants.{Limit, Output, CrossProduct, Join}
use Rattle.plan_identities.specs.declared.Identities.{Identities}
use Rattle.apply_spec.specs.Facts.{empty_facts, with_constraints}
use Rattle.apply_spec.specs.Entries.{applied_to, inputs_merged}
use Rattle.apply_spec.specs.declared.LogicalFacts.{LogicalFacts}
use Rattle.apply_spec.specs.Told.{FactsAnswer}
use Rattle.apply_spec.specs.declared.FactsError.{FactsError}
use Rattle.apply_spec.specs.declared.FactsError.TheVariants as O
use Rattle.derive_spec.specs.Columns.{no_columns, columns_in, facts_with, derived_column, scanned, derived_columns, projected, renamed, mapped}
use Rattle.derive_spec.specs.Columns.{keys_ok, aggregated}
use Rattle.derive_spec.specs.declared.DeriveError.{DeriveError}
use Rattle.derive_spec.specs.declared.DeriveError.TheVariants.{UnsupportedKey, Residuals, NoSuch}
use Rattle.derive_spec.specs.Answers.{DeriveAnswer}

-- ---- answers
-- the number of the refusal in the rules (docs/FORMAT.md), 0 for none
abbrev pub refusal_of : Result (Unit {0}) DeriveError → ℕ
refusal_of (Ok tt) = 0
refusal_of (Err (UnsupportedKey o)) = 6
refusal_of (Err (Residuals o)) = 7
refusal_of (Err (NoSuch o)) = 8

-- the operator that refused, the P of `refused N P`; 0 where none did
abbrev pub refuser_of : Result (Unit {0}) DeriveError → ℕ
refuser_of (Ok tt) = 0
refuser_of (Err (UnsupportedKey o)) = o.0
refuser_of (Err (Residuals o)) = o.0
refuser_of (Err (NoSuch o)) = o.0

abbrev pub is_accepted : Result (Unit {0}) DeriveError → Bool
is_accepted (Ok u) = true
is_accepted (Err e) = false

abbrev pub accepted : LogicalFacts → DeriveAnswer
accepted f = record { facts = f; outcome = Ok tt }

-- a refusal has empty facts
abbrev pub refused : Result (Unit {0}) DeriveError → DeriveAnswer
refused o = record { facts = empty_facts; outcome = o }

-- the Rust's `?`: what is made of an input's facts; an input's refusal is handed on
unfoldable pub given : DeriveAnswer → (LogicalFacts → DeriveAnswer) → DeriveAnswer
given d f = cond (is_accepted d.outcome) (f d.facts) d

-- why the operator h refuses, where applying or merging refuses
abbrev pub refused_by : Operator → FactsError → DeriveError
refused_by h O.Residuals = Residuals h
refused_by h O.NoSuch = NoSuch h

-- what applying or merging said is the answer of the operator h
abbrev pub fitted_by : Operator → LogicalFacts → Result (Unit {0}) FactsError → DeriveAnswer
fitted_by h f (Ok u) = accepted f
fitted_by h f (Err e) = refused (Err (refused_by h e))

abbrev pub fitted : Operator → FactsAnswer → DeriveAnswer
fitted h a = fitted_by h a.facts a.outcome

-- `apply_predicate` of an expression of the plan, to facts that were derived
unfoldable pub filtered : Plan → Expr → LogicalFacts → FactsAnswer
filtered p e f = applied_to p f e

-- ---- joins of f and g by the operator h; only Inner looks at what it joins on
abbrev pub joined : Plan → Identities → Operator → Expr → LogicalFacts → LogicalFacts → JoinType → DeriveAnswer
joined p ids h on f g Inner = given (fitted h (inputs_merged f g true)) (λ m. fitted h (filtered p on m))
joined p ids h on f g LeftSemi = accepted f
joined p ids h on f g LeftAnti = accepted f
joined p ids h on f g (LeftMark marker) = accepted (facts_with (derived_column ids (columns_in f) marker.0) f.constraints)
joined p ids h on f g LeftOuter = accepted (inputs_merged f g false).facts
joined p ids h on f g Single = accepted (inputs_merged f g false).facts
joined p ids h on f g RightOuter = accepted (with_constraints (inputs_merged f g false).facts g.constraints)
joined p ids h on f g FullOuter = accepted (with_constraints (inputs_merged f g false).facts empty_set)

-- an Aggregation by the operator h: keys in order, then no constraints and no definitions
unfoldable pub grouped : Plan → Identities → Operator → Run → Run → LogicalFacts → DeriveAnswer
grouped p ids h keys aggregates f =
    cond (keys_ok (node_at p) p.items.a keys)
    (accepted (facts_with (aggregated ids (node_at p) p.items.a keys aggregates (columns_in f)) empty_set))
    (refused (Err (UnsupportedKey h)))

-- ---- the operator h, from the answer l of its input, or outer input, and the answer r of its inner input
abbrev pub operator_derived : Plan → Identities → Operator → DeriveAnswer → DeriveAnswer → OperatorData → DeriveAnswer
operator_derived p ids h l r (Scan table columns) = accepted (facts_with (scanned ids p.items.a columns) empty_set)
operator_derived p ids h l r (ConstScan columns) = accepted (facts_with (derived_columns ids p.items.a columns no_columns) empty_set)
operator_derived p ids h l r (TableFunction columns) = accepted (facts_with (derived_columns ids p.items.a columns no_columns) empty_set)
operator_derived p ids h l r (Selection predicate input) = given l (λ f. fitted h (filtered p predicate f))
operator_derived p ids h l r (Projection input columns) = given l (λ f. accepted (facts_with (projected (columns_in f) p.items.a columns) f.constraints))
operator_derived p ids h l r (Rename input defs) = given l (λ f. accepted (facts_with (renamed (columns_in f) p.items.a p.items.b defs) f.constraints))
operator_derived p ids h l r (Map input computations) = given l
    (λ f. accepted (facts_with (mapped ids (node_at p) p.items.a p.items.b computations (columns_in f)) f.constraints))
operator_derived p ids h l r (Aggregation input keys aggregates) = given l (grouped p ids h keys aggregates)
operator_derived p ids h l r (Sort input keys) = l
operator_derived p ids h l r (Limit input) = l
operator_derived p ids h l r (Output input) = l
operator_derived p ids h l r (CrossProduct outer inner) = given l (λ f. given r (λ g. fitted h (inputs_merged f g true)))
operator_derived p ids h l r (Join joinType on outer inner) = given l (λ f. given r (λ g. joined p ids h on f g joinType))

-- the input, or the outer one, and the inner one; 0 where a kind has none and its answer is not looked at
abbrev pub outer_of : OperatorData → ℕ
outer_of (Scan table columns) = 0
outer_of (ConstScan columns) = 0
outer_of (TableFunction columns) = 0
outer_of (Selection predicate input) = input.0
outer_of (Projection input columns) = input.0
outer_of (Rename input defs) = input.0
outer_of (Map input computations) = input.0
outer_of (Aggregation input keys aggregates) = input.0
outer_of (Sort input keys) = input.0
outer_of (Limit input) = input.0
outer_of (Output input) = input.0
outer_of (CrossProduct outer inner) = outer.0
outer_of (Join joinType on outer inner) = outer.0

abbrev pub inner_of : OperatorData → ℕ
inner_of (Scan table columns) = 0
inner_of (ConstScan columns) = 0
inner_of (TableFunction columns) = 0
inner_of (Selection predicate input) = 0
inner_of (Projection input columns) = 0
inner_of (Rename input defs) = 0
inner_of (Map input computations) = 0
inner_of (Aggregation input keys aggregates) = 0
inner_of (Sort input keys) = 0
inner_of (Limit input) = 0
inner_of (Output input) = 0
inner_of (CrossProduct outer inner) = inner.0
inner_of (Join joinType on outer inner) = inner.0
