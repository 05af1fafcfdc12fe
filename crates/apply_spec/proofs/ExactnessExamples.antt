-- Plans on which the conditions of exactness hold, and plans on which one of them fails and the facts say less than the predicate. Assumes nothing.
use Rattle.std.proofs.Common.{Ok}
use mathlib.Core.Path.{◌≡◌, refl, sym, ◌∙◌, subst}
use mathlib.Core.List.{List, [], ◌∷◌}
use mathlib.Core.Logic.{◌↔◌}
use Prim.Native.Nat.{ℕ, zero, suc, ◌<◌, ◌^◌}
use native.Mathlib.Omega.{arith}
use lib.Dec.{T, T_not, eqb, ltb→lt}
use lib.IntN.{ℤ, pos}
use lib.ListN.{get_or, replicate}
use lib.Ieee.{nan, binary64, eq, of_int}
use Rattle.laws.proofs.Lists.{get_d_replicate-self}
use Rattle.lists.specs.Ranges.{all_from, any_from, count_from}
use Rattle.plan_kinds.specs.Rows.{line_of, row_of}
use Rattle.plan_kinds.specs.Records.{bits_ok, handle_ok, count_of, more_of}
use mir.Syntax.{w32}
use mir.Val.{SFits}
use Rattle.scalar.specs.Kinds.{same_kind, kind_of_code}
use Rattle.scalar.specs.declared.Kind.TheVariants as K
use Rattle.scalar.specs.declared.ScalarValue.{ScalarValue}
use Rattle.scalar.specs.declared.ScalarValue.TheVariants as S
use Rattle.comparison.specs.declared.BinaryOp.TheVariants.{Lt}
use Rattle.value_classes.specs.Parents.{parents_ok, each}
use Rattle.value_classes.specs.Classes.{empty_classes}
use Rattle.constraint_spec.specs.Sets.{empty_set, set_ok, union_values, add_non_null, add_bound, add_range}
use Rattle.constraint_spec.specs.Meets.{Meets}
use Rattle.constraint_spec.proofs.Limits.{nans, nan-meets, threes, mixed_meets}
use Rattle.plan.specs.declared.Plan.{Plan}
use Rattle.plan.specs.declared.Expr.{Expr}
use Rattle.plan_rules.specs.Rules.{record_ok, item_ok, lists_ok, expr_ok_of, operator_ok_of, scans_of, counts_within, plan_ok}
use Rattle.plan_data.specs.Nodes.{expr_data, node_at}
use Rattle.apply_spec.specs.Facts.{has_lineage, lineage_ok, definition_ok, facts_ok}
use Rattle.apply_spec.specs.Conjuncts.{joined_of, conjuncts_to}
use Rattle.apply_spec.specs.Apply.{comparison_by, conjunct_applied, all_applied}
use Rattle.apply_spec.specs.Entries.{predicate_applied, apply_predicate}
use Rattle.apply_spec.specs.declared.LogicalFacts.{LogicalFacts}
use Rattle.rows_spec.specs.Compare.{compare_of, truth_of}
use Rattle.rows_spec.specs.InOrder.{in_order}
use Rattle.rows_spec.specs.Values.{values, value_at}
use Rattle.apply_spec.specs.Meaning.{WholeRow, On, MeetsFacts, Wide, fresh_facts, AllOn}
use Rattle.apply_spec.specs.Conditions.{OneKinded, OneKindPlan}
use Rattle.apply_spec.proofs.Plain.{sequence_whole}

-- one column; the expressions are it, an Int32 literal, and a comparison of the column with the expression b
abbrev plan_of : ℕ → ℕ → ℕ → ℕ → Plan
plan_of columnKind bits op b = record {
  columns = record { count = 1; name = replicate 64 0; kind = columnKind ∷ replicate 63 0 };
  expressions = record {
    count = 3;
    kind = 0x20 ∷ 0x12 ∷ 0x22 ∷ replicate 1021 0;
    code = 0 ∷ 0 ∷ op ∷ replicate 1021 0;
    a = replicate 1024 0;
    b = 0 ∷ 0 ∷ b ∷ replicate 1021 0;
    start = replicate 1024 0;
    bits = 0 ∷ bits ∷ replicate 1022 0;
  };
  operators = record {
    count = 0;
    kind = replicate 128 0;
    code = replicate 128 0;
    a = replicate 128 0;
    b = replicate 128 0;
    c = replicate 128 0;
    d = replicate
        128 0;
    start = replicate 128 0;
  };
  items = record { count = 0; a = replicate 2048 0; b = replicate 2048 0 };
}

abbrev comparison : Expr
comparison = record { 0 = 2 }

-- the column is the identity 0
abbrev pub lineage : List ℕ
lineage = 1 ∷ replicate 63 0

abbrev pub fresh : LogicalFacts
fresh = fresh_facts lineage (replicate 64 0)

-- the same value everywhere
abbrev pub everywhere : ScalarValue → WholeRow
everywhere v = record { cols = λ c. v; ids = λ i. v }

-- ---- x = x on a Float64 column
abbrev self_plan : Plan
self_plan = plan_of 4 0 0 0

self-accepted : (apply_predicate self_plan fresh comparison).outcome ≡ Ok tt
unfolding apply_predicate plan_ok counts_within all_from expr_ok_of record_ok lists_ok row_of line_of bits_ok handle_ok count_of more_of item_ok
    operator_ok_of scans_of any_from
    count_from facts_ok lineage_ok definition_ok set_ok parents_ok each empty_set empty_classes predicate_applied all_applied conjuncts_to joined_of
    conjunct_applied
    comparison_by expr_data
self-accepted = refl

self-facts : (apply_predicate self_plan fresh comparison).facts.constraints ≡ add_non_null (union_values empty_set 0 0) 0
unfolding apply_predicate plan_ok counts_within all_from expr_ok_of record_ok lists_ok row_of line_of bits_ok handle_ok count_of more_of item_ok
    operator_ok_of scans_of any_from
    count_from facts_ok lineage_ok definition_ok set_ok parents_ok each empty_set empty_classes predicate_applied all_applied conjuncts_to joined_of
    conjunct_applied
    comparison_by expr_data
self-facts = refl

self-meets : MeetsFacts self_plan (everywhere (S.Float64 nan)) (apply_predicate self_plan fresh comparison).facts
self-meets = subst (Meets (On self_plan (everywhere (S.Float64 nan))) nans) (sym self-facts) (nan-meets (On self_plan (everywhere (S.Float64 nan))))

self_truth : truth_of (value_at (λ c. S.Float64 nan) (node_at self_plan) self_plan.items.a 2) ≡ 0
unfolding values in_order expr_data compare_of eq
self_truth = refl

-- x = x is accepted, and a row with a NaN meets its facts, which say that x is not NULL, though x = x is not TRUE of it. Assumes nothing
pub nan_case : ((apply_predicate self_plan fresh comparison).outcome ≡ Ok tt)
    × (MeetsFacts self_plan (everywhere (S.Float64 nan)) (apply_predicate self_plan fresh comparison).facts × (On self_plan (everywhere (S.Float64
    nan)) 2 → ⊥))
nan_case = (self-accepted, (self-meets, λ e. let z = sym self_truth ∙ e in absurd (omega (arith, z))))

-- ---- z < 5 with an Int32 5, on an Int64 column
abbrev mixed_plan : Plan
mixed_plan = plan_of 3 5 2 1

mixed_accepted : (apply_predicate mixed_plan fresh comparison).outcome ≡ Ok tt
unfolding apply_predicate plan_ok counts_within all_from expr_ok_of record_ok lists_ok row_of line_of bits_ok handle_ok count_of more_of item_ok
    operator_ok_of scans_of any_from
    count_from facts_ok lineage_ok definition_ok set_ok parents_ok each empty_set empty_classes predicate_applied all_applied conjuncts_to joined_of
    conjunct_applied
    comparison_by expr_data add_range
mixed_accepted = refl

mixed_facts : (apply_predicate mixed_plan fresh comparison).facts.constraints ≡ add_bound empty_set 0 Lt (of_int binary64 (pos 5))
unfolding apply_predicate plan_ok counts_within all_from expr_ok_of record_ok lists_ok row_of line_of bits_ok handle_ok count_of more_of item_ok
    operator_ok_of scans_of any_from
    count_from facts_ok lineage_ok definition_ok set_ok parents_ok each empty_set empty_classes predicate_applied all_applied conjuncts_to joined_of
    conjunct_applied
    comparison_by expr_data add_range
mixed_facts = refl

mixed_truth : truth_of (value_at (λ c. S.Int64 (pos 3)) (node_at mixed_plan) mixed_plan.items.a 2) ≡ 1
unfolding values in_order expr_data compare_of
mixed_truth = refl

-- z < 5 is accepted, and a row with an Int64 3 meets its bound, though the comparison of two kinds is UNKNOWN. Assumes nothing
pub mixed_case : ((apply_predicate mixed_plan fresh comparison).outcome ≡ Ok tt)
    × (MeetsFacts mixed_plan (everywhere (S.Int64 (pos 3))) (apply_predicate mixed_plan fresh comparison).facts
    × (On mixed_plan (everywhere (S.Int64 (pos 3))) 2 → ⊥))
mixed_case = (
  mixed_accepted,
  (
    subst (Meets (On mixed_plan (everywhere (S.Int64 (pos 3)))) threes) (sym mixed_facts) (mixed_meets (On mixed_plan (everywhere (S.Int64 (pos
        3))))),
    λ e. let z = sym mixed_truth ∙ e in absurd (omega (arith, z)),
  ),
)

-- ---- x < 7 on an Int32 column: the conditions hold
abbrev plain_plan : Plan
plain_plan = plan_of 2 7 2 1

plain-accepted : (apply_predicate plain_plan fresh comparison).outcome ≡ Ok tt
unfolding apply_predicate plan_ok counts_within all_from expr_ok_of record_ok lists_ok row_of line_of bits_ok handle_ok count_of more_of item_ok
    operator_ok_of scans_of any_from
    count_from facts_ok lineage_ok definition_ok set_ok parents_ok each empty_set empty_classes predicate_applied all_applied conjuncts_to joined_of
    conjunct_applied
    comparison_by expr_data add_range
plain-accepted = refl

plain-wide : Wide plain_plan
plain-wide zero = ltb→lt 0 (2 ^ 64) tt
plain-wide (suc zero) = ltb→lt 7 (2 ^ 64) tt
plain-wide (suc (suc h)) = subst (λ (k : ℕ). k < 2 ^ 64) (sym (get_d_replicate-self 1022 h 0)) (ltb→lt 0 (2 ^ 64) tt)

plain-kinds : OneKindPlan plain_plan lineage (λ i. K.Int32)
unfolding expr_data
plain-kinds = record { columns = of-column; comparisons = of-comparison }
  where
    of-column : (c : ℕ) → T (has_lineage lineage c) → T (same_kind (kind_of_code (get_or plain_plan.columns.kind c 0)) K.Int32)
    of-column zero t = tt
    of-column (suc c) t = absurd (T_not (eqb (get_or (replicate 63 0) c 0) 0) t (subst (λ (k : ℕ). T (eqb k 0)) (sym (get_d_replicate-self 63 c 0))
        tt))

    of-comparison : (h : ℕ) → h < 3 → OneKinded plain_plan.columns.kind (node_at plain_plan) (node_at plain_plan h)
    of-comparison zero l = tt
    of-comparison (suc zero) l = tt
    of-comparison (suc (suc zero)) l = tt
    of-comparison (suc (suc (suc h))) l = absurd (omega (arith, l))

-- a row of Int32 meets the facts of x < 7 exactly where x < 7 is TRUE of it: by the theorem, whose conditions hold here. Assumes nothing
pub plain_case : (n : ℤ) → SFits w32 n
    → MeetsFacts plain_plan (everywhere (S.Int32 n)) (apply_predicate plain_plan fresh comparison).facts ↔ AllOn plain_plan (everywhere (S.Int32 n))
    (comparison ∷ [])
plain_case n w =
    sequence_whole plain_plan plain-wide (λ i. K.Int32) (λ i. tt) (everywhere (S.Int32 n)) (λ i. tt) lineage (replicate 64 0) refl plain-kinds
    (record { typed = λ i. w; same = λ c t. refl }) (comparison ∷ []) (apply_predicate plain_plan fresh comparison).facts (plain-accepted, refl)

-- one does, and one does not. Assumes nothing
pub plain-three : MeetsFacts plain_plan (everywhere (S.Int32 (pos 3))) (apply_predicate plain_plan fresh comparison).facts
unfolding values in_order expr_data compare_of
plain-three = (plain_case (pos 3) (record { sfits = omega arith })).1 (holds, tt)
  where
    holds : On plain_plan (everywhere (S.Int32 (pos 3))) 2
    holds = refl

-- a row with 9 does not
pub plain_nine : MeetsFacts plain_plan (everywhere (S.Int32 (pos 9))) (apply_predicate plain_plan fresh comparison).facts → ⊥
unfolding values in_order expr_data compare_of
plain_nine m = let z = sym fails ∙ ((plain_case (pos 9) (record { sfits = omega arith })).0 m).0 in absurd (omega (arith, z))
  where
    fails : truth_of (value_at (λ c. S.Int32 (pos 9)) (node_at plain_plan) plain_plan.items.a 2) ≡ 0
    fails = refl
