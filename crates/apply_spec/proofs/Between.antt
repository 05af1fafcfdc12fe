-- Facts that no row meets though their flag is clear: x > 3 and x < 4 on an Int32 column. Assumes nothing.
use Rattle.std.proofs.Common.{Ok}
use mathlib.Core.Path.{◌≡◌, refl}
use mathlib.Core.Bool.{false}
use mathlib.Core.List.{[], ◌∷◌}
use native.Mathlib.Omega.{arith}
use lib.Dec.{T, ltb→lt}
use lib.IntN.{ℤ, pos, negsuc}
use lib.Signed.{lt_z}
use lib.ListN.{replicate}
use lib.Ieee.{lt, eq, of_int}
use Rattle.lists.specs.Ranges.{all_from, any_from, count_from}
use Rattle.plan_kinds.specs.Rows.{line_of, row_of}
use Rattle.plan_kinds.specs.Records.{bits_ok, handle_ok, count_of, more_of}
use Rattle.scalar.specs.declared.ScalarValue.TheVariants as S
use Rattle.comparison.specs.declared.BinaryOp.TheVariants.{Gt, Lt}
use Rattle.value_classes.specs.Parents.{parent_in, climb, root_of, parents_ok, each}
use Rattle.value_classes.specs.Classes.{empty_classes}
use Rattle.constraint_spec.specs.Sets.{empty_set, set_ok, put_non_null, lay_range, put_range, cross_check, add_bound, add_range}
use Rattle.plan.specs.declared.Plan.{Plan}
use Rattle.plan.specs.declared.Expr.{Expr}
use Rattle.plan_rules.specs.Rules.{record_ok, item_ok, lists_ok, expr_ok_of, operator_ok_of, scans_of, counts_within, plan_ok}
use Rattle.plan_data.specs.Nodes.{expr_data}
use Rattle.apply_spec.specs.Facts.{lineage_ok, definition_ok, facts_ok}
use Rattle.apply_spec.specs.Conjuncts.{joined_of, conjuncts_to}
use Rattle.apply_spec.specs.Apply.{comparison_by, conjunct_applied, all_applied}
use Rattle.apply_spec.specs.Entries.{predicate_applied, apply_predicate}
use Rattle.apply_spec.specs.declared.LogicalFacts.{LogicalFacts}
use Rattle.rows_spec.specs.Compare.{compare_of}
use Rattle.rows_spec.specs.InOrder.{in_order}
use Rattle.rows_spec.specs.Values.{values}
use Rattle.apply_spec.specs.Meaning.{AllOn}
use Rattle.apply_spec.proofs.Conjunctions.{truth_back-true}
use Rattle.apply_spec.proofs.Comparisons.{compared-of}
use Rattle.apply_spec.proofs.ExactnessExamples.{fresh, everywhere}

abbrev plan : Plan
plan = record {
  columns = record { count = 1; name = replicate 64 0; kind = 2 ∷ replicate 63 0 };
  expressions = record {
    count = 5;
    kind = 0x20 ∷ 0x12 ∷ 0x12 ∷ 0x22 ∷ 0x22 ∷ replicate 1019 0;
    code = 0 ∷ 0 ∷ 0 ∷ 4 ∷ 2 ∷ replicate 1019 0;
    a = replicate 1024 0;
    b = 0 ∷ 0 ∷ 0 ∷ 1 ∷ 2 ∷ replicate 1019 0;
    start = replicate 1024 0;
    bits = 0 ∷ 3 ∷ 4 ∷ replicate 1021 0;
  };
  operators = record {
    count = 0;
    kind = replicate 128 0;
    code = replicate 128 0;
    a = replicate 128 0;
    b = replicate 128 0;
    c = replicate 128 0;
    d = replicate
        128 0;
    start = replicate 128 0;
  };
  items = record { count = 0; a = replicate 2048 0; b = replicate 2048 0 };
}

abbrev above : Expr
above = record { 0 = 3 }

abbrev below : Expr
below = record { 0 = 4 }

abbrev once : LogicalFacts
once = (apply_predicate plan fresh above).facts

abbrev twice : LogicalFacts
twice = (apply_predicate plan once below).facts

-- both are accepted, and the flag is clear. Assumes nothing
pub between-clear : ((apply_predicate plan fresh above).outcome ≡ Ok tt)
    × (((apply_predicate plan once below).outcome ≡ Ok tt) × (twice.constraints.contradictory ≡ false))
unfolding apply_predicate plan_ok counts_within all_from expr_ok_of record_ok lists_ok row_of line_of bits_ok handle_ok count_of more_of item_ok
    operator_ok_of scans_of any_from
    count_from facts_ok lineage_ok definition_ok set_ok parents_ok each empty_set empty_classes predicate_applied all_applied conjuncts_to joined_of
    conjunct_applied
    comparison_by expr_data add_range add_bound put_non_null put_range lay_range cross_check root_of climb parent_in lt eq of_int
between-clear = (refl, (refl, refl))

gap : (n : ℤ) → T (lt_z (pos 3) n) → T (lt_z n (pos 4)) → ⊥
gap (pos k) a b =
    let x = ltb→lt 3 k a in
    let y = ltb→lt k 4 b in
    absurd (omega (arith, x, y))
gap (negsuc k) a b = absurd a

-- of no Int32 are both TRUE. Assumes nothing
pub between_none : (n : ℤ) → AllOn plan (everywhere (S.Int32 n)) (above ∷ below ∷ []) → ⊥
unfolding values in_order expr_data
between_none n o =
    gap n (compared-of Gt (S.Int32 n) (S.Int32 (pos 3)) tt ((truth_back-true (compare_of Gt (S.Int32 n) (S.Int32 (pos 3)))).0 o.0)).holds
    (compared-of Lt (S.Int32 n) (S.Int32 (pos 4)) tt ((truth_back-true (compare_of Lt (S.Int32 n) (S.Int32 (pos 4)))).0 o.1.0)).holds
