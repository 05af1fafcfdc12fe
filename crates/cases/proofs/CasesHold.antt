-- One proof over the table of cases: each is computed. Assumes nothing.
use mathlib.Core.Path.{refl}
use lib.Ieee.{of_int, lt, eq}
use Rattle.lists.specs.Ranges.{all_from, any_from, count_from}
use Rattle.plan_kinds.specs.Rows.{line_of, row_of}
use Rattle.plan_kinds.specs.Records.{bits_ok, handle_ok, count_of, more_of}
use Rattle.value_classes.specs.Parents.{parent_in, climb, root_of, parents_ok, joined, each}
use Rattle.value_classes.specs.Classes.{empty_classes, union_of}
use Rattle.constraint_spec.specs.Sets.{empty_set, set_ok, put_non_null, put_literal, lay_range, put_range, cross_check, steps_to, non_nulls_moved}
use Rattle.constraint_spec.specs.Sets.{literals_moved, ranges_moved, normalized, union_values, add_non_null, add_literal, add_bound, add_range, push_residual}
use Rattle.constraint_spec.specs.Sets.{add_residual}
use Rattle.plan_rules.specs.Rules.{record_ok, item_ok, lists_ok, expr_ok_of, operator_ok_of, scans_of, counts_within, plan_ok}
use Rattle.plan_data.specs.Nodes.{expr_data}
use Rattle.apply_spec.specs.Facts.{lineage_ok, definition_ok, facts_ok}
use Rattle.apply_spec.specs.Conjuncts.{joined_of, conjuncts_to}
use Rattle.apply_spec.specs.Apply.{comparison_by, conjunct_applied, all_applied}
use Rattle.apply_spec.specs.Entries.{predicate_applied, apply_predicate}
use Rattle.apply_spec.specs.Meaning.{AllOf}
use Rattle.simplify_spec.specs.OneExpression.{operands_from, rebuilt, nary_of, simplify_below, simplify_at}
use Rattle.cases.specs.CaseTable.{cases, Holds}

-- every case of the table holds. Assumes nothing
pub cases_hold : AllOf Holds cases
unfolding apply_predicate plan_ok counts_within all_from expr_ok_of record_ok lists_ok row_of line_of bits_ok handle_ok count_of more_of item_ok
    operator_ok_of scans_of any_from
    count_from facts_ok lineage_ok definition_ok set_ok parents_ok each empty_set empty_classes predicate_applied all_applied conjuncts_to joined_of
    conjunct_applied
    comparison_by expr_data add_range add_non_null put_non_null add_literal put_literal add_bound put_range lay_range cross_check union_values
    normalized non_nulls_moved
    literals_moved ranges_moved steps_to add_residual push_residual union_of joined root_of climb parent_in lt eq of_int simplify_at simplify_below
    operands_from nary_of
    rebuilt
cases_hold = (
  (refl, refl),
  (
    (refl, refl),
    (
      (refl, (refl, refl)),
      (
        (refl, (refl, refl)),
        (
          (refl, refl),
          (
            (refl, refl),
            (
              (refl, refl),
              (
                (refl, refl),
                (
                  (refl, refl),
                  ((refl, (refl, refl)), ((refl, (refl, refl)), ((refl, (refl, refl)), ((refl, (refl, refl)), (refl, (refl, (refl, (refl, tt)))))))),
                ),
              ),
            ),
          ),
        ),
      ),
    ),
  ),
)
