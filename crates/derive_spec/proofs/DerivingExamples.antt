-- Cases of the rules on real plans, by computing: the worked input, cases 1, 2 and 9, what Map, Rename, Aggregation and the joins leave, and who refuses.
-- Assumes nothing.
use Rattle.std.proofs.Common.{Err}
use Prim.Native.Nat.{ℕ, ◌-◌}
use mathlib.Core.Path.{◌≡◌, refl}
use mathlib.Core.Bool.{Bool, true, false}
use mathlib.Core.List.{List, [], ◌∷◌, ◌++◌}
use lib.IntN.{pos}
use lib.ListN.{length, replicate}
use lib.Ieee.{binary64, of_int, lt, eq}
use Rattle.lists.specs.Ranges.{all_from, any_from, count_from}
use Rattle.plan_kinds.specs.Rows.{line_of, row_of}
use Rattle.plan_kinds.specs.Records.{bits_ok, handle_ok, count_of, more_of}
use Rattle.scalar.specs.declared.ScalarValue.TheVariants as S
use Rattle.value_range.specs.Ranges.{no_bound, bound_at}
use Rattle.value_classes.specs.Parents.{parent_in, climb, root_of, joined, each}
use Rattle.value_classes.specs.Classes.{empty_classes, roots_joined, union_of}
use Rattle.value_classes.specs.declared.ValueEquivalenceClasses.{ValueEquivalenceClasses}
use Rattle.constraint_spec.specs.Sets.{none, held, no_entry, entry_of, empty_set, steps_to, put_non_null, put_literal, lay_range, put_range, cross_check}
use Rattle.constraint_spec.specs.Sets.{normalized, non_nulls_moved, literals_moved, ranges_moved, union_values, add_non_null, add_literal, add_bound}
use Rattle.constraint_spec.specs.Sets.{add_range, push_residual, add_residual, with_values, with_residuals}
use Rattle.constraint_spec.specs.declared.Holder.{Holder}
use Rattle.constraint_spec.specs.declared.Entry.{Entry}
use Rattle.constraint_spec.specs.declared.ConstraintSet.{ConstraintSet}
use Rattle.plan.specs.declared.Plan.{Plan}
use Rattle.plan_rules.specs.Rules.{record_ok, item_ok, lists_ok, expr_ok_of, operator_ok_of, scans_of, counts_within, plan_ok}
use Rattle.plan_data.specs.Nodes.{expr_data, operator_data}
use Rattle.plan_identities.specs.Places.{first_from, filled}
use Rattle.plan_identities.specs.Identities.{table_in, by_key, base_of, number_by, identities_of}
use Rattle.apply_spec.specs.Facts.{empty_facts, with_constraints}
use Rattle.apply_spec.specs.Meaning.{fresh_facts}
use Rattle.apply_spec.specs.Conjuncts.{joined_of, conjuncts_to}
use Rattle.apply_spec.specs.Apply.{comparison_by, conjunct_applied, all_applied}
use Rattle.apply_spec.specs.Entries.{predicate_applied, overridden, inputs_merged}
use Rattle.derive_spec.specs.Columns.{lineage_entry, definition_entry, assigned, defined, carried, computed, key_column, scanned, derived_columns}
use Rattle.derive_spec.specs.Columns.{projected, renamed, mapped, keys_ok, keys_of}
use Rattle.derive_spec.specs.Operators.{accepted, refused, given, filtered, grouped}
use Rattle.derive_spec.specs.Deriving.{answers_to, answer_of, derive_of}
use Rattle.derive_spec.specs.Answers.{DeriveAnswer}
use Rattle.derive_spec.specs.declared.DeriveError.TheVariants.{UnsupportedKey, NoSuch}

-- ---- a plan from the parts of its tables that are used
abbrev padded : ℕ → List ℕ → List ℕ
padded n l = l ++ replicate (n - length l) 0

-- column kinds; then kind, code, a, b, start and bits of the expressions; kind, code, a, b, c and start of the operators; the items
abbrev plan_of : List ℕ → List ℕ → List ℕ → List ℕ → List ℕ → List ℕ → List ℕ → List ℕ → List ℕ → List ℕ → List ℕ → List ℕ → List ℕ → List ℕ → List ℕ
    → Plan
plan_of kinds ek ec ea eb es bits ok oc oa ob od os ia ib = record {
  columns = record { count = length kinds; name = replicate 64 0; kind = padded 64 kinds };
  expressions = record {
    count = length ek;
    kind = padded 1024 ek;
    code = padded 1024 ec;
    a = padded 1024 ea;
    b = padded 1024 eb;
    start = padded 1024 es;
    bits = padded 1024 bits;
  };
  operators = record {
    count = length ok;
    kind = padded 128 ok;
    code = padded 128 oc;
    a = padded 128 oa;
    b = padded 128 ob;
    c = padded 128 od;
    d = replicate 128 0;
    start = padded 128 os;
  };
  items = record { count = length ia; a = padded 2048 ia; b = padded 2048 ib };
}

-- facts with these lineage and definition entries, and a set
abbrev facts_of : List ℕ → List ℕ → ConstraintSet → DeriveAnswer
facts_of l d s = accepted (with_constraints (fresh_facts (padded 64 l) (padded 64 d)) s)

-- the classes; what is recorded of the identity 0: non-null, its literal and its range; then residuals and the flag
abbrev set_of : ValueEquivalenceClasses → Bool → Holder → Entry → List ℕ → Bool → ConstraintSet
set_of classes nonNull literal entry residuals flag =
    with_residuals
    (with_values empty_set classes (nonNull ∷ replicate 127 false) (literal ∷ replicate 127 none) (entry ∷ replicate 127 no_entry) flag)
    (padded 64 residuals) (length residuals)

-- each identity alone
abbrev alone : ValueEquivalenceClasses
alone = empty_classes

abbrev below : ℕ → Entry
below n = entry_of (record { lower = no_bound; upper = bound_at (of_int binary64 (pos n)) false })

-- ---- the rules' worked input: x = y And y < 7 over a Scan of x and y, expressions 2 and 4, the And 5
abbrev worked : Plan
worked =
    plan_of (2 ∷ 2 ∷ [])
    (0x20 ∷ 0x20 ∷ 0x22 ∷ 0x12 ∷ 0x22 ∷ 0x23 ∷ []) (0 ∷ 0 ∷ 0 ∷ 0 ∷ 2 ∷ 0 ∷ []) (0 ∷ 1 ∷ 0 ∷ 0 ∷ 1 ∷ 2 ∷ []) (0 ∷ 0 ∷ 1 ∷ 0 ∷ 3 ∷ 0 ∷ []) []
    (0 ∷ 0 ∷ 0 ∷ 7 ∷ [])
    (0x30 ∷ 0x33 ∷ []) [] (0 ∷ 5 ∷ []) (2 ∷ 0 ∷ []) [] (2 ∷ 0 ∷ [])
    (2 ∷ 4 ∷ 0 ∷ 1 ∷ []) []

-- `facts 1 0`, `column 0 b0`, `column 1 b1`, `class b0 b1`, `nonnull b0`, `range b0 - 401c000000000000x`
worked_case : derive_of worked 1 ≡ facts_of (1 ∷ 2 ∷ []) [] (set_of (roots_joined alone 0 1) true none (below 7) [] false)
unfolding derive_of plan_ok counts_within all_from expr_ok_of record_ok lists_ok row_of line_of bits_ok handle_ok count_of more_of item_ok
    operator_ok_of scans_of any_from
    count_from answer_of answers_to operator_data identities_of filled base_of by_key table_in first_from number_by lineage_entry definition_entry
    scanned derived_columns
    projected renamed mapped computed carried keys_ok keys_of key_column grouped steps_to assigned defined given filtered empty_facts
    predicate_applied all_applied
    conjuncts_to joined_of conjunct_applied comparison_by expr_data inputs_merged overridden add_range add_bound add_non_null add_literal add_residual
    push_residual
    union_values union_of joined normalized non_nulls_moved literals_moved ranges_moved put_non_null put_literal put_range lay_range cross_check
    empty_set empty_classes
    each root_of climb parent_in lt eq of_int
worked_case = refl

-- ---- z < n with an Int64 n, over a Scan of z: the comparison is expression 2
abbrev less_plan : ℕ → Plan
less_plan n =
    plan_of (3 ∷ []) (0x20 ∷ 0x13 ∷ 0x22 ∷ []) (0 ∷ 0 ∷ 2 ∷ []) (0 ∷ 0 ∷ 0 ∷ []) (0 ∷ 0 ∷ 1 ∷ []) [] (0 ∷ n ∷ [])
    (0x30 ∷ 0x33 ∷ []) [] (0 ∷ 2 ∷ []) (1 ∷ 0 ∷ []) [] [] (0 ∷ []) []

-- case 1: the bound 2^53, exclusive
case_1 : derive_of (less_plan 9007199254740992) 1 ≡ facts_of (1 ∷ []) [] (set_of alone true none (below 9007199254740992) [] false)
unfolding derive_of plan_ok counts_within all_from expr_ok_of record_ok lists_ok row_of line_of bits_ok handle_ok count_of more_of item_ok
    operator_ok_of scans_of any_from
    count_from answer_of answers_to operator_data identities_of filled base_of by_key table_in first_from number_by lineage_entry definition_entry
    scanned derived_columns
    projected renamed mapped computed carried keys_ok keys_of key_column grouped steps_to assigned defined given filtered empty_facts
    predicate_applied all_applied
    conjuncts_to joined_of conjunct_applied comparison_by expr_data inputs_merged overridden add_range add_bound add_non_null add_literal add_residual
    push_residual
    union_values union_of joined normalized non_nulls_moved literals_moved ranges_moved put_non_null put_literal put_range lay_range cross_check
    empty_set empty_classes
    each root_of climb parent_in lt eq of_int
case_1 = refl

-- case 2: residual only
case_2 : derive_of (less_plan 9007199254740993) 1 ≡ facts_of (1 ∷ []) [] (set_of alone false none no_entry (2 ∷ []) false)
unfolding derive_of plan_ok counts_within all_from expr_ok_of record_ok lists_ok row_of line_of bits_ok handle_ok count_of more_of item_ok
    operator_ok_of scans_of any_from
    count_from answer_of answers_to operator_data identities_of filled base_of by_key table_in first_from number_by lineage_entry definition_entry
    scanned derived_columns
    projected renamed mapped computed carried keys_ok keys_of key_column grouped steps_to assigned defined given filtered empty_facts
    predicate_applied all_applied
    conjuncts_to joined_of conjunct_applied comparison_by expr_data inputs_merged overridden add_range add_bound add_non_null add_literal add_residual
    push_residual
    union_values union_of joined normalized non_nulls_moved literals_moved ranges_moved put_non_null put_literal put_range lay_range cross_check
    empty_set empty_classes
    each root_of climb parent_in lt eq of_int
case_2 = refl

-- ---- case 9: z = 5 with an Int32 5, then with an Int64 5: contradictory, and the first literal stays
abbrev twice_plan : Plan
twice_plan =
    plan_of (3 ∷ []) (0x20 ∷ 0x12 ∷ 0x22 ∷ 0x13 ∷ 0x22 ∷ []) [] [] (0 ∷ 0 ∷ 1 ∷ 0 ∷ 3 ∷ []) [] (0 ∷ 5 ∷ 0 ∷ 5 ∷ [])
    (0x30 ∷ 0x33 ∷ 0x33 ∷ []) [] (0 ∷ 2 ∷ 4 ∷ []) (1 ∷ 0 ∷ 1 ∷ []) [] [] (0 ∷ []) []

case_9 : derive_of twice_plan 2 ≡ facts_of (1 ∷ []) [] (set_of alone true (held (S.Int32 (pos 5))) no_entry [] true)
unfolding derive_of plan_ok counts_within all_from expr_ok_of record_ok lists_ok row_of line_of bits_ok handle_ok count_of more_of item_ok
    operator_ok_of scans_of any_from
    count_from answer_of answers_to operator_data identities_of filled base_of by_key table_in first_from number_by lineage_entry definition_entry
    scanned derived_columns
    projected renamed mapped computed carried keys_ok keys_of key_column grouped steps_to assigned defined given filtered empty_facts
    predicate_applied all_applied
    conjuncts_to joined_of conjunct_applied comparison_by expr_data inputs_merged overridden add_range add_bound add_non_null add_literal add_residual
    push_residual
    union_values union_of joined normalized non_nulls_moved literals_moved ranges_moved put_non_null put_literal put_range lay_range cross_check
    empty_set empty_classes
    each root_of climb parent_in lt eq of_int
case_9 = refl

before_9 : derive_of twice_plan 1 ≡ facts_of (1 ∷ []) [] (set_of alone true (held (S.Int32 (pos 5))) no_entry [] false)
unfolding derive_of plan_ok counts_within all_from expr_ok_of record_ok lists_ok row_of line_of bits_ok handle_ok count_of more_of item_ok
    operator_ok_of scans_of any_from
    count_from answer_of answers_to operator_data identities_of filled base_of by_key table_in first_from number_by lineage_entry definition_entry
    scanned derived_columns
    projected renamed mapped computed carried keys_ok keys_of key_column grouped steps_to assigned defined given filtered empty_facts
    predicate_applied all_applied
    conjuncts_to joined_of conjunct_applied comparison_by expr_data inputs_merged overridden add_range add_bound add_non_null add_literal add_residual
    push_residual
    union_values union_of joined normalized non_nulls_moved literals_moved ranges_moved put_non_null put_literal put_range lay_range cross_check
    empty_set empty_classes
    each root_of climb parent_in lt eq of_int
before_9 = refl

-- ---- Map over a Scan of column 0, expressions 0 to 2 its reference, that of column 1, and x = x. Column 1 refers to column 0, column 2 to column 1,
-- which an earlier computation made; column 3 is computed by expression 2, and then refers to column 0: it shares that identity, and its
-- definition stays
abbrev map_plan : Plan
map_plan =
    plan_of (2 ∷ 2 ∷ 2 ∷ 1 ∷ []) (0x20 ∷ 0x20 ∷ 0x22 ∷ []) [] (0 ∷ 1 ∷ 0 ∷ []) [] [] []
    (0x30 ∷ 0x36 ∷ []) [] (0 ∷ 0 ∷ []) (1 ∷ 4 ∷ []) [] (0 ∷ 1 ∷ [])
    (0 ∷ 1 ∷ 2 ∷ 3 ∷ 3 ∷ []) (0 ∷ 0 ∷ 1 ∷ 2 ∷ 0 ∷ [])

map_case : derive_of map_plan 1 ≡ facts_of (1 ∷ 1 ∷ 1 ∷ 1 ∷ []) (0 ∷ 0 ∷ 0 ∷ 3 ∷ []) empty_set
unfolding derive_of plan_ok counts_within all_from expr_ok_of record_ok lists_ok row_of line_of bits_ok handle_ok count_of more_of item_ok
    operator_ok_of scans_of any_from
    count_from answer_of answers_to operator_data identities_of filled base_of by_key table_in first_from number_by lineage_entry definition_entry
    scanned derived_columns
    projected renamed mapped computed carried keys_ok keys_of key_column grouped steps_to assigned defined given filtered empty_facts
    predicate_applied all_applied
    conjuncts_to joined_of conjunct_applied comparison_by expr_data inputs_merged overridden add_range add_bound add_non_null add_literal add_residual
    push_residual
    union_values union_of joined normalized non_nulls_moved literals_moved ranges_moved put_non_null put_literal put_range lay_range cross_check
    empty_set empty_classes
    each root_of climb parent_in lt eq of_int
map_case = refl

-- ---- over a Selection z < 5 of a Scan of z (operator 1), by operators 2 to 5: a Rename of z to column 1, an Aggregation by z with column 1 as its
-- aggregate, a ConstScan of column 1, and a LeftOuter join of the ConstScan, left, with the Selection, right
abbrev keep_plan : Plan
keep_plan =
    plan_of (3 ∷ 3 ∷ []) (0x20 ∷ 0x13 ∷ 0x22 ∷ []) (0 ∷ 0 ∷ 2 ∷ []) [] (0 ∷ 0 ∷ 1 ∷ []) [] (0 ∷ 5 ∷ [])
    (0x30 ∷ 0x33 ∷ 0x35 ∷ 0x37 ∷ 0x31 ∷ 0x3C ∷ []) (0 ∷ 0 ∷ 0 ∷ 0 ∷ 0 ∷ 3 ∷ []) (0 ∷ 2 ∷ 1 ∷ 1 ∷ 1 ∷ 2 ∷ []) (1 ∷ 0 ∷ 1 ∷ 1 ∷ 0 ∷ 4 ∷ [])
    (0 ∷ 0 ∷ 0 ∷ 1 ∷ 0 ∷ 1 ∷ []) (0 ∷ 0 ∷ 1 ∷ 2 ∷ 4 ∷ [])
    (0 ∷ 1 ∷ 0 ∷ 1 ∷ 1 ∷ []) []

-- the renamed column alone, with the input's constraints
rename_case : derive_of keep_plan 2 ≡ facts_of (0 ∷ 1 ∷ []) [] (set_of alone true none (below 5) [] false)
unfolding derive_of plan_ok counts_within all_from expr_ok_of record_ok lists_ok row_of line_of bits_ok handle_ok count_of more_of item_ok
    operator_ok_of scans_of any_from
    count_from answer_of answers_to operator_data identities_of filled base_of by_key table_in first_from number_by lineage_entry definition_entry
    scanned derived_columns
    projected renamed mapped computed carried keys_ok keys_of key_column grouped steps_to assigned defined given filtered empty_facts
    predicate_applied all_applied
    conjuncts_to joined_of conjunct_applied comparison_by expr_data inputs_merged overridden add_range add_bound add_non_null add_literal add_residual
    push_residual
    union_values union_of joined normalized non_nulls_moved literals_moved ranges_moved put_non_null put_literal put_range lay_range cross_check
    empty_set empty_classes
    each root_of climb parent_in lt eq of_int
rename_case = refl

-- the key's lineage and the aggregate, Derived, without constraints
aggregation_case : derive_of keep_plan 3 ≡ facts_of (1 ∷ 66 ∷ []) [] empty_set
unfolding derive_of plan_ok counts_within all_from expr_ok_of record_ok lists_ok row_of line_of bits_ok handle_ok count_of more_of item_ok
    operator_ok_of scans_of any_from
    count_from answer_of answers_to operator_data identities_of filled base_of by_key table_in first_from number_by lineage_entry definition_entry
    scanned derived_columns
    projected renamed mapped computed carried keys_ok keys_of key_column grouped steps_to assigned defined given filtered empty_facts
    predicate_applied all_applied
    conjuncts_to joined_of conjunct_applied comparison_by expr_data inputs_merged overridden add_range add_bound add_non_null add_literal add_residual
    push_residual
    union_values union_of joined normalized non_nulls_moved literals_moved ranges_moved put_non_null put_literal put_range lay_range cross_check
    empty_set empty_classes
    each root_of climb parent_in lt eq of_int
aggregation_case = refl

-- both lineages, and nothing of the right's constraints
outer_case : derive_of keep_plan 5 ≡ facts_of (1 ∷ 66 ∷ []) [] empty_set
unfolding derive_of plan_ok counts_within all_from expr_ok_of record_ok lists_ok row_of line_of bits_ok handle_ok count_of more_of item_ok
    operator_ok_of scans_of any_from
    count_from answer_of answers_to operator_data identities_of filled base_of by_key table_in first_from number_by lineage_entry definition_entry
    scanned derived_columns
    projected renamed mapped computed carried keys_ok keys_of key_column grouped steps_to assigned defined given filtered empty_facts
    predicate_applied all_applied
    conjuncts_to joined_of conjunct_applied comparison_by expr_data inputs_merged overridden add_range add_bound add_non_null add_literal add_residual
    push_residual
    union_values union_of joined normalized non_nulls_moved literals_moved ranges_moved put_non_null put_literal put_range lay_range cross_check
    empty_set empty_classes
    each root_of climb parent_in lt eq of_int
outer_case = refl

-- ---- who refuses. Operators 1 and 2 are Aggregations of the Scan 0 by the literal 1; 3 is a product of 2, outer, with 1; 4 is an Output of 0
abbrev refuse_plan : Plan
refuse_plan =
    plan_of (2 ∷ []) (0x12 ∷ []) [] [] [] [] (1 ∷ [])
    (0x30 ∷ 0x37 ∷ 0x37 ∷ 0x3B ∷ 0x3A ∷ []) [] (0 ∷ 0 ∷ 0 ∷ 2 ∷ 0 ∷ []) (1 ∷ 1 ∷ 1 ∷ 1 ∷ 0 ∷ []) [] (0 ∷ 1 ∷ 2 ∷ [])
    (0 ∷ 0 ∷ 0 ∷ []) []

-- a key that is no column reference
key-refused : derive_of refuse_plan 1 ≡ refused (Err (UnsupportedKey (record { 0 = 1 })))
unfolding derive_of plan_ok counts_within all_from expr_ok_of record_ok lists_ok row_of line_of bits_ok handle_ok count_of more_of item_ok
    operator_ok_of scans_of any_from
    count_from answer_of answers_to operator_data identities_of filled base_of by_key table_in first_from number_by lineage_entry definition_entry
    scanned derived_columns
    projected renamed mapped computed carried keys_ok keys_of key_column grouped steps_to assigned defined given filtered empty_facts
    predicate_applied all_applied
    conjuncts_to joined_of conjunct_applied comparison_by expr_data inputs_merged overridden add_range add_bound add_non_null add_literal add_residual
    push_residual
    union_values union_of joined normalized non_nulls_moved literals_moved ranges_moved put_non_null put_literal put_range lay_range cross_check
    empty_set empty_classes
    each root_of climb parent_in lt eq of_int
key-refused = refl

-- the outer input counts, though the inner one has the lower handle
outer_refused : derive_of refuse_plan 3 ≡ refused (Err (UnsupportedKey (record { 0 = 2 })))
unfolding derive_of plan_ok counts_within all_from expr_ok_of record_ok lists_ok row_of line_of bits_ok handle_ok count_of more_of item_ok
    operator_ok_of scans_of any_from
    count_from answer_of answers_to operator_data identities_of filled base_of by_key table_in first_from number_by lineage_entry definition_entry
    scanned derived_columns
    projected renamed mapped computed carried keys_ok keys_of key_column grouped steps_to assigned defined given filtered empty_facts
    predicate_applied all_applied
    conjuncts_to joined_of conjunct_applied comparison_by expr_data inputs_merged overridden add_range add_bound add_non_null add_literal add_residual
    push_residual
    union_values union_of joined normalized non_nulls_moved literals_moved ranges_moved put_non_null put_literal put_range lay_range cross_check
    empty_set empty_classes
    each root_of climb parent_in lt eq of_int
outer_refused = refl

-- an operator that is not reached does not refuse
unreached : derive_of refuse_plan 4 ≡ facts_of (1 ∷ []) [] empty_set
unfolding derive_of plan_ok counts_within all_from expr_ok_of record_ok lists_ok row_of line_of bits_ok handle_ok count_of more_of item_ok
    operator_ok_of scans_of any_from
    count_from answer_of answers_to operator_data identities_of filled base_of by_key table_in first_from number_by lineage_entry definition_entry
    scanned derived_columns
    projected renamed mapped computed carried keys_ok keys_of key_column grouped steps_to assigned defined given filtered empty_facts
    predicate_applied all_applied
    conjuncts_to joined_of conjunct_applied comparison_by expr_data inputs_merged overridden add_range add_bound add_non_null add_literal add_residual
    push_residual
    union_values union_of joined normalized non_nulls_moved literals_moved ranges_moved put_non_null put_literal put_range lay_range cross_check
    empty_set empty_classes
    each root_of climb parent_in lt eq of_int
unreached = refl

-- an operator that is not there: the number that was asked for
no_such : derive_of refuse_plan 5 ≡ refused (Err (NoSuch (record { 0 = 5 })))
unfolding derive_of plan_ok counts_within all_from expr_ok_of record_ok lists_ok row_of line_of bits_ok handle_ok count_of more_of item_ok
    operator_ok_of scans_of any_from
    count_from answer_of answers_to operator_data identities_of filled base_of by_key table_in first_from number_by lineage_entry definition_entry
    scanned derived_columns
    projected renamed mapped computed carried keys_ok keys_of key_column grouped steps_to assigned defined given filtered empty_facts
    predicate_applied all_applied
    conjuncts_to joined_of conjunct_applied comparison_by expr_data inputs_merged overridden add_range add_bound add_non_null add_literal add_residual
    push_residual
    union_values union_of joined normalized non_nulls_moved literals_moved ranges_moved put_non_null put_literal put_range lay_range cross_check
    empty_set empty_classes
    each root_of climb parent_in lt eq of_int
no_such = refl

-- ---- a Scan of x (operator 0) under a Selection x < 5 (1), a ConstScan of x (2), and above them a RightOuter and a FullOuter join of the
-- ConstScan, left, with the Selection, right (3 and 4), and a LeftMark join of the two with the marker 1 (5)
abbrev join_plan : Plan
join_plan = record {
  columns = record { count = 2; name = replicate 64 0; kind = padded 64 (3 ∷ 1 ∷ []) };
  expressions = record {
    count = 3;
    kind = padded 1024 (0x20 ∷ 0x13 ∷ 0x22 ∷ []);
    code = padded 1024 (0 ∷ 0 ∷ 2 ∷ []);
    a = replicate 1024 0;
    b = padded 1024 (0 ∷ 0 ∷ 1 ∷ []);
    start = replicate 1024 0;
    bits = padded 1024 (0 ∷ 5 ∷ []);
  };
  operators = record {
    count = 6;
    kind = padded 128 (0x30 ∷ 0x33 ∷ 0x31 ∷ 0x3C ∷ 0x3C ∷ 0x3D ∷ []);
    code = padded 128 (0 ∷ 0 ∷ 0 ∷ 5 ∷ 6 ∷ 0 ∷ []);
    a = padded 128 (0 ∷ 2 ∷ 1 ∷ 2 ∷ 2 ∷ 2 ∷ []);
    b = padded 128 (1 ∷ 0 ∷ 0 ∷ 2 ∷ 2 ∷ 2 ∷ []);
    c = padded 128 (0 ∷ 0 ∷ 0 ∷ 1 ∷ 1 ∷ 1 ∷ []);
    d = padded 128 (0 ∷ 0 ∷ 0 ∷ 0 ∷ 0 ∷ 1 ∷ []);
    start = replicate 128 0;
  };
  items = record { count = 1; a = replicate 2048 0; b = replicate 2048 0 };
}

-- right lineage overrides left; RightOuter keeps the right's constraints, FullOuter none
right_case : derive_of join_plan 3 ≡ facts_of (1 ∷ []) [] (set_of alone true none (below 5) [] false)
unfolding derive_of plan_ok counts_within all_from expr_ok_of record_ok lists_ok row_of line_of bits_ok handle_ok count_of more_of item_ok
    operator_ok_of scans_of any_from
    count_from answer_of answers_to operator_data identities_of filled base_of by_key table_in first_from number_by lineage_entry definition_entry
    scanned derived_columns
    projected renamed mapped computed carried keys_ok keys_of key_column grouped steps_to assigned defined given filtered empty_facts
    predicate_applied all_applied
    conjuncts_to joined_of conjunct_applied comparison_by expr_data inputs_merged overridden add_range add_bound add_non_null add_literal add_residual
    push_residual
    union_values union_of joined normalized non_nulls_moved literals_moved ranges_moved put_non_null put_literal put_range lay_range cross_check
    empty_set empty_classes
    each root_of climb parent_in lt eq of_int
right_case = refl

full_case : derive_of join_plan 4 ≡ facts_of (1 ∷ []) [] empty_set
unfolding derive_of plan_ok counts_within all_from expr_ok_of record_ok lists_ok row_of line_of bits_ok handle_ok count_of more_of item_ok
    operator_ok_of scans_of any_from
    count_from answer_of answers_to operator_data identities_of filled base_of by_key table_in first_from number_by lineage_entry definition_entry
    scanned derived_columns
    projected renamed mapped computed carried keys_ok keys_of key_column grouped steps_to assigned defined given filtered empty_facts
    predicate_applied all_applied
    conjuncts_to joined_of conjunct_applied comparison_by expr_data inputs_merged overridden add_range add_bound add_non_null add_literal add_residual
    push_residual
    union_values union_of joined normalized non_nulls_moved literals_moved ranges_moved put_non_null put_literal put_range lay_range cross_check
    empty_set empty_classes
    each root_of climb parent_in lt eq of_int
full_case = refl

-- LeftMark gives the left's facts, and the marker is Derived
mark_case : derive_of join_plan 5 ≡ facts_of (65 ∷ 66 ∷ []) [] empty_set
unfolding derive_of plan_ok counts_within all_from expr_ok_of record_ok lists_ok row_of line_of bits_ok handle_ok count_of more_of item_ok
    operator_ok_of scans_of any_from
    count_from answer_of answers_to operator_data identities_of filled base_of by_key table_in first_from number_by lineage_entry definition_entry
    scanned derived_columns
    projected renamed mapped computed carried keys_ok keys_of key_column grouped steps_to assigned defined given filtered empty_facts
    predicate_applied all_applied
    conjuncts_to joined_of conjunct_applied comparison_by expr_data inputs_merged overridden add_range add_bound add_non_null add_literal add_residual
    push_residual
    union_values union_of joined normalized non_nulls_moved literals_moved ranges_moved put_non_null put_literal put_range lay_range cross_check
    empty_set empty_classes
    each root_of climb parent_in lt eq of_int
mark_case = refl
