-- Worked cases, by computing: what the theorems on rows leave open, and where the Rust's order shows. Assumes nothing.
use mathlib.Core.Path.{◌≡◌, refl}
use mathlib.Core.Bool.{true, false}
use Prim.Native.Nat.{ℕ, zero, suc}
use lib.IntN.{pos}
use lib.Ieee.{nan, fin, binary64, lt, eq, of_int, in_float}
use Rattle.lists.specs.Ranges.{any_from}
use Rattle.scalar.specs.declared.ScalarValue.{ScalarValue}
use Rattle.scalar.specs.declared.ScalarValue.TheVariants as S
use Rattle.value_range.specs.Ranges.{no_bound, bound_at, unbounded_range}
use Rattle.value_classes.specs.Parents.{parent_in, climb, root_of, joined, each}
use Rattle.value_classes.specs.Classes.{empty_classes, union_of}
use Rattle.comparison.specs.declared.BinaryOp.TheVariants.{Lt, LtEq, Gt, NotEq}
use Rattle.constraint_spec.specs.Sets.{held, entry_of, literal_at, entry_at, canonical_at, put_non_null, put_literal, lay_range, put_range, cross_check}
use Rattle.constraint_spec.specs.Sets.{steps_to, non_nulls_moved, literals_moved, ranges_moved, normalized, union_values, add_literal, add_bound}
use Rattle.constraint_spec.specs.Sets.{add_range, push_residual, add_residual, merge_classes, merge_literals, merge_ranges, merge_non_nulls}
use Rattle.constraint_spec.specs.Sets.{merge_residuals, merged_set, empty_set}
use Rattle.constraint_spec.specs.declared.ConstraintSet.{ConstraintSet}

abbrev zero_pos : ScalarValue
zero_pos = S.Float64 (fin false 0 (pos 0))

abbrev zero_neg : ScalarValue
zero_neg = S.Float64 (fin true 0 (pos 0))

-- an equal literal takes the place of the one that is there, and the flag stays clear
replaced : literal_at (add_literal (add_literal empty_set 0 zero_pos) 0 zero_neg) 0 ≡ held zero_neg
unfolding add_literal put_non_null put_literal cross_check any_from empty_set empty_classes root_of climb parent_in each lt eq
replaced = refl

replaced-clear : (add_literal (add_literal empty_set 0 zero_pos) 0 zero_neg).contradictory ≡ false
unfolding add_literal put_non_null put_literal cross_check any_from empty_set empty_classes root_of climb parent_in each lt eq
replaced-clear = refl

-- a NaN is not equal to itself, so that the same literal twice sets the flag
nan-twice : (add_literal (add_literal empty_set 0 (S.Float64 nan)) 0 (S.Float64 nan)).contradictory ≡ true
unfolding add_literal put_non_null put_literal cross_check any_from empty_set empty_classes root_of climb parent_in each lt eq
nan-twice = refl

-- a bound at 0.0 is not replaced by one at -0.0 of the same form
zero-kept : entry_at (add_bound (add_bound empty_set 0 Lt (fin false 0 (pos 0))) 0 Lt (fin true 0 (pos 0))) 0 ≡ entry_of
    (record { lower = no_bound; upper = bound_at (fin false 0 (pos 0)) false })
unfolding add_bound put_non_null put_range lay_range cross_check any_from empty_set empty_classes root_of climb parent_in each lt eq
zero-kept = refl

-- of two equal literals that a union brings together the later identity's stays
later-stays : literal_at (union_values (add_literal (add_literal empty_set 1 zero_neg) 5 zero_pos) 5 1) 1 ≡ held zero_pos
unfolding union_values union_of joined normalized non_nulls_moved literals_moved ranges_moved steps_to add_literal put_non_null put_literal put_range
    lay_range cross_check
    any_from empty_set empty_classes root_of climb parent_in each lt eq
later-stays = refl

-- literals that differ meet in a union: the flag is set, and the first identity's stays
differ : (union_values (add_literal (add_literal empty_set 1 (S.Int32 (pos 5))) 5 (S.Int64 (pos 5))) 5 1).contradictory ≡ true
unfolding union_values union_of joined normalized non_nulls_moved literals_moved ranges_moved steps_to add_literal put_non_null put_literal put_range
    lay_range cross_check
    any_from empty_set empty_classes root_of climb parent_in each lt eq of_int in_float
differ = refl

-- a literal outside the bounds sets the flag: 7 is not below 7, and is at most 7
below-seven : (add_literal (add_bound empty_set 0 Lt (of_int binary64 (pos 7))) 0 (S.Int32 (pos 7))).contradictory ≡ true
unfolding add_bound add_literal put_non_null put_literal put_range lay_range cross_check any_from empty_set empty_classes root_of climb parent_in each
    lt eq of_int in_float
below-seven = refl

at_most_seven : (add_literal (add_bound empty_set 0 LtEq (of_int binary64 (pos 7))) 0 (S.Int32 (pos 7))).contradictory ≡ false
unfolding add_bound add_literal put_non_null put_literal put_range lay_range cross_check any_from empty_set empty_classes root_of climb parent_in each
    lt eq of_int in_float
at_most_seven = refl

-- 3 below x below 4 is not empty, 4 below x below 4 is
between : (add_bound (add_bound empty_set 0 Gt (of_int binary64 (pos 3))) 0 Lt (of_int binary64 (pos 4))).contradictory ≡ false
unfolding add_bound add_literal put_non_null put_literal put_range lay_range cross_check any_from empty_set empty_classes root_of climb parent_in each
    lt eq of_int in_float
between = refl

nothing-between : (add_bound (add_bound empty_set 0 Gt (of_int binary64 (pos 4))) 0 Lt (of_int binary64 (pos 4))).contradictory ≡ true
unfolding add_bound add_literal put_non_null put_literal put_range lay_range cross_check any_from empty_set empty_classes root_of climb parent_in each
    lt eq of_int in_float
nothing-between = refl

-- a comparison that gives no bound makes an entry without bounds
bare : entry_at (add_range empty_set 0 NotEq (S.Int32 (pos 5))).constraints 0 ≡ entry_of unbounded_range
unfolding add_range add_bound put_non_null put_range lay_range cross_check any_from empty_set empty_classes root_of climb parent_in each lt eq of_int
bare = refl

-- a merge joins the classes of both, and what was recorded of the members moves along
abbrev left : ConstraintSet
left = add_bound (union_values empty_set 0 3) 3 Gt (of_int binary64 (pos 3))

abbrev right : ConstraintSet
right = add_literal (union_values empty_set 3 9) 9 (S.Int32 (pos 2))

merged_class : canonical_at (merged_set left right) 9 ≡ 0
unfolding merged_set merge_classes merge_literals merge_ranges merge_non_nulls merge_residuals add_bound union_values union_of joined normalized
    non_nulls_moved
    literals_moved ranges_moved steps_to add_literal put_non_null put_literal put_range lay_range cross_check any_from push_residual empty_set
    empty_classes root_of climb
    parent_in each lt eq of_int in_float
merged_class = refl

merged-flag : (merged_set left right).contradictory ≡ true
unfolding merged_set merge_classes merge_literals merge_ranges merge_non_nulls merge_residuals add_bound union_values union_of joined normalized
    non_nulls_moved
    literals_moved ranges_moved steps_to add_literal put_non_null put_literal put_range lay_range cross_check any_from push_residual empty_set
    empty_classes root_of climb
    parent_in each lt eq of_int in_float
merged-flag = refl

-- 64 residuals have room, and a 65th is refused; one that is there is not
abbrev filled : ℕ → ConstraintSet
filled zero = empty_set
filled (suc k) = push_residual (filled k) k

sixty_fourth : (add_residual (filled 63) 63).refused ≡ false
unfolding add_residual push_residual any_from empty_set
sixty_fourth = refl

sixty_fifth : (add_residual (filled 64) 64).refused ≡ true
unfolding add_residual push_residual any_from empty_set
sixty_fifth = refl

already : (add_residual (filled 64) 63).refused ≡ false
unfolding add_residual push_residual any_from empty_set
already = refl
