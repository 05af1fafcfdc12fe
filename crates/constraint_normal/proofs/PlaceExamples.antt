-- Places, computed: what is let through, and what is not. Assumes nothing.
use mathlib.Core.Path.{◌≡◌, refl}
use mathlib.Core.Bool.{true, false}
use lib.IntN.{pos}
use lib.Ieee.{nan, inf, fin, lt, eq, is_nan, of_int, to_bits}
use Rattle.scalar.specs.declared.Kind.TheVariants as K
use Rattle.scalar.specs.declared.ScalarValue.TheVariants as S
use Rattle.value_range.specs.Ranges.{no_bound, bound_at}
use Rattle.constraint_spec.specs.Sets.{none, held, no_entry, entry_of, blank}
use Rattle.constraint_normal.specs.ReadyPlaces.{blank_scalar, ready_holder, blank_bound, ready_bound, ready_entry, quiet_place, ready_place}

-- ---- literals: at a representative any may stand, -0.0 and NaN too
zero-literal : ready_place true false true (held (S.Float64 (fin false 0 (pos 0)))) no_entry ≡ true
unfolding ready_place ready_holder ready_entry blank_bound quiet_place to_bits
zero-literal = refl

infinite_literal : ready_place true false true (held (S.Float64 (inf true))) no_entry ≡ true
unfolding ready_place ready_holder ready_entry blank_bound quiet_place to_bits
infinite_literal = refl

minus-zero-literal : ready_place true false true (held (S.Float64 (fin true 0 (pos 0)))) no_entry ≡ true
unfolding ready_place ready_holder ready_entry blank_bound quiet_place to_bits
minus-zero-literal = refl

nan-literal : ready_place true false true (held (S.Float64 nan)) no_entry ≡ true
unfolding ready_place ready_holder ready_entry blank_bound quiet_place to_bits
nan-literal = refl

-- ---- away from a representative nothing may stand, and where nothing stands it stands in one way
literal-away : ready_place false false false (held (S.Int64 (pos 7))) no_entry ≡ false
unfolding ready_place ready_holder
literal-away = refl

null-off-root : ready_place false false true none no_entry ≡ false
unfolding ready_place
null-off-root = refl

nothing-away : ready_place false false false none no_entry ≡ true
unfolding ready_place ready_holder blank_scalar ready_entry blank_bound quiet_place to_bits
nothing-away = refl

other-nothing : ready_place true false false (record { present = false; value = S.Null K.Int64 }) no_entry ≡ false
unfolding ready_place ready_holder blank_scalar
other-nothing = refl

blank-away : ready_place false false false none blank ≡ false
unfolding ready_place ready_holder blank_scalar ready_entry blank_bound to_bits
blank-away = refl

-- ---- ranges: a NaN bound is refused, and a contradiction that the flag does not tell
nan-bound : ready_place true true true none (entry_of (record { lower = bound_at nan true; upper = no_bound })) ≡ false
unfolding ready_place ready_holder blank_scalar ready_entry ready_bound is_nan
nan-bound = refl

one-bound : ready_place true false true (held (S.Int64 (pos 7))) (entry_of (record { lower = bound_at (fin false 7 (pos 0)) true; upper = no_bound }))
    ≡ true
unfolding ready_place ready_holder blank_scalar ready_entry ready_bound blank_bound quiet_place is_nan to_bits lt eq of_int
one-bound = refl

outside_unsaid : ready_place true false true (held (S.Int64 (pos 7))) (entry_of (record {
  lower = bound_at (fin false 7 (pos 0)) false;
  upper =
      no_bound;
})) ≡ false
unfolding ready_place ready_holder blank_scalar ready_entry ready_bound blank_bound quiet_place is_nan to_bits lt eq of_int
outside_unsaid = refl

outside-said : ready_place true true true (held (S.Int64 (pos 7))) (entry_of (record {
  lower = bound_at (fin false 7 (pos 0)) false;
  upper = no_bound;
})) ≡ true
unfolding ready_place ready_holder blank_scalar ready_entry ready_bound blank_bound is_nan to_bits
outside-said = refl
