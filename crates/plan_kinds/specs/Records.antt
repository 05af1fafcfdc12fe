-- What a record has to keep to, by its kind's row. Assumes nothing.
use Rattle.std.specs.Prelude.{ℕ, ◌+◌, Bool, true, cond, ◌&&◌, ltb, leb, eqb}
use Rattle.plan_kinds.specs.declared.Record.{Record}
use Rattle.plan_kinds.specs.Rows.{Row}
use Rattle.plan_kinds.specs.Rows.{none, column, expression, operator, operand, count}

-- the code is listed
abbrev pub code_ok : Row → Record → Bool
code_ok r x = leb r.low x.code && leb x.code r.high

-- a literal's payload fits its four or eight bytes, and there is none where there is no literal
unfoldable pub bits_ok : Row → Record → Bool
bits_ok r x = cond (eqb r.bits 8) true (cond (eqb r.bits 4) (ltb x.bits 4294967296) (eqb x.bits 0))

-- a handle is of a record before this one, an operand's of one before its nary, which is the last; there are nc columns, ne expressions, np operators;
-- a number that the kind does not have is 0
unfoldable pub handle_ok : ℕ → ℕ → ℕ → ℕ → ℕ → Bool
handle_ok sort v nc ne np =
    cond (eqb sort column) (ltb v nc)
    (cond (eqb sort expression) (ltb v ne)
    (cond (eqb sort operator) (ltb v np)
    (cond (eqb sort operand) (ltb (v + 1) ne)
    (cond (eqb sort none) (eqb v 0)
    true))))

abbrev pub handles_ok : Row → Record → ℕ → ℕ → ℕ → Bool
handles_ok r x nc ne np =
    ((handle_ok r.a x.a nc ne np && handle_ok r.b x.b nc ne np) && handle_ok r.c x.c nc ne np) && handle_ok r.d x.d nc ne np

-- how many items of the row's kind follow a record
unfoldable pub count_of : Row → Record → ℕ
count_of r x = cond (eqb r.a count) x.a (cond (eqb r.b count) x.b 0)

-- and how many columns after those: an Aggregation's aggregates
unfoldable pub more_of : Row → Record → ℕ
more_of r x = cond (eqb r.c count) x.c 0
