-- What the tables of a plan have of a record. Past the end of a table stand zeros. Assumes nothing.
use Rattle.std.specs.Prelude.{ℕ, List, get_or}
use Rattle.plan_kinds.specs.declared.Record.{Record}
use Rattle.plan.specs.declared.Columns.{Columns}
use Rattle.plan.specs.declared.Expressions.{Expressions}
use Rattle.plan.specs.declared.Items.{Items}
use Rattle.plan.specs.declared.Operators.{Operators}
use Rattle.plan.specs.declared.Plan.{Plan}

-- an expression's record, from the arrays of its table
abbrev pub expr_record_of : List ℕ → List ℕ → List ℕ → List ℕ → List ℕ → ℕ → Record
expr_record_of kind code a b bits i =
    record { kind = get_or kind i 0; code = get_or code i 0; a = get_or a i 0; b = get_or b i 0; c = 0; d = 0; bits = get_or bits i 0 }

abbrev pub operator_record_of : List ℕ → List ℕ → List ℕ → List ℕ → List ℕ → List ℕ → ℕ → Record
operator_record_of kind code a b c d i =
    record { kind = get_or kind i 0; code = get_or code i 0; a = get_or a i 0; b = get_or b i 0; c = get_or c i 0; d = get_or d i 0; bits = 0 }

-- an item's record, whose kind its list has
abbrev pub item_record_of : List ℕ → List ℕ → ℕ → Record
item_record_of a b i = record { kind = 0; code = 0; a = get_or a i 0; b = get_or b i 0; c = 0; d = 0; bits = 0 }

-- the same from a table
abbrev pub column_record_in : Columns → ℕ → Record
column_record_in t i = record { kind = 0x01; code = get_or t.kind i 0; a = get_or t.name i 0; b = 0; c = 0; d = 0; bits = 0 }

abbrev pub expr_record_in : Expressions → ℕ → Record
expr_record_in t i = expr_record_of t.kind t.code t.a t.b t.bits i

abbrev pub operator_record_in : Operators → ℕ → Record
operator_record_in t i = operator_record_of t.kind t.code t.a t.b t.c t.d i

abbrev pub item_record_in : Items → ℕ → Record
item_record_in t i = item_record_of t.a t.b i

-- the same of a plan, by handle
abbrev pub column_record : Plan → ℕ → Record
column_record p i = column_record_in p.columns i

abbrev pub expr_record : Plan → ℕ → Record
expr_record p i = expr_record_in p.expressions i

abbrev pub expr_start : Plan → ℕ → ℕ
expr_start p i = get_or p.expressions.start i 0

abbrev pub operator_record : Plan → ℕ → Record
operator_record p i = operator_record_in p.operators i

abbrev pub operator_start : Plan → ℕ → ℕ
operator_start p i = get_or p.operators.start i 0

abbrev pub item_record : Plan → ℕ → Record
item_record p i = item_record_in p.items i
