-- A row: a value for every column, as the three numbers of a literal's record. Assumes nothing.
use Rattle.std.specs.Prelude.{Bool, ◌&&◌, ◌||◌, List, ℕ, leb, get_or}
use Rattle.lists.specs.Ranges.{all_from}
use Rattle.plan_kinds.specs.Rows.{row_of}
use Rattle.plan_kinds.specs.Records.{code_ok, bits_ok}
use Rattle.plan_kinds.specs.declared.Record.{Record}
use Rattle.scalar.specs.Kinds.{kind_of, is_null, kind_of_code, same_kind}
use Rattle.scalar.specs.Coded.{scalar_of}
use Rattle.scalar.specs.declared.ScalarValue.{ScalarValue}
use Rattle.plan.specs.declared.Plan.{Plan}
use Rattle.rows_spec.specs.declared.Cell.{Cell}
use Rattle.rows_spec.specs.declared.Row.{Row}

-- the value of three numbers
abbrev pub value_of : Cell → ScalarValue
value_of x = scalar_of x.case x.code x.bits

-- the cell of column c: past the last one stand zeros
abbrev pub cell_in : Row → ℕ → Cell
cell_in row c = get_or row.cells c (record { case = 0; code = 0; bits = 0 })

-- the value of column c
abbrev pub cell_at : Row → ℕ → ScalarValue
cell_at row c = value_of (cell_in row c)

abbrev pub literal_record : Cell → Record
literal_record x = record { kind = x.case; code = x.code; a = 0; b = 0; c = 0; d = 0; bits = x.bits }

-- three numbers are a literal's: its kind, its code and its payload are listed
unfoldable pub listed_literal : Cell → Bool
listed_literal x =
    leb 0x10 x.case && (leb x.case 0x15 && (code_ok (row_of x.case) (literal_record x) && bits_ok (row_of x.case) (literal_record x)))

-- a value is NULL or of the kind of the code k
abbrev pub fits_kind : ℕ → ScalarValue → Bool
fits_kind k v = is_null v || same_kind (kind_of v) (kind_of_code k)

unfoldable pub cell_ok : ℕ → Cell → Bool
cell_ok k x = listed_literal x && fits_kind k (value_of x)

abbrev pub cell_at_ok : List ℕ → Row → ℕ → Bool
cell_at_ok columns row c = cell_ok (get_or columns c 0) (cell_in row c)

-- every column of the plan has such a value, used or not
abbrev pub row_ok : Plan → Row → Bool
row_ok p row = all_from (cell_at_ok p.columns.kind row) 0 p.columns.count
