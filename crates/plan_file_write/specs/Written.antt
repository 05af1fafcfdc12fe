-- The bytes of a plan, from its tables: columns, then expressions with their items, then operators with theirs. Assumes nothing.
use Rattle.std.specs.Prelude.{ℕ, ◌+◌, ◌%◌, cond, List, [], ◌++◌, eqb, get_or}
use Rattle.writing.specs.Text.{lines}
use Rattle.plan_kinds.specs.declared.Record.{Record}
use Rattle.plan_kinds.specs.Rows.{Row}
use Rattle.plan_kinds.specs.Rows.{row_of}
use Rattle.plan.specs.declared.Plan.{Plan}
use Rattle.plan.specs.Records.{expr_record_of, operator_record_of}
use Rattle.plan_file_laws.specs.ListItems.{first_of, second_of, item_kind}
use Rattle.plan_file_laws.specs.Writing.{put_record}

-- a literal of four bytes has the low 32 bits of its number, which are all of it in a plan that keeps the rules
abbrev pub clipped_bits : ℕ → ℕ → ℕ
clipped_bits n v = cond (eqb n 4) (v % 4294967296) v

abbrev pub clipped : Row → Record → Record
clipped r x = record { kind = x.kind; code = x.code; a = x.a; b = x.b; c = x.c; d = x.d; bits = clipped_bits r.bits x.bits }

-- the bytes of a record
unfoldable pub record_bytes : Record → List ℕ
record_bytes x = put_record (clipped (row_of x.kind) x) []

-- the item at place k of the lists of x, which start at st
abbrev pub item_in : List ℕ → List ℕ → Record → ℕ → ℕ → Record
item_in a b x st k = record { kind = item_kind x k; code = 0; a = get_or a (st + k) 0; b = get_or b (st + k) 0; c = 0; d = 0; bits = 0 }

unfoldable pub items_bytes : List ℕ → List ℕ → Record → ℕ → List ℕ
items_bytes a b x st = lines (first_of x + second_of x) (λ (k : ℕ). record_bytes (item_in a b x st k))

-- a record and its items
unfoldable pub listed_bytes : List ℕ → List ℕ → Record → ℕ → List ℕ
listed_bytes a b x st = record_bytes x ++ items_bytes a b x st

abbrev pub column_in : List ℕ → List ℕ → ℕ → Record
column_in name kind i = record { kind = 0x01; code = get_or kind i 0; a = get_or name i 0; b = 0; c = 0; d = 0; bits = 0 }

-- the first n columns, expressions and operators
unfoldable pub columns_bytes : List ℕ → List ℕ → ℕ → List ℕ
columns_bytes name kind n = lines n (λ (i : ℕ). record_bytes (column_in name kind i))

abbrev pub expr_bytes : List ℕ → List ℕ → List ℕ → List ℕ → List ℕ → List ℕ → List ℕ → List ℕ → ℕ → List ℕ
expr_bytes kind code a b bits start first second i = listed_bytes first second (expr_record_of kind code a b bits i) (get_or start i 0)

abbrev pub operator_bytes : List ℕ → List ℕ → List ℕ → List ℕ → List ℕ → List ℕ → List ℕ → List ℕ → List ℕ → ℕ → List ℕ
operator_bytes kind code a b c d start first second i = listed_bytes first second (operator_record_of kind code a b c d i) (get_or start i 0)

-- the same of a plan
abbrev pub expr_line : Plan → ℕ → List ℕ
expr_line p i =
    expr_bytes p.expressions.kind p.expressions.code p.expressions.a p.expressions.b p.expressions.bits p.expressions.start
    p.items.a p.items.b i

abbrev pub operator_line : Plan → ℕ → List ℕ
operator_line p i =
    operator_bytes p.operators.kind p.operators.code p.operators.a p.operators.b p.operators.c p.operators.d p.operators.start
    p.items.a p.items.b i

-- the bytes of a plan
unfoldable pub written_of : Plan → List ℕ
written_of p =
    columns_bytes p.columns.name p.columns.kind p.columns.count
    ++ (lines p.expressions.count (expr_line p) ++ lines p.operators.count (operator_line p))
