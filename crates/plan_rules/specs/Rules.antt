-- The rules of a plan: counts within the sizes, codes listed, payloads in range, handles and lists of earlier records, a column in at most one
-- Scan. A plan that breaks one is refused by NoSuch (8). Assumes nothing.
use Rattle.std.specs.Prelude.{ℕ, suc, ◌+◌, Bool, ◌&&◌, List, leb, eqb, get_or}
use Rattle.lists.specs.Ranges.{all_from, any_from, count_from}
use Rattle.plan_kinds.specs.declared.Record.{Record}
use Rattle.plan_kinds.specs.Rows.{row_of, expressions, operators}
use Rattle.plan_kinds.specs.Records.{code_ok, bits_ok, handles_ok, count_of, more_of}
use Rattle.plan.specs.declared.Items.{Items}
use Rattle.plan.specs.declared.Operators.{Operators}
use Rattle.plan.specs.declared.Plan.{Plan}
use Rattle.plan.specs.Records.{expr_record_of, operator_record_of, item_record_of}

-- a record of the sort: its kind is listed there, its code is listed, its payload fits, its handles are of earlier records
-- (there are nc columns, ne expressions and np operators before it)
unfoldable pub record_ok : ℕ → Record → ℕ → ℕ → ℕ → Bool
record_ok sort x nc ne np =
    eqb (row_of x.kind).sort sort
    && (code_ok (row_of x.kind) x && (bits_ok (row_of x.kind) x && handles_ok (row_of x.kind) x nc ne np))

-- the item at j, of a list of the kind k, has handles of earlier records
unfoldable pub item_ok : List ℕ → List ℕ → ℕ → ℕ → ℕ → ℕ → ℕ → Bool
item_ok ia ib k nc ne np j = handles_ok (row_of k) (item_record_of ia ib j) nc ne np

-- the lists of a record start at st: first those of its row's kind, then columns; all of them are among the `used` items, and each item is right
unfoldable pub lists_ok : List ℕ → List ℕ → ℕ → Record → ℕ → ℕ → ℕ → ℕ → Bool
lists_ok ia ib used x st nc ne np =
    leb (st + (count_of (row_of x.kind) x + more_of (row_of x.kind) x)) used
    && (all_from (item_ok ia ib (row_of x.kind).item nc ne np) st (count_of (row_of x.kind) x)
    && all_from (item_ok ia ib 0x40 nc ne np) (st + count_of (row_of x.kind) x) (more_of (row_of x.kind) x))

-- column i has a listed kind
abbrev pub column_ok_of : List ℕ → ℕ → Bool
column_ok_of kind i = leb 1 (get_or kind i 0) && leb (get_or kind i 0) 5

abbrev pub column_ok : Plan → ℕ → Bool
column_ok p i = column_ok_of p.columns.kind i

-- expression i, from the arrays of the tables: its operands are expressions before it, also those of its list
unfoldable pub expr_ok_of : List ℕ → List ℕ → List ℕ → List ℕ → List ℕ → List ℕ → List ℕ → List ℕ → ℕ → ℕ → ℕ → ℕ → Bool
expr_ok_of kind code a b bits start ia ib used nc np i =
    record_ok expressions (expr_record_of kind code a b bits i) nc i np
    && lists_ok ia ib used (expr_record_of kind code a b bits i) (get_or start i 0) nc (suc i) np

abbrev pub expr_ok : Plan → ℕ → Bool
expr_ok p i =
    expr_ok_of p.expressions.kind p.expressions.code p.expressions.a p.expressions.b p.expressions.bits p.expressions.start
    p.items.a p.items.b p.items.count p.columns.count p.operators.count i

-- operator i: its inputs are operators before it
unfoldable pub operator_ok_of : List ℕ → List ℕ → List ℕ → List ℕ → List ℕ → List ℕ → List ℕ → List ℕ → List ℕ → ℕ → ℕ → ℕ → ℕ → Bool
operator_ok_of kind code a b c d start ia ib used nc ne i =
    record_ok operators (operator_record_of kind code a b c d i) nc ne i
    && lists_ok ia ib used (operator_record_of kind code a b c d i) (get_or start i 0) nc ne i

abbrev pub operator_ok : Plan → ℕ → Bool
operator_ok p i =
    operator_ok_of p.operators.kind p.operators.code p.operators.a p.operators.b p.operators.c p.operators.d p.operators.start
    p.items.a p.items.b p.items.count p.columns.count p.expressions.count i

-- operator i is a Scan that lists column c
unfoldable pub scans_of : List ℕ → List ℕ → List ℕ → List ℕ → ℕ → ℕ → Bool
scans_of kind b start items c i =
    eqb (get_or kind i 0) 0x30 && any_from (λ (j : ℕ). eqb (get_or items j 0) c) (get_or start i 0) (get_or b i 0)

-- the same from the tables, and of a plan
abbrev pub scans_in : Operators → Items → ℕ → ℕ → Bool
scans_in t items c i = scans_of t.kind t.b t.start items.a c i

abbrev pub scans : Plan → ℕ → ℕ → Bool
scans p c i = scans_in p.operators p.items c i

-- column c belongs to at most one Scan
abbrev pub once_of : List ℕ → List ℕ → List ℕ → List ℕ → ℕ → ℕ → Bool
once_of kind b start items np c = leb (count_from (scans_of kind b start items c) 0 np) 1

abbrev pub scanned_once : Plan → ℕ → Bool
scanned_once p c = once_of p.operators.kind p.operators.b p.operators.start p.items.a p.operators.count c

-- the counts are within the sizes
unfoldable pub counts_within : ℕ → ℕ → ℕ → ℕ → Bool
counts_within nc ne np used = leb nc 64 && (leb ne 1024 && (leb np 128 && leb used 2048))

abbrev pub counts_ok : Plan → Bool
counts_ok p = counts_within p.columns.count p.expressions.count p.operators.count p.items.count

unfoldable pub plan_ok : Plan → Bool
plan_ok p =
    counts_ok p
    && (all_from (column_ok p) 0 p.columns.count
    && (all_from (expr_ok p) 0 p.expressions.count
    && (all_from (operator_ok p) 0 p.operators.count
    && all_from (scanned_once p) 0 p.columns.count)))
