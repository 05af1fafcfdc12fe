-- The records of a plan, and those of a file sort by sort. Assumes nothing.
use Rattle.std.specs.Prelude.{ℕ, zero, suc, ◌+◌, Bool, false, cond, List, [], ◌∷◌, ◌++◌, eqb}
use Rattle.plan_kinds.specs.declared.Record.{Record}
use Rattle.plan_kinds.specs.Rows.{row_of, items}
use Rattle.plan.specs.declared.Plan.{Plan}
use Rattle.plan.specs.Records.{column_record, expr_record, expr_start, operator_record, operator_start, item_record}
use Rattle.plan_file_laws.specs.ListItems.{first_of, second_of, item_kind}
use Rattle.plan_file_laws.specs.Writing.{put_records}

-- the item at place k of the lists of x, which start at st, as a record of its list's kind
abbrev pub item_of : Plan → Record → ℕ → ℕ → Record
item_of p x st k = record { kind = item_kind x k; code = 0; a = (item_record p (st + k)).a; b = (item_record p (st + k)).b; c = 0; d = 0; bits = 0 }

-- the first n of them
unfoldable pub items_of : Plan → Record → ℕ → ℕ → List Record
items_of p x st zero = []
items_of p x st (suc n) = items_of p x st n ++ (item_of p x st n ∷ [])

-- a record and its items
abbrev pub with_items : Plan → Record → ℕ → List Record
with_items p x st = x ∷ items_of p x st (first_of x + second_of x)

-- the first n columns, expressions and operators, with their items
unfoldable pub columns_to : Plan → ℕ → List Record
columns_to p zero = []
columns_to p (suc n) = columns_to p n ++ (column_record p n ∷ [])

unfoldable pub exprs_to : Plan → ℕ → List Record
exprs_to p zero = []
exprs_to p (suc n) = exprs_to p n ++ with_items p (expr_record p n) (expr_start p n)

unfoldable pub operators_to : Plan → ℕ → List Record
operators_to p zero = []
operators_to p (suc n) = operators_to p n ++ with_items p (operator_record p n) (operator_start p n)

-- all of them: columns, then expressions, then operators; and their bytes
abbrev pub plan_records : Plan → List Record
plan_records p = columns_to p p.columns.count ++ (exprs_to p p.expressions.count ++ operators_to p p.operators.count)

abbrev pub write_of : Plan → List ℕ
write_of p = put_records (plan_records p) []

-- a record belongs to the sort k where it is of that sort, and an item where the record before it belongs there
abbrev pub belongs : ℕ → Bool → Record → Bool
belongs k on x = cond (eqb (row_of x.kind).sort items) on (eqb (row_of x.kind).sort k)

-- those of the records xs that belong to the sort k, in their order
unfoldable pub part_from : ℕ → Bool → List Record → List Record
part_from k on [] = []
part_from k on (x ∷ xs) = cond (belongs k on x) (x ∷ part_from k (belongs k on x) xs) (part_from k (belongs k on x) xs)

abbrev pub part_of : ℕ → List Record → List Record
part_of k xs = part_from k false xs
