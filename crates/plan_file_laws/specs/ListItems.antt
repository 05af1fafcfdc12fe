-- The lists of a record: how many items it has, and of which kind each is. Assumes nothing.
use Rattle.std.specs.Prelude.{ℕ, ◌+◌, ◌≤◌, ◌<◌, ◌≡◌, cond, ltb, get_or}
use Rattle.plan_kinds.specs.declared.Record.{Record}
use Rattle.plan_kinds.specs.Rows.{row_of}
use Rattle.plan_kinds.specs.Records.{count_of, more_of}
use Rattle.plan.specs.declared.Plan.{Plan}
use Rattle.plan.specs.Records.{operator_record, operator_start}

-- items of the kind that the row names, then columns
abbrev pub first_of : Record → ℕ
first_of x = count_of (row_of x.kind) x

abbrev pub second_of : Record → ℕ
second_of x = more_of (row_of x.kind) x

abbrev pub item_kind : Record → ℕ → ℕ
item_kind x k = cond (ltb k (first_of x)) (row_of x.kind).item 0x40

-- column c is an item, as far as the items go, of the Scan operator i
pub record ScanHas (p : Plan) (i c : ℕ) : Type 0 where
  pub there : i < p.operators.count
  pub scan : (operator_record p i).kind ≡ 0x30
  pub place : ℕ
  pub from : operator_start p i ≤ place
  pub inside : place < operator_start p i + (operator_record p i).b
  pub read : place < p.items.count
  pub item : get_or p.items.a place 0 ≡ c
