-- Appending to a plan: the plan with one entry more and the entry's place, or Room (3) and the plan as it was. Assumes nothing.
use Rattle.std.specs.Prelude.{ℕ, cond, leb, Ok, Err, Result}
use Rattle.plan_kinds.specs.declared.Record.{Record}
use Rattle.plan.specs.Plans.{column_pushed, expression_pushed, operator_pushed, item_pushed}
use Rattle.plan.specs.declared.Plan.{Plan}
use Rattle.plan.specs.declared.AppendError.{AppendError}
use Rattle.plan.specs.declared.AppendError.TheVariants.{Room}

-- the number of the refusal in the rules (docs/FORMAT.md), 0 for none
abbrev pub refusal_of : Result ℕ AppendError → ℕ
refusal_of (Ok n) = 0
refusal_of (Err Room) = 3

-- where the entry stands, 0 for none
abbrev pub place_of : Result ℕ AppendError → ℕ
place_of (Ok n) = n
place_of (Err Room) = 0

-- a plan after appending, and where the new entry stands, if there was room
pub record Appended : Type 0 where
  pub plan : Plan
  pub added : Result ℕ AppendError

abbrev pub appended : Plan → Result ℕ AppendError → Appended
appended p x = record { plan = p; added = x }

abbrev pub no_room : Plan → Appended
no_room p = record { plan = p; added = Err Room }

-- the plan with one entry more
abbrev pub with_column : Plan → Record → Plan
with_column p x =
    record { columns = column_pushed p.columns x; expressions = p.expressions; operators = p.operators; items = p.items }

abbrev pub with_expr : Plan → Record → ℕ → Plan
with_expr p x start =
    record { columns = p.columns; expressions = expression_pushed p.expressions x start; operators = p.operators; items = p.items }

abbrev pub with_operator : Plan → Record → ℕ → Plan
with_operator p x start =
    record { columns = p.columns; expressions = p.expressions; operators = operator_pushed p.operators x start; items = p.items }

abbrev pub with_item : Plan → Record → Plan
with_item p x =
    record { columns = p.columns; expressions = p.expressions; operators = p.operators; items = item_pushed p.items x }

abbrev pub added_at : Plan → ℕ → Appended
added_at p n = record { plan = p; added = Ok n }

-- a column; an expression or operator whose lists start at `start`; a list item
unfoldable pub append_column : Plan → Record → Appended
append_column p x = cond (leb 64 p.columns.count) (no_room p) (added_at (with_column p x) p.columns.count)

unfoldable pub append_expr : Plan → Record → ℕ → Appended
append_expr p x start = cond (leb 1024 p.expressions.count) (no_room p) (added_at (with_expr p x start) p.expressions.count)

unfoldable pub append_operator : Plan → Record → ℕ → Appended
append_operator p x start = cond (leb 128 p.operators.count) (no_room p) (added_at (with_operator p x start) p.operators.count)

unfoldable pub append_item : Plan → Record → Appended
append_item p x = cond (leb 2048 p.items.count) (no_room p) (added_at (with_item p x) p.items.count)
