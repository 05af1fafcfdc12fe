-- Appending to one table of a plan: the table with one entry more and the entry's place, or Room and the table as it was. Assumes nothing.
use Rattle.std.specs.Prelude.{ℕ, cond, ltb, Ok, Err, Result}
use Rattle.plan_kinds.specs.declared.Record.{Record}
use Rattle.plan.specs.Plans.{expression_pushed, item_pushed, operator_pushed}
use Rattle.plan.specs.declared.AppendError.{AppendError}
use Rattle.plan.specs.declared.AppendError.TheVariants.{Room}
use Rattle.plan.specs.declared.Expressions.{Expressions}
use Rattle.plan.specs.declared.Items.{Items}
use Rattle.plan.specs.declared.Operators.{Operators}

-- a table after appending, and the place of what was appended, if there was room
pub record Grew (T : Type 0) : Type 0 where
  pub table : T
  pub added : Result ℕ AppendError

abbrev pub grown_to : {T : Type 0} → T → Result ℕ AppendError → Grew T
grown_to t x = record { table = t; added = x }

-- an expression or operator whose lists start at `start`; an item of two numbers
unfoldable pub expr_added : Expressions → Record → ℕ → Grew Expressions
expr_added t x start = cond (ltb t.count 1024) (grown_to (expression_pushed t x start) (Ok t.count)) (grown_to t (Err Room))

unfoldable pub operator_added : Operators → Record → ℕ → Grew Operators
operator_added t x start = cond (ltb t.count 128) (grown_to (operator_pushed t x start) (Ok t.count)) (grown_to t (Err Room))

abbrev pub item_record : ℕ → ℕ → Record
item_record x y = record { kind = 0; code = 0; a = x; b = y; c = 0; d = 0; bits = 0 }

unfoldable pub item_added : Items → ℕ → ℕ → Grew Items
item_added t x y = cond (ltb t.count 2048) (grown_to (item_pushed t (item_record x y)) (Ok t.count)) (grown_to t (Err Room))
