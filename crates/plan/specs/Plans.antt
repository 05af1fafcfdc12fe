-- The tables of a plan: empty, and with one entry more. Assumes nothing.
use Rattle.std.specs.Prelude.{ℕ, ◌+◌, set, replicate}
use Rattle.plan_kinds.specs.declared.Record.{Record}
use Rattle.plan.specs.declared.Columns.{Columns}
use Rattle.plan.specs.declared.Expressions.{Expressions}
use Rattle.plan.specs.declared.Operators.{Operators}
use Rattle.plan.specs.declared.Items.{Items}
use Rattle.plan.specs.declared.Plan.{Plan}

abbrev pub empty_columns : Columns
empty_columns = record { count = 0; name = replicate 64 0; kind = replicate 64 0 }

abbrev pub empty_expressions : Expressions
empty_expressions =
    record {
      count = 0;
      kind = replicate 1024 0;
      code = replicate 1024 0;
      a = replicate 1024 0;
      b = replicate 1024 0;
      start = replicate 1024 0;
      bits = replicate 1024 0;
    }

abbrev pub empty_operators : Operators
empty_operators =
    record {
      count = 0;
      kind = replicate 128 0;
      code = replicate 128 0;
      a = replicate 128 0;
      b = replicate 128 0;
      c = replicate 128 0;
      d = replicate 128 0;
      start = replicate 128 0;
    }

abbrev pub empty_items : Items
empty_items = record { count = 0; a = replicate 2048 0; b = replicate 2048 0 }

unfoldable pub empty_plan : Plan
empty_plan = record { columns = empty_columns; expressions = empty_expressions; operators = empty_operators; items = empty_items }

-- one more at the end: a column's name and kind code
abbrev pub column_pushed : Columns → Record → Columns
column_pushed t x = record { count = t.count + 1; name = set t.name t.count x.a; kind = set t.kind t.count x.code }

-- an expression, whose list starts at `start`
abbrev pub expression_pushed : Expressions → Record → ℕ → Expressions
expression_pushed t x start =
    record {
      count = t.count + 1;
      kind = set t.kind t.count x.kind;
      code = set t.code t.count x.code;
      a = set t.a t.count x.a;
      b = set t.b t.count x.b;
      start = set t.start t.count start;
      bits = set t.bits t.count x.bits;
    }

-- an operator, whose lists start at `start`
abbrev pub operator_pushed : Operators → Record → ℕ → Operators
operator_pushed t x start =
    record {
      count = t.count + 1;
      kind = set t.kind t.count x.kind;
      code = set t.code t.count x.code;
      a = set t.a t.count x.a;
      b = set t.b t.count x.b;
      c = set t.c t.count x.c;
      d = set t.d t.count x.d;
      start = set t.start t.count start;
    }

-- a list item
abbrev pub item_pushed : Items → Record → Items
item_pushed t x =
    record { count = t.count + 1; a = set t.a t.count x.a; b = set t.b t.count x.b }
