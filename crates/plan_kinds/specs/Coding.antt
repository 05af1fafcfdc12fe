-- A row as the Rust has it, in numbers. Assumes nothing.
use Rattle.std.specs.Prelude.{ℕ}
use Rattle.plan_kinds.specs.Rows.{Row, unknown, columns, expressions, operators, items, none, number, column, expression, operator, operand, count}
use Rattle.plan_kinds.specs.declared.Row as R
use Rattle.plan_kinds.specs.declared.Sort.{Sort}
use Rattle.plan_kinds.specs.declared.Sort.TheVariants as S
use Rattle.plan_kinds.specs.declared.Field.{Field}
use Rattle.plan_kinds.specs.declared.Field.TheVariants as F

abbrev pub sort_code : Sort → ℕ
sort_code S.Unknown = unknown
sort_code S.Columns = columns
sort_code S.Expressions = expressions
sort_code S.Operators = operators
sort_code S.Items = items

abbrev pub field_code : Field → ℕ
field_code F.None = none
field_code F.Number = number
field_code F.Column = column
field_code F.Expression = expression
field_code F.Operator = operator
field_code F.Operand = operand
field_code F.Count = count

abbrev pub numbered : R.Row → Row
numbered r =
    record {
      sort = sort_code r.sort;
      length = r.length;
      code = r.code;
      low = r.low;
      high = r.high;
      from = r.from;
      a = field_code r.a;
      b = field_code r.b;
      c = field_code r.c;
      d = field_code r.d;
      bits = r.bits;
      item = r.item;
    }
