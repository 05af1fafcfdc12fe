use Rattle.std.proofs.Common.{ℕ, ◌≡◌}
use Rattle.writing.specs.Text.{lines}
use Rattle.writing.specs.Writers.{written}
use Rattle.plan_file_write.specs.Written.{record_bytes, column_in, expr_line, operator_line}
use Rattle.plan_file_write.proofs.write.Given as goal

abbrev pub invariant-columns : goal.invariant-columns
invariant-columns l = l.w ≡ written l.initial.w (lines l.i (λ (j : ℕ). record_bytes (column_in l.p.columns.name l.p.columns.kind j)))

abbrev pub invariant-expressions : goal.invariant-expressions
invariant-expressions l = l.w ≡ written l.initial.w (lines l.i (expr_line l.p))

abbrev pub invariant-operators : goal.invariant-operators
invariant-operators l = l.w ≡ written l.initial.w (lines l.i (operator_line l.p))
