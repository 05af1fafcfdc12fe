use Rattle.std.proofs.Common.{ℕ, ◌≡◌}
use Rattle.writing.specs.Text.{lines}
use Rattle.writing.specs.Writers.{written}
use Rattle.plan_file_write.specs.Written.{record_bytes, item_in}
use Rattle.plan_file_write.proofs.put_items.Given as goal

abbrev pub invariant-loop-k : goal.invariant-loop-k
invariant-loop-k l = l.w ≡ written l.initial.w (lines l.k (λ (j : ℕ). record_bytes (item_in l.items.a l.items.b l.x l.st j)))
