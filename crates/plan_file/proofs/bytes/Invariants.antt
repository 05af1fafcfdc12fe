use Rattle.std.proofs.Common.{◌≡◌, ℕ, ◌+◌, ◌<◌, get_or, length}
use Rattle.plan_file.proofs.bytes.Given as goal

abbrev pub invariant-loop-i : goal.invariant-loop-i
invariant-loop-i g l = (length l.t ≡ g.row.N) × ((k : ℕ) → k < l.i → get_or l.t k 0 ≡ get_or l.s (l.at + k) 0)
