use Rattle.std.proofs.Common.{◌≡◌, ◌-◌}
use Rattle.lists.specs.Ranges.{any_from}
use Rattle.constraint_spec.specs.Sets.{crossed_at}
use Rattle.constraint_set.proofs.any_crossed.Given as goal

abbrev pub invariant-loop-i : goal.invariant-loop-i
invariant-loop-i l = any_from (crossed_at l.s) 0 128 ≡ any_from (crossed_at l.s) l.i (128 - l.i)
