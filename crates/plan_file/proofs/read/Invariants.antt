use Rattle.std.proofs.Common.{◌≡◌, ℕ, ◌-◌, length, Ok}
use Rattle.plan_file.specs.State.{state}
use Rattle.plan_file.specs.Steps.{steps_of}
use Rattle.plan_file.proofs.read.Given as goal

abbrev pub invariant-loop-q : goal.invariant-loop-q
invariant-loop-q l = (k : ℕ) × (state l.q (Ok tt) ≡ steps_of l.s k)

abbrev pub decreases-loop-q : goal.decreases-loop-q
decreases-loop-q l = length l.s - l.q.at
