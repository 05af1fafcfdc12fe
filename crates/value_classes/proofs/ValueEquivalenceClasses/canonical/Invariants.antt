use Rattle.std.proofs.Common.{◌≡◌, ◌-◌, ◌<◌}
use Rattle.value_classes.specs.Parents.{climb, root_of}
use Rattle.value_classes.proofs.ValueEquivalenceClasses.canonical.Given as goal

abbrev pub invariant-loop : goal.invariant-loop
invariant-loop l = (climb l.self.parents (128 - l.counter) l.current ≡ root_of l.self.parents l.value) × (l.value < 128 → l.current < 128)
