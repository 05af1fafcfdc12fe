use Rattle.std.proofs.Common.{◌≡◌, ◌-◌}
use Rattle.lists.specs.Ranges.{all_from}
use Rattle.value_classes.specs.Parents.{parents_ok}
use Rattle.value_classes.proofs.RootLaws.{low_test}
use Rattle.value_classes.proofs.ValueEquivalenceClasses.parents_ok.Given as goal

abbrev pub invariant-loop-i : goal.invariant-loop-i
invariant-loop-i l = parents_ok l.self.parents ≡ all_from (low_test l.self.parents) l.i (128 - l.i)
