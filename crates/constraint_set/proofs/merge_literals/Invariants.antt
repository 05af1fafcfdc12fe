use Rattle.std.proofs.Common.{◌≡◌, true}
use Rattle.constraint_set.specs.Checked.{Checked}
use Rattle.constraint_set.proofs.Loops.{literals_laid}
use Rattle.constraint_set.proofs.merge_literals.Given as goal

abbrev pub invariant-loop-i : goal.invariant-loop-i
invariant-loop-i l = (l.s ≡ literals_laid l.others l.fn.s l.i) × (l.checked ≡ true → Checked l.s)
