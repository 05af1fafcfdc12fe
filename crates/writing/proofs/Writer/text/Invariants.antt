use mathlib.Core.Path.{◌≡◌}
use lib.ListN.{take}
use Rattle.writing.specs.Writers.{written}
use Rattle.writing.proofs.Writer.text.Given as goal

abbrev pub invariant-loop-b : goal.invariant-loop-b
invariant-loop-b l = l.self ≡ written l.initial.self (take l.b-index l.s)
