use Rattle.std.proofs.Common.{◌≡◌, length}
use Rattle.value_classes.proofs.MemberLaws.{FirstsFrom, NextsFrom}
use Rattle.value_classes.proofs.ValueEquivalenceClasses.members.Given as goal

abbrev pub invariant-loop-i : goal.invariant-loop-i
invariant-loop-i l = (length l.first ≡ 128) × (length l.next ≡ 128) × FirstsFrom l.self l.i l.first × NextsFrom l.self l.i l.next
