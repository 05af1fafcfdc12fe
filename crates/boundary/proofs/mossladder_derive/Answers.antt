use borrow.Author.Rules.{rules}
use Rattle.writing.proofs.Writings.{written_out}
use Rattle.boundary.proofs.ReplyLaws.{derive_said}
use Rattle.boundary.proofs.mossladder_derive.Goals as goal

pub returns : goal.returns
returns c =
    written_out _ _ _ _ _ c.new-w.ensures.bytes c.new-w.ensures.start (rw (c.of_operator.ensures.handed, derive_said) at c.known_reply.ensures)
    (search rules)
