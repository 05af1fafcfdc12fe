use borrow.Author.Rules.{rules}
use Rattle.writing.proofs.Writings.{written_out}
use Rattle.boundary.proofs.ReplyLaws.{facts-said}
use Rattle.boundary.proofs.mossladder_facts.Goals as goal

pub returns : goal.returns
returns c =
    written_out _ _ _ _ _ c.new-w.ensures.bytes c.new-w.ensures.start (rw (c.of_last.ensures.handed, facts-said) at c.known_reply.ensures)
    (search rules)
