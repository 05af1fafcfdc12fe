use borrow.Author.Rules.{rules}
use Rattle.writing.proofs.Writings.{written_out}
use Rattle.boundary.proofs.mossladder_evaluate.Goals as goal

pub returns : goal.returns
returns c =
    written_out _ _ _ _ _ c.new-w.ensures.bytes c.new-w.ensures.start (rw c.row_in.ensures at c.read_and_evaluate.ensures)
    (search rules)
