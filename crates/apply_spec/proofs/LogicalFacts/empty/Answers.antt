use lib.ListN.{replicate}
use Rattle.apply_spec.specs.Facts.{empty_facts}
use Rattle.apply_spec.proofs.LogicalFacts.empty.Goals as goal

pub returns : goal.returns
unfolding empty_facts
returns c = λ i. record { lineage = replicate 64 0; definitions = replicate 64 0; constraints = c.empty.ensures i }
