use Rattle.writing.proofs.Writer.+hex.Given as goal

abbrev pub decreases-hex : goal.decreases-hex
decreases-hex l = l.k
