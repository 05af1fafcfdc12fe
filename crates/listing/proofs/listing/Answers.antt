use Rattle.listing.proofs.Lengths.{listing-length}
use Rattle.listing.proofs.listing.Goals as goal

pub returns-clause-short : goal.returns-clause-short
returns-clause-short c =
    listing-length _ _ _ c.ranges.h.fits
    (record {
      lineage = c.column_lines.ensures.fit;
      definitions = c.define_lines.ensures.fit;
      handles = c.set.ensures.handles;
      literals = c.set.ensures.literals;
    })
