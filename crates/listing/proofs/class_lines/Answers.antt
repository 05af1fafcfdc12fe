use mathlib.Core.Path.{◌≡◌}
use native.Mathlib.Omega.{arith}
use Rattle.listing.specs.Listing.{class_lines}
use Rattle.listing.proofs.Classes.{table_same}
use Rattle.listing.proofs.class_lines.Goals as goal

pub returns : goal.returns
unfolding class_lines
returns c =
    let e : c.loop-r.r ≡ 128 = omega arith in
    rw (← table_same c.args.ids.now _ _ c.roots-roots.ensures.value) (rw e at c.loop-r.invariant)
