use Rattle.std.proofs.Common.{◌≡◌, ◌-◌}
use Rattle.lists.specs.Ranges.{all_from}
use Rattle.apply_spec.specs.Facts.{residual_ok}
use Rattle.logical_facts.proofs.residuals_ok.Given as goal

abbrev pub invariant-loop-k : goal.invariant-loop-k
invariant-loop-k l = all_from (residual_ok l.s l.exprs) 0 l.s.residuals ≡ all_from (residual_ok l.s l.exprs) l.k (l.s.residuals - l.k)
