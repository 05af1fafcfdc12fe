use Rattle.simplify_spec.specs.OneOperator.{item_first, item_second, with_list}
use lib.ListN.{get_or}
use mathlib.Core.Path.{◌≡◌}
use Prim.Native.Nat.{ℕ}
use Rattle.expr_simplify.proofs.add_items.Given as goal

abbrev pub invariant-loop-k : goal.invariant-loop-k
invariant-loop-k l =
    let at : ℕ → ℕ = λ j. get_or l.ats j 0 in l.t ≡ with_list l.initial.t l.k (item_first l.old l.held at) (item_second l.held at)
