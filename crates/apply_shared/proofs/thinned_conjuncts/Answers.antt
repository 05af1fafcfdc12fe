use Prim.Native.Nat.{ℕ}
use mathlib.Core.Path.{sym, subst, ◌∙◌}
use mathlib.Core.List.{List, []}
use lib.ListN.{take, replicate}
use Rattle.std.specs.Prelude.{IfSome}
use Rattle.apply_shared.specs.Thinned.{Thinned}
use Rattle.apply_shared.proofs.Unread.{conjuncts_same}
use Rattle.apply_shared.proofs.Thinning.{thinned_alone}
use Rattle.apply_shared.proofs.thinned_conjuncts.Goals as goal

pub returns-else-is_and-clause-thinned : goal.returns-else-is_and-clause-thinned
returns-else-is_and-clause-thinned c = thinned_alone c.args.exprs.now c.args.items.now.a c.args.e (sym c.is_and.ensures.told ∙ c.if-is_and.false)

pub returns-then-is_and-clause-unread : goal.returns-then-is_and-clause-unread
returns-then-is_and-clause-unread c b bits =
    subst (λ (l : List ℕ). IfSome c.of_and.result (λ t. Thinned [] l (take t.count t.handles)))
    (conjuncts_same c.args.exprs.now c.args.items.now.a b bits c.args.e) c.of_and.ensures.thinned

pub returns-else-is_and-clause-unread : goal.returns-else-is_and-clause-unread
returns-else-is_and-clause-unread c b bits =
    subst (λ (l : List ℕ). Thinned [] l (take 1 (replicate 2048 c.args.e)))
    (conjuncts_same c.args.exprs.now c.args.items.now.a b bits c.args.e)
    (thinned_alone c.args.exprs.now c.args.items.now.a c.args.e (sym c.is_and.ensures.told ∙ c.if-is_and.false))
