use mathlib.Core.Path.{subst}
use Rattle.constraint_merge.proofs.Uniting.{union-joined}
use Rattle.apply_action.specs.Actions.{Proper}
use Rattle.apply_conjuncts.proofs.KnownLaws.{joined_checked}
use Rattle.apply_conjuncts.proofs.join_known.Goals as goal

pub returns-then-known-left-clause-joined : goal.returns-then-known-left-clause-joined
returns-then-known-left-clause-joined c =
    rw c.in-Same.is (union-joined _ _ _ _ _ c.requires.knows.settles c.join_values-settled.ensures.joined)

pub returns-then-known-left-clause-knows : goal.returns-then-known-left-clause-knows
returns-then-known-left-clause-knows c =
    let united = union-joined _ _ _ _ _ c.requires.knows.settles c.join_values-settled.ensures.joined in
    let low = subst Proper c.in-Same.is c.requires.proper in
    record {
      whole = c.roots.ensures.whole;
      rooted = c.roots.ensures.value;
      settles = c.join_values-settled.ensures.settled c.requires.knows.settles;
      told = λ e. joined_checked _ _ _ c.requires.knows _ _ low.0 low.1 c.if-known-left.true united;
    }
