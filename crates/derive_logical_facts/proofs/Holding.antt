-- A table of 128 answers that holds what the definition's table has, one answer at a time. Assumes nothing.
use Rattle.std.proofs.Common.{Err, Result}
use Prim.Native.Nat.{ℕ, ◌+◌, ◌<◌, ◌≤◌, min}
use mathlib.Core.Path.{◌≡◌, refl, sym, ap, ◌∙◌}
use mathlib.Core.Bool.{true}
use native.Mathlib.Decide.{dec_lt, ℕ_discrete}
use native.Mathlib.Omega.{arith}
use lib.Dec.{leb}
use lib.ListN.{get_or, set, replicate, length-set, get_or-replicate}
use lib.Seq.{get_or-set_same, get_or-set_other}
use borrow.Author.Tests.{leb-true}
use Rattle.laws.proofs.Bools.{and_left, and_right}
use Rattle.plan.specs.declared.Plan.{Plan}
use Rattle.plan_rules.specs.Rules.{plan_ok, counts_within}
use Rattle.plan_rules.proofs.RuleLaws.{rules}
use Rattle.plan_data.specs.Nodes.{operator_at}
use Rattle.plan_identities.specs.Identities.{identities_of}
use Rattle.plan_identities.specs.declared.Identities.{Identities}
use Rattle.derive_spec.specs.Operators.{operator_derived, outer_of, inner_of}
use Rattle.derive_spec.specs.Deriving.{missing, answers_to, answer_of}
use Rattle.apply_spec.specs.declared.LogicalFacts.{LogicalFacts}
use Rattle.derive_spec.specs.Answers.{derived}
use Rattle.derive_spec.specs.declared.DeriveError.{DeriveError}
use Rattle.derive_spec.specs.declared.DeriveError.TheVariants.{NoSuch}
use Rattle.derive_logical_facts.specs.Table.{past, Table, Holds}
use Rattle.derive_spec.proofs.Answers.{answer-made, answer_at, answer-past}

-- a plan that keeps the rules has at most 128 operators
pub few-operators : (p : Plan) → plan_ok p ≡ true → p.operators.count ≤ 128
unfolding counts_within
few-operators p ok =
    leb-true p.operators.count 128
    (and_left (leb p.operators.count 128) _
    (and_right (leb p.expressions.count 1024) _ (and_right (leb p.columns.count 64) _ (rules p ok).counts)))

pub ruleset few_rules = (few-operators)

module _ (p : Plan) where
  pub holds-none : Holds p 0 (replicate 128 (Err (NoSuch (record { 0 = 0 }))))
  unfolding Holds
  holds-none = (refl, λ i l. ap derived (get_or-replicate 128 i (Err (NoSuch (record { 0 = 0 }))) past l) ∙ sym (answer-past p 0 i (omega arith)))

  module _ (k : ℕ) (t : Table) (small : k < 128) (w : Holds p k t) where
    -- what is read at an input's place, and at k's own where the input is not earlier
    holds-input : (i : ℕ) → derived (get_or t (min i k) past) ≡ get_or (answers_to p k) i missing
    unfolding Holds
    holds-input i =
        elim (dec_lt i k) [
          | yes l ↦ (let g : min i k ≡ i = omega arith in rw g (w.1 i (omega arith)))
          | no n ↦ (let g : min i k ≡ k = omega arith in let m : k ≤ i = omega arith in rw g
              (w.1 k small ∙ answer-past p k k (omega arith) ∙ sym (answer-past p k i m)))
        ]

    -- the answer of k, from what is read at its inputs' places
    pub holds_answer : (d : Result LogicalFacts DeriveError) (ids : Identities) (a b : ℕ) → ids ≡ identities_of p
        → a ≡ min (outer_of (operator_at p k)) k → b ≡ min (inner_of (operator_at p k)) k
        → derived d ≡ operator_derived p ids (record { 0 = k }) (derived (get_or t a past)) (derived (get_or t b past)) (operator_at p k)
        → derived d ≡ answer_of p k
    holds_answer d ids a b e ea eb ed =
        ed ∙ (λ j. operator_derived p (e j) (record { 0 = k }) (derived (get_or t (ea j) past)) (derived (get_or t (eb j) past)) (operator_at p k))
        ∙ (λ j. operator_derived p (identities_of p) (record { 0 = k }) (holds-input (outer_of (operator_at p k)) j)
        (holds-input (inner_of (operator_at p k)) j) (operator_at p k))
        ∙ sym (answer-made p k)

    pub holds_more : (d : Result LogicalFacts DeriveError) → derived d ≡ answer_of p k → Holds p (k + 1) (set t k d)
    unfolding Holds
    holds_more d e = (
      length-set t k d ∙ w.0,
      λ i l. elim (ℕ_discrete i k) [
        | yes g ↦ rw (g, get_or-set_same t k d past (omega (arith, w.0))) (e ∙ sym (answer_at p (k + 1) k (omega arith)))
        | no n ↦ ap derived (get_or-set_other t k i d past n) ∙ w.1 i l ∙ elim (dec_lt i k) [
          | yes m ↦ answer_at p k i m ∙ sym (answer_at p (k + 1) i (omega arith))
          | no m ↦ answer-past p k i (omega arith) ∙ sym (answer-past p (k + 1) i (omega arith))
        ]
      ],
    )

  pub holds_end : (k h : ℕ) (t : Table) → h < 128 → h < k → Holds p k t → derived (get_or t h past) ≡ answer_of p h
  unfolding Holds
  holds_end k h t l m w = w.1 h l ∙ answer_at p k h m

  -- the last turn, whose answer is read again
  pub holds_last : (k h i j : ℕ) (t u : Table) (d : Result LogicalFacts DeriveError) → k < 128 → Holds p k t → derived d ≡ answer_of p k
      → i ≡ k → k ≡ h → j ≡ h → u ≡ set t i d → derived (get_or u j past) ≡ answer_of p h
  holds_last k h i j t u d small w e ei eh ej eu =
      rw (eu, ei, ej, ← eh) (holds_end (k + 1) k (set t k d) small (omega arith) (holds_more k t small w d e))

pub ruleset holds_loop = (holds-none, holds_more)
