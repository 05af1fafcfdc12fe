-- Deriving: the operators of a plan in handle order, each from the answers of those before it. An operator used twice is derived once, and an
-- operator that the asked one does not reach is not looked at by any that it reaches. Assumes nothing.
use Rattle.std.specs.Prelude.{ℕ, zero, suc, cond, ◌&&◌, List, [], ◌∷◌, ◌++◌, ltb, get_or, Err}
use Rattle.plan.specs.declared.Plan.{Plan}
use Rattle.plan_rules.specs.Rules.{plan_ok}
use Rattle.plan_data.specs.Nodes.{operator_at}
use Rattle.plan_identities.specs.Identities.{identities_of}
use Rattle.derive_spec.specs.Operators.{refused, operator_derived, outer_of, inner_of}
use Rattle.derive_spec.specs.declared.DeriveError.TheVariants.{NoSuch}
use Rattle.derive_spec.specs.Answers.{DeriveAnswer}

-- what is read of an input that does not stand before its operator, which no plan that keeps the rules has
abbrev pub missing : DeriveAnswer
missing = refused (Err (NoSuch (record { 0 = 0 })))

-- the answer of the operator h, where t has the answers of those before it
abbrev pub answer_from : Plan → List DeriveAnswer → ℕ → DeriveAnswer
answer_from p t h =
    operator_derived p (identities_of p) (record { 0 = h }) (get_or t (outer_of (operator_at p h)) missing) (get_or t (inner_of (operator_at p h)) missing)
    (operator_at p h)

-- the answers of the first n operators, in handle order
unfoldable pub answers_to : Plan → ℕ → List DeriveAnswer
answers_to p zero = []
answers_to p (suc n) = answers_to p n ++ (answer_from p (answers_to p n) n ∷ [])

unfoldable pub answer_of : Plan → ℕ → DeriveAnswer
answer_of p h = get_or (answers_to p (suc h)) h missing

-- `derive_logical_facts`; refusal 8 comes first, with the number that was asked for
unfoldable pub derive_of : Plan → ℕ → DeriveAnswer
derive_of p h = cond (plan_ok p && ltb h p.operators.count) (answer_of p h) (refused (Err (NoSuch (record { 0 = h }))))
