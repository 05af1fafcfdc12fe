-- What is known of an operator of a plan file, from what reading and deriving answer. Assumes nothing.
use Rattle.std.specs.Prelude.{ℕ, cond, eqb, replicate, Ok, Err, Result}
use Rattle.plan.specs.declared.Plan.{Plan}
use Rattle.plan_file.specs.Answers as Files
use Rattle.plan_file.specs.Answer.{Answer}
use Rattle.plan_file.specs.declared.ReadError.{ReadError}
use Rattle.plan_identities.specs.Identities.{identities_of}
use Rattle.plan_identities.specs.declared.Identities.{Identities}
use Rattle.apply_spec.specs.Facts.{empty_facts}
use Rattle.apply_spec.specs.declared.LogicalFacts.{LogicalFacts}
use Rattle.derive_spec.specs.Operators as Deriving
use Rattle.derive_spec.specs.Deriving.{derive_of}
use Rattle.derive_spec.specs.declared.DeriveError.{DeriveError}
use Rattle.file_facts.specs.declared.Known.{Known}
use Rattle.file_facts.specs.declared.Refusal.{Refusal}

-- the number of the refusal in the rules (docs/FORMAT.md), 0 for none, and its place; the operator, and what its listing is made of
pub record KnownAnswer : Type 0 where
  pub number : ℕ
  pub place : ℕ
  pub operator : ℕ
  pub identities : Identities
  pub facts : LogicalFacts

-- where there is no plan
abbrev pub no_identities : Identities
no_identities = record { base = replicate 64 0; columns = 0 }

-- the refusal n of reading, at its place
unfoldable pub nothing_known : ℕ → ℕ → KnownAnswer
nothing_known n place = record { number = n; place = place; operator = 0; identities = no_identities; facts = empty_facts }

-- of the operator h of a plan
unfoldable pub plan_known : ℕ → Plan → KnownAnswer
plan_known h p =
    record {
      number = Deriving.refusal_of (derive_of p h).outcome;
      place = Deriving.refuser_of (derive_of p h).outcome;
      operator = h;
      identities = identities_of p;
      facts = (derive_of p h).facts;
    }

-- of the operator h, from what reading answers
unfoldable pub answer_known : ℕ → Answer → KnownAnswer
answer_known h a =
    cond (eqb (Files.refusal_of a.reading) 0) (plan_known h a.plan)
    (nothing_known (Files.refusal_of a.reading) (Files.place_of a.reading))

-- ---- what a call hands back: what is known, or the refusal
unfoldable pub handed_back : KnownAnswer → Result Known Refusal
handed_back k =
    cond (eqb k.number 0) (Ok (record { operator = k.operator; identities = k.identities; facts = k.facts }))
    (Err (record { number = k.number; place = k.place }))

-- a refusal of reading, and one of deriving
abbrev pub read_refusal : ReadError → Refusal
read_refusal e = record { number = Files.refusal_of (Err e); place = Files.place_of (Err e) }

abbrev pub derive_refusal : DeriveError → Refusal
derive_refusal e = record { number = Deriving.refusal_of (Err e); place = Deriving.refuser_of (Err e) }

-- ---- the answer of a call
-- about the operator h of a plan with the identities ids: beside a refusal stand these two, and empty facts
abbrev pub known_as : ℕ → Identities → Result Known Refusal → KnownAnswer
known_as h ids (Ok k) = record { number = 0; place = 0; operator = k.operator; identities = k.identities; facts = k.facts }
known_as h ids (Err r) = record { number = r.number; place = r.place; operator = h; identities = ids; facts = empty_facts }

-- about the operator h of the plan p, by how reading it ended: where that is a refusal there is no operator and no plan
abbrev pub known_by : ℕ → Plan → Result (Unit {0}) ReadError → Result Known Refusal → KnownAnswer
known_by h p (Ok u) k = known_as h (identities_of p) k
known_by h p (Err e) k = known_as 0 no_identities k

abbrev pub known_of : ℕ → Answer → Result Known Refusal → KnownAnswer
known_of h a k = known_by h a.plan a.reading k
