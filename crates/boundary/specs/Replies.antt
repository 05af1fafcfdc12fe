-- The replies of the boundary, as bytes: the number of the refusal in the rules (docs/FORMAT.md), 0 for none; a number of eight bytes, high byte
-- first; and what is handed
-- back. Assumes nothing.
use Rattle.std.specs.Prelude.{ℕ, zero, suc, cond, List, [], ◌∷◌, ◌++◌, eqb, get_or, set, replicate, Result, Ok, Err}
use Rattle.plan.specs.declared.Plan.{Plan}
use Rattle.plan_file.specs.Answers as Files
use Rattle.plan_file.specs.Answer.{Answer}
use Rattle.plan_file_laws.specs.Writing.{put8}
use Rattle.plan_file_write.specs.Written.{written_of}
use Rattle.plan_identities.specs.Identities.{identities_of}
use Rattle.rows_spec.specs.Evaluate as Evaluating
use Rattle.rows_spec.specs.declared.Cell.{Cell}
use Rattle.rows_spec.specs.declared.Row.{Row}
use Rattle.plan_identities.specs.declared.Identities.{Identities}
use Rattle.apply_spec.specs.Facts as Applying
use Rattle.apply_spec.specs.Entries.{apply_predicate}
use Rattle.apply_spec.specs.declared.LogicalFacts.{LogicalFacts}
use Rattle.apply_spec.specs.Told.{FactsAnswer}
use Rattle.apply_spec.specs.declared.FactsError.{FactsError}
use Rattle.listing.specs.Listing.{listing_text}
use Rattle.derive_spec.specs.Operators as Deriving
use Rattle.derive_spec.specs.Deriving.{derive_of}
use Rattle.derive_spec.specs.Answers.{DeriveAnswer}
use Rattle.simplify_spec.specs.OneOperator as Simplifying
use Rattle.simplify_spec.specs.Answers.{Rewritten}
use Rattle.file_facts.specs.declared.Known.{Known}
use Rattle.file_facts.specs.declared.Refusal.{Refusal}
use Rattle.refusals.specs.Numbers.{last_of, standing_of, truth_found}
use Rattle.boundary.specs.declared.Turned.{Turned}

-- the first nine bytes
unfoldable pub head_of : ℕ → ℕ → List ℕ
head_of n place = n ∷ put8 place []

-- ---- reading: the refusal and its place, and the plan's bytes, of which an empty plan has none
unfoldable pub read_reply : Answer → List ℕ
read_reply a = head_of (Files.refusal_of a.reading) (Files.place_of a.reading) ++ written_of a.plan

-- every other call reads first, and replies as reading does where that refuses
unfoldable pub on_plan : (Plan → List ℕ) → Answer → List ℕ
on_plan f a =
    cond (eqb (Files.refusal_of a.reading) 0) (f a.plan) (head_of (Files.refusal_of a.reading) (Files.place_of a.reading))

-- ---- what is known of an operator: the refusal and its place, or the listing
abbrev pub known_reply : Result Known Refusal → List ℕ
known_reply (Ok k) = head_of 0 0 ++ listing_text k.operator k.identities k.facts
known_reply (Err r) = head_of r.number r.place

-- ---- deriving: the refusal and the operator that refused, or the listing
unfoldable pub derived_reply : Plan → ℕ → DeriveAnswer → List ℕ
derived_reply p h d =
    cond (eqb (Deriving.refusal_of d.outcome) 0)
    (head_of (Deriving.refusal_of d.outcome) (Deriving.refuser_of d.outcome) ++ listing_text h (identities_of p) d.facts)
    (head_of (Deriving.refusal_of d.outcome) (Deriving.refuser_of d.outcome))

unfoldable pub derive_reply : ℕ → Plan → List ℕ
derive_reply h p = derived_reply p h (derive_of p h)

unfoldable pub facts_reply : Plan → List ℕ
facts_reply p = derive_reply (last_of p) p

-- ---- predicates applied in turn: the facts, and what came of the last one that was applied
pub record InTurn : Type 0 where
  pub facts : LogicalFacts
  pub outcome : Result (Unit {0}) FactsError
  pub place : ℕ

-- the facts after a run, and which of its predicates was refused
abbrev pub turned : LogicalFacts → Result (Unit {0}) Turned → InTurn
turned f (Ok tt) = record { facts = f; outcome = Ok tt; place = 0 }
turned f (Err t) = record { facts = f; outcome = Err t.error; place = t.place }

-- the first that is refused, the k-th, ends it
abbrev pub turn_by : FactsAnswer → ℕ → (LogicalFacts → InTurn) → InTurn
turn_by a k rest =
    cond (eqb (Applying.refusal_of a.outcome) 0) (rest a.facts) (record { facts = a.facts; outcome = a.outcome; place = k })

unfoldable pub in_turn : Plan → LogicalFacts → List ℕ → ℕ → InTurn
in_turn p f [] k = record { facts = f; outcome = (Ok tt); place = 0 }
in_turn p f (e ∷ es) k = turn_by (apply_predicate p f (record { 0 = e })) k (λ g. in_turn p g es (suc k))

-- the refusal and which predicate was refused, and the listing of the facts that are handed back
unfoldable pub turn_reply : Identities → ℕ → InTurn → List ℕ
turn_reply ids h t = head_of (Applying.refusal_of t.outcome) t.place ++ listing_text h ids t.facts

-- from the facts of the operator h on; where deriving those is refused, as that replies
unfoldable pub applied_reply : Plan → ℕ → List ℕ → DeriveAnswer → List ℕ
applied_reply p h es d =
    cond (eqb (Deriving.refusal_of d.outcome) 0) (turn_reply (identities_of p) h (in_turn p d.facts es 0))
    (head_of (Deriving.refusal_of d.outcome) (Deriving.refuser_of d.outcome))

unfoldable pub apply_reply : ℕ → List ℕ → Plan → List ℕ
apply_reply h es p = applied_reply p h es (derive_of p h)

-- ---- simplifying: the refusal; 0 where the operator stays, else one more than the operator that stands for it; and the plan
unfoldable pub rewrite_reply : Rewritten → List ℕ
rewrite_reply r = head_of (Simplifying.refusal_of r.rewrite) (standing_of r.rewrite) ++ written_of r.plan

unfoldable pub simplify_reply : ℕ → Plan → List ℕ
simplify_reply o p = rewrite_reply (Simplifying.simplify_of p (record { 0 = o }))

-- ---- evaluating: the refusal, and the code of the truth value (0 FALSE, 1 UNKNOWN, 2 TRUE; 0 where there is none)
unfoldable pub evaluate_reply : ℕ → Row → Plan → List ℕ
evaluate_reply e row p =
    head_of (Evaluating.refusal_of (Evaluating.evaluate_of p (record { 0 = e }) row)) (truth_found (Evaluating.evaluate_of p (record { 0 = e }) row))

-- the first n of 64 cells out of three runs of numbers; a cell that is not given is of the case 0, which no literal has
unfoldable pub cells_to : List ℕ → List ℕ → List ℕ → ℕ → List Cell
cells_to case code bits zero = replicate 64 (record { case = 0; code = 0; bits = 0 })
cells_to case code bits (suc n) =
    set (cells_to case code bits n) n (record { case = get_or case n 0; code = get_or code n 0; bits = get_or bits n 0 })

abbrev pub row_in : List ℕ → List ℕ → List ℕ → Row
row_in case code bits = record { cells = cells_to case code bits 64 }
