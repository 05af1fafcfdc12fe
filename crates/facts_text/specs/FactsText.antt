-- What the program writes: the listing of the last operator, or the refusal. Assumes nothing.
use Rattle.std.specs.Prelude.{ℕ, cond, List, eqb}
use Rattle.plan.specs.declared.Plan.{Plan}
use Rattle.plan_file.specs.Answers as Files
use Rattle.plan_file.specs.Answer.{Answer}
use Rattle.plan_identities.specs.Identities.{identities_of}
use Rattle.listing.specs.Listing.{listing_text, refused_line}
use Rattle.derive_spec.specs.Operators as Deriving
use Rattle.derive_spec.specs.Deriving.{derive_of}
use Rattle.derive_spec.specs.Answers.{DeriveAnswer}
use Rattle.refusals.specs.Numbers.{last_of}

-- of the operator h, from what deriving answers: P is the operator that refused
unfoldable pub derived_text : Plan → ℕ → DeriveAnswer → List ℕ
derived_text p h d =
    cond (eqb (Deriving.refusal_of d.outcome) 0) (listing_text h (identities_of p) d.facts)
    (refused_line (Deriving.refusal_of d.outcome) (Deriving.refuser_of d.outcome))

-- the last operator of a plan; a plan without operators is refused by 8, with 0 for P
unfoldable pub plan_text : Plan → List ℕ
plan_text p = derived_text p (last_of p) (derive_of p (last_of p))

-- of a file, from what reading answers: P is where the faulty record starts
unfoldable pub facts_text : Answer → List ℕ
facts_text a =
    cond (eqb (Files.refusal_of a.reading) 0) (plan_text a.plan)
    (refused_line (Files.refusal_of a.reading) (Files.place_of a.reading))
