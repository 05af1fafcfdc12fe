-- The table that deriving fills: 128 answers, of which the first k are made. Assumes nothing.
use Rattle.std.specs.Prelude.{ℕ, ◌<◌, ◌≡◌, false, List, [], length, get_or, Ok, Result}
use Rattle.value_classes.specs.Classes.{classes_by}
use Rattle.constraint_spec.specs.Sets.{with_values, with_residuals, empty_set}
use Rattle.plan.specs.declared.Plan.{Plan}
use Rattle.apply_spec.specs.Facts.{with_constraints}
use Rattle.apply_spec.specs.Meaning.{fresh_facts}
use Rattle.apply_spec.specs.declared.LogicalFacts.{LogicalFacts}
use Rattle.derive_spec.specs.Answers.{derived}
use Rattle.derive_spec.specs.Deriving.{missing, answers_to}
use Rattle.derive_spec.specs.declared.DeriveError.{DeriveError}

abbrev pub Table : Type 0
Table = List (Result LogicalFacts DeriveError)

-- what the logic reads past the end of a table
abbrev pub past : Result LogicalFacts DeriveError
past = Ok (with_constraints (fresh_facts [] []) (with_residuals (with_values empty_set (classes_by []) [] [] [] false) [] 0))

-- 128 answers: those of the definition's table below k, and past it what stands for an input that is not there
unfoldable pub Holds : Plan → ℕ → Table → Type 0
Holds p k t = (length t ≡ 128) × ((i : ℕ) → i < 128 → derived (get_or t i past) ≡ get_or (answers_to p k) i missing)
