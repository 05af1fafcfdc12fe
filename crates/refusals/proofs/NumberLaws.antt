-- The number and the place of what a call answers are those of the definitions' answer. Assumes nothing.
use mathlib.Core.Path.{◌≡◌, refl}
use Rattle.std.proofs.Common.{Result, Ok, Err}
use Rattle.apply_spec.specs.Facts as Applying
use Rattle.apply_spec.specs.declared.FactsError.{FactsError}
use Rattle.apply_spec.specs.declared.LogicalFacts.{LogicalFacts}
use Rattle.derive_spec.specs.Answers.{derived}
use Rattle.derive_spec.specs.Operators as Deriving
use Rattle.derive_spec.specs.declared.DeriveError.{DeriveError}
use Rattle.plan.specs.declared.Plan.{Plan}
use Rattle.plan_file.specs.Answer.{answer}
use Rattle.plan_file.specs.Answers as Files
use Rattle.plan_file.specs.declared.ReadError.{ReadError}
use Rattle.rows_spec.specs.Evaluate as Evaluating
use Rattle.rows_spec.specs.declared.EvaluationError.{EvaluationError}
use Rattle.scalar.specs.declared.ScalarValue.{ScalarValue}
use Rattle.simplify_spec.specs.OneOperator as Simplifying
use Rattle.simplify_spec.specs.declared.Rewrite.{Rewrite}
use Rattle.simplify_spec.specs.declared.Rewrite.TheVariants.{Keep, Replace}
use Rattle.simplify_spec.specs.declared.SimplifyError.{SimplifyError}
use Rattle.refusals.specs.Numbers.{number_of}

pub reading_number : (r : Result Plan ReadError) → number_of (λ e. Files.refusal_of (Err e)) r ≡ Files.refusal_of (answer r).reading
reading_number (Ok p) = refl
reading_number (Err e) = refl

pub reading_place : (r : Result Plan ReadError) → number_of (λ e. Files.place_of (Err e)) r ≡ Files.place_of (answer r).reading
reading_place (Ok p) = refl
reading_place (Err e) = refl

pub derive_number : (r : Result LogicalFacts DeriveError) → number_of (λ e. Deriving.refusal_of (Err e)) r ≡ Deriving.refusal_of (derived r).outcome
derive_number (Ok f) = refl
derive_number (Err e) = refl

pub derive_place : (r : Result LogicalFacts DeriveError) → number_of (λ e. Deriving.refuser_of (Err e)) r ≡ Deriving.refuser_of (derived r).outcome
derive_place (Ok f) = refl
derive_place (Err e) = refl

pub outcome_number : (r : Result (Unit {0}) FactsError) → number_of (λ e. Applying.refusal_of (Err e)) r ≡ Applying.refusal_of r
outcome_number (Ok tt) = refl
outcome_number (Err e) = refl

pub rewrite_number : (r : Result Rewrite SimplifyError) → number_of (λ e. Simplifying.refusal_of (Err e)) r ≡ Simplifying.refusal_of r
rewrite_number (Ok Keep) = refl
rewrite_number (Ok (Replace o)) = refl
rewrite_number (Err e) = refl

pub evaluation_number : (r : Result ScalarValue EvaluationError) → number_of (λ e. Evaluating.refusal_of (Err e)) r ≡ Evaluating.refusal_of r
evaluation_number (Ok v) = refl
evaluation_number (Err e) = refl
