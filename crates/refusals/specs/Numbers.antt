-- Numbers that go with an answer. Assumes nothing.
use Rattle.std.specs.Prelude.{ℕ, ◌+◌, ◌-◌, Ok, Err, Result}
use Rattle.plan.specs.declared.Plan.{Plan}
use Rattle.rows_spec.specs.Compare.{truth_of}
use Rattle.rows_spec.specs.declared.EvaluationError.{EvaluationError}
use Rattle.scalar.specs.declared.ScalarValue.{ScalarValue}
use Rattle.rows_spec.specs.declared.EvaluationError.TheVariants as E
use Rattle.simplify_spec.specs.declared.Rewrite.{Rewrite}
use Rattle.simplify_spec.specs.declared.SimplifyError.{SimplifyError}
use Rattle.simplify_spec.specs.declared.Rewrite.TheVariants as W
use Rattle.simplify_spec.specs.declared.SimplifyError.TheVariants as X

-- a number of what is refused, 0 where nothing is
abbrev pub number_of : {T E : Type 0} → (E → ℕ) → Result T E → ℕ
number_of f (Ok v) = 0
number_of f (Err e) = f e

-- the last operator, and 0, which no plan without operators has
abbrev pub last_of : Plan → ℕ
last_of p = p.operators.count - 1

-- 0 where the operator stays, else one more than the operator that stands for it
abbrev pub standing_of : Result Rewrite SimplifyError → ℕ
standing_of (Ok W.Keep) = 0
standing_of (Ok (W.Replace o)) = o.0 + 1
standing_of (Err X.Room) = 0
standing_of (Err X.NoSuch) = 0

-- the code of the truth value (0 FALSE, 1 UNKNOWN, 2 TRUE; 0 where there is none)
abbrev pub truth_found : Result ScalarValue EvaluationError → ℕ
truth_found (Ok v) = truth_of v
truth_found (Err E.NoSuch) = 0
truth_found (Err E.Untyped) = 0
truth_found (Err E.BadRow) = 0
