-- Facts: which identity a column has, which expression defines it, and the rules of facts that come from outside. Assumes nothing.
use Rattle.std.specs.Prelude.{ℕ, ◌+◌, ◌-◌, Bool, not, ◌&&◌, ◌||◌, List, ltb, leb, eqb, get_or, replicate, Ok, Err, Result}
use Rattle.lists.specs.Ranges.{all_from}
use Rattle.constraint_spec.specs.Sets.{handle_at, set_ok, empty_set}
use Rattle.constraint_spec.specs.declared.ConstraintSet.{ConstraintSet}
use Rattle.plan.specs.declared.Plan.{Plan}
use Rattle.apply_spec.specs.declared.LogicalFacts.{LogicalFacts}
use Rattle.apply_spec.specs.declared.FactsError.{FactsError}
use Rattle.apply_spec.specs.declared.FactsError.TheVariants.{Residuals, NoSuch}

-- the number of the refusal in the rules (docs/FORMAT.md), 0 for none
abbrev pub refusal_of : Result (Unit {0}) FactsError → ℕ
refusal_of (Ok tt) = 0
refusal_of (Err Residuals) = 7
refusal_of (Err NoSuch) = 8

-- nothing is known: `LogicalFacts::default()`
unfoldable pub empty_facts : LogicalFacts
empty_facts = record { lineage = replicate 64 0; definitions = replicate 64 0; constraints = empty_set }

abbrev pub with_constraints : LogicalFacts → ConstraintSet → LogicalFacts
with_constraints f s = record { lineage = f.lineage; definitions = f.definitions; constraints = s }

-- ---- `value_for_column`: a column has an identity, and which
abbrev pub has_lineage : List ℕ → ℕ → Bool
has_lineage lineage c = not (eqb (get_or lineage c 0) 0)

abbrev pub identity_of : List ℕ → ℕ → ℕ
identity_of lineage c = get_or lineage c 0 - 1

-- ---- the rules of facts that come from outside, in a plan of nc columns and ne expressions
-- a column of the plan has no identity or one of the plan's, Base (below nc) or Derived (64 and a column); a column that the plan lacks has none
unfoldable pub lineage_ok : List ℕ → ℕ → ℕ → Bool
lineage_ok lineage nc c =
    eqb (get_or lineage c 0) 0
    || (ltb c nc && (ltb (identity_of lineage c) nc || (leb 64 (identity_of lineage c) && ltb (identity_of lineage c) (64 + nc))))

-- a column's definition is an expression of the plan
unfoldable pub definition_ok : List ℕ → ℕ → ℕ → ℕ → Bool
definition_ok definitions nc ne c = eqb (get_or definitions c 0) 0 || (ltb c nc && leb (get_or definitions c 0) ne)

-- the residuals are expressions of the plan
abbrev pub residual_ok : ConstraintSet → ℕ → ℕ → Bool
residual_ok s ne k = ltb (handle_at s k) ne

unfoldable pub facts_ok : Plan → LogicalFacts → Bool
facts_ok p f =
    all_from (lineage_ok f.lineage p.columns.count) 0 64
    && (all_from (definition_ok f.definitions p.columns.count p.expressions.count) 0 64
    && (set_ok f.constraints && all_from (residual_ok f.constraints p.expressions.count) 0 f.constraints.residuals))
