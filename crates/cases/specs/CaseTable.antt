-- The eleven cases of docs/PROMISES.md as one table: predicates applied one after the other to fresh facts, with all that is then known (1 to 10),
-- and expressions
-- with what they are simplified to (11). Assumes nothing.
use Rattle.std.specs.Prelude.{◌≡◌, Bool, true, false, List, [], ◌∷◌, ℕ, pos, length, set, replicate}
use Rattle.std.specs.Float.{binary64}
use Rattle.std.specs.Float.Ieee.{of_int}
use Rattle.scalar.specs.declared.ScalarValue.TheVariants as S
use Rattle.value_range.specs.Ranges.{no_bound, bound_at}
use Rattle.value_range.specs.declared.Bound.{Bound}
use Rattle.value_classes.specs.Classes.{empty_classes, roots_joined}
use Rattle.value_classes.specs.declared.ValueEquivalenceClasses.{ValueEquivalenceClasses}
use Rattle.constraint_spec.specs.Sets.{none, held, no_entry, entry_of, with_values, with_residuals, empty_set}
use Rattle.constraint_spec.specs.declared.Holder.{Holder}
use Rattle.constraint_spec.specs.declared.Entry.{Entry}
use Rattle.constraint_spec.specs.declared.ConstraintSet.{ConstraintSet}
use Rattle.plan.specs.declared.Plan.{Plan}
use Rattle.plan.specs.declared.Expr.{Expr}
use Rattle.apply_spec.specs.Facts.{with_constraints}
use Rattle.apply_spec.specs.Meaning.{fresh_facts, AcceptedAll}
use Rattle.apply_spec.specs.declared.LogicalFacts.{LogicalFacts}
use Rattle.simplify_spec.specs.OneExpression.{kept, took, add_literal as newLiteral, simplify_at}
use Rattle.simplify_spec.specs.OneOperator.{start_of}
use Rattle.simplify_spec.specs.Answers.{Simplified}
use Rattle.simplify_spec.proofs.CaseEleven.{and_none, and_one, and-true, or-false}

-- x and y are Int32 columns with lineage, z Int64, b Boolean; their identities are 0 to 3. The expressions, a line for eight of them:
-- x, y, z, b, 7, x < 7, x = 7, x <= 7;
-- NULL, x = NULL, x IS NOT DISTINCT FROM y, 5, x <> 5, 5 <> x, x = x, 3;
-- 4, x > 3, x < 4, 2^53 as an Int64, z < 2^53, 2^53 + 1 as an Int64, z < 2^53 + 1, z = 5 with the Int32;
-- 5 as an Int64, z = 5 with that one
abbrev pub case_plan : Plan
case_plan = record {
  columns = record { count = 4; name = 0 ∷ 1 ∷ 2 ∷ 3 ∷ replicate 60 0; kind = 2 ∷ 2 ∷ 3 ∷ 1 ∷ replicate 60 0 };
  expressions = record {
    count = 26;
    kind =
        0x20 ∷ 0x20 ∷ 0x20 ∷ 0x20 ∷ 0x12 ∷ 0x22 ∷ 0x22 ∷ 0x22
        ∷ 0x10 ∷ 0x22 ∷ 0x22 ∷ 0x12 ∷ 0x22 ∷ 0x22 ∷ 0x22 ∷ 0x12
        ∷ 0x12 ∷ 0x22 ∷ 0x22 ∷ 0x13 ∷ 0x22 ∷ 0x13 ∷ 0x22 ∷ 0x22
        ∷ 0x13 ∷ 0x22 ∷ replicate 998 0;
    code = 0 ∷ 0 ∷ 0 ∷ 0 ∷ 0 ∷ 2 ∷ 0 ∷ 3 ∷ 2 ∷ 0 ∷ 6 ∷ 0 ∷ 1 ∷ 1 ∷ 0 ∷ 0 ∷ 0 ∷ 4 ∷ 2 ∷ 0 ∷ 2 ∷ 0 ∷ 2 ∷ 0 ∷ 0 ∷ 0 ∷ replicate 998 0;
    a = 0 ∷ 1 ∷ 2 ∷ 3 ∷ 0 ∷ 0 ∷ 0 ∷ 0 ∷ 0 ∷ 0 ∷ 0 ∷ 0 ∷ 0 ∷ 11 ∷ 0 ∷ 0 ∷ 0 ∷ 0 ∷ 0 ∷ 0 ∷ 2 ∷ 0 ∷ 2 ∷ 2 ∷ 0 ∷ 2 ∷ replicate 998 0;
    b = 0 ∷ 0 ∷ 0 ∷ 0 ∷ 0 ∷ 4 ∷ 4 ∷ 4 ∷ 0 ∷ 8 ∷ 1 ∷ 0 ∷ 11 ∷ 0 ∷ 0 ∷ 0 ∷ 0 ∷ 15 ∷ 16 ∷ 0 ∷ 19 ∷ 0 ∷ 21 ∷ 11 ∷ 0 ∷ 24 ∷ replicate 998 0;
    start = replicate 1024 0;
    bits =
        0 ∷ 0 ∷ 0 ∷ 0 ∷ 7 ∷ 0 ∷ 0 ∷ 0 ∷ 0 ∷ 0 ∷ 0 ∷ 5 ∷ 0 ∷ 0 ∷ 0 ∷ 3
        ∷ 4 ∷ 0 ∷ 0 ∷ 9007199254740992 ∷ 0 ∷ 9007199254740993 ∷ 0 ∷ 0 ∷ 5 ∷ 0 ∷ replicate 998 0;
  };
  operators = record {
    count = 0;
    kind = replicate 128 0;
    code = replicate 128 0;
    a = replicate 128 0;
    b = replicate 128 0;
    c = replicate 128 0;
    d = replicate
        128 0;
    start = replicate 128 0;
  };
  items = record { count = 0; a = replicate 2048 0; b = replicate 2048 0 };
}

abbrev pub case_facts : LogicalFacts
case_facts = fresh_facts (1 ∷ 2 ∷ 3 ∷ 4 ∷ replicate 60 0) (replicate 64 0)

-- ---- all that is known: each list has places with what stands there
abbrev pub puts : {A : Type 0} → List A → List (ℕ × A) → List A
puts l [] = l
puts l (x ∷ r) = puts (set l x.0 x.1) r

abbrev pub marks : List Bool → List ℕ → List Bool
marks l [] = l
marks l (i ∷ r) = marks (set l i true) r

-- members under their representatives
abbrev pub under : ValueEquivalenceClasses → List (ℕ × ℕ) → ValueEquivalenceClasses
under c [] = c
under c (x ∷ r) = under (roots_joined c x.1 x.0) r

-- members with their representatives, non-null identities, literals, ranges, residuals in order, the flag
abbrev pub known_as : List (ℕ × ℕ) → List ℕ → List (ℕ × Holder) → List (ℕ × Entry) → List (ℕ × ℕ) → Bool → ConstraintSet
known_as classes nonNull literals ranges residuals flag =
    with_residuals
    (with_values empty_set (under empty_classes classes) (marks (replicate 128 false) nonNull) (puts (replicate 128 none) literals)
    (puts (replicate 128 no_entry) ranges) flag)
    (puts (replicate 64 0) residuals) (length residuals)

abbrev pub from : ℕ → Bool → Bound
from n inclusive = bound_at (of_int binary64 (pos n)) inclusive

abbrev pub between : Bound → Bound → Entry
between l u = entry_of (record { lower = l; upper = u })

-- ---- the table
-- predicates with what is known after them, or an expression of a plan with what it is simplified to
pub data Case : Type 0 where
  applied : List Expr → ConstraintSet → Case
  simplified : Plan → ℕ → Simplified → Case

abbrev pub one : ℕ → ConstraintSet → Case
one e s = applied (record { 0 = e } ∷ []) s

abbrev pub two : ℕ → ℕ → ConstraintSet → Case
two e f s = applied (record { 0 = e } ∷ record { 0 = f } ∷ []) s

abbrev pub cases : List Case
cases =
    -- 1. z < 9007199254740992: bound 2^53, exclusive
    one 20 (known_as [] (2 ∷ []) [] ((2, between no_bound (from 9007199254740992 false)) ∷ []) [] false)
    -- 2. z < 9007199254740993: residual only
    ∷ one 22 (known_as [] [] [] [] ((0, 22) ∷ []) false)
    -- 3. x < 7, x = 7: contradictory; x <= 7, x = 7: not
    ∷ two 5 6 (known_as [] (0 ∷ []) ((0, held (S.Int32 (pos 7))) ∷ []) ((0, between no_bound (from 7 false)) ∷ []) [] true)
    ∷ two 7 6 (known_as [] (0 ∷ []) ((0, held (S.Int32 (pos 7))) ∷ []) ((0, between no_bound (from 7 true)) ∷ []) [] false)
    -- 4. x = NULL: contradictory
    ∷ one 9 (known_as [] [] [] [] [] true)
    -- 5. x IS NOT DISTINCT FROM y: class, no non-null
    ∷ one 10 (known_as ((1, 0) ∷ []) [] [] [] [] false)
    -- 6. x <> 5: non-null, a range entry without bounds, and residual; 5 <> x: residual only
    ∷ one 12 (known_as [] (0 ∷ []) [] ((0, between no_bound no_bound) ∷ []) ((0, 12) ∷ []) false)
    ∷ one 13 (known_as [] [] [] [] ((0, 13) ∷ []) false)
    -- 7. x = x: non-null, no class listed
    ∷ one 14 (known_as [] (0 ∷ []) [] [] [] false)
    -- 8. x > 3, x < 4: not contradictory
    ∷ two 17 18 (known_as [] (0 ∷ []) [] ((0, between (from 3 false) (from 4 false)) ∷ []) [] false)
    -- 9. z = 5 with an Int32 5, then an Int64 5: contradictory
    ∷ two 23 25 (known_as [] (2 ∷ []) ((2, held (S.Int32 (pos 5))) ∷ []) [] [] true)
    -- 10. x <= 7, x < 7 in either order: 7 exclusive
    ∷ two 7 5 (known_as [] (0 ∷ []) [] ((0, between no_bound (from 7 false)) ∷ []) [] false)
    ∷ two 5 7 (known_as [] (0 ∷ []) [] ((0, between no_bound (from 7 false)) ∷ []) [] false)
    -- 11. And[] and And[b] stay; And[true] is true, a new literal; Or[false, b] is b
    ∷ simplified and_none 0 (kept (start_of and_none) 0)
    ∷ simplified and_one 1 (kept (start_of and_one) 1)
    ∷ simplified and-true 1 (newLiteral (start_of and-true) true)
    ∷ simplified or-false 2 (took (start_of or-false) 1)
    ∷ []

-- the predicates of a case are accepted one after the other, and give facts with what the table says and the lineage as it was; an expression is
-- simplified to what the table says, tables and handle
abbrev pub Holds : Case → Type 0
Holds (applied es known) = AcceptedAll case_plan case_facts es (with_constraints case_facts known)
Holds (simplified p h s) = simplify_at h (start_of p) ≡ s
