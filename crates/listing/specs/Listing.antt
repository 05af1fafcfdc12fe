-- The listing of facts: the lines of the rules (docs/FORMAT.md) in their order. Columns and identities rise, residuals stand in recorded order.
-- Assumes nothing.
use Rattle.std.specs.Prelude.{ℕ, min, Bool, false, cond, List, [], ◌∷◌, ◌++◌, eqb, leb, get_or}
use Rattle.lists.specs.Ranges.{count_from}
use Rattle.constraint_spec.specs.declared.Holder.{Holder}
use Rattle.constraint_spec.specs.declared.Entry.{Entry}
use Rattle.constraint_spec.specs.declared.ConstraintSet.{ConstraintSet}
use Rattle.constraint_spec.specs.Sets.{none, blank, canonical_at, non_nulls, literals, handles}
use Rattle.plan_identities.specs.declared.Identities.{Identities}
use Rattle.apply_spec.specs.declared.LogicalFacts.{LogicalFacts}
use Rattle.writing.specs.Text.{decimal_of, lines}
use Rattle.listing_lines.specs.Lines.{header_line, column_line, define_line, member_text, nonnull_line, literal_line, range_line, residual_line}

-- ---- by column
unfoldable pub column_lines : Identities → List ℕ → List ℕ
column_lines ids lineage = lines 64 (λ (c : ℕ). column_line ids c (get_or lineage c 0))

unfoldable pub define_lines : List ℕ → List ℕ
define_lines definitions = lines 64 (λ (c : ℕ). define_line c (get_or definitions c 0))

-- ---- by identity
-- "class"
abbrev pub class_word : List ℕ
class_word = 99 ∷ 108 ∷ 97 ∷ 115 ∷ 115 ∷ []

-- how many identities have the representative r
unfoldable pub members_in : (ℕ → ℕ) → ℕ → ℕ
members_in root r = count_from (λ (i : ℕ). eqb (root i) r) 0 128

-- the members of the class of r, in order
unfoldable pub members_text : Identities → (ℕ → ℕ) → ℕ → List ℕ
members_text ids root r = lines 128 (λ (i : ℕ). member_text ids (root i) r i)

-- `class`, its members in order; "listed from two members up"
unfoldable pub class_line : Identities → (ℕ → ℕ) → ℕ → List ℕ
class_line ids root r = cond (leb 2 (members_in root r)) (class_word ++ (members_text ids root r ++ (10 ∷ []))) []

-- a class's representative is its least member, so that classes rise by their least members
unfoldable pub class_lines : Identities → (ℕ → ℕ) → List ℕ
class_lines ids root = lines 128 (class_line ids root)

unfoldable pub nonnull_lines : Identities → List Bool → List ℕ
nonnull_lines ids flags = lines 128 (λ (i : ℕ). nonnull_line ids i (get_or flags i false))

unfoldable pub literal_lines : Identities → List Holder → List ℕ
literal_lines ids held = lines 128 (λ (i : ℕ). literal_line ids i (get_or held i none))

unfoldable pub range_lines : Identities → List Entry → List ℕ
range_lines ids ranges = lines 128 (λ (i : ℕ). range_line ids i (get_or ranges i blank))

-- ---- residuals: as many as the set says, and no more than there is room for
unfoldable pub residual_lines : List ℕ → ℕ → List ℕ
residual_lines list n = lines (min n 64) (λ (k : ℕ). residual_line (get_or list k 0))

-- ---- the whole
unfoldable pub set_text : Identities → ConstraintSet → List ℕ
set_text ids s =
    class_lines ids (canonical_at s)
    ++ (nonnull_lines ids (non_nulls s)
    ++ (literal_lines ids (literals s) ++ (range_lines ids s.ranges ++ residual_lines (handles s) s.residuals)))

-- the listing of the facts f of operator h, where ids names the identities
unfoldable pub listing_text : ℕ → Identities → LogicalFacts → List ℕ
listing_text h ids f =
    header_line h f.constraints.contradictory
    ++ (column_lines ids f.lineage ++ (define_lines f.definitions ++ set_text ids f.constraints))

-- `refused N P`
unfoldable pub refused_line : ℕ → ℕ → List ℕ
refused_line n p = (114 ∷ 101 ∷ 102 ∷ 117 ∷ 115 ∷ 101 ∷ 100 ∷ 32 ∷ []) ++ (decimal_of n ++ (32 ∷ [] ++ (decimal_of p ++ (10 ∷ []))))
