-- The identities of a plan's values and their numbers. "A column belongs to at most one Scan operator, so at most 128 identities. Their order:
-- Base before Derived; Base by table, then name, then column number; Derived by column." Assumes nothing.
use Rattle.std.specs.Prelude.{ℕ, ◌+◌, ◌-◌, min, Bool, true, false, cond, ◌&&◌, ◌||◌, List, ltb, eqb, get_or}
use Rattle.lists.specs.Ranges.{count_from}
use Rattle.plan.specs.declared.Plan.{Plan}
use Rattle.plan_rules.specs.Rules.{scans_of}
use Rattle.plan_identities.specs.Places.{first_from, filled}
use Rattle.plan_identities.specs.declared.ValueId.{ValueId}
use Rattle.plan_identities.specs.declared.ValueId.TheVariants.{Base, Derived}
use Rattle.plan_identities.specs.declared.Identities.{Identities}

-- the table of a column: that of the first Scan, among the np operators, that lists it; and 65536, past every table, where none does. Such a
-- column has no Base identity, and sorts last
unfoldable pub table_in : List ℕ → List ℕ → List ℕ → List ℕ → List ℕ → ℕ → ℕ → ℕ
table_in kind a b start items np c = first_from (scans_of kind b start items c) (λ (i : ℕ). get_or a i 0) 65536 0 np

abbrev pub table_of : Plan → ℕ → ℕ
table_of p c =
    table_in p.operators.kind p.operators.a p.operators.b p.operators.start p.items.a p.operators.count c

abbrev pub name_of : Plan → ℕ → ℕ
name_of p c = get_or p.columns.name c 0

-- the order of columns by a key, and by `rest` where the keys are the same
unfoldable pub by_key : (ℕ → ℕ) → (ℕ → ℕ → Bool) → ℕ → ℕ → Bool
by_key key rest a b = ltb (key a) (key b) || (eqb (key a) (key b) && rest a b)

-- "by table, then name, then column number": the first column comes before the second
abbrev pub before_by : (ℕ → ℕ) → (ℕ → ℕ) → ℕ → ℕ → Bool
before_by table name = by_key table (by_key name ltb)

abbrev pub before : Plan → ℕ → ℕ → Bool
before p a b = before_by (table_of p) (name_of p) a b

-- a count of columns, no more than 64
abbrev pub size_of : ℕ → ℕ
size_of n = min n 64

-- how many columns the plan has
abbrev pub columns_of : Plan → ℕ
columns_of p = size_of p.columns.count

-- "Base before Derived; Base by table, then name, then column number; Derived by column": the first identity is the smaller
unfoldable pub smaller : Plan → ValueId → ValueId → Bool
smaller p (Base a) (Base b) = before p a.0 b.0
smaller p (Base a) (Derived b) = true
smaller p (Derived a) (Base b) = false
smaller p (Derived a) (Derived b) = ltb a.0 b.0

-- an identity that a value of the plan can have: Base of one of its columns, or Derived of any of 64
unfoldable pub of_plan : Plan → ValueId → Bool
of_plan p (Base c) = ltb c.0 (columns_of p)
of_plan p (Derived c) = ltb c.0 64

-- the number of a Base identity: how many of the plan's columns come before its column
unfoldable pub base_of : Plan → ℕ → ℕ
base_of p c = count_from (λ (b : ℕ). before p b c) 0 (columns_of p)

-- the number of a Derived identity: past every Base, by column
abbrev pub derived_of : ℕ → ℕ
derived_of c = 64 + c

-- the number of an identity, where the n columns have the Base numbers `base`; 128, past every number, for a column that is not there
unfoldable pub number_by : (ℕ → ℕ) → ℕ → ValueId → ℕ
number_by base n (Base c) = cond (ltb c.0 n) (base c.0) 128
number_by base n (Derived c) = cond (ltb c.0 64) (derived_of c.0) 128

-- the identity that has a number: below 64 Base of the first column whose number it is, and of column 0 where there is none; from 64 on
-- Derived of the number less 64
unfoldable pub value_by : (ℕ → ℕ) → ℕ → ℕ → ValueId
value_by base n k =
    cond (ltb k 64) (Base (record { 0 = first_from (λ (c : ℕ). eqb (base c) k) (λ (c : ℕ). c) 0 0 n })) (Derived (record { 0 = k - 64 }))

abbrev pub number_of : Plan → ValueId → ℕ
number_of p v = number_by (base_of p) (columns_of p) v

abbrev pub value_id_of : Plan → ℕ → ValueId
value_id_of p k = value_by (base_of p) (columns_of p) k

-- the numbers of a plan, once for all: the Base number of each column, zeros past the last
unfoldable pub identities_of : Plan → Identities
identities_of p = record { base = filled (base_of p) (columns_of p); columns = columns_of p }

-- the same, read from the table
abbrev pub number_in : Identities → ValueId → ℕ
number_in ids v = number_by (λ (c : ℕ). get_or ids.base c 0) (size_of ids.columns) v

abbrev pub value_in : Identities → ℕ → ValueId
value_in ids k = value_by (λ (c : ℕ). get_or ids.base c 0) (size_of ids.columns) k

-- what the code counts with: the order and the rank of a column, from a table of tables and one of names
abbrev pub before_in : List ℕ → List ℕ → ℕ → ℕ → Bool
before_in tables names a b = before_by (λ (c : ℕ). get_or tables c 0) (λ (c : ℕ). get_or names c 0) a b

unfoldable pub rank_in : List ℕ → List ℕ → ℕ → ℕ → ℕ
rank_in tables names n c = count_from (λ (b : ℕ). before_in tables names b c) 0 n
