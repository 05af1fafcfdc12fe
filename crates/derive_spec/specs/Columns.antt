-- What stands by column after each kind of operator, from its lists and what stood there before. Assumes nothing.
use Rattle.std.specs.Prelude.{ℕ, ◌+◌, Bool, true, false, cond, List, ltb, eqb, get_or, set, replicate}
use Rattle.lists.specs.Ranges.{all_from}
use Rattle.constraint_spec.specs.Sets.{steps_to}
use Rattle.constraint_spec.specs.declared.ConstraintSet.{ConstraintSet}
use Rattle.plan_data.specs.declared.Run.{Run}
use Rattle.plan_data.specs.declared.ExprData.{ExprData}
use Rattle.plan_data.specs.declared.ExprData.TheVariants.{Literal, ColumnRef, Unary, Binary, Nary}
use Rattle.plan_identities.specs.Identities.{number_in}
use Rattle.plan_identities.specs.declared.Identities.{Identities}
use Rattle.plan_identities.specs.declared.ValueId.{ValueId}
use Rattle.plan_identities.specs.declared.ValueId.TheVariants.{Base, Derived}
use Rattle.apply_spec.specs.declared.LogicalFacts.{LogicalFacts}
use Rattle.derive_spec.specs.declared.ColumnFacts.{ColumnFacts}

-- the k-th item of a list
abbrev pub item_at : List ℕ → Run → ℕ → ℕ
item_at items r k = get_or items (r.start + k) 0

-- ---- facts, and what of them stands by column
abbrev pub no_columns : ColumnFacts
no_columns = record { lineage = replicate 64 0; definitions = replicate 64 0 }

abbrev pub columns_in : LogicalFacts → ColumnFacts
columns_in f = record { lineage = f.lineage; definitions = f.definitions }

abbrev pub facts_with : ColumnFacts → ConstraintSet → LogicalFacts
facts_with t s = record { lineage = t.lineage; definitions = t.definitions; constraints = s }

-- ---- entries: a number and one more, 0 for none
-- the entry of an identity; none for an identity that the plan lacks
unfoldable pub lineage_entry : Identities → ValueId → ℕ
lineage_entry ids v = cond (ltb (number_in ids v) 128) (number_in ids v + 1) 0

-- the entry of a defining expression; none for a handle past the table of expressions
unfoldable pub definition_entry : ℕ → ℕ
definition_entry e = cond (ltb e 1024) (e + 1) 0

-- ---- one column
abbrev pub with_lineage : ColumnFacts → List ℕ → ColumnFacts
with_lineage t l = record { lineage = l; definitions = t.definitions }

abbrev pub with_definitions : ColumnFacts → List ℕ → ColumnFacts
with_definitions t l = record { lineage = t.lineage; definitions = l }

-- `lineage.insert(column, ..)`
unfoldable pub assigned : ColumnFacts → ℕ → ℕ → ColumnFacts
assigned t c v = with_lineage t (set t.lineage c v)

-- `definitions.insert(column, ..)`
unfoldable pub defined : ColumnFacts → ℕ → ℕ → ColumnFacts
defined t c v = with_definitions t (set t.definitions c v)

-- an insert where there is something to insert
abbrev pub inserted : List ℕ → ℕ → ℕ → List ℕ
inserted l c v = cond (eqb v 0) l (set l c v)

-- the column is Base, or Derived
abbrev pub base_column : Identities → ColumnFacts → ℕ → ColumnFacts
base_column ids t c = assigned t c (lineage_entry ids (Base (record { 0 = c })))

abbrev pub derived_column : Identities → ColumnFacts → ℕ → ColumnFacts
derived_column ids t c = assigned t c (lineage_entry ids (Derived (record { 0 = c })))

-- what the input g has of the column `original` is put to the column `renamed`
unfoldable pub carried : ColumnFacts → ColumnFacts → ℕ → ℕ → ColumnFacts
carried g t renamed original =
    record {
      lineage = inserted t.lineage renamed (get_or g.lineage original 0);
      definitions = inserted t.definitions renamed (get_or g.definitions original 0);
    }

-- `value_for_expr`: the entry of a column reference's column, none for any other expression
abbrev pub value_for_expr : List ℕ → ExprData → ℕ
value_for_expr lineage (Literal v) = 0
value_for_expr lineage (ColumnRef c) = get_or lineage c.0 0
value_for_expr lineage (Unary op e) = 0
value_for_expr lineage (Binary op l r) = 0
value_for_expr lineage (Nary op r) = 0

-- the column c has the identity that v is the entry of, or else is Derived and defined by the expression e
abbrev pub valued : Identities → ColumnFacts → ℕ → ℕ → ℕ → ColumnFacts
valued ids t c e v = cond (eqb v 0) (defined (derived_column ids t c) c (definition_entry e)) (assigned t c v)

-- one computation of a Map: the column c is computed by the expression e, which is x
unfoldable pub computed : Identities → ColumnFacts → ℕ → ℕ → ExprData → ColumnFacts
computed ids t c e x = valued ids t c e (value_for_expr t.lineage x)

-- the column of a key has the identity that it has in the input g, if it has one there
unfoldable pub key_column : ColumnFacts → ColumnFacts → ℕ → ColumnFacts
key_column g t c = with_lineage t (inserted t.lineage c (get_or g.lineage c 0))

-- one key of an Aggregation, which is x; a key that is no column reference is refused before
abbrev pub keyed : ColumnFacts → ColumnFacts → ExprData → ColumnFacts
keyed g t (Literal v) = t
keyed g t (ColumnRef c) = key_column g t c.0
keyed g t (Unary op e) = t
keyed g t (Binary op l r) = t
keyed g t (Nary op r) = t

abbrev pub is_column_ref : ExprData → Bool
is_column_ref (Literal v) = false
is_column_ref (ColumnRef c) = true
is_column_ref (Unary op e) = false
is_column_ref (Binary op l r) = false
is_column_ref (Nary op r) = false

-- ---- a list: the k-th item, and all of them from the first on
abbrev pub scan_step : Identities → List ℕ → Run → ℕ → ColumnFacts → ColumnFacts
scan_step ids items r k t = base_column ids t (item_at items r k)

unfoldable pub scanned : Identities → List ℕ → Run → ColumnFacts
scanned ids items r = steps_to (scan_step ids items r) r.count no_columns

abbrev pub derived_step : Identities → List ℕ → Run → ℕ → ColumnFacts → ColumnFacts
derived_step ids items r k t = derived_column ids t (item_at items r k)

-- `derived_columns`, put over what stands there
unfoldable pub derived_columns : Identities → List ℕ → Run → ColumnFacts → ColumnFacts
derived_columns ids items r t = steps_to (derived_step ids items r) r.count t

abbrev pub project_step : ColumnFacts → List ℕ → Run → ℕ → ColumnFacts → ColumnFacts
project_step g items r k t = carried g t (item_at items r k) (item_at items r k)

-- the listed columns alone
unfoldable pub projected : ColumnFacts → List ℕ → Run → ColumnFacts
projected g items r = steps_to (project_step g items r) r.count no_columns

abbrev pub rename_step : ColumnFacts → List ℕ → List ℕ → Run → ℕ → ColumnFacts → ColumnFacts
rename_step g items originals r k t = carried g t (item_at items r k) (item_at originals r k)

-- the renamed columns alone: every other column is forgotten
unfoldable pub renamed : ColumnFacts → List ℕ → List ℕ → Run → ColumnFacts
renamed g items originals r = steps_to (rename_step g items originals r) r.count no_columns

abbrev pub map_step : Identities → (ℕ → ExprData) → List ℕ → List ℕ → Run → ℕ → ColumnFacts → ColumnFacts
map_step ids node items exprs r k t = computed ids t (item_at items r k) (item_at exprs r k) (node (item_at exprs r k))

-- computations in order, each on what the earlier ones left
unfoldable pub mapped : Identities → (ℕ → ExprData) → List ℕ → List ℕ → Run → ColumnFacts → ColumnFacts
mapped ids node items exprs r g = steps_to (map_step ids node items exprs r) r.count g

abbrev pub key_ok : (ℕ → ExprData) → List ℕ → Run → ℕ → Bool
key_ok node items r k = is_column_ref (node (item_at items r k))

-- every key is a column reference
unfoldable pub keys_ok : (ℕ → ExprData) → List ℕ → Run → Bool
keys_ok node items r = all_from (key_ok node items r) 0 r.count

abbrev pub key_step : (ℕ → ExprData) → ColumnFacts → List ℕ → Run → ℕ → ColumnFacts → ColumnFacts
key_step node g items r k t = keyed g t (node (item_at items r k))

-- lineage of the keys, then of the aggregates; no definitions
unfoldable pub keys_of : (ℕ → ExprData) → ColumnFacts → List ℕ → Run → ColumnFacts
keys_of node g items r = steps_to (key_step node g items r) r.count no_columns

abbrev pub aggregated : Identities → (ℕ → ExprData) → List ℕ → Run → Run → ColumnFacts → ColumnFacts
aggregated ids node items keys aggregates g = derived_columns ids items aggregates (keys_of node g items keys)
