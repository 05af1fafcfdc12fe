-- Worked cases, by computing. Assumes nothing.
use Prim.Native.Nat.{ℕ}
use mathlib.Core.Bool.{true, ◌&&◌}
use mathlib.Core.List.{[], ◌∷◌}
use mathlib.Core.Path.{◌≡◌, refl}
use lib.Dec.{eqb}
use lib.ListN.{get_or}
use Rattle.lists.specs.Ranges.{all_from, any_from, count_from}
use Rattle.plan.specs.declared.Plan.{Plan}
use Rattle.plan_rules.specs.Rules.{record_ok, item_ok, lists_ok, expr_ok_of, operator_ok_of, scans_of, counts_within, plan_ok}
use Rattle.plan_kinds.specs.Rows.{line_of, row_of}
use Rattle.plan_kinds.specs.Records.{bits_ok, handle_ok, count_of, more_of}
use Rattle.plan_identities.specs.declared.ValueId.TheVariants.{Base, Derived}
use Rattle.plan_identities.specs.Places.{first_from}
use Rattle.plan_identities.specs.Identities.{table_in, table_of, by_key, base_of, number_by, value_by, number_of, value_id_of}

-- Six columns. A Scan of table 7 lists columns 0, 1 and 2, whose names are 5, 3 and 3; a Scan of table 2 lists column 3, whose name is 9; a second
-- Scan of table 7 lists column 5, whose name is 3. A ConstScan lists columns 3 and 4, so that column 4, whose name is 0, is in no Scan
abbrev sample : Plan
sample =
    record {
      columns = record { count = 6; name = 5 ∷ 3 ∷ 3 ∷ 9 ∷ 0 ∷ 3 ∷ []; kind = 2 ∷ 2 ∷ 2 ∷ 2 ∷ 2 ∷ 2 ∷ [] };
      expressions = record { count = 0; kind = []; code = []; a = []; b = []; start = []; bits = [] };
      operators =
          record {
            count = 4;
            kind = 0x30 ∷ 0x31 ∷ 0x30 ∷ 0x30 ∷ [];
            code = [];
            a = 7 ∷ 2 ∷ 2 ∷ 7 ∷ [];
            b = 3 ∷ 0 ∷ 1 ∷ 1 ∷ [];
            c = [];
            d = [];
            start = 0 ∷ 3 ∷ 5 ∷ 6 ∷ [];
          };
      items = record { count = 7; a = 0 ∷ 1 ∷ 2 ∷ 3 ∷ 4 ∷ 3 ∷ 5 ∷ []; b = [] };
    }

-- it keeps the rules of a plan
rules-kept : plan_ok sample ≡ true
unfolding plan_ok counts_within all_from any_from count_from expr_ok_of operator_ok_of record_ok lists_ok item_ok scans_of bits_ok handle_ok count_of
    more_of row_of line_of
rules-kept = refl

-- the tables: a column that no Scan lists is past every table
tables : all_from (λ (c : ℕ). eqb (table_of sample c) (get_or (7 ∷ 7 ∷ 7 ∷ 2 ∷ 65536 ∷ 7 ∷ []) c 0)) 0 6 ≡ true
unfolding all_from any_from scans_of first_from table_in
tables = refl

-- the numbers: table 2 first, whatever its name; in table 7 by name, and for the same name by column; the column of no Scan last
numbers : all_from (λ (c : ℕ). eqb (base_of sample c) (get_or (4 ∷ 1 ∷ 2 ∷ 0 ∷ 5 ∷ 3 ∷ []) c 0)) 0 6 ≡ true
unfolding all_from any_from count_from scans_of first_from table_in by_key base_of
numbers = refl

-- and back; a number that no column has is column 0's
columns : all_from (λ (k : ℕ). eqb (number_of sample (value_id_of sample k)) (get_or (0 ∷ 1 ∷ 2 ∷ 3 ∷ 4 ∷ 5 ∷ []) k 4)) 0 8 ≡ true
unfolding all_from any_from count_from scans_of first_from table_in by_key base_of number_by value_by
columns = refl

first : value_id_of sample 0 ≡ Base (record { 0 = 3 })
unfolding all_from any_from count_from scans_of first_from table_in by_key base_of value_by
first = refl

last_derived : value_id_of sample 127 ≡ Derived (record { 0 = 63 })
unfolding value_by
last_derived = refl

-- a column that is not there has the number past every number
gone : (eqb (number_of sample (Base (record { 0 = 6 }))) 128 && eqb (number_of sample (Derived (record { 0 = 64 }))) 128) ≡ true
unfolding number_by
gone = refl
