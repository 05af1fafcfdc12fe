-- Files of some bytes, read by the definition alone: the rules' listing, and one or more for the refusals 1, 2, 4 and 5, with the order of the tests
-- in one record. (Refusal 3 takes files of the sizes: they are run.) Assumes nothing.
use Rattle.std.proofs.Common.{Ok, Err, Result}
use Prim.Native.Nat.{ℕ}
use mathlib.Core.Path.{◌≡◌, refl}
use mathlib.Core.List.{List, [], ◌∷◌, map}
use lib.ListN.{get_or}
use Rattle.plan_kinds.specs.declared.Record.{Record}
use Rattle.plan_kinds.specs.Rows.{row_of, line_of}
use Rattle.plan_kinds.specs.Records.{handle_ok, count_of, more_of}
use Rattle.plan.specs.Plans.{empty_plan}
use Rattle.plan.specs.Append.{append_column, append_expr, append_operator, append_item}
use Rattle.plan.specs.Records.{column_record, expr_record, expr_start, operator_record, operator_start, item_record}
use Rattle.plan_file.specs.declared.ReadError.{ReadError}
use Rattle.plan_file.specs.declared.ReadError.TheVariants.{Short, Unknown, Handle, ScannedTwice}
use Rattle.plan_file.specs.Bytes.{code_from, word_from, bits_from, record_from}
use Rattle.plan_file.specs.Steps.{kind_wanted, kind_ok, fault_of, append_of, less_one, wanted_after, scans_after, appended_step, judged_step, row_step}
use Rattle.plan_file.specs.Steps.{record_step, step_of, start_state, steps_of, answer_of, read_of}

-- how the reading ended, and the counts of the plan
pub record Told : Type 0 where
  pub reading : Result (Unit {0}) ReadError
  pub columns : ℕ
  pub expressions : ℕ
  pub operators : ℕ
  pub items : ℕ

abbrev pub told : Result (Unit {0}) ReadError → ℕ → ℕ → ℕ → ℕ → Told
told k c e o i = record { reading = k; columns = c; expressions = e; operators = o; items = i }

unfoldable pub told_of : List ℕ → Told
told_of s =
    let a = read_of s in
    told a.reading a.plan.columns.count a.plan.expressions.count a.plan.operators.count a.plan.items.count

abbrev pub Case : Type 0
Case = List ℕ × Told

abbrev pub file_of : List ℕ → Told → Case
file_of s t = (s, t)

unfoldable pub files : List Case
files =
    -- the listing's input
    file_of (0x01 ∷ 0x00 ∷ 0x00 ∷ 0x02 ∷ 0x01 ∷ 0x00 ∷ 0x01 ∷ 0x02 ∷ 0x20 ∷ 0x00 ∷ 0x00 ∷ 0x20 ∷ 0x00 ∷ 0x01 ∷ 0x22 ∷ 0x00 ∷ 0x00 ∷ 0x00 ∷ 0x00 ∷ 0x01
    ∷ 0x12 ∷
    0x00 ∷ 0x00 ∷ 0x00 ∷ 0x07 ∷ 0x22 ∷ 0x02 ∷ 0x00 ∷ 0x01 ∷ 0x00 ∷ 0x03 ∷ 0x23 ∷ 0x00 ∷ 0x00 ∷ 0x02 ∷ 0x24 ∷ 0x00 ∷ 0x02 ∷ 0x24 ∷ 0x00 ∷ 0x04 ∷ 0x30 ∷
    0x00 ∷ 0x00 ∷ 0x00 ∷ 0x02 ∷ 0x40 ∷ 0x00 ∷ 0x00 ∷ 0x40 ∷ 0x00 ∷ 0x01 ∷ 0x33 ∷ 0x00 ∷ 0x05 ∷ 0x00 ∷ 0x00 ∷ []) (told (Ok tt) 2 6 2 4) ∷
    -- nothing
    file_of ([]) (told (Ok tt) 0 0 0 0) ∷
    -- a body cut off
    file_of (0x01 ∷ 0x00 ∷ 0x00 ∷ []) (told (Err (Short 0)) 0 0 0 0) ∷
    -- an item wanted at the end
    file_of (0x31 ∷ 0x00 ∷ 0x01 ∷ []) (told (Err (Short 3)) 0 0 0 0) ∷
    -- an item cut off
    file_of (0x01 ∷ 0x00 ∷ 0x00 ∷ 0x02 ∷ 0x31 ∷ 0x00 ∷ 0x01 ∷ 0x40 ∷ 0x00 ∷ []) (told (Err (Short 7)) 0 0 0 0) ∷
    -- an unknown kind
    file_of (0x01 ∷ 0x00 ∷ 0x00 ∷ 0x02 ∷ 0x02 ∷ []) (told (Err (Unknown 4)) 0 0 0 0) ∷
    -- an item out of place
    file_of (0x01 ∷ 0x00 ∷ 0x00 ∷ 0x02 ∷ 0x40 ∷ 0x00 ∷ 0x00 ∷ []) (told (Err (Unknown 4)) 0 0 0 0) ∷
    -- an item after a whole list
    file_of (0x01 ∷ 0x00 ∷ 0x00 ∷ 0x02 ∷ 0x31 ∷ 0x00 ∷ 0x01 ∷ 0x40 ∷ 0x00 ∷ 0x00 ∷ 0x40 ∷ 0x00 ∷ 0x00 ∷ []) (told (Err (Unknown 10)) 0 0 0 0) ∷
    -- another item where one is wanted, cut off
    file_of (0x01 ∷ 0x00 ∷ 0x00 ∷ 0x02 ∷ 0x31 ∷ 0x00 ∷ 0x01 ∷ 0x24 ∷ []) (told (Err (Unknown 7)) 0 0 0 0) ∷
    -- a record where an item is wanted
    file_of (0x01 ∷ 0x00 ∷ 0x00 ∷ 0x02 ∷ 0x31 ∷ 0x00 ∷ 0x01 ∷ 0x11 ∷ 0x00 ∷ []) (told (Err (Unknown 7)) 0 0 0 0) ∷
    -- an aggregate where a key is wanted
    file_of (0x01 ∷ 0x00 ∷ 0x00 ∷ 0x02 ∷ 0x20 ∷ 0x00 ∷ 0x00 ∷ 0x31 ∷ 0x00 ∷ 0x00 ∷ 0x37 ∷ 0x00 ∷ 0x00 ∷ 0x00 ∷ 0x01 ∷ 0x00 ∷ 0x01 ∷ 0x40 ∷ 0x00 ∷ 0x00
    ∷ [])
    (told (Err (Unknown 17)) 0 0 0 0) ∷
    -- a column of kind 6
    file_of (0x01 ∷ 0x00 ∷ 0x00 ∷ 0x06 ∷ []) (told (Err (Unknown 0)) 0 0 0 0) ∷
    -- a Null of kind 0
    file_of (0x10 ∷ 0x00 ∷ []) (told (Err (Unknown 0)) 0 0 0 0) ∷
    -- a Boolean of 2
    file_of (0x11 ∷ 0x02 ∷ []) (told (Err (Unknown 0)) 0 0 0 0) ∷
    -- a code and a handle
    file_of (0x21 ∷ 0x04 ∷ 0x00 ∷ 0x09 ∷ []) (told (Err (Unknown 0)) 0 0 0 0) ∷
    -- a code in a short body
    file_of (0x21 ∷ 0x04 ∷ []) (told (Err (Short 0)) 0 0 0 0) ∷
    -- a column not there
    file_of (0x20 ∷ 0x00 ∷ 0x00 ∷ []) (told (Err (Handle 0)) 0 0 0 0) ∷
    -- an expression of itself
    file_of (0x21 ∷ 0x00 ∷ 0x00 ∷ 0x00 ∷ []) (told (Err (Handle 0)) 0 0 0 0) ∷
    -- an operand that is its nary
    file_of (0x23 ∷ 0x00 ∷ 0x00 ∷ 0x01 ∷ 0x24 ∷ 0x00 ∷ 0x00 ∷ []) (told (Err (Handle 4)) 0 0 0 0) ∷
    -- an operator of itself
    file_of (0x39 ∷ 0x00 ∷ 0x00 ∷ []) (told (Err (Handle 0)) 0 0 0 0) ∷
    -- a marker not there
    file_of (0x11 ∷ 0x00 ∷ 0x31 ∷ 0x00 ∷ 0x00 ∷ 0x3D ∷ 0x00 ∷ 0x00 ∷ 0x00 ∷ 0x00 ∷ 0x00 ∷ 0x00 ∷ 0x00 ∷ 0x00 ∷ []) (told (Err (Handle 5)) 0 0 0 0) ∷
    -- a column in a second Scan
    file_of (0x01 ∷ 0x00 ∷ 0x00 ∷ 0x02 ∷ 0x30 ∷ 0x00 ∷ 0x00 ∷ 0x00 ∷ 0x01 ∷ 0x40 ∷ 0x00 ∷ 0x00 ∷ 0x30 ∷ 0x00 ∷ 0x01 ∷ 0x00 ∷ 0x01 ∷ 0x40 ∷ 0x00 ∷ 0x00
    ∷ [])
    (told (Err (ScannedTwice 17)) 0 0 0 0) ∷
    -- the second item
    file_of (0x01 ∷ 0x00 ∷ 0x00 ∷ 0x02 ∷ 0x01 ∷ 0x00 ∷ 0x00 ∷ 0x02 ∷ 0x30 ∷ 0x00 ∷ 0x00 ∷ 0x00 ∷ 0x01 ∷ 0x40 ∷ 0x00 ∷ 0x00 ∷ 0x30 ∷ 0x00 ∷ 0x01 ∷ 0x00
    ∷ 0x02 ∷
    0x40 ∷ 0x00 ∷ 0x01 ∷ 0x40 ∷ 0x00 ∷ 0x00 ∷ []) (told (Err (ScannedTwice 24)) 0 0 0 0) ∷
    -- a column not there in a second Scan
    file_of (0x01 ∷ 0x00 ∷ 0x00 ∷ 0x02 ∷ 0x30 ∷ 0x00 ∷ 0x00 ∷ 0x00 ∷ 0x01 ∷ 0x40 ∷ 0x00 ∷ 0x00 ∷ 0x30 ∷ 0x00 ∷ 0x01 ∷ 0x00 ∷ 0x01 ∷ 0x40 ∷ 0x00 ∷ 0x01
    ∷ [])
    (told (Err (Handle 17)) 0 0 0 0) ∷
    -- a column twice in one Scan
    file_of (0x01 ∷ 0x00 ∷ 0x00 ∷ 0x02 ∷ 0x30 ∷ 0x00 ∷ 0x00 ∷ 0x00 ∷ 0x03 ∷ 0x40 ∷ 0x00 ∷ 0x00 ∷ 0x40 ∷ 0x00 ∷ 0x00 ∷ 0x40 ∷ 0x00 ∷ 0x00 ∷ [])
    (told (Ok tt) 1 0 1 3) ∷
    -- a column reference after a Scan
    file_of (0x01 ∷ 0x00 ∷ 0x00 ∷ 0x02 ∷ 0x01 ∷ 0x00 ∷ 0x00 ∷ 0x02 ∷ 0x30 ∷ 0x00 ∷ 0x00 ∷ 0x00 ∷ 0x01 ∷ 0x40 ∷ 0x00 ∷ 0x00 ∷ 0x30 ∷ 0x00 ∷ 0x00 ∷ 0x00
    ∷ 0x01 ∷
    0x40 ∷ 0x00 ∷ 0x01 ∷ 0x20 ∷ 0x00 ∷ 0x00 ∷ []) (told (Ok tt) 2 1 2 2) ∷
    -- a ConstScan of a column before its Scan
    file_of (0x01 ∷ 0x00 ∷ 0x00 ∷ 0x02 ∷ 0x31 ∷ 0x00 ∷ 0x01 ∷ 0x40 ∷ 0x00 ∷ 0x00 ∷ 0x30 ∷ 0x00 ∷ 0x00 ∷ 0x00 ∷ 0x01 ∷ 0x40 ∷ 0x00 ∷ 0x00 ∷ [])
    (told (Ok tt) 1 0 2 2) ∷
    -- an Aggregation
    file_of (0x01 ∷ 0x00 ∷ 0x07 ∷ 0x01 ∷ 0x01 ∷ 0xFF ∷ 0xFF ∷ 0x05 ∷ 0x11 ∷ 0x01 ∷ 0x10 ∷ 0x03 ∷ 0x31 ∷ 0x00 ∷ 0x00 ∷ 0x31 ∷ 0x00 ∷ 0x00 ∷ 0x37 ∷ 0x00
    ∷ 0x01 ∷
    0x00 ∷ 0x02 ∷ 0x00 ∷ 0x01 ∷ 0x43 ∷ 0x00 ∷ 0x00 ∷ 0x43 ∷ 0x00 ∷ 0x01 ∷ 0x40 ∷ 0x00 ∷ 0x01 ∷ []) (told (Ok tt) 2 2 3 3) ∷
    []

unfoldable pub AllOf : List Case → Type 0
AllOf [] = Unit {0}
AllOf (c ∷ cs) = (told_of c.0 ≡ c.1) × AllOf cs

pub files-read : AllOf files
unfolding AllOf files told_of code_from word_from bits_from record_from kind_wanted kind_ok fault_of append_of less_one wanted_after scans_after
    appended_step judged_step
    row_step record_step step_of start_state steps_of answer_of read_of row_of line_of handle_ok count_of more_of empty_plan append_column append_expr
    append_operator
    append_item
files-read = (
  refl,
  (
    refl,
    (
      refl,
      (
        refl,
        (
          refl,
          (
            refl,
            (
              refl,
              (
                refl,
                (
                  refl,
                  (
                    refl,
                    (
                      refl,
                      (
                        refl,
                        (
                          refl,
                          (refl, (refl, (refl, (refl, (refl, (refl, (refl, (refl, (refl, (refl, (refl, (refl, (refl, (refl, (refl, tt))))))))))))))),
                        ),
                      ),
                    ),
                  ),
                ),
              ),
            ),
          ),
        ),
      ),
    ),
  ),
)

-- the listing's tables, entry by entry
unfoldable pub listing : List ℕ
unfolding files
listing = (get_or files 0 ([], told (Ok tt) 0 0 0 0)).0

abbrev pub entry : ℕ → ℕ → ℕ → ℕ → ℕ → Record
entry k c a b bits = record { kind = k; code = c; a = a; b = b; c = 0; d = 0; bits = bits }

pub listing-columns : map (column_record (read_of listing).plan) (0 ∷ 1 ∷ []) ≡ entry 0x01 2 0 0 0 ∷ entry 0x01 2 1 0 0 ∷ []
unfolding listing files code_from word_from bits_from record_from kind_wanted kind_ok fault_of append_of less_one wanted_after scans_after
    appended_step judged_step
    row_step record_step step_of start_state steps_of answer_of read_of row_of line_of handle_ok count_of more_of empty_plan append_column append_expr
    append_operator
    append_item
listing-columns = refl

pub listing-expressions :
    map (expr_record (read_of listing).plan) (0 ∷ 1 ∷ 2 ∷ 3 ∷ 4 ∷ 5 ∷ []) ≡
    entry 0x20 0 0 0 0 ∷ entry 0x20 0 1 0 0 ∷ entry 0x22 0 0 1 0 ∷ entry 0x12 0 0 0 7 ∷ entry 0x22 2 1 3 0 ∷ entry 0x23 0 2 0 0 ∷ []
unfolding listing files code_from word_from bits_from record_from kind_wanted kind_ok fault_of append_of less_one wanted_after scans_after
    appended_step judged_step
    row_step record_step step_of start_state steps_of answer_of read_of row_of line_of handle_ok count_of more_of empty_plan append_column append_expr
    append_operator
    append_item
listing-expressions = refl

pub listing-operators : map (operator_record (read_of listing).plan) (0 ∷ 1 ∷ []) ≡ entry 0x30 0 0 2 0 ∷ entry 0x33 0 5 0 0 ∷ []
unfolding listing files code_from word_from bits_from record_from kind_wanted kind_ok fault_of append_of less_one wanted_after scans_after
    appended_step judged_step
    row_step record_step step_of start_state steps_of answer_of read_of row_of line_of handle_ok count_of more_of empty_plan append_column append_expr
    append_operator
    append_item
listing-operators = refl

pub listing-items : map (item_record (read_of listing).plan) (0 ∷ 1 ∷ 2 ∷ 3 ∷ []) ≡ entry 0 0 2 0 0 ∷ entry 0 0 4 0 0 ∷ entry 0 0 0 0 0 ∷ entry 0 0 1
    0 0 ∷ []
unfolding listing files code_from word_from bits_from record_from kind_wanted kind_ok fault_of append_of less_one wanted_after scans_after
    appended_step judged_step
    row_step record_step step_of start_state steps_of answer_of read_of row_of line_of handle_ok count_of more_of empty_plan append_column append_expr
    append_operator
    append_item
listing-items = refl

pub listing-starts : map (expr_start (read_of listing).plan) (4 ∷ 5 ∷ []) ≡ 0 ∷ 0 ∷ []
unfolding listing files code_from word_from bits_from record_from kind_wanted kind_ok fault_of append_of less_one wanted_after scans_after
    appended_step judged_step
    row_step record_step step_of start_state steps_of answer_of read_of row_of line_of handle_ok count_of more_of empty_plan append_column append_expr
    append_operator
    append_item
listing-starts = refl

pub listing-operator-starts : map (operator_start (read_of listing).plan) (0 ∷ 1 ∷ []) ≡ 2 ∷ 4 ∷ []
unfolding listing files code_from word_from bits_from record_from kind_wanted kind_ok fault_of append_of less_one wanted_after scans_after
    appended_step judged_step
    row_step record_step step_of start_state steps_of answer_of read_of row_of line_of handle_ok count_of more_of empty_plan append_column append_expr
    append_operator
    append_item
listing-operator-starts = refl
