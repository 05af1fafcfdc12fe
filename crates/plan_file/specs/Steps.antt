-- What a byte string means: the state of a reading, the step of one record, and the whole. Assumes nothing.
use Rattle.std.specs.Prelude.{ℕ, zero, suc, ◌+◌, ◌-◌, Bool, false, cond, ◌&&◌, ◌||◌, not, List, ltb, leb, eqb, get_or, set, replicate, length, drop}
use Rattle.std.specs.Prelude.{Ok, Err, Result}
use Rattle.plan_kinds.specs.declared.Record.{Record}
use Rattle.plan_kinds.specs.Rows.{Row}
use Rattle.plan_kinds.specs.Rows.{row_of, columns, expressions, operators, items}
use Rattle.plan_kinds.specs.Records.{code_ok, handles_ok, count_of, more_of}
use Rattle.plan.specs.declared.Plan.{Plan}
use Rattle.plan.specs.Append.{Appended}
use Rattle.plan.specs.Plans.{empty_plan}
use Rattle.plan.specs.Append.{append_column, append_expr, append_operator, append_item}
use Rattle.plan_file.specs.declared.Wanted.{Wanted}
use Rattle.plan_file.specs.State.{State}
use Rattle.plan_file.specs.Answer.{Answer}
use Rattle.plan_file.specs.declared.ReadError.{ReadError}
use Rattle.plan_file.specs.declared.ReadError.TheVariants.{Short, Unknown, Room, Handle, ScannedTwice}
use Rattle.plan_file.specs.Bytes.{record_from}
use Rattle.plan_file.specs.Answers.{is_whole, is_added}

-- the kind of item that is wanted next, 0 where none is
unfoldable pub kind_wanted : Wanted → ℕ
kind_wanted w = cond (ltb 0 w.left) w.item (cond (ltb 0 w.more) 0x40 0)

-- an item of the wanted kind where one is wanted, else a listed kind that is no item
unfoldable pub kind_ok : Row → Record → Wanted → Bool
kind_ok r x w = cond (eqb (kind_wanted w) 0) (ltb 0 r.sort && ltb r.sort items) (eqb x.kind (kind_wanted w))

-- the item is a column of a Scan, and another Scan has it; there are np operators, the last one being the Scan that is read
abbrev pub scanned_twice : Row → Record → Wanted → List ℕ → ℕ → Bool
scanned_twice r x w scans np =
    ((eqb r.sort items && w.scan) && not (eqb (get_or scans x.a 0) 0)) && not (eqb (get_or scans x.a 0) np)

-- the tests of a record but the last: kind, whole body (n bytes are left with its kind's), code, handles, one Scan
unfoldable pub fault_of : Row → Record → ℕ → State → Result (Unit {0}) ReadError
fault_of r x n q =
    cond (kind_ok r x q.wanted)
    (cond (leb r.length n)
    (cond (code_ok r x)
    (cond (handles_ok r x q.plan.columns.count q.plan.expressions.count q.plan.operators.count)
    (cond (scanned_twice r x q.wanted q.scans q.plan.operators.count)
    (Err (ScannedTwice q.at))
    (Ok tt))
    (Err (Handle q.at)))
    (Err (Unknown q.at)))
    (Err (Short q.at)))
    (Err (Unknown q.at))

-- a record takes the next handle of its sort, an item the next place; a list starts where the next item is to stand
unfoldable pub append_of : Plan → Row → Record → Appended
append_of p r x =
    cond (eqb r.sort columns) (append_column p x)
    (cond (eqb r.sort expressions) (append_expr p x p.items.count)
    (cond (eqb r.sort operators) (append_operator p x p.items.count)
    (append_item p x)))

-- the items that are to follow a record
abbrev pub list_of : Row → Record → Wanted
list_of r x = record { item = r.item; left = count_of r x; more = more_of r x; scan = eqb x.kind 0x30 }

-- one item less
unfoldable pub less_one : Wanted → Wanted
less_one w =
    cond (ltb 0 w.left)
    (record { item = w.item; left = w.left - 1; more = w.more; scan = w.scan })
    (record { item = w.item; left = w.left; more = w.more - 1; scan = w.scan })

-- what is wanted after a record
unfoldable pub wanted_after : Row → Record → Wanted → Wanted
wanted_after r x w = cond (eqb r.sort items) (less_one w) (list_of r x)

-- a Scan's item marks its column with the Scan's handle and one: there are np operators, of which the Scan is the last
unfoldable pub scans_after : Row → Record → Wanted → List ℕ → ℕ → List ℕ
scans_after r x w scans np = cond (eqb r.sort items && w.scan) (set scans x.a np) scans

abbrev pub refused_by : State → Result (Unit {0}) ReadError → State
refused_by q k = record { at = q.at; reading = k; wanted = q.wanted; scans = q.scans; plan = q.plan }

-- a record is taken into the plan p
abbrev pub taken_by : State → Row → Record → Plan → State
taken_by q r x p =
    record {
      at = q.at + r.length;
      reading = (Ok tt);
      wanted = wanted_after r x q.wanted;
      scans = scans_after r x q.wanted q.scans q.plan.operators.count;
      plan = p;
    }

-- the last test: room in the plan
unfoldable pub appended_step : State → Row → Record → Appended → State
appended_step q r x a = cond (is_added a.added) (taken_by q r x a.plan) (refused_by q (Err (Room q.at)))

-- a record is refused by the tests, or appended
unfoldable pub judged_step : State → Row → Record → Result (Unit {0}) ReadError → State
judged_step q r x k = cond (is_whole k) (appended_step q r x (append_of q.plan r x)) (refused_by q k)

-- the record that begins s, of the row r
unfoldable pub row_step : List ℕ → State → Row → State
row_step s q r = judged_step q r (record_from s r) (fault_of r (record_from s r) (length s) q)

-- the record that begins s
unfoldable pub record_step : List ℕ → State → State
record_step s q = row_step s q (row_of (get_or s 0 0))

-- the reading has ended: by a refusal, or at the end of the n bytes with no item wanted
abbrev pub done_at : ℕ → ℕ → Result (Unit {0}) ReadError → Wanted → Bool
done_at n at k w = not (is_whole k) || (leb n at && eqb (kind_wanted w) 0)

abbrev pub is_done : ℕ → State → Bool
is_done n q = done_at n q.at q.reading q.wanted

-- one record more; where an item is wanted the bytes may end
unfoldable pub step_of : List ℕ → State → State
step_of s q =
    cond (is_done (length s) q) q
    (cond (leb (length s) q.at) (refused_by q (Err (Short q.at)))
    (record_step (drop q.at s) q))

unfoldable pub start_state : State
start_state =
    record {
      at = 0;
      reading = (Ok tt);
      wanted = record { item = 0; left = 0; more = 0; scan = false };
      scans = replicate 64 0;
      plan = empty_plan;
    }

unfoldable pub steps_of : List ℕ → ℕ → State
steps_of s zero = start_state
steps_of s (suc k) = step_of s (steps_of s k)

-- a refusal hands back the empty plan
unfoldable pub answer_of : State → Answer
answer_of q = record { plan = cond (is_whole q.reading) q.plan empty_plan; reading = q.reading }

-- each record takes two bytes at least (long-row, finished), so as many steps as there are bytes are enough
unfoldable pub read_of : List ℕ → Answer
read_of s = answer_of (steps_of s (length s))
