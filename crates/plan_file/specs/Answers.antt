-- How a reading ended, in the numbers of the rules. Assumes nothing.
use Rattle.std.specs.Prelude.{ℕ, Bool, true, false, Ok, Err, Result}
use Rattle.plan.specs.declared.AppendError.{AppendError}
use Rattle.plan.specs.declared.AppendError.TheVariants.{Room as Full}
use Rattle.plan_file.specs.declared.ReadError.{ReadError}
use Rattle.plan_file.specs.declared.ReadError.TheVariants.{Short, Unknown, Room, Handle, ScannedTwice}

-- the number of the refusal in the rules (docs/FORMAT.md), 0 for none
abbrev pub refusal_of : Result (Unit {0}) ReadError → ℕ
refusal_of (Ok tt) = 0
refusal_of (Err (Short at)) = 1
refusal_of (Err (Unknown at)) = 2
refusal_of (Err (Room at)) = 3
refusal_of (Err (Handle at)) = 4
refusal_of (Err (ScannedTwice at)) = 5

-- where the faulty record starts, 0 for none
abbrev pub place_of : Result (Unit {0}) ReadError → ℕ
place_of (Ok tt) = 0
place_of (Err (Short at)) = at
place_of (Err (Unknown at)) = at
place_of (Err (Room at)) = at
place_of (Err (Handle at)) = at
place_of (Err (ScannedTwice at)) = at

-- there is no refusal
abbrev pub is_whole : Result (Unit {0}) ReadError → Bool
is_whole (Ok tt) = true
is_whole (Err (Short at)) = false
is_whole (Err (Unknown at)) = false
is_whole (Err (Room at)) = false
is_whole (Err (Handle at)) = false
is_whole (Err (ScannedTwice at)) = false

-- an entry was appended
abbrev pub is_added : Result ℕ AppendError → Bool
is_added (Ok n) = true
is_added (Err Full) = false
