-- A walk through an And's operands: what its frame on top does next, and what that makes of it. Assumes nothing.
use Rattle.std.specs.Prelude.{ℕ, ◌+◌, ◌-◌, Bool, cond, ◌&&◌, ◌||◌, List, ltb, leb, eqb, get_or, set, replicate}
use Rattle.plan.specs.declared.Expressions.{Expressions}
use Rattle.apply_walk.specs.declared.Frame.{Frame}
use Rattle.apply_walk.specs.declared.Walk.{Walk}
use Rattle.apply_walk.specs.declared.Move.{Move}
use Rattle.apply_walk.specs.declared.Move.TheVariants.{Pop, Skip, Enter, Found}

-- the expression e is an And
abbrev pub is_and : List ℕ → List ℕ → ℕ → Bool
is_and kind code e = eqb (get_or kind e 0) 0x23 && eqb (get_or code e 0) 0

-- the same of a table of expressions
abbrev pub and_in : Expressions → ℕ → Bool
and_in t e = is_and t.kind t.code e

abbrev pub no_frame : Frame
no_frame = record { owner = 0; at = 0; left = 0 }

-- nothing is left of it
unfoldable pub empty_walk : Walk
empty_walk = record { frames = replicate 1024 no_frame; depth = 0 }

-- the frame k: the And, where its next operand stands among the items, and how many operands are left
abbrev pub frame_at : Walk → ℕ → Frame
frame_at w k = get_or w.frames k no_frame

-- the place of the frame on top
abbrev pub top_of : Walk → ℕ
top_of w = w.depth - 1

-- the frame on top; of a walk without frames one of which nothing is left
abbrev pub top_frame : Walk → Frame
top_frame w = cond (eqb w.depth 0) no_frame (frame_at w (top_of w))

-- one frame more; a walk that has no room for it stays as it was
unfoldable pub pushed : Walk → Frame → Walk
pushed w f = cond (ltb w.depth 1024) (record { frames = set w.frames w.depth f; depth = w.depth + 1 }) w

-- the frame k and those above it are done
abbrev pub popped : Walk → ℕ → Walk
popped w k = record { frames = w.frames; depth = k }

-- a frame with one operand done
abbrev pub less : Frame → Frame
less f = record { owner = f.owner; at = f.at + 1; left = f.left - 1 }

-- one operand of the frame k is done
unfoldable pub passed : Walk → ℕ → Walk
passed w k = record { frames = set w.frames k (less (frame_at w k)); depth = w.depth }

-- all operands of the And e: the tables say where they stand, and how many they are
abbrev pub frame_of : Expressions → ℕ → Frame
frame_of t e = record { owner = e; at = get_or t.start e 0; left = get_or t.a e 0 }

-- they are to come
unfoldable pub entered : Expressions → Walk → ℕ → Walk
entered t w e = pushed w (frame_of t e)

-- the operand e of the And o: one that does not stand before its And counts for nothing, an And is opened, any other is a conjunct
abbrev pub operand_turn : List ℕ → List ℕ → ℕ → ℕ → Move
operand_turn kind code o e = cond (ltb e o) (cond (is_and kind code e) (Enter e) (Found e)) Skip

-- a frame of the And o: none of its operands is left among the items, or the next one's turn has come
unfoldable pub turn_of : List ℕ → List ℕ → List ℕ → ℕ → ℕ → ℕ → Move
turn_of kind code items o at left = cond (eqb left 0 || leb 2048 at) Pop (operand_turn kind code o (get_or items at 0))

-- a frame's turn, and that of a walk: of its frame on top
abbrev pub frame_turn : Expressions → List ℕ → Frame → Move
frame_turn t items f = turn_of t.kind t.code items f.owner f.at f.left

abbrev pub top_turn : Expressions → List ℕ → Walk → Move
top_turn t items w = frame_turn t items (frame_at w (top_of w))

-- what a turn makes of a walk; an And is not entered yet
abbrev pub moved : Walk → Move → Walk
moved w Pop = popped w (top_of w)
moved w Skip = passed w (top_of w)
moved w (Enter e) = passed w (top_of w)
moved w (Found e) = passed w (top_of w)
