-- The two ways of each appender, over its definition: the table is full, or it has one entry more. Assumes nothing.
use Rattle.std.proofs.Common.{Ok, Err}
use mathlib.Core.Path.{◌≡◌}
use Prim.Native.Nat.{ℕ, ◌<◌, ◌≤◌}
use borrow.Author.Tests.{lt-ltb, le-ltb}
use Rattle.plan_kinds.specs.declared.Record.{Record}
use Rattle.plan.specs.Plans.{expression_pushed, item_pushed, operator_pushed}
use Rattle.plan.specs.declared.AppendError.TheVariants.{Room}
use Rattle.plan.specs.declared.Expressions.{Expressions}
use Rattle.plan.specs.declared.Items.{Items}
use Rattle.plan.specs.declared.Operators.{Operators}
use Rattle.plan_append.specs.Appending.{item_record, grown_to, expr_added, item_added, operator_added}

pub expr-full : (t : Expressions) (x : Record) (start : ℕ) → 1024 ≤ t.count → grown_to t (Err Room) ≡ expr_added t x start
unfolding expr_added
expr-full t x start le = rw (le-ltb t.count 1024 le)

pub expr-fits : (t : Expressions) (x : Record) (start : ℕ) → t.count < 1024 → grown_to (expression_pushed t x start) (Ok t.count) ≡ expr_added t x start
unfolding expr_added
expr-fits t x start lt = rw (lt-ltb t.count 1024 lt)

pub item-full : (t : Items) (x y : ℕ) → 2048 ≤ t.count → grown_to t (Err Room) ≡ item_added t x y
unfolding item_added
item-full t x y le = rw (le-ltb t.count 2048 le)

pub item-fits : (t : Items) (x y : ℕ) → t.count < 2048 → grown_to (item_pushed t (item_record x y)) (Ok t.count) ≡ item_added t x y
unfolding item_added
item-fits t x y lt = rw (lt-ltb t.count 2048 lt)

pub operator-full : (t : Operators) (x : Record) (start : ℕ) → 128 ≤ t.count → grown_to t (Err Room) ≡ operator_added t x start
unfolding operator_added
operator-full t x start le = rw (le-ltb t.count 128 le)

pub operator-fits : (t : Operators) (x : Record) (start : ℕ) → t.count < 128 → grown_to (operator_pushed t x start) (Ok t.count) ≡ operator_added t x start
unfolding operator_added
operator-fits t x start lt = rw (lt-ltb t.count 128 lt)
