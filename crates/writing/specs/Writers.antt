-- A writer after bytes were written: its buffer has those bytes from its place on, and its place is behind them. Assumes nothing.
use Rattle.std.specs.Prelude.{List, ℕ, length}
use Rattle.writing.specs.Text.{stored, after}
use Rattle.writing.specs.declared.Writer.{Writer}

unfoldable pub written : Writer → List ℕ → Writer
written w b = record w { out = record w.out { now = stored w.out.now w.at b }; at = after (length w.out.now) w.at (length b) }
