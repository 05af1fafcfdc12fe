-- A loop that writes line after line: no line, one more, and the end. Assumes nothing.
use Prim.Native.Nat.{ℕ, ◌+◌}
use mathlib.Core.List.{List}
use mathlib.Core.Path.{◌≡◌, sym}
use Rattle.std.proofs.lemmas.List.{get_or-take}
use Rattle.writing.specs.Text.{lines}
use Rattle.writing.specs.Writers.{written}
use Rattle.writing.specs.declared.Writer.{Writer}
use Rattle.writing.proofs.Wrotes.{lines_more}
use Rattle.writing.proofs.Writings.{written_none, written_then}

pub line-none : (w : Writer) (f : ℕ → List ℕ) → written w (lines 0 f) ≡ w
unfolding lines
line-none w f = written_none w

pub line-more : (w : Writer) (n : ℕ) (f : ℕ → List ℕ) → written w (lines (n + 1) f) ≡ written (written w (lines n f)) (f n)
line-more w n f = rw (lines_more n f) (sym (written_then w (lines n f) (f n)))

pub ruleset line_loop = (line-none, line-more)

pub ruleset part_loop = (line-none, line-more, get_or-take)
