-- What is written for an input is decided by its first 65,536 bytes. Assumes nothing.
use Prim.Native.Nat.{ℕ, ◌≤◌}
use mathlib.Core.Path.{◌≡◌, ap}
use mathlib.Core.List.{List}
use native.Mathlib.Omega.{arith}
use lib.ListN.{length, take}
use Rattle.plan_file.specs.Steps.{read_of}
use Rattle.plan_file_laws.proofs.LongFiles.{long_file}
use Rattle.facts_text.specs.FactsText.{facts_text}

-- The text for the first 65,536 bytes, which is all that the program looks at, is the text for the whole input. Assumes nothing.
pub long-input : (s : List ℕ) → 65536 ≤ length s → facts_text (read_of (take 65536 s)) ≡ facts_text (read_of s)
long-input s h = ap facts_text (long_file s 65536 (omega arith) h)
