-- Laws of writers: nothing, one byte, one thing after another, and what the buffer holds in the end. Assumes nothing.
use Prim.Native.Nat.{ℕ, ◌+◌, ◌<◌, ◌≤◌}
use mathlib.Core.List.{List, [], ◌∷◌, ◌++◌, append_assoc}
use mathlib.Core.Path.{◌≡◌, refl, sym, ap, ◌∙◌}
use native.Mathlib.Numerals.{add-one}
use lib.ListN.{set, get_or, take, length}
use lib.Seq.{take-suc}
use Rattle.writing.specs.Text.{stored, after, Wrote}
use Rattle.writing.specs.Writers.{written}
use Rattle.writing.specs.declared.Writer.{Writer}
use Rattle.writing.proofs.Wrotes.{wrote_none, wrote_byte, wrote_full, wrote_then, stored-length, decimal_low, decimal_high, digits_more}

-- a writer whose buffer holds q and whose place is r
abbrev moved : Writer → List ℕ → ℕ → Writer
moved w q r = record w { out = record w.out { now = q }; at = r }

-- what Wrote says of the buffer and the place is all that is to be said
pub written_of : (w : Writer) (q : List ℕ) (r : ℕ) (b : List ℕ) → Wrote w.out.now w.at q r b → moved w q r ≡ written w b
unfolding written
written_of w q r b e = λ i. moved w (e.0 i) (e.1 i)

pub written_none : (w : Writer) → written w [] ≡ w
written_none w = sym (written_of w w.out.now w.at [] (wrote_none w.out.now w.at))

pub written_byte : (w : Writer) (b : ℕ) → w.at < length w.out.now → moved w (set w.out.now w.at b) (w.at + 1) ≡ written w (b ∷ [])
written_byte w b l = written_of w _ _ (b ∷ []) (wrote_byte w.out.now w.at b l)

pub written_full : (w : Writer) (b : ℕ) → length w.out.now ≤ w.at → w ≡ written w (b ∷ [])
written_full w b l = written_of w w.out.now w.at (b ∷ []) (wrote_full w.out.now w.at b l)

-- one thing after another
pub written_then : (w : Writer) (x y : List ℕ) → written (written w x) y ≡ written w (x ++ y)
unfolding written
written_then w x y =
    written_of w _ _ (x ++ y)
    (wrote_then w.out.now w.at _ _ _ _ x y (refl, refl) (stored-length x w.out.now w.at) (refl, refl))

-- one byte more of a text
pub written_more :
    (w v : Writer) (s : List ℕ) (i : ℕ) → i < length s → v ≡ written w (take i s) → written v (get_or s i 0 ∷ []) ≡ written w (take (i + 1) s)
written_more w v s i l e = rw (e, written_then, add-one, take-suc {A = ℕ} s i 0 l) refl

-- a buffer that was lent to a writer from its start on holds in the end what the writer left in it
pub written_out :
    (o : List ℕ) (w v : Writer) (b q : List ℕ) → w.out.now ≡ o → w.at ≡ 0 → v ≡ written w b
    → (w.out.ghost_name ≡ v.out.ghost_name → q ≡ v.out.now) → Wrote o 0 q v.at b
unfolding written
written_out o w v b q h k e f = (
  f (sym (ap (λ (x : Writer). x.out.ghost_name) e)) ∙ ap (λ (x : Writer). x.out.now) e ∙ (λ i. stored (h i) (k i) b),
  ap (λ (x : Writer). x.at) e ∙ (λ i. after (length (h i)) (k i) (length b)),
)

-- what the texts of several parts need; and those that are nothing at some values
pub ruleset steps = (written_then, append_assoc)

pub ruleset line_steps = (written_then, written_none, append_assoc)

pub ruleset decimal_steps = (written_then, decimal_low, decimal_high)

pub ruleset hex_steps = (written_then, written_none, digits_more)
