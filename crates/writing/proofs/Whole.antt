-- What was written from the start of a buffer that has room for it is the whole of it. Assumes nothing.
use Prim.Native.Nat.{ℕ, suc, ◌+◌, ◌≤◌}
use mathlib.Core.List.{List, [], ◌∷◌, ◌++◌, append_assoc, append-nil}
use mathlib.Core.Path.{◌≡◌, sym, ap, ◌∙◌}
use native.Mathlib.Decide.{dec_lt, dec_le}
use native.Mathlib.Nat.{add-zero}
use native.Mathlib.Omega.{arith}
use lib.ListN.{length, take, set, length-set, length-take}
use lib.Seq.{take-suc-set}
use Rattle.io.specs.Counts.{IsPrefixLen}
use Rattle.writing.specs.Text.{stored, Wrote}
use Rattle.writing.proofs.Wrotes.{stored-length, after_in, after-end, after-past}

-- it ends in the buffer
pub wrote_within : (o : List ℕ) (a : ℕ) (q : List ℕ) (r : ℕ) (b : List ℕ) → a ≤ length o → Wrote o a q r b → r ≤ length q
wrote_within o a q r b l w =
    elim (dec_lt a (length o)) [
      | yes g ↦ elim (dec_le (a + length b) (length o)) [
        | yes k ↦ omega (arith, w.1, after_in (length o) a (length b) g k, ap length w.0, stored-length b o a)
        | no k ↦ omega (arith, w.1, after-end (length o) a (length b) g (omega arith), ap length w.0, stored-length b o a)
      ]
      | no g ↦ omega (arith, w.1, after-past (length o) a (length b) (omega arith), ap length w.0, stored-length b o a)
    ]

-- so that what was written can be cut out of it
pub wrote_counts : (o q : List ℕ) (r : ℕ) (b : List ℕ) → Wrote o 0 q r b → IsPrefixLen r q
wrote_counts o q r b w = let l = wrote_within o 0 q r b (omega arith) w in (l, omega (arith, length-take r q))

stored-take : (b o : List ℕ) (a : ℕ) → a + length b ≤ length o → take (a + length b) (stored o a b) ≡ take a o ++ b
unfolding stored
stored-take [] o a l = ap (λ (n : ℕ). take n o) (add-zero a) ∙ sym (append-nil (take a o))
stored-take (x ∷ b) o a l =
    let e : a + suc (length b) ≡ suc a + length b = omega arith in
    ap (λ (n : ℕ). take n (stored (set o a x) (suc a) b)) e
    ∙ stored-take b (set o a x) (suc a) (omega (arith, length-set o a x))
    ∙ ap (λ (t : List ℕ). t ++ b) (take-suc-set o a x (omega arith))
    ∙ append_assoc (take a o) (x ∷ []) b

pub wrote_end : (o q : List ℕ) (r : ℕ) (b : List ℕ) → length b ≤ length o → Wrote o 0 q r b → r ≡ length b
wrote_end o q r b l w =
    elim (dec_lt 0 (length o)) [
      | yes g ↦ omega (arith, w.1, after_in (length o) 0 (length b) g (omega arith))
      | no g ↦ omega (arith, w.1, after-past (length o) 0 (length b) (omega arith))
    ]

pub wrote_whole : (o q : List ℕ) (r : ℕ) (b : List ℕ) → length b ≤ length o → Wrote o 0 q r b → take r q ≡ b
wrote_whole o q r b l w =
    let e : r ≡ 0 + length b = omega (arith, wrote_end o q r b l w) in
    (λ i. take (e i) (w.0 i)) ∙ stored-take b o 0 (omega arith)
