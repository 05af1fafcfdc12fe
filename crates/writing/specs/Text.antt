-- What is written: bytes behind others, decimal numbers, lines. Assumes nothing.
use Rattle.std.specs.Prelude.{ℕ, zero, suc, ◌+◌, ◌/◌, ◌%◌, min, cond, List, [], ◌∷◌, ◌++◌, ◌≡◌, ltb, ℤ, pos, negsuc, length, set}

-- the bytes b stored into o from a on; what would lie past the end of o is left out
unfoldable pub stored : List ℕ → ℕ → List ℕ → List ℕ
stored o a [] = o
stored o a (x ∷ b) = stored (set o a x) (suc a) b

-- where n bytes from a on end in a buffer of m bytes: at its end at the latest, and where they start if that is past it
unfoldable pub after : ℕ → ℕ → ℕ → ℕ
after m a n = cond (ltb a m) (min (a + n) m) a

-- o is the buffer before and q after the bytes b were written from a on, which ended at r
abbrev pub Wrote : List ℕ → ℕ → List ℕ → ℕ → List ℕ → Type 0
Wrote o a q r b = (q ≡ stored o a b) × (r ≡ after (length o) a (length b))

-- a number in decimal; the first argument bounds the digits
unfoldable pub decimal_by : ℕ → ℕ → List ℕ
decimal_by zero n = []
decimal_by (suc k) n = cond (ltb n 10) ((48 + n) ∷ []) (decimal_by k (n / 10) ++ ((48 + n % 10) ∷ []))

unfoldable pub decimal_of : ℕ → List ℕ
decimal_of n = decimal_by (suc n) n

abbrev pub signed_of : ℤ → List ℕ
signed_of (pos k) = decimal_of k
signed_of (negsuc k) = 45 ∷ decimal_of (k + 1)

-- the lines of 0, 1, .. n - 1
unfoldable pub lines : ℕ → (ℕ → List ℕ) → List ℕ
lines zero f = []
lines (suc n) f = lines n f ++ f n
