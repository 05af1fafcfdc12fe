-- SQL's three truth values (ISO/IEC 9075-2) as codes, 0 FALSE, 1 UNKNOWN, 2 TRUE, and its law for AND, OR and NOT. What is neither 0 nor 2 is UNKNOWN.
-- Assumes nothing.
use Rattle.std.specs.Prelude.{Bool, true, false, cond, ◌&&◌, ◌||◌, List, [], ◌∷◌, ℕ, eqb, ltb}

abbrev pub is_false_code : ℕ → Bool
is_false_code x = eqb x 0

abbrev pub is_true_code : ℕ → Bool
is_true_code x = eqb x 2

-- FALSE where one side is FALSE, TRUE where both are TRUE, else UNKNOWN
abbrev pub and_t : ℕ → ℕ → ℕ
and_t x y = cond (is_false_code x || is_false_code y) 0 (cond (is_true_code x && is_true_code y) 2 1)

-- TRUE where one side is TRUE, FALSE where both are FALSE, else UNKNOWN
abbrev pub or_t : ℕ → ℕ → ℕ
or_t x y = cond (is_true_code x || is_true_code y) 2 (cond (is_false_code x && is_false_code y) 0 1)

-- TRUE and FALSE change places, and UNKNOWN stays
abbrev pub not_t : ℕ → ℕ
not_t x = cond (is_false_code x) 2 (cond (is_true_code x) 0 1)

-- AND and OR of any number of truth values; of none TRUE and FALSE
unfoldable pub all_of : List ℕ → ℕ
all_of [] = 2
all_of (x ∷ l) = and_t x (all_of l)

unfoldable pub any_of : List ℕ → ℕ
any_of [] = 0
any_of (x ∷ l) = or_t x (any_of l)

-- the test f passes on each member, and on one
unfoldable pub every : (ℕ → Bool) → List ℕ → Bool
every f [] = true
every f (x ∷ l) = f x && every f l

unfoldable pub some : (ℕ → Bool) → List ℕ → Bool
some f [] = false
some f (x ∷ l) = f x || some f l

-- a number as a code: one above 2 is UNKNOWN
abbrev pub code_read : ℕ → ℕ
code_read x = cond (ltb x 3) x 1
