-- A table of codes says what a law says, read at any two numbers. Assumes nothing.
use mathlib.Core.Path.{◌≡◌, ap, ap₂, ◌∙◌}
use mathlib.Core.Bool.{true}
use mathlib.Core.List.{List, []}
use Prim.Native.Nat.{ℕ}
use lib.ListN.{get_or}
use Rattle.truth.specs.Truth.{code_read}
use Rattle.truth.proofs.TruthLaws.{agree, at_codes, read_below}

abbrev pub entry : List (List ℕ) → ℕ → ℕ → ℕ
entry rows x y = get_or (get_or rows x []) y 0

-- the places x and y are those of the numbers a and b
pub looked : (rows : List (List ℕ)) (law : ℕ → ℕ → ℕ) → agree (entry rows) law ≡ true → ((a b : ℕ) → law (code_read a) (code_read b) ≡ law a b)
    → (a b x y : ℕ) → x ≡ code_read a → y ≡ code_read b → entry rows x y ≡ law a b
looked rows law e read a b x y p q =
    ap₂ (entry rows) p q ∙ at_codes (entry rows) law e (code_read a) (code_read b) (read_below a) (read_below b) ∙ read a b

-- the same of one row
pub looked-row : (row : List ℕ) (law : ℕ → ℕ) → agree (λ (x y : ℕ). get_or row x 0) (λ (x y : ℕ). law x) ≡ true → ((a : ℕ) → law (code_read a) ≡ law a)
    → (a x : ℕ) → x ≡ code_read a → get_or row x 0 ≡ law a
looked-row row law e read a x p =
    ap (λ (k : ℕ). get_or row k 0) p ∙ at_codes (λ (x y : ℕ). get_or row x 0) (λ (x y : ℕ). law x) e (code_read a) (code_read a) (read_below a) (read_below a)
    ∙ read a
