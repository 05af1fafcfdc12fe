-- SQL's law: what makes AND and OR of two and of any number TRUE and FALSE, and that on the codes AND is the lesser, OR the greater and NOT the mirror.
-- Assumes nothing.
use mathlib.Core.Path.{◌≡◌, refl, sym, ap, ap₂, ◌∙◌}
use mathlib.Core.Bool.{Bool, true, false, cond, ◌&&◌, ◌||◌, true≢false}
use mathlib.Core.Bool as B
use mathlib.Core.List.{List, [], ◌∷◌, ◌++◌}
use Prim.Native.Nat.{ℕ, ◌-◌, ◌<◌, ◌≤◌, min, max}
use native.Mathlib.Omega.{arith}
use lib.Dec.{ltb, eqb}
use borrow.Author.Tests.{eqb-true, ltb-true, ltb-false, ne_eqb}
use Rattle.std.specs.List.{list_all}
use Rattle.lists.specs.Ranges.{all_from}
use Rattle.lists.proofs.RangeLaws.{grid}
use Rattle.truth.specs.Truth.{is_false_code, is_true_code, and_t, or_t, not_t, all_of, any_of, every, some, code_read}

-- ---- two truth values
-- no number is two
eqb_apart : (x m n : ℕ) → eqb m n ≡ false → (eqb x m && eqb x n) ≡ false
eqb_apart x m n d = go (eqb x m) refl
  where
    go : (b : Bool) → eqb x m ≡ b → (b && eqb x n) ≡ false
    go true e = ap (λ (k : ℕ). eqb k n) (eqb-true x m e) ∙ d
    go false e = refl

-- AND and OR are one law, in which a side that loses loses for both, and both must win
module _ (lose win : ℕ) (apart-codes : eqb lose win ≡ false) (lost : eqb lose lose ≡ true) (lost-win : eqb win lose ≡ false) (won : eqb win win ≡
    true)
    (unknown-lose : eqb 1 lose ≡ false) (unknown-win : eqb 1 win ≡ false) where
  abbrev both : ℕ → ℕ → ℕ
  both x y = cond (eqb x lose || eqb y lose) lose (cond (eqb x win && eqb y win) win 1)

  both_win : (x y : ℕ) → eqb (both x y) win ≡ (eqb x win && eqb y win)
  both_win x y = go (eqb x lose) (eqb y lose) (eqb x win) (eqb y win) (eqb_apart x lose win apart-codes) (eqb_apart y lose win apart-codes)
    where
      go : (a b c d : Bool) → (a && c) ≡ false → (b && d) ≡ false → eqb (cond (a || b) lose (cond (c && d) win 1)) win ≡ (c && d)
      go true b true d p q = absurd (true≢false p)
      go true b false d p q = apart-codes
      go false true c true p q = absurd (true≢false q)
      go false true true false p q = apart-codes
      go false true false false p q = apart-codes
      go false false true true p q = won
      go false false true false p q = unknown-win
      go false false false d p q = unknown-win

  both_lose : (x y : ℕ) → eqb (both x y) lose ≡ (eqb x lose || eqb y lose)
  both_lose x y = go (eqb x lose || eqb y lose) (eqb x win && eqb y win)
    where
      go : (a b : Bool) → eqb (cond a lose (cond b win 1)) lose ≡ a
      go true b = lost
      go false true = lost-win
      go false false = unknown-lose

pub and_t-true : (x y : ℕ) → is_true_code (and_t x y) ≡ (is_true_code x && is_true_code y)
and_t-true = both_win 0 2 refl refl refl refl refl refl

pub and_t-false : (x y : ℕ) → is_false_code (and_t x y) ≡ (is_false_code x || is_false_code y)
and_t-false = both_lose 0 2 refl refl refl refl refl refl

pub or_t-true : (x y : ℕ) → is_true_code (or_t x y) ≡ (is_true_code x || is_true_code y)
or_t-true = both_lose 2 0 refl refl refl refl refl refl

pub or_t-false : (x y : ℕ) → is_false_code (or_t x y) ≡ (is_false_code x && is_false_code y)
or_t-false = both_win 2 0 refl refl refl refl refl refl

pub not_t-true : (x : ℕ) → is_true_code (not_t x) ≡ is_false_code x
not_t-true x = go (is_false_code x) (is_true_code x)
  where
    go : (a b : Bool) → is_true_code (cond a 2 (cond b 0 1)) ≡ a
    go true b = refl
    go false true = refl
    go false false = refl

pub not_t-false : (x : ℕ) → is_false_code (not_t x) ≡ is_true_code x
not_t-false x = go (is_false_code x) (is_true_code x) (eqb_apart x 0 2 refl)
  where
    go : (a b : Bool) → (a && b) ≡ false → is_false_code (cond a 2 (cond b 0 1)) ≡ b
    go true true p = absurd (true≢false p)
    go true false p = refl
    go false true p = refl
    go false false p = refl

-- ---- any number of them
-- AND of many is TRUE where each is TRUE, and FALSE where one is FALSE
pub all_true : (l : List ℕ) → is_true_code (all_of l) ≡ every is_true_code l
unfolding all_of every
all_true [] = refl
all_true (x ∷ l) = and_t-true x (all_of l) ∙ ap (λ (b : Bool). is_true_code x && b) (all_true l)

pub all-false : (l : List ℕ) → is_false_code (all_of l) ≡ some is_false_code l
unfolding all_of some
all-false [] = refl
all-false (x ∷ l) = and_t-false x (all_of l) ∙ ap (λ (b : Bool). is_false_code x || b) (all-false l)

-- OR of many is TRUE where one is TRUE, and FALSE where each is FALSE
pub any-true : (l : List ℕ) → is_true_code (any_of l) ≡ some is_true_code l
unfolding any_of some
any-true [] = refl
any-true (x ∷ l) = or_t-true x (any_of l) ∙ ap (λ (b : Bool). is_true_code x || b) (any-true l)

pub any_false : (l : List ℕ) → is_false_code (any_of l) ≡ every is_false_code l
unfolding any_of every
any_false [] = refl
any_false (x ∷ l) = or_t-false x (any_of l) ∙ ap (λ (b : Bool). is_false_code x && b) (any_false l)

-- what a loop over a list, or its iterator's `all`, tests is that each member passes
pub every_all : (f : ℕ → Bool) (l : List ℕ) → list_all f l ≡ every f l
unfolding every
every_all f [] = refl
every_all f (x ∷ l) = ap (λ (b : Bool). f x && b) (every_all f l)

-- ---- the codes: a test at every entry, which antt computes
module _ (f g : ℕ → ℕ → ℕ) where
  abbrev pub agree : Bool
  agree = all_from (λ (x : ℕ). all_from (λ (y : ℕ). eqb (f x y) (g x y)) 0 3) 0 3

  pub at_codes : agree ≡ true → (x y : ℕ) → x < 3 → y < 3 → f x y ≡ g x y
  at_codes e x y p q = eqb-true (f x y) (g x y) (grid (λ (x y : ℕ). eqb (f x y) (g x y)) 3 3 e x y p q)

pub and-min : (x y : ℕ) → x < 3 → y < 3 → and_t x y ≡ min x y
unfolding all_from
and-min = at_codes and_t min refl

pub or_max : (x y : ℕ) → x < 3 → y < 3 → or_t x y ≡ max x y
unfolding all_from
or_max = at_codes or_t max refl

pub not_mirror : (x : ℕ) → x < 3 → not_t x ≡ 2 - x
unfolding all_from
not_mirror x p = at_codes (λ (x y : ℕ). not_t x) (λ (x y : ℕ). 2 - x) refl x 0 p (omega arith)

-- TRUE in an AND and FALSE in an OR change nothing; NOT undoes itself
pub and_unit : (x : ℕ) → x < 3 → and_t 2 x ≡ x
unfolding all_from
and_unit x p = at_codes (λ (x y : ℕ). and_t 2 x) (λ (x y : ℕ). x) refl x 0 p (omega arith)

pub or_unit : (x : ℕ) → x < 3 → or_t 0 x ≡ x
unfolding all_from
or_unit x p = at_codes (λ (x y : ℕ). or_t 0 x) (λ (x y : ℕ). x) refl x 0 p (omega arith)

pub not_t-not_t : (x : ℕ) → x < 3 → not_t (not_t x) ≡ x
unfolding all_from
not_t-not_t x p = at_codes (λ (x y : ℕ). not_t (not_t x)) (λ (x y : ℕ). x) refl x 0 p (omega arith)

-- ---- order and grouping, of any numbers
pub and_t_comm : (x y : ℕ) → and_t x y ≡ and_t y x
and_t_comm x y = ap₂ (λ (a b : Bool). cond a 0 (cond b 2 1)) (B.or_comm (is_false_code x) (is_false_code y)) (B.and_comm (is_true_code x)
    (is_true_code y))

pub or_t_comm : (x y : ℕ) → or_t x y ≡ or_t y x
or_t_comm x y = ap₂ (λ (a b : Bool). cond a 2 (cond b 0 1)) (B.or_comm (is_true_code x) (is_true_code y)) (B.and_comm (is_false_code x) (is_false_code
    y))

pub and_t-assoc : (x y z : ℕ) → and_t (and_t x y) z ≡ and_t x (and_t y z)
and_t-assoc x y z =
    ap₂ (λ (a b : Bool). cond a 0 (cond b 2 1))
    (ap (λ (a : Bool). a || is_false_code z) (and_t-false x y) ∙ B.or_assoc (is_false_code x) (is_false_code y) (is_false_code z) ∙ ap (λ (a : Bool).
    is_false_code x || a)
    (sym (and_t-false y z)))
    (ap (λ (a : Bool). a && is_true_code z) (and_t-true x y) ∙ B.and_assoc (is_true_code x) (is_true_code y) (is_true_code z) ∙ ap (λ (a : Bool).
    is_true_code x && a) (sym (and_t-true y z)))

pub or_t-assoc : (x y z : ℕ) → or_t (or_t x y) z ≡ or_t x (or_t y z)
or_t-assoc x y z =
    ap₂ (λ (a b : Bool). cond a 2 (cond b 0 1))
    (ap (λ (a : Bool). a || is_true_code z) (or_t-true x y) ∙ B.or_assoc (is_true_code x) (is_true_code y) (is_true_code z) ∙ ap (λ (a : Bool).
    is_true_code x || a) (sym (or_t-true y z)))
    (ap (λ (a : Bool). a && is_false_code z) (or_t-false x y) ∙ B.and_assoc (is_false_code x) (is_false_code y) (is_false_code z) ∙ ap (λ (a : Bool).
    is_false_code x && a)
    (sym (or_t-false y z)))

-- ---- answers are codes
made_code : (a b : Bool) (m n : ℕ) → m < 3 → n < 3 → cond a m (cond b n 1) < 3
made_code true b m n p q = p
made_code false true m n p q = q
made_code false false m n p q = omega arith

pub and-code : (x y : ℕ) → and_t x y < 3
and-code x y = made_code (is_false_code x || is_false_code y) (is_true_code x && is_true_code y) 0 2 (omega arith) (omega arith)

pub or_code : (x y : ℕ) → or_t x y < 3
or_code x y = made_code (is_true_code x || is_true_code y) (is_false_code x && is_false_code y) 2 0 (omega arith) (omega arith)

pub not_code : (x : ℕ) → not_t x < 3
not_code x = made_code (is_false_code x) (is_true_code x) 2 0 (omega arith) (omega arith)

pub all-code : (l : List ℕ) → all_of l < 3
unfolding all_of
all-code [] = omega arith
all-code (x ∷ l) = and-code x (all_of l)

pub any_code : (l : List ℕ) → any_of l < 3
unfolding any_of
any_code [] = omega arith
any_code (x ∷ l) = or_code x (any_of l)

-- AND and OR of two lists, one after the other
pub all_append : (l m : List ℕ) → all_of (l ++ m) ≡ and_t (all_of l) (all_of m)
unfolding all_of
all_append [] m = sym (and_unit (all_of m) (all-code m))
all_append (x ∷ l) m = ap (and_t x) (all_append l m) ∙ sym (and_t-assoc x (all_of l) (all_of m))

pub any_append : (l m : List ℕ) → any_of (l ++ m) ≡ or_t (any_of l) (any_of m)
unfolding any_of
any_append [] m = sym (or_unit (any_of m) (any_code m))
any_append (x ∷ l) m = ap (or_t x) (any_append l m) ∙ sym (or_t-assoc x (any_of l) (any_of m))

-- ---- what is no code is read as UNKNOWN
pub read_below : (x : ℕ) → code_read x < 3
read_below x = go (ltb x 3) (ltb-true x 3)
  where
    go : (b : Bool) → (b ≡ true → x < 3) → cond b x 1 < 3
    go true f = f refl
    go false f = omega arith

same_as_read : (n : ℕ) → eqb 1 n ≡ false → n < 3 → (x : ℕ) → eqb (code_read x) n ≡ eqb x n
same_as_read n u h x = go (ltb x 3) (ltb-false x 3)
  where
    over : 3 ≤ x → eqb x n ≡ false
    over k = ne_eqb x n (λ e. omega (arith, e, h, k))

    go : (b : Bool) → (b ≡ false → 3 ≤ x) → eqb (cond b x 1) n ≡ eqb x n
    go true f = refl
    go false f = u ∙ sym (over (f refl))

read-false : (x : ℕ) → is_false_code (code_read x) ≡ is_false_code x
read-false = same_as_read 0 refl (omega arith)

read-true : (x : ℕ) → is_true_code (code_read x) ≡ is_true_code x
read-true = same_as_read 2 refl (omega arith)

pub and-read : (x y : ℕ) → and_t (code_read x) (code_read y) ≡ and_t x y
and-read x y = (λ i. cond (read-false x i || read-false y i) 0 (cond (read-true x i && read-true y i) 2 1))

pub or_read : (x y : ℕ) → or_t (code_read x) (code_read y) ≡ or_t x y
or_read x y = (λ i. cond (read-true x i || read-true y i) 2 (cond (read-false x i && read-false y i) 0 1))

pub not-read : (x : ℕ) → not_t (code_read x) ≡ not_t x
not-read x = (λ i. cond (read-false x i) 2 (cond (read-true x i) 0 1))
