-- What every row of the table of kinds has, by a test over the table. Assumes nothing.
use Prim.Native.Nat.{ℕ, ◌≤◌, ◌<◌}
use mathlib.Core.Path.{◌≡◌, refl}
use mathlib.Core.Bool.{Bool, true, false, cond, ◌&&◌, ◌||◌, not}
use mathlib.Core.List.{List, [], ◌∷◌}
use native.Mathlib.Omega.{arith}
use lib.Dec.{leb, eqb}
use borrow.Author.Tests.{eqb-true, leb-true, eq-eqb, ne_eqb}
use Rattle.laws.proofs.Bools.{and_left, and_right, or_neg_resolve_left}
use Rattle.plan_kinds.specs.Rows.{Row}
use Rattle.plan_kinds.specs.Rows.{Line, kinds, unlisted, line_of, row_of}

unfoldable pub holds : (Row → Bool) → List Line → Bool
holds f [] = true
holds f (l ∷ ls) = f l.row && holds f ls

either : (f : Row → Bool) (t : Bool) (r s : Row) → f r ≡ true → f s ≡ true → f (cond t r s) ≡ true
either f true r s a b = a
either f false r s a b = b

every : (f : Row → Bool) (k : ℕ) (ls : List Line) → f unlisted ≡ true → holds f ls ≡ true → f (line_of ls k) ≡ true
unfolding line_of holds
every f k [] u e = u
every f k (l ∷ ls) u e =
    either f (eqb k l.kind) l.row (line_of ls k) (and_left _ _ e) (every f k ls u (and_right (f l.row) _ e))

pub every-row : (f : Row → Bool) → f unlisted ≡ true → holds f kinds ≡ true → (k : ℕ) → f (row_of k) ≡ true
unfolding row_of
every-row f u e k = every f k kinds u e

-- columns have the kind codes 1 to 5
column_codes : Row → Bool
column_codes r = not (eqb r.sort 1) || (eqb r.low 1 && eqb r.high 5)

pub column_codes_lem : (k : ℕ) → (row_of k).sort ≡ 1 → ((row_of k).low ≡ 1) × ((row_of k).high ≡ 5)
unfolding column_codes holds
column_codes_lem k e =
    let h = or_neg_resolve_left (eqb (row_of k).sort 1) _ (eq-eqb _ _ e) (every-row column_codes refl refl k) in
    (eqb-true _ _ (and_left _ _ h), eqb-true _ _ (and_right (eqb (row_of k).low 1) _ h))

-- a listed record takes two bytes at least
long : Row → Bool
long r = eqb r.sort 0 || leb 2 r.length

pub long-row : (k : ℕ) → 0 < (row_of k).sort → 2 ≤ (row_of k).length
unfolding long holds
long-row k h =
    let e : (eqb (row_of k).sort 0 || leb 2 (row_of k).length) ≡ true = every-row long refl refl k in
    let n : (false || leb 2 (row_of k).length) ≡ true = rw (ne_eqb (row_of k).sort 0 (λ z. omega arith)) at e in
    leb-true _ _ n

-- what is counted in a or b is items
item_kinds : Row → Bool
item_kinds r = (not (eqb r.a 6) && not (eqb r.b 6)) || eqb (row_of r.item).sort 4

pub item-kinds : (k : ℕ) → ((not (eqb (row_of k).a 6) && not (eqb (row_of k).b 6)) || eqb (row_of (row_of k).item).sort 4) ≡ true
unfolding item_kinds holds row_of line_of
item-kinds k = every-row item_kinds refl refl k

-- an expression has two numbers at most
two_words : Row → Bool
two_words r = not (eqb r.sort 2) || (eqb r.c 0 && eqb r.d 0)

pub two_words_lem : (k : ℕ) → (row_of k).sort ≡ 2 → (row_of k).c ≡ 0
unfolding two_words holds
two_words_lem k e = eqb-true _ _ (and_left _ _ (or_neg_resolve_left (eqb (row_of k).sort 2) _ (eq-eqb _ _ e) (every-row two_words refl refl k)))
