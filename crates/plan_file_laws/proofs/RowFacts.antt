-- What the table of kinds says of items, expressions and operators, by a test over the table. Assumes nothing.
use Prim.Native.Nat.{ℕ, ◌<◌, ◌*◌, ◌+◌}
use mathlib.Core.Path.{◌≡◌, refl}
use mathlib.Core.Bool.{Bool, true, false, ◌&&◌, ◌||◌, not}
use mathlib.Core.List.{List}
use native.Mathlib.Omega.{arith}
use native.Mathlib.Decide.{ℕ_discrete}
use lib.Dec.{eqb}
use lib.ListN.{get_or, drop}
use lib.Seq.{get_or-drop}
use borrow.Author.Tests.{eqb-true, eqb-false, eq-eqb, ne_eqb, lt-ltb, not-true}
use Rattle.laws.proofs.Bools.{and_left, and_right, and_both, or_neg_resolve_left}
use Rattle.plan_kinds.specs.declared.Record.{Record}
use Rattle.plan_kinds.specs.Rows.{Row}
use Rattle.plan_kinds.specs.Rows.{row_of}
use Rattle.plan_kinds.specs.Records.{bits_ok, handle_ok, handles_ok}
use Rattle.plan_kinds.proofs.Table.{holds, every-row}
use Rattle.plan_file.specs.Bytes.{bits_from, record_from}
use Rattle.plan_file_laws.specs.ByteStrings.{Bytes}

-- of a row that is of the sort n, what a test says
said : (n : ℕ) (f : Row → Bool) (k : ℕ) → (not (eqb (row_of k).sort n) || f (row_of k)) ≡ true → (row_of k).sort ≡ n → f (row_of k) ≡ true
said n f k t e = or_neg_resolve_left (eqb (row_of k).sort n) (f (row_of k)) (eq-eqb _ _ e) t

-- ---- items: two numbers at most, none of them an operator
item_test : Row → Bool
item_test r = (eqb r.c 0 && eqb r.d 0) && (not (eqb r.a 4) && not (eqb r.b 4))

item_row : Row → Bool
item_row r = not (eqb r.sort 4) || item_test r

pub record ItemRow (r : Row) : Type 0 where
  pub c : r.c ≡ 0
  pub d : r.d ≡ 0
  pub a : r.a ≡ 4 → ⊥
  pub b : r.b ≡ 4 → ⊥

item-parts : (r : Row) → item_test r ≡ true → ItemRow r
unfolding item_test
item-parts r t =
    let cd = and_left _ _ t in
    let ab = and_right (eqb r.c 0 && eqb r.d 0) _ t in
    record {
      c = eqb-true _ _ (and_left _ _ cd);
      d = eqb-true _ _ (and_right (eqb r.c 0) _ cd);
      a = eqb-false _ _ (not-true _ (and_left _ _ ab));
      b = eqb-false _ _ (not-true _ (and_right (not (eqb r.a 4)) _ ab));
    }

pub item-row : (k : ℕ) → (row_of k).sort ≡ 4 → ItemRow (row_of k)
unfolding item_row item_test holds
item-row k e = item-parts (row_of k) (said 4 item_test k (every-row item_row refl refl k) e)

-- ---- and expressions
expr_row : Row → Bool
expr_row r = not (eqb r.sort 2) || item_test r

pub expr-row : (k : ℕ) → (row_of k).sort ≡ 2 → ItemRow (row_of k)
unfolding expr_row item_test holds
expr-row k e = item-parts (row_of k) (said 2 item_test k (every-row expr_row refl refl k) e)

-- ---- columns: no list
column_test : Row → Bool
column_test r = not (eqb r.a 6) && (not (eqb r.b 6) && not (eqb r.c 6))

column_row : Row → Bool
column_row r = not (eqb r.sort 1) || column_test r

pub record ColumnRow (r : Row) : Type 0 where
  pub a : r.a ≡ 6 → ⊥
  pub b : r.b ≡ 6 → ⊥
  pub c : r.c ≡ 6 → ⊥

pub column-row : (k : ℕ) → (row_of k).sort ≡ 1 → ColumnRow (row_of k)
unfolding column_row column_test holds
column-row k e =
    let t = said 1 column_test k (every-row column_row refl refl k) e in
    let u = and_right (not (eqb (row_of k).a 6)) _ t in
    record {
      a = eqb-false _ _ (not-true _ (and_left _ _ t));
      b = eqb-false _ _ (not-true _ (and_left _ _ u));
      c = eqb-false _ _ (not-true _ (and_right (not (eqb (row_of k).b 6)) _ u));
    }

-- ---- operators and items have no literal
bitless : Row → Bool
bitless r = eqb r.sort 2 || eqb r.bits 0

pub no_bits : (k : ℕ) → ((row_of k).sort ≡ 2 → ⊥) → (row_of k).bits ≡ 0
unfolding bitless holds
no_bits k n =
    let e : (eqb (row_of k).sort 2 || eqb (row_of k).bits 0) ≡ true = every-row bitless refl refl k in
    let f : (false || eqb (row_of k).bits 0) ≡ true = rw (ne_eqb (row_of k).sort 2 n) at e in
    eqb-true _ _ f

-- ---- handles
-- a number that the kind does not have is 0
pub handle-none : (sort v nc ne np : ℕ) → sort ≡ 0 → handle_ok sort 0 nc ne np ≡ true
unfolding handle_ok
handle-none sort v nc ne np e = rw e

-- a handle that is no operator's does not ask how many operators there are
pub handle-any : (sort v nc ne np mp : ℕ) → (sort ≡ 4 → ⊥) → handle_ok sort v nc ne np ≡ true → handle_ok sort v nc ne mp ≡ true
unfolding handle_ok
handle-any sort v nc ne np mp n e = rw (ne_eqb sort 4 n) (rw (ne_eqb sort 4 n) at e)

-- the four handles of a record
pub record Handles (r : Row) (x : Record) (nc ne np : ℕ) : Type 0 where
  pub a : handle_ok r.a x.a nc ne np ≡ true
  pub b : handle_ok r.b x.b nc ne np ≡ true
  pub c : handle_ok r.c x.c nc ne np ≡ true
  pub d : handle_ok r.d x.d nc ne np ≡ true

pub handles : (r : Row) (x : Record) (nc ne np : ℕ) → handles_ok r x nc ne np ≡ true → Handles r x nc ne np
handles r x nc ne np e =
    let three = and_left _ _ e in
    let two = and_left _ _ three in
    record {
      a = and_left _ _ two;
      b = and_right (handle_ok r.a x.a nc ne np) _ two;
      c = and_right (handle_ok r.a x.a nc ne np && handle_ok r.b x.b nc ne np) _ three;
      d = and_right ((handle_ok r.a x.a nc ne np && handle_ok r.b x.b nc ne np) && handle_ok r.c x.c nc ne np) _ e;
    }

pub handles-of : (r : Row) (x : Record) (nc ne np : ℕ) → Handles r x nc ne np → handles_ok r x nc ne np ≡ true
handles-of r x nc ne np h = and_both _ _ (and_both _ _ (and_both _ _ h.a h.b) h.c) h.d

-- a record with the numbers a and b, as the tables of expressions and of items have it, for any number of operators
pub handles-part :
    (r : Row) (x y : Record) (nc ne np mp : ℕ) → ItemRow r → y.a ≡ x.a → y.b ≡ x.b → y.c ≡ 0 → y.d ≡ 0
    → handles_ok r x nc ne np ≡ true → handles_ok r y nc ne mp ≡ true
handles-part r x y nc ne np mp i ea eb ec ed e =
    let h = handles r x nc ne np e in
    handles-of r y nc ne mp
    (record {
      a = rw ea (handle-any r.a x.a nc ne np mp i.a h.a);
      b = rw eb (handle-any r.b x.b nc ne np mp i.b h.b);
      c = rw ec (handle-none r.c 0 nc ne mp i.c);
      d = rw ed (handle-none r.d 0 nc ne mp i.d);
    })

-- ---- a literal that is read out of bytes fits them
pub bytes_drop : (n : ℕ) (s : List ℕ) → Bytes s → Bytes (drop n s)
bytes_drop n s b i = rw (get_or-drop n s i 0) (b (n + i))

bytes4_fit : (a b c d : ℕ) → a < 256 → b < 256 → c < 256 → d < 256 → (a * 256 + b) * 65536 + (c * 256 + d) < 4294967296
bytes4_fit a b c d p q r t = omega arith

pub bits_fit : (s : List ℕ) (r : Row) → Bytes s → bits_ok r (record_from s r) ≡ true
unfolding bits_ok record_from bits_from
bits_fit s r b =
    elim (ℕ_discrete r.bits 8) [
      | yes e ↦ rw (eq-eqb r.bits 8 e)
      | no n ↦ elim (ℕ_discrete r.bits 4) [
        | yes f ↦ rw (ne_eqb r.bits 8 n, eq-eqb r.bits 4 f)
            (lt-ltb _ _ (bytes4_fit (get_or s 1 0) (get_or s 2 0) (get_or s 3 0) (get_or s 4 0) (b 1) (b 2) (b 3) (b 4)))
        | no m ↦ rw (ne_eqb r.bits 8 n, ne_eqb r.bits 4 m)
      ]
    ]
