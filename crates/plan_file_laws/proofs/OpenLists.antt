-- A list of which items are still wanted: what is known of it, one item more, and that it is whole where none is wanted. Assumes nothing.
use Prim.Native.Nat.{ℕ, ◌+◌, ◌-◌, ◌≤◌, ◌<◌}
use mathlib.Core.Path.{◌≡◌, refl, sym, ap, ◌∙◌, subst}
use native.Mathlib.Omega.{arith}
use native.Mathlib.Decide.{dec_lt}
use lib.Dec.{eqb}
use borrow.Author.Tests.{lt-ltb, le-ltb}
use Rattle.plan_kinds.specs.declared.Record.{Record}
use Rattle.plan_kinds.specs.Rows.{row_of, line_of}
use Rattle.plan_file.specs.declared.Wanted.{Wanted}
use Rattle.plan_file.specs.Steps.{kind_wanted, less_one, list_of}
use Rattle.plan_file.proofs.StepCases.{Wants}
use Rattle.plan_file_laws.specs.ListItems.{first_of, second_of, item_kind}

-- the lists of x start at st, n items being there
pub record Open (w : Wanted) (x : Record) (st n : ℕ) : Type 0 where
  pub begun : st ≤ n
  pub here : st + (first_of x + second_of x) ≡ n + (w.left + w.more)
  pub all : 0 < w.left → w.more ≡ second_of x
  pub part : w.more ≤ second_of x
  pub kind : w.item ≡ (row_of x.kind).item
  pub scan : w.scan ≡ eqb x.kind 0x30

kind-first : (w : Wanted) → 0 < w.left → kind_wanted w ≡ w.item
unfolding kind_wanted
kind-first w h = rw (lt-ltb 0 w.left h)

kind-second : (w : Wanted) → w.left ≤ 0 → 0 < w.more → kind_wanted w ≡ 0x40
unfolding kind_wanted
kind-second w h m = rw (le-ltb 0 w.left h, lt-ltb 0 w.more m)

pub kind-none : (w : Wanted) → w.left ≤ 0 → w.more ≤ 0 → kind_wanted w ≡ 0
unfolding kind_wanted
kind-none w h m = rw (le-ltb 0 w.left h, le-ltb 0 w.more m)

less-first : (w : Wanted) → 0 < w.left → less_one w ≡ record { item = w.item; left = w.left - 1; more = w.more; scan = w.scan }
unfolding less_one
less-first w h = rw (lt-ltb 0 w.left h)

less-second : (w : Wanted) → w.left ≤ 0 → less_one w ≡ record { item = w.item; left = w.left; more = w.more - 1; scan = w.scan }
unfolding less_one
less-second w h = rw (le-ltb 0 w.left h)

unlisted-zero : (row_of 0).sort ≡ 0
unfolding row_of line_of
unlisted-zero = refl

-- where none is wanted, none is left
pub none_left : (w : Wanted) → Wants w → kind_wanted w ≡ 0 → w.left + w.more ≡ 0
none_left w f z =
    elim (dec_lt 0 w.left) [
      | yes l ↦ absurd (let e : w.item ≡ 0 = sym (kind-first w l) ∙ z in
          let g : ◌≡◌ {A = ℕ} 0 4 = sym unlisted-zero ∙ ap (λ (k : ℕ). (row_of k).sort) (sym e) ∙ f l in omega arith)
      | no l ↦ elim (dec_lt 0 w.more) [
        | yes m ↦ absurd (let e : ◌≡◌ {A = ℕ} 0x40 0 = sym (kind-second w (omega arith) m) ∙ z in omega arith)
        | no m ↦ omega arith
      ]
    ]

-- and where one is wanted, one is left
pub some_left : (w : Wanted) → (kind_wanted w ≡ 0 → ⊥) → 0 < w.left + w.more
some_left w n =
    elim (dec_lt 0 (w.left + w.more)) [
      | yes l ↦ l
      | no l ↦ absurd (n (kind-none w (omega arith) (omega arith)))
    ]

-- A list is whole where none is wanted. Assumes nothing.
pub open_shut : (w : Wanted) (x : Record) (st n : ℕ) → Wants w → kind_wanted w ≡ 0 → Open w x st n → st + (first_of x + second_of x) ≡ n
open_shut w x st n f z o = omega (arith, o.here, none_left w f z)

-- The next item is of the wanted kind. Assumes nothing.
pub open_kind : (w : Wanted) (x : Record) (st n : ℕ) → (kind_wanted w ≡ 0 → ⊥) → Open w x st n → item_kind x (n - st) ≡ kind_wanted w
open_kind w x st n z o =
    elim (dec_lt 0 w.left) [
      | yes l ↦ rw (lt-ltb (n - st) (first_of x) (omega (arith, o.here, o.begun, o.all l))) (sym o.kind ∙ sym (kind-first w l))
      | no l ↦ elim (dec_lt 0 w.more) [
        | yes m ↦ rw (le-ltb (n - st) (first_of x) (omega (arith, o.here, o.begun, o.part))) (sym (kind-second w (omega arith) m))
        | no m ↦ absurd (z (kind-none w (omega arith) (omega arith)))
      ]
    ]

-- One item more. Assumes nothing.
pub open_less : (w : Wanted) (x : Record) (st n : ℕ) → (kind_wanted w ≡ 0 → ⊥) → Open w x st n → Open (less_one w) x st (n + 1)
open_less w x st n z o =
    elim (dec_lt 0 w.left) [
      | yes l ↦ subst (λ (v : Wanted). Open v x st (n + 1)) (sym (less-first w l))
          (record { begun = omega (arith, o.begun); here = omega (arith, o.here); all = λ h. o.all l; part = o.part; kind = o.kind; scan = o.scan })
      | no l ↦ elim (dec_lt 0 w.more) [
        | yes m ↦ subst (λ (v : Wanted). Open v x st (n + 1)) (sym (less-second w (omega arith)))
            (record {
              begun = omega (arith, o.begun);
              here = omega (arith, o.here);
              all = λ h. absurd (omega arith);
              part = omega (arith, o.part);
              kind = o.kind;
              scan = o.scan;
            })
        | no m ↦ absurd (z (kind-none w (omega arith) (omega arith)))
      ]
    ]

-- A new record's list. Assumes nothing.
pub open_new : (x y : Record) (n : ℕ) → y.kind ≡ x.kind → first_of y ≡ first_of x → second_of y ≡ second_of x → Open (list_of (row_of x.kind) x) y n n
open_new x y n k a b =
    record {
      begun = omega arith;
      here = omega (arith, a, b);
      all = λ h. sym b;
      part = omega (arith, b);
      kind = ap (λ (v : ℕ). (row_of v).item) (sym k);
      scan = ap (λ (v : ℕ). eqb v 0x30) (sym k);
    }
