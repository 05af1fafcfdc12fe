-- Where the parts of a record stand, by a test over the table of kinds. Assumes nothing.
use Prim.Native.Nat.{ℕ, ◌+◌}
use mathlib.Core.Path.{◌≡◌, refl}
use mathlib.Core.Bool.{Bool, true, cond, ◌&&◌, ◌||◌}
use mathlib.Core.Logic.{◌⊎◌, inl, inr, ⊎_elim}
use lib.Dec.{eqb}
use borrow.Author.Tests.{eqb-true}
use Rattle.laws.proofs.Bools.{and_left, and_right, or_cases}
use Rattle.plan_kinds.specs.Rows.{Row}
use Rattle.plan_kinds.specs.Rows.{row_of}
use Rattle.plan_kinds.proofs.Table.{holds, every-row}

-- how many bytes a number takes, and a code that stands at the place n
abbrev pub width : ℕ → ℕ
width sort = cond (eqb sort 0) 0 2

abbrev pub code_width : ℕ → ℕ → ℕ
code_width code n = cond (eqb code n) 1 0

-- the places after the first code, and after each number
abbrev pub place1 : Row → ℕ
place1 r = 1 + code_width r.code 1

abbrev pub place2 : Row → ℕ
place2 r = place1 r + width r.a

abbrev pub place3 : Row → ℕ
place3 r = place2 r + width r.b

abbrev pub place4 : Row → ℕ
place4 r = place3 r + width r.c

abbrev pub place5 : Row → ℕ
place5 r = place4 r + width r.d

abbrev pub place6 : Row → ℕ
place6 r = place5 r + code_width r.code 3

-- each part stands where its kind's row says, or is not there
pub record Layout (r : Row) : Type 0 where
  pub a : r.from ≡ place1 r
  pub b : (r.b ≡ 0) ⊎ (r.from + 2 ≡ place2 r)
  pub c : (r.c ≡ 0) ⊎ (r.from + 4 ≡ place3 r)
  pub d : (r.d ≡ 0) ⊎ (r.from + 6 ≡ place4 r)
  pub code : (r.code ≡ 0) ⊎ ((r.code ≡ 1) ⊎ ((r.code ≡ 3) × (place5 r ≡ 3)))
  pub bits : (r.bits ≡ 0) ⊎ (((r.bits ≡ 4) ⊎ (r.bits ≡ 8)) × (place6 r ≡ 1))
  pub total : r.length ≡ place6 r + r.bits

layout_test : Row → Bool
layout_test r =
    eqb r.from (place1 r)
    && ((eqb r.b 0 || eqb (r.from + 2) (place2 r))
    && ((eqb r.c 0 || eqb (r.from + 4) (place3 r))
    && ((eqb r.d 0 || eqb (r.from + 6) (place4 r))
    && ((eqb r.code 0 || (eqb r.code 1 || (eqb r.code 3 && eqb (place5 r) 3)))
    && ((eqb r.bits 0 || ((eqb r.bits 4 || eqb r.bits 8) && eqb (place6 r) 1))
    && eqb r.length (place6 r + r.bits))))))

here_or : (a m n k : ℕ) → (eqb a k || eqb m n) ≡ true → (a ≡ k) ⊎ (m ≡ n)
here_or a m n k e = ⊎_elim (λ h. inl (eqb-true _ _ h)) (λ h. inr (eqb-true _ _ h)) (or_cases (eqb a k) (eqb m n) e)

-- Every kind's row has a layout. Assumes nothing.
pub layout : (k : ℕ) → Layout (row_of k)
unfolding layout_test holds
layout k =
    let r = row_of k in
    let t1 : layout_test (row_of k) ≡ true = every-row layout_test refl refl k in
    let t2 = and_right (eqb (row_of k).from (place1 (row_of k))) _ t1 in
    let t3 = and_right (eqb (row_of k).b 0 || eqb ((row_of k).from + 2) (place2 (row_of k))) _ t2 in
    let t4 = and_right (eqb (row_of k).c 0 || eqb ((row_of k).from + 4) (place3 (row_of k))) _ t3 in
    let t5 = and_right (eqb (row_of k).d 0 || eqb ((row_of k).from + 6) (place4 (row_of k))) _ t4 in
    let t6 = and_right (eqb (row_of k).code 0 || (eqb (row_of k).code 1 || (eqb (row_of k).code 3 && eqb (place5 (row_of k)) 3))) _ t5 in
    let t7 = and_right (eqb (row_of k).bits 0 || ((eqb (row_of k).bits 4 || eqb (row_of k).bits 8) && eqb (place6 (row_of k)) 1)) _ t6 in
    record {
      a = eqb-true _ _ (and_left _ _ t1);
      b = here_or (row_of k).b _ _ 0 (and_left _ _ t2);
      c = here_or (row_of k).c _ _ 0 (and_left _ _ t3);
      d = here_or (row_of k).d _ _ 0 (and_left _ _ t4);
      code = ⊎_elim (λ h. inl (eqb-true _ _ h))
          (λ h. inr (⊎_elim (λ g. inl (eqb-true _ _ g)) (λ g. inr (eqb-true _ _ (and_left _ _ g), eqb-true _ _ (and_right (eqb (row_of k).code 3) _ g)))
          (or_cases (eqb (row_of k).code 1) _ h)))
          (or_cases (eqb (row_of k).code 0) _ (and_left _ _ t5));
      bits = ⊎_elim (λ h. inl (eqb-true _ _ h))
          (λ h. inr (here_or (row_of k).bits _ _ 4 (and_left _ _ h), eqb-true _ _ (and_right (eqb (row_of k).bits 4 || eqb (row_of k).bits 8) _ h)))
          (or_cases (eqb (row_of k).bits 0) _ (and_left _ _ t6));
      total = eqb-true _ _ t7;
    }
