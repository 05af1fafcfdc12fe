-- The numbers of a plan's identities: the smaller number is the smaller identity, and a number and its identity say each other. Assumes nothing.
use Prim.Native.Nat.{ℕ, ◌+◌, ◌-◌, ◌<◌, ◌≤◌}
use mathlib.Core.Path.{◌≡◌, refl, sym, ap, ◌∙◌}
use mathlib.Core.Bool.{true, false, cond}
use native.Mathlib.Omega.{arith}
use lib.Dec.{ltb, eqb}
use lib.ListN.{get_or}
use borrow.Author.Tests.{ltb-true, ltb-false, lt-ltb, le-ltb, leb-true, eqb-true, eq-eqb}
use Rattle.lists.specs.Ranges.{any_from}
use Rattle.plan.specs.declared.Plan.{Plan}
use Rattle.plan.specs.declared.Column.{Column}
use Rattle.plan.specs.Records.{operator_record}
use Rattle.plan_rules.specs.Rules.{scans, scanned_once}
use Rattle.plan_identities.specs.declared.ValueId.{ValueId}
use Rattle.plan_identities.specs.declared.ValueId.TheVariants.{Base, Derived}
use Rattle.plan_identities.specs.Places.{first_from}
use Rattle.plan_identities.specs.Identities.{table_in, table_of, before, size_of, columns_of, base_of, derived_of, number_by, value_by, number_of}
use Rattle.plan_identities.specs.Identities.{value_id_of, identities_of, number_in, value_in, smaller, of_plan}
use Rattle.plan_identities.proofs.PlaceLaws.{by-test, first_only, first-none, first_passes, first-same, filled-table-at}
use Rattle.plan_identities.proofs.OrderLaws.{columns-ordered}
use Rattle.plan_identities.proofs.RankLaws.{rank_order, rank_differs, rank-small, rank-onto, count-two}

-- the table of a column that belongs to at most one Scan is that of the Scan that lists it
pub table-of-scan :
    (p : Plan) (c i : ℕ) → scanned_once p c ≡ true → i < p.operators.count → scans p c i ≡ true → table_of p c ≡ (operator_record p i).a
unfolding table_in
table-of-scan p c i once h e =
    first_only (scans p c) (λ (j : ℕ). get_or p.operators.a j 0) 65536 p.operators.count 0 i (omega arith) (omega arith) e
    (λ j lo hi q. count-two (scans p c) p.operators.count j i (omega arith) h (leb-true _ 1 once) q e)

-- and that of a column that no Scan lists is past every table
pub table-of-none : (p : Plan) (c : ℕ) → ((i : ℕ) → i < p.operators.count → scans p c i ≡ false) → table_of p c ≡ 65536
unfolding table_in
table-of-none p c h =
    first-none (scans p c) (λ (j : ℕ). get_or p.operators.a j 0) 65536 p.operators.count 0 (λ j lo hi. h j (omega arith))

-- Derived numbers go by column
pub derived_order : (c d : ℕ) → ltb c d ≡ ltb (derived_of c) (derived_of d)
derived_order c d =
    by-test (ltb c d) (λ e. e ∙ sym (lt-ltb (derived_of c) (derived_of d) (omega (arith, ltb-true c d e))))
    (λ e. e ∙ sym (le-ltb (derived_of c) (derived_of d) (omega (arith, ltb-false c d e))))

-- the columns of a plan whose counts are within the sizes are all of its columns
pub columns-all : (p : Plan) → p.columns.count ≤ 64 → columns_of p ≡ p.columns.count
columns-all p h = omega arith

module _ (p : Plan) where
  -- ---- Base: by table, then name, then column number
  -- a column comes before another exactly when its number is smaller
  pub base_order : (a b : ℕ) → a < columns_of p → b < columns_of p → before p a b ≡ ltb (base_of p a) (base_of p b)
  unfolding base_of
  base_order = rank_order (before p) (columns-ordered p) (columns_of p)

  -- no two columns have the same number
  pub base_differs : (a b : ℕ) → a < columns_of p → b < columns_of p → base_of p a ≡ base_of p b → a ≡ b
  unfolding base_of
  base_differs = rank_differs (before p) (columns-ordered p) (columns_of p)

  -- the numbers are below the count of columns, so below 64
  pub base-small : (c : ℕ) → c < columns_of p → base_of p c < columns_of p
  unfolding base_of
  base-small = rank-small (before p) (columns-ordered p) (columns_of p)

  -- and each number below the count is one of them
  pub base-onto : (k : ℕ) → k < columns_of p → any_from (λ (c : ℕ). eqb (base_of p c) k) 0 (columns_of p) ≡ true
  unfolding base_of
  base-onto = rank-onto (before p) (columns-ordered p) (columns_of p)

  pub base-below_64 : (c : ℕ) → c < columns_of p → base_of p c < 64
  base-below_64 c h = omega (arith, base-small c h)

  -- a Base number is below every Derived number
  pub base-below_derived : (c d : ℕ) → c < columns_of p → base_of p c < derived_of d
  base-below_derived c d h = omega (arith, base-below_64 c h)

  -- ---- the number of an identity of the plan
  pub number-base : (c : Column) → c.0 < columns_of p → number_of p (Base c) ≡ base_of p c.0
  unfolding number_by
  number-base c h = rw (lt-ltb c.0 (columns_of p) h)

  pub number_derived : (c : Column) → c.0 < 64 → number_of p (Derived c) ≡ 64 + c.0
  unfolding number_by
  number_derived c h = rw (lt-ltb c.0 64 h)

  base_there : (c : Column) → of_plan p (Base c) ≡ true → c.0 < columns_of p
  unfolding of_plan
  base_there c h = ltb-true c.0 (columns_of p) h

  derived_there : (c : Column) → of_plan p (Derived c) ≡ true → c.0 < 64
  unfolding of_plan
  derived_there c h = ltb-true c.0 64 h

  -- there are 128 numbers
  pub number-below_128 : (v : ValueId) → of_plan p v ≡ true → number_of p v < 128
  number-below_128 (Base c) h = rw (number-base c (base_there c h)) (omega (arith, base-below_64 c.0 (base_there c h)))
  number-below_128 (Derived c) h = rw (number_derived c (derived_there c h)) (omega (arith, derived_there c h))

  -- an identity is smaller than another exactly when its number is
  pub number_order : (v w : ValueId) → of_plan p v ≡ true → of_plan p w ≡ true → smaller p v w ≡ ltb (number_of p v) (number_of p w)
  unfolding smaller
  number_order (Base a) (Base b) h k =
      rw (number-base a (base_there a h), number-base b (base_there b k)) (base_order a.0 b.0 (base_there a h) (base_there b k))
  number_order (Base a) (Derived b) h k =
      rw (number-base a (base_there a h), number_derived b (derived_there b k))
      (sym (lt-ltb (base_of p a.0) (64 + b.0) (base-below_derived a.0 b.0 (base_there a h))))
  number_order (Derived a) (Base b) h k =
      rw (number_derived a (derived_there a h), number-base b (base_there b k))
      (sym (le-ltb (64 + a.0) (base_of p b.0) (omega (arith, base-below_64 b.0 (base_there b k)))))
  number_order (Derived a) (Derived b) h k =
      rw (number_derived a (derived_there a h), number_derived b (derived_there b k)) (derived_order a.0 b.0)

  -- ---- a number and its identity say each other
  -- the identity of an identity's number is that identity
  pub number_inverse : (v : ValueId) → of_plan p v ≡ true → value_id_of p (number_of p v) ≡ v
  unfolding value_by
  number_inverse (Base c) h =
      let l = base_there c h in
      rw (number-base c l, lt-ltb (base_of p c.0) 64 (base-below_64 c.0 l))
      (ap (λ (x : ℕ). Base (record { 0 = x }))
      (first_only (λ (a : ℕ). eqb (base_of p a) (base_of p c.0)) (λ (a : ℕ). a) 0 (columns_of p) 0 c.0 (omega arith) (omega arith)
      (eq-eqb (base_of p c.0) (base_of p c.0) refl)
      (λ j lo hi e. base_differs j c.0 (omega arith) l (eqb-true (base_of p j) (base_of p c.0) e))))
  number_inverse (Derived c) h =
      let e : 64 + c.0 - 64 ≡ c.0 = omega arith in
      rw (number_derived c (derived_there c h), le-ltb (64 + c.0) 64 (omega arith)) (ap (λ (x : ℕ). Derived (record { 0 = x })) e)

  -- so no two identities have the same number
  pub number_differs : (v w : ValueId) → of_plan p v ≡ true → of_plan p w ≡ true → number_of p v ≡ number_of p w → v ≡ w
  number_differs v w h k e = sym (number_inverse v h) ∙ ap (value_id_of p) e ∙ number_inverse w k

  -- the number of a number's identity is that number: below the count of columns, and from 64 on
  pub value_inverse_base : (k : ℕ) → k < columns_of p → number_of p (value_id_of p k) ≡ k
  unfolding value_by number_by
  value_inverse_base k h =
      let x = first_from (λ (c : ℕ). eqb (base_of p c) k) (λ (c : ℕ). c) 0 0 (columns_of p) in
      let f = first_passes (λ (c : ℕ). eqb (base_of p c) k) 0 (columns_of p) 0 (base-onto k h) in
      rw (lt-ltb k 64 (omega arith), lt-ltb x (columns_of p) (omega (arith, f.within))) (eqb-true (base_of p x) k f.passes)

  pub value_inverse_derived : (k : ℕ) → 64 ≤ k → k < 128 → number_of p (value_id_of p k) ≡ k
  unfolding value_by number_by
  value_inverse_derived k lo hi = rw (le-ltb k 64 lo, lt-ltb (k - 64) 64 (omega arith)) (omega arith)

  -- ---- what `identities_of` holds
  -- the Base number of each column of the plan
  pub held : (c : ℕ) → c < columns_of p → get_or (identities_of p).base c 0 ≡ base_of p c
  unfolding identities_of
  held c h = filled-table-at (base_of p) (columns_of p) c (omega arith) h

  held-size : size_of (identities_of p).columns ≡ columns_of p
  unfolding identities_of
  held-size = omega arith

  -- a number read from it is the number, also where there is none
  pub number-held : (v : ValueId) → number_in (identities_of p) v ≡ number_of p v
  unfolding number_by
  number-held (Base c) =
      rw held-size
      (by-test (ltb c.0 (columns_of p)) (λ e. rw e (held c.0 (ltb-true c.0 (columns_of p) e))) (λ e. rw e))
  number-held (Derived c) = refl

  -- so is the identity of a number
  pub value-held : (k : ℕ) → value_in (identities_of p) k ≡ value_id_of p k
  unfolding value_by
  value-held k =
      rw held-size
      (ap (λ (x : ℕ). cond (ltb k 64) (Base (record { 0 = x })) (Derived (record { 0 = k - 64 })))
      (first-same (λ (c : ℕ). eqb (get_or (identities_of p).base c 0) k) (λ (c : ℕ). eqb (base_of p c) k) (λ (c : ℕ). c) 0 (columns_of p) 0
      (λ j lo hi. ap (λ (x : ℕ). eqb x k) (held j (omega arith)))))
