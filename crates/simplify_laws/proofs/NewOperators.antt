-- An operator that is no Scan and right where it comes to stand keeps the rules; and so is the simplifier's, kind by kind. Assumes nothing.
use mathlib.Core.Path.{◌≡◌, refl, sym, ap, ◌∙◌}
use mathlib.Core.Bool.{Bool, true, false, ◌&&◌}
use mathlib.Core.List.{List}
use Prim.Native.Nat.{ℕ, zero, suc, ◌+◌, ◌-◌, ◌<◌, ◌≤◌, ◌%◌}
use native.Mathlib.Omega.{arith}
use native.Mathlib.Nat.{mod-eq_of_lt}
use native.Mathlib.Numerals.{add-one}
use lib.Dec.{leb, eqb}
use lib.ListN.{length, get_or, set, length-set}
use lib.Seq.{get_or-set_same, get_or-set_other}
use borrow.Author.Tests.{lt-ltb, le-leb, eq-eqb, ne_eqb, eqb-true, eqb-false}
use Rattle.laws.proofs.Bools.{and_both}
use Rattle.lists.specs.Ranges.{all_from, count_from}
use Rattle.lists.proofs.RangeLaws.{all_of, count_same, count-last}
use Rattle.plan_kinds.specs.declared.Record.{Record}
use Rattle.plan_kinds.specs.Rows.{row_of, line_of}
use Rattle.plan_kinds.specs.Records.{bits_ok, handle_ok, count_of, more_of}
use Rattle.plan.specs.declared.Plan.{Plan}
use Rattle.plan.specs.declared.Items.{Items}
use Rattle.plan.specs.declared.Expr.{Expr}
use Rattle.plan.specs.declared.Operator.{Operator}
use Rattle.plan.specs.Append.{with_operator}
use Rattle.plan.specs.Records.{operator_record, operator_start}
use Rattle.plan.specs.Extends.{Sized}
use Rattle.plan.proofs.AppendLaws.{operator-longer, new-operator, new-operator-start}
use Rattle.plan_rules.specs.Rules.{record_ok, item_ok, lists_ok, operator_ok_of, operator_ok, scans_of, scans, scanned_once}
use Rattle.plan_rules.proofs.RuleLaws.{Rules}
use Rattle.plan_rules.proofs.AppendRules.{scans-kept, operator-keeps}
use Rattle.plan_data.specs.Nodes.{numbers_of, record_of_operator}
use Rattle.plan_data.specs.declared.JoinType.{JoinType}
use Rattle.plan_data.specs.declared.JoinType.TheVariants.{Inner, LeftSemi, LeftAnti, LeftOuter, Single, RightOuter, FullOuter, LeftMark}
use Rattle.plan_data.specs.declared.OperatorData.TheVariants.{Join}
use Rattle.simplify_spec.specs.OneOperator.{write_all}
use Rattle.simplify_laws.specs.Wholes.{RightOperator}

count-last_missed : (f : ℕ → Bool) (n i : ℕ) → f (i + n) ≡ false → count_from f i (suc n) ≡ count_from f i n
count-last_missed f n i e = rw (count-last f n i, e) (omega arith)

module _ (q : Plan) (x : Record) (start : ℕ) (r : Rules q) (s : Sized q) (free : q.operators.count < 128) (other : x.kind ≡ 0x30 → ⊥) (none : x.bits ≡
    0)
    (right : RightOperator q.items q.columns.count q.expressions.count q.operators.count start x) where
  abbrev q' : Plan
  q' = with_operator q x start

  abbrev n : ℕ
  n = q.operators.count

  record_new : operator_record (with_operator q x start) q.operators.count ≡ x
  record_new =
      new-operator q x start s free
      ∙ (λ j. record { kind = x.kind; code = x.code; a = x.a; b = x.b; c = x.c; d = x.d; bits = sym none j })

  start-new : operator_start (with_operator q x start) q.operators.count ≡ start
  start-new = new-operator-start q x start s free

  new-right : operator_ok (with_operator q x start) q.operators.count ≡ true
  unfolding operator_ok_of
  new-right =
      (λ i.
      record_ok 3 (record_new i) q.columns.count q.expressions.count q.operators.count
      && lists_ok q.items.a q.items.b q.items.count (record_new i) (start-new i) q.columns.count q.expressions.count q.operators.count)
      ∙ right

  no_scan : (c : ℕ) → scans (with_operator q x start) c (0 + q.operators.count) ≡ false
  unfolding scans_of
  no_scan c =
      let z : 0 + q.operators.count ≡ q.operators.count = omega arith in
      let k : (operator_record (with_operator q x start) q.operators.count).kind ≡ x.kind = ap (λ (y : Record). y.kind) record_new in
      let t : eqb (operator_record (with_operator q x start) q.operators.count).kind 0x30 ≡ false = ap (λ (m : ℕ). eqb m 0x30) k ∙ ne_eqb x.kind 0x30
      other in
      rw (z, t)

  once : (c : ℕ) → c < q.columns.count → scanned_once (with_operator q x start) c ≡ true
  once c lt =
      ap (λ (m : ℕ). leb m 1)
      (ap (count_from (scans (with_operator q x start) c) 0) (add-one q.operators.count)
      ∙ count-last_missed (scans (with_operator q x start) c) q.operators.count 0 (no_scan c)
      ∙ count_same (scans (with_operator q x start) c) (scans q c) q.operators.count 0
      (λ i lo hi. scans-kept q (with_operator q x start) (operator-longer q x start) r c i (omega arith)))
      ∙ r.once c lt

  pub new-rules : Rules (with_operator q x start)
  new-rules = operator-keeps q x start r free new-right once

-- ---- kinds without items
module _ (t : Items) (nc ne n start : ℕ) (le : start ≤ t.count) where
  nothing-listed : leb (start + 0) t.count ≡ true
  nothing-listed = le-leb (start + 0) t.count (omega arith)

  pub selection_right : (e i : ℕ) → e < ne → i < n → RightOperator t nc ne n start (numbers_of 0x33 0 e i 0 0)
  unfolding record_ok lists_ok row_of line_of bits_ok handle_ok count_of more_of all_from
  selection_right e i el il = rw (lt-ltb e ne el, lt-ltb i n il, nothing-listed)

  -- the marker of a LeftMark join is a column
  abbrev pub Marked : JoinType → Type 0
  Marked Inner = Unit {0}
  Marked LeftSemi = Unit {0}
  Marked LeftAnti = Unit {0}
  Marked LeftOuter = Unit {0}
  Marked Single = Unit {0}
  Marked RightOuter = Unit {0}
  Marked FullOuter = Unit {0}
  Marked (LeftMark c) = c.0 < nc

  pub join-operator-right : (j : JoinType) (e : Expr) (l i : Operator) → e.0 < ne → l.0 < n → i.0 < n → Marked j → RightOperator t nc ne n start
      (record_of_operator (Join j e l i))
  unfolding record_ok lists_ok row_of line_of bits_ok handle_ok count_of more_of all_from
  join-operator-right Inner e l i el ll il m = rw (lt-ltb e.0 ne el, lt-ltb l.0 n ll, lt-ltb i.0 n il, nothing-listed)
  join-operator-right LeftSemi e l i el ll il m = rw (lt-ltb e.0 ne el, lt-ltb l.0 n ll, lt-ltb i.0 n il, nothing-listed)
  join-operator-right LeftAnti e l i el ll il m = rw (lt-ltb e.0 ne el, lt-ltb l.0 n ll, lt-ltb i.0 n il, nothing-listed)
  join-operator-right LeftOuter e l i el ll il m = rw (lt-ltb e.0 ne el, lt-ltb l.0 n ll, lt-ltb i.0 n il, nothing-listed)
  join-operator-right Single e l i el ll il m = rw (lt-ltb e.0 ne el, lt-ltb l.0 n ll, lt-ltb i.0 n il, nothing-listed)
  join-operator-right RightOuter e l i el ll il m = rw (lt-ltb e.0 ne el, lt-ltb l.0 n ll, lt-ltb i.0 n il, nothing-listed)
  join-operator-right FullOuter e l i el ll il m = rw (lt-ltb e.0 ne el, lt-ltb l.0 n ll, lt-ltb i.0 n il, nothing-listed)
  join-operator-right (LeftMark c) e l i el ll il m = rw (lt-ltb e.0 ne el, lt-ltb l.0 n ll, lt-ltb i.0 n il, lt-ltb c.0 nc m, nothing-listed)

-- ---- kinds with items
module _ (t : Items) (nc ne n start : ℕ) where
  map-item : (j : ℕ) → get_or t.a j 0 < nc → get_or t.b j 0 < ne → item_ok t.a t.b 0x42 nc ne n j ≡ true
  unfolding item_ok row_of line_of handle_ok
  map-item j a b = rw (lt-ltb (get_or t.a j 0) nc a, lt-ltb (get_or t.b j 0) ne b)

  key-item : (j : ℕ) → get_or t.a j 0 < ne → get_or t.b j 0 ≡ 0 → item_ok t.a t.b 0x43 nc ne n j ≡ true
  unfolding item_ok row_of line_of handle_ok
  key-item j a b = rw (lt-ltb (get_or t.a j 0) ne a, eq-eqb (get_or t.b j 0) 0 b)

  column-item : (j : ℕ) → get_or t.a j 0 < nc → get_or t.b j 0 ≡ 0 → item_ok t.a t.b 0x40 nc ne n j ≡ true
  unfolding item_ok row_of line_of handle_ok
  column-item j a b = rw (lt-ltb (get_or t.a j 0) nc a, eq-eqb (get_or t.b j 0) 0 b)

  listed : (f : ℕ → Bool) (m k : ℕ) → start + k ≤ t.count → ((j : ℕ) → start ≤ j → j < start + k → f j ≡ true) → m ≡ k
      → (leb (start + (m + 0)) t.count && (all_from f start m && true)) ≡ true
  listed f m k le q e =
      rw e (and_both (leb (start + (k + 0)) t.count) _ (le-leb (start + (k + 0)) t.count (omega arith))
      (and_both (all_from f start k) true (all_of f k start q) refl))

  pub map-right : (i k : ℕ) → i < n → k < 65536 → start + k ≤ t.count
      → ((j : ℕ) → start ≤ j → j < start + k → get_or t.a j 0 < nc) → ((j : ℕ) → start ≤ j → j < start + k → get_or t.b j 0 < ne)
      → RightOperator t nc ne n start (numbers_of 0x36 0 i (k % 65536) 0 0)
  unfolding record_ok lists_ok row_of line_of bits_ok handle_ok count_of more_of all_from
  map-right i k il small le a b =
      rw (lt-ltb i n il) (listed (item_ok t.a t.b 0x42 nc ne n) (k % 65536) k le (λ j lo hi. map-item j (a j lo hi) (b j lo hi)) (mod-eq_of_lt small))

  pub sort-right : (i k : ℕ) → i < n → k < 65536 → start + k ≤ t.count
      → ((j : ℕ) → start ≤ j → j < start + k → get_or t.a j 0 < ne) → ((j : ℕ) → start ≤ j → j < start + k → get_or t.b j 0 ≡ 0)
      → RightOperator t nc ne n start (numbers_of 0x38 0 i (k % 65536) 0 0)
  unfolding record_ok lists_ok row_of line_of bits_ok handle_ok count_of more_of all_from
  sort-right i k il small le a b =
      rw (lt-ltb i n il) (listed (item_ok t.a t.b 0x43 nc ne n) (k % 65536) k le (λ j lo hi. key-item j (a j lo hi) (b j lo hi)) (mod-eq_of_lt small))

  twice : (f h : ℕ → Bool) (m l k c : ℕ) → start + (k + c) ≤ t.count → ((j : ℕ) → start ≤ j → j < start + k → f j ≡ true)
      → ((j : ℕ) → start + k ≤ j → j < start + k + c → h j ≡ true) → m ≡ k → l ≡ c
      → (leb (start + (m + l)) t.count && (all_from f start m && all_from h (start + m) l)) ≡ true
  twice f h m l k c le q w e d =
      rw (e, d) (and_both (leb (start + (k + c)) t.count) _ (le-leb (start + (k + c)) t.count le)
      (and_both (all_from f start k) _ (all_of f k start q) (all_of h c (start + k) w)))

  pub aggregation_right : (i k c : ℕ) → i < n → k < 65536 → c < 65536 → start + (k + c) ≤ t.count
      → ((j : ℕ) → start ≤ j → j < start + k → get_or t.a j 0 < ne) → ((j : ℕ) → start + k ≤ j → j < start + k + c → get_or t.a j 0 < nc)
      → ((j : ℕ) → start ≤ j → j < start + (k + c) → get_or t.b j 0 ≡ 0)
      → RightOperator t nc ne n start (numbers_of 0x37 0 i (k % 65536) (c % 65536) 0)
  unfolding record_ok lists_ok row_of line_of bits_ok handle_ok count_of more_of
  aggregation_right i k c il small few le a b z =
      rw (lt-ltb i n il)
      (twice (item_ok t.a t.b 0x43 nc ne n) (item_ok t.a t.b 0x40 nc ne n) (k % 65536) (c % 65536) k c le
      (λ j lo hi. key-item j (a j lo hi) (z j lo (omega arith))) (λ j lo hi. column-item j (b j lo hi) (z j (omega arith) (omega arith)))
      (mod-eq_of_lt small)
      (mod-eq_of_lt few))

-- ---- what was written
pub write_length : (l : List ℕ) (at : ℕ) (f : ℕ → ℕ) (n : ℕ) → length (write_all l at f n) ≡ length l
unfolding write_all
write_length l at f zero = refl
write_length l at f (suc n) = length-set (write_all l at f n) (at + n) (f n) ∙ write_length l at f n

pub write_at : (l : List ℕ) (at : ℕ) (f : ℕ → ℕ) (n j : ℕ) → at + n ≤ length l → at ≤ j → j < at + n → get_or (write_all l at f n) j 0 ≡ f (j - at)
unfolding write_all
write_at l at f zero j le lo hi = absurd (omega arith)
write_at l at f (suc n) j le lo hi = go (eqb j (at + n)) refl (λ lt. write_at l at f n j (omega arith) lo lt)
  where
    go : (b : Bool) → eqb j (at + n) ≡ b → (j < at + n → get_or (write_all l at f n) j 0 ≡ f (j - at)) → get_or (set (write_all l at f n) (at + n) (f
        n)) j 0 ≡ f
        (j - at)
    go true e rest =
        let q : j ≡ at + n = eqb-true j (at + n) e in
        let z : at + n - at ≡ n = omega arith in
        rw (q, z) (get_or-set_same (write_all l at f n) (at + n) (f n) 0 (omega (arith, write_length l at f n)))
    go false e rest =
        let q : (j ≡ at + n → ⊥) = eqb-false j (at + n) e in
        get_or-set_other (write_all l at f n) (at + n) j (f n) 0 q ∙ rest (omega arith)
