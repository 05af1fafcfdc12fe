-- The table of Scans that a reading keeps says exactly which Scan has a column. Assumes nothing.
use Prim.Native.Nat.{ℕ, suc, ◌+◌, ◌≤◌, ◌<◌}
use mathlib.Core.Path.{◌≡◌, refl, sym, ap, ◌∙◌, subst}
use mathlib.Core.Bool.{Bool, true, false, cond, ◌&&◌, not}
use mathlib.Core.List.{List}
use mathlib.Core.Logic.{◌⊎◌, inl, inr, ⊎_elim}
use native.Mathlib.Omega.{arith}
use native.Mathlib.Decide.{ℕ_discrete}
use lib.Dec.{ltb, eqb}
use lib.ListN.{get_or, set, length, length-set}
use lib.Seq.{get_or-set_same, get_or-set_other}
use borrow.Author.Tests.{eqb-true, leb-true, ltb-true, eq-eqb}
use Rattle.laws.proofs.Bools.{and_left, and_right}
use Rattle.lists.proofs.RangeLaws.{below_or_not}
use Rattle.plan_kinds.specs.declared.Record.{Record}
use Rattle.plan_kinds.specs.Rows.{row_of, line_of}
use Rattle.plan_kinds.specs.Records.{handle_ok, handles_ok, count_of, more_of}
use Rattle.plan.specs.declared.Plan.{Plan}
use Rattle.plan.specs.Append.{with_operator, with_item}
use Rattle.plan.specs.Records.{expr_record, operator_record, operator_start}
use Rattle.plan.specs.Extends.{Extends, Sized}
use Rattle.plan.proofs.AppendLaws.{operator-longer, item-longer, new-operator-start, new-item}
use Rattle.plan_rules.specs.Rules.{record_ok, lists_ok, operator_ok_of, operator_ok}
use Rattle.plan_file.specs.declared.Wanted.{Wanted}
use Rattle.plan_file.specs.Steps.{kind_wanted, scanned_twice}
use Rattle.plan_file_laws.specs.ListItems.{first_of, second_of, item_kind, ScanHas}
use Rattle.plan_file_laws.proofs.RowFacts.{handles}
use Rattle.plan_file_laws.proofs.OpenLists.{Open, some_left, open_kind}
use Rattle.plan_file_laws.proofs.Phases.{Phase, closed, open_expr, open_operator}

-- the marks are those of the Scans, and of no other
pub record Marks (scans : List ℕ) (p : Plan) : Type 0 where
  pub size : length scans ≡ 64
  pub complete : (i c : ℕ) → ScanHas p i c → get_or scans c 0 ≡ suc i
  pub sound : (i c : ℕ) → get_or scans c 0 ≡ suc i → ScanHas p i c

-- ---- a plan that grows has the same Scans
module _ (p q : Plan) (e : Extends p q) where
  has-later : (i c : ℕ) → ScanHas p i c → ScanHas q i c
  has-later i c h =
      let l = h.there in
      let s = e.operator-start i l in
      let b : (operator_record q i).b ≡ (operator_record p i).b = ap (λ (x : Record). x.b) (e.operator i l) in
      record {
        there = omega (arith, e.operators);
        scan = ap (λ (x : Record). x.kind) (e.operator i l) ∙ h.scan;
        place = h.place;
        from = omega (arith, h.from);
        inside = omega (arith, h.inside);
        read = omega (arith, h.read, e.items);
        item = ap (λ (x : Record). x.a) (e.item h.place h.read) ∙ h.item;
      }

  has-before : (i c : ℕ) (h : ScanHas q i c) → i < p.operators.count → h.place < p.items.count → ScanHas p i c
  has-before i c h l r =
      let s = e.operator-start i l in
      let b : (operator_record q i).b ≡ (operator_record p i).b = ap (λ (x : Record). x.b) (e.operator i l) in
      record {
        there = l;
        scan = sym (ap (λ (x : Record). x.kind) (e.operator i l)) ∙ h.scan;
        place = h.place;
        from = omega (arith, h.from);
        inside = omega (arith, h.inside);
        read = r;
        item = sym (ap (λ (x : Record). x.a) (e.item h.place r)) ∙ h.item;
      }

  -- where neither operators nor items are added, the marks stay
  pub marks-same : (scans : List ℕ) → q.operators.count ≡ p.operators.count → q.items.count ≡ p.items.count → Marks scans p → Marks scans q
  marks-same scans eo ei m =
      record {
        size = m.size;
        complete = λ i c h. m.complete i c (has-before i c h (omega (arith, h.there)) (omega (arith, h.read)));
        sound = λ i c g. has-later i c (m.sound i c g);
      }

-- a new operator has no items yet
pub marks-operator : (p : Plan) (x : Record) (scans : List ℕ) → Sized p → p.operators.count < 128 → Marks scans p → Marks scans
    (with_operator p x p.items.count)
marks-operator p x scans s room m =
    let q = with_operator p x p.items.count in
    let e = operator-longer p x p.items.count in
    record {
      size = m.size;
      complete = λ i c h. ⊎_elim
          (λ l. m.complete i c (has-before p q e i c h l h.read))
          (λ g.
          let k : p.operators.count ≡ i = omega (arith, h.there) in
          let st : operator_start q i ≡ p.items.count = ap (operator_start q) (sym k) ∙ new-operator-start p x p.items.count s room in
          absurd (omega (arith, h.from, h.read)))
          (below_or_not i p.operators.count);
      sound = λ i c g. has-later p q e i c (m.sound i c g);
    }

-- ---- a Scan's record: its count is its second number, its items are columns
pub scan-first : (y : Record) → y.kind ≡ 0x30 → first_of y ≡ y.b
unfolding count_of row_of line_of
scan-first y e = rw e

pub scan-second : (y : Record) → y.kind ≡ 0x30 → second_of y ≡ 0
unfolding more_of row_of line_of
scan-second y e = rw e

either : (t : Bool) (a : ℕ) → a ≡ 0x40 → cond t a 0x40 ≡ 0x40
either true a e = e
either false a e = refl

scan-items : (y : Record) (k : ℕ) → y.kind ≡ 0x30 → item_kind y k ≡ 0x40
unfolding row_of line_of
scan-items y k e = either (ltb k (first_of y)) _ (ap (λ (v : ℕ). (row_of v).item) e)

pub scan-sort : (row_of 0x30).sort ≡ 3
unfolding row_of line_of
scan-sort = refl

column-item : (row_of 0x40).a ≡ 2
unfolding row_of line_of
column-item = refl

column-below : (v nc ne np sort : ℕ) → sort ≡ 2 → handle_ok sort v nc ne np ≡ true → v < nc
unfolding handle_ok
column-below v nc ne np sort e h = ltb-true v nc (rw (eq-eqb sort 2 e) at h)

-- a Scan that is right has a whole list
pub scan-whole : (p : Plan) (i : ℕ) → (operator_record p i).kind ≡ 0x30 → operator_ok p i ≡ true → operator_start p i + (operator_record p i).b ≤ p.items.count
unfolding operator_ok_of lists_ok
scan-whole p i k ok =
    let y = operator_record p i in
    let w : operator_start p i + (first_of y + second_of y) ≤ p.items.count =
    leb-true _ _ (and_left _ _ (and_right (record_ok 3 y p.columns.count p.expressions.count i) _ ok)) in
    omega (arith, scan-first y k)

-- an expression is no Scan
no_scan : (sort : ℕ) (y : Record) (nc ne np : ℕ) → sort ≡ 2 → record_ok sort y nc ne np ≡ true → y.kind ≡ 0x30 → ⊥
unfolding record_ok
no_scan sort y nc ne np e ok k =
    let s : (row_of y.kind).sort ≡ sort = eqb-true _ _ (and_left _ _ ok) in
    let g : ◌≡◌ {A = ℕ} 3 sort = sym scan-sort ∙ ap (λ (v : ℕ). (row_of v).sort) (sym k) ∙ s in
    omega arith

-- ---- one item more
untwice : (a b c d : Bool) → a ≡ true → b ≡ true → ((((a && b) && not c) && not d) ≡ false) → (c ≡ true) ⊎ (d ≡ true)
untwice true true true d e f g = inl refl
untwice true true false true e f g = inr refl
untwice true true false false e f g = absurd (let z : ◌≡◌ {A = ℕ} 0 1 = cc in omega arith)
untwice false b c d e f g = absurd (let z : ◌≡◌ {A = ℕ} 0 1 = cc in omega arith)
untwice true false c d e f g = absurd (let z : ◌≡◌ {A = ℕ} 0 1 = cc in omega arith)

-- where the list that is read is a Scan's, the last operator is that Scan
pub record Scanning (w : Wanted) (p : Plan) (i : ℕ) : Type 0 where
  pub last : p.operators.count ≡ suc i
  pub kind : (operator_record p i).kind ≡ 0x30
  pub list : Open w (operator_record p i) (operator_start p i) p.items.count
  pub item : kind_wanted w ≡ 0x40

module _ (w : Wanted) (p : Plan) (z : kind_wanted w ≡ 0 → ⊥) where
  pub scanning : Phase w p → w.scan ≡ true → (i : ℕ) × Scanning w p i
  scanning (closed n r) t = absurd (let l = some_left w z in omega arith)
  scanning (open_expr i e r o) t = absurd (no_scan 2 (expr_record p i) _ _ _ refl o.record_ok_lem (eqb-true _ _ (sym o.list.scan ∙ t)))
  scanning (open_operator i e r o) t =
      let k : (operator_record p i).kind ≡ 0x30 = eqb-true _ _ (sym o.list.scan ∙ t) in (
        i,
        record {
          last = e;
          kind = k;
          list = o.list;
          item = sym (open_kind w (operator_record p i) (operator_start p i) p.items.count z o.list) ∙ scan-items (operator_record p i) _ k;
        },
      )

  -- the next item is of a Scan only where the list that is read is that Scan's
  pub next-scan : Phase w p → (i : ℕ) → i < p.operators.count → (operator_record p i).kind ≡ 0x30 → p.items.count < operator_start p i + (operator_record p
      i).b → (suc i ≡ p.operators.count) × (w.scan ≡ true)
  next-scan (closed n r) i h k inside = absurd (let l = some_left w z in omega arith)
  next-scan (open_expr j e r o) i h k inside = absurd (let g = scan-whole p i k (r.operator i h) in omega arith)
  next-scan (open_operator j e r o) i h k inside =
      ⊎_elim (λ l. absurd (let g = scan-whole p i k (r.operator i l) in omega arith))
      (λ g.
      let s : j ≡ i = omega arith in
      (omega arith, o.list.scan ∙ eq-eqb _ _ (ap (λ (v : ℕ). (operator_record p v).kind) s ∙ k)))
      (below_or_not i j)

module _ (w : Wanted) (p : Plan) (x : Record) (scans : List ℕ) (s : Sized p) (room : p.items.count < 2048) (z : kind_wanted w ≡ 0 → ⊥) (ph : Phase w p)
    (few : p.columns.count ≤ 64) (k : x.kind ≡ kind_wanted w) (sort : (row_of x.kind).sort ≡ 4)
    (g : handles_ok (row_of x.kind) x p.columns.count p.expressions.count p.operators.count ≡ true)
    (once : scanned_twice (row_of x.kind) x w scans p.operators.count ≡ false) (m : Marks scans p) where
  -- a Scan's item is a column
  below : (i : ℕ) → Scanning w p i → x.a < 64
  below i v =
      let c : x.a < p.columns.count = column-below x.a _ _ _ (row_of x.kind).a (ap (λ (u : ℕ). (row_of u).a) (k ∙ v.item) ∙ column-item)
      (handles (row_of x.kind) x _ _ _ g).a in
      omega arith

  free : w.scan ≡ true → (get_or scans x.a 0 ≡ 0) ⊎ (get_or scans x.a 0 ≡ p.operators.count)
  free t =
      ⊎_elim (λ h. inl (eqb-true _ _ h)) (λ h. inr (eqb-true _ _ h))
      (untwice (eqb (row_of x.kind).sort 4) w.scan (eqb (get_or scans x.a 0) 0) (eqb (get_or scans x.a 0) p.operators.count) (eq-eqb _ _ sort) t
      once)

  abbrev after : Bool → List ℕ
  after t = cond t (set scans x.a p.operators.count) scans

  -- a mark is not written over by another
  kept : (t : Bool) → w.scan ≡ t → (i c : ℕ) → get_or scans c 0 ≡ suc i → get_or (after t) c 0 ≡ suc i
  kept false t i c e = e
  kept true t i c e =
      elim (ℕ_discrete c x.a) [
        | yes q ↦ (let v = scanning w p z ph t in
            let h : get_or scans x.a 0 ≡ suc i = sym (ap (λ (u : ℕ). get_or scans u 0) q) ∙ e in
            let n : p.operators.count ≡ suc i = ⊎_elim (λ o. absurd (omega arith)) (λ o. sym o ∙ h) (free t) in
            ap (λ (u : ℕ). get_or (set scans x.a p.operators.count) u 0) q ∙ get_or-set_same scans x.a p.operators.count 0
            (omega (arith, m.size, below v.0 v.1)) ∙ n)
        | no q ↦ get_or-set_other scans x.a c p.operators.count 0 q ∙ e
      ]

  new-mark : (t : Bool) → w.scan ≡ t → t ≡ true → (i : ℕ) → suc i ≡ p.operators.count → get_or (after t) x.a 0 ≡ suc i
  new-mark true t h i e =
      let v = scanning w p z ph t in
      get_or-set_same scans x.a p.operators.count 0 (omega (arith, m.size, below v.0 v.1)) ∙ sym e
  new-mark false t h i e = absurd (let o : ◌≡◌ {A = ℕ} 0 1 = cc in omega arith)

  new_a : get_or (with_item p x).items.a p.items.count 0 ≡ x.a
  new_a = ap (λ (y : Record). y.a) (new-item p x s room)

  complete-item : (i c : ℕ) → ScanHas (with_item p x) i c → get_or (after w.scan) c 0 ≡ suc i
  complete-item i c h =
      ⊎_elim (λ l. kept w.scan refl i c (m.complete i c (has-before p (with_item p x) (item-longer p x) i c h h.there l)))
      (λ l.
      let n : p.items.count ≡ h.place = omega (arith, h.read) in
      let v = next-scan w p z ph i h.there h.scan (omega (arith, h.inside)) in
      let e : c ≡ x.a = sym h.item ∙ ap (λ (u : ℕ). get_or (with_item p x).items.a u 0) (sym n) ∙ new_a in
      ap (λ (u : ℕ). get_or (after w.scan) u 0) e ∙ new-mark w.scan refl v.1 i v.0)
      (below_or_not h.place p.items.count)

  sound-item : (t : Bool) → w.scan ≡ t → (i c : ℕ) → get_or (after t) c 0 ≡ suc i → ScanHas (with_item p x) i c
  sound-item false t i c e = has-later p (with_item p x) (item-longer p x) i c (m.sound i c e)
  sound-item true t i c e =
      elim (ℕ_discrete c x.a) [
        | no q ↦ has-later p (with_item p x) (item-longer p x) i c (m.sound i c (sym (get_or-set_other scans x.a c p.operators.count 0 q) ∙ e))
        | yes q ↦ (let v = scanning w p z ph t in
            let b = v.1 in
            let n : p.operators.count ≡ suc i = sym (get_or-set_same scans x.a p.operators.count 0 (omega (arith, m.size, below v.0 b))) ∙ sym
            (ap (λ (u : ℕ). get_or (set scans x.a p.operators.count) u 0) q) ∙ e in
            let j : v.0 ≡ i = omega (arith, b.last) in
            let y = operator_record p v.0 in
            subst (λ (u : ℕ). ScanHas (with_item p x) u c) j
            (record {
              there = omega (arith, b.last);
              scan = b.kind;
              place = p.items.count;
              from = b.list.begun;
              inside = omega (arith, b.list.here, scan-first y b.kind, scan-second y b.kind, some_left w z);
              read = omega arith;
              item = new_a ∙ sym q;
            }))
      ]

  -- An item more, and its mark. Assumes nothing.
  pub marks-item : Marks (after w.scan) (with_item p x)
  marks-item =
      record {
        size = sized w.scan;
        complete = complete-item;
        sound = sound-item w.scan refl;
      }
    where
      sized : (t : Bool) → length (after t) ≡ 64
      sized true = length-set scans x.a p.operators.count ∙ m.size
      sized false = m.size
