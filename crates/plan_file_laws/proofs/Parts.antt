-- The columns, the expressions with their items and the operators with their items stand in an accepted file in the order of their handles:
-- so its plan gives back each of the three. Assumes nothing.
use Prim.Native.Nat.{ℕ, zero, suc, ◌+◌, ◌-◌, ◌≤◌, ◌<◌}
use mathlib.Core.Path.{◌≡◌, refl, sym, ap, ◌∙◌, subst}
use mathlib.Core.Bool.{Bool, true, false, cond, ◌||◌, not}
use mathlib.Core.List.{List, [], ◌∷◌, ◌++◌, append_assoc}
use native.Mathlib.Omega.{arith}
use native.Mathlib.Numerals.{add-one}
use native.Mathlib.Decide.{ℕ_discrete}
use lib.Dec.{eqb}
use lib.ListN.{drop}
use borrow.Author.Tests.{eqb-true, eq-eqb, ne_eqb}
use Rattle.laws.proofs.Bools.{and_left, and_right}
use Rattle.plan_kinds.specs.declared.Record.{Record}
use Rattle.plan_kinds.specs.Rows.{Row}
use Rattle.plan_kinds.specs.Rows.{Line, kinds, row_of, line_of}
use Rattle.plan_kinds.proofs.Table.{holds, every-row}
use Rattle.plan.specs.declared.Plan.{Plan}
use Rattle.plan.specs.Append.{with_column, with_expr, with_operator, with_item}
use Rattle.plan.specs.Records.{expr_record, expr_start, operator_record, operator_start, item_record}
use Rattle.plan.specs.Extends.{Extends, Sized}
use Rattle.plan.proofs.AppendLaws.{column-longer, expr-longer, operator-longer, item-longer, new-column, new-expr, new-expr-start, new-operator}
use Rattle.plan.proofs.AppendLaws.{new-operator-start, new-item}
use Rattle.plan_file.specs.declared.Wanted.{Wanted}
use Rattle.plan_file.specs.Steps.{kind_wanted, less_one, list_of}
use Rattle.plan_file.proofs.StepCases.{Wants}
use Rattle.plan_file_laws.specs.ListItems.{first_of, second_of, item_kind}
use Rattle.plan_file_laws.specs.Writing.{Fits}
use Rattle.plan_file_laws.specs.PlanRecords.{item_of, items_of, with_items, columns_to, exprs_to, operators_to, belongs, part_from, part_of}
use Rattle.plan_file_laws.proofs.RowFacts.{item-row, expr-row, column-row, no_bits}
use Rattle.plan_file_laws.proofs.Phases.{no_list, expr_open, operator_open}
use Rattle.plan_file_laws.proofs.OpenLists.{Open, some_left, open_shut, open_kind, open_less}

-- ---- the table of kinds: a column's kind is 1, and an item has no code
one-kind : (k : ℕ) (ls : List Line) → holds (λ (r : Row). not (eqb r.sort 1)) ls ≡ true → (line_of ls k).sort ≡ 1 → ⊥
unfolding line_of holds
one-kind k [] h e = absurd (omega arith)
one-kind k (l ∷ ls) h e = go (eqb k l.kind) e (one-kind k ls (and_right (not (eqb l.row.sort 1)) _ h))
  where
    go : (t : Bool) → (cond t l.row (line_of ls k)).sort ≡ 1 → ((line_of ls k).sort ≡ 1 → ⊥) → ⊥
    go true e rest = absurd (let f = and_left (not (eqb l.row.sort 1)) _ h in
        let z : ◌≡◌ {A = ℕ} 0 1 = ap (λ (b : Bool). cond b 0 1) (sym f ∙ ap not (eq-eqb l.row.sort 1 e)) in omega arith)
    go false e rest = rest e

pub column-kind : (k : ℕ) → (row_of k).sort ≡ 1 → k ≡ 0x01
unfolding row_of line_of holds
column-kind k e =
    elim (ℕ_discrete k 0x01) [
      | yes f ↦ f
      | no n ↦ absurd (one-kind k (drop 1 kinds) refl (rw (ne_eqb k 0x01 n) at e))
    ]

item_code : Row → Bool
item_code r = not (eqb r.sort 4) || eqb r.code 0

pub item-code : (k : ℕ) → (row_of k).sort ≡ 4 → (row_of k).code ≡ 0
unfolding item_code holds
item-code k e =
    let t : (not (eqb (row_of k).sort 4) || eqb (row_of k).code 0) ≡ true = every-row item_code refl refl k in
    let u : eqb (row_of k).code 0 ≡ true = rw (eq-eqb (row_of k).sort 4 e) at t in
    eqb-true _ _ u

-- ---- one record more in a part
-- whether the records xs end in the sort k
unfoldable pub ends_in : ℕ → Bool → List Record → Bool
ends_in k on [] = on
ends_in k on (x ∷ xs) = ends_in k (belongs k on x) xs

ends_snoc : (k : ℕ) (on : Bool) (xs : List Record) (x : Record) → ends_in k on (xs ++ (x ∷ [])) ≡ belongs k (ends_in k on xs) x
unfolding ends_in
ends_snoc k on [] x = refl
ends_snoc k on (y ∷ xs) x = ends_snoc k (belongs k on y) xs x

part_snoc : (k : ℕ) (on : Bool) (xs : List Record) (x : Record) → part_from k on (xs ++ (x ∷ [])) ≡ part_from k on xs ++ cond (belongs k (ends_in k on xs) x)
    (x ∷ []) []
unfolding ends_in part_from
part_snoc k on [] x = go (belongs k on x)
  where
    go : (t : Bool) → cond t (x ∷ []) [] ≡ [] ++ cond t (x ∷ []) []
    go true = refl
    go false = refl
part_snoc k on (y ∷ xs) x = go (belongs k on y) _ _ _ (part_snoc k (belongs k on y) xs x)
  where
    go : (t : Bool) (a b c : List Record) → a ≡ b ++ c → cond t (y ∷ a) a ≡ cond t (y ∷ b) b ++ c
    go true a b c e = ap (λ (l : List Record). y ∷ l) e
    go false a b c e = e

pub append-nil : (xs : List Record) → xs ++ [] ≡ xs
append-nil [] = refl
append-nil (x ∷ xs) = ap (λ (l : List Record). x ∷ l) (append-nil xs)

belongs-head : (k : ℕ) (on : Bool) (x : Record) (n : ℕ) → (row_of x.kind).sort ≡ n → (n ≡ 4 → ⊥) → belongs k on x ≡ eqb n k
belongs-head k on x n e f = rw (e, ne_eqb n 4 f)

pub belongs-item : (k : ℕ) (on : Bool) (x : Record) → (row_of x.kind).sort ≡ 4 → belongs k on x ≡ on
belongs-item k on x e = rw e

-- a record that belongs, and one that does not
pub record Joins (k : ℕ) (xs : List Record) (x : Record) (t : Bool) : Type 0 where
  pub ends : ends_in k false (xs ++ (x ∷ [])) ≡ t
  pub part : part_of k (xs ++ (x ∷ [])) ≡ part_of k xs ++ cond t (x ∷ []) []

pub joins : (k : ℕ) (xs : List Record) (x : Record) (t : Bool) → belongs k (ends_in k false xs) x ≡ t → Joins k xs x t
joins k xs x t e =
    record { ends = ends_snoc k false xs x ∙ e; part = part_snoc k false xs x ∙ ap (λ (b : Bool). part_of k xs ++ cond b (x ∷ []) []) e }

-- ---- the parts of a plan stay where it grows
-- every list of an expression and of an operator is whole
pub record Lists (p : Plan) (e o : ℕ) : Type 0 where
  pub expr : (i : ℕ) → i < e → expr_start p i + (first_of (expr_record p i) + second_of (expr_record p i)) ≤ p.items.count
  pub operator : (i : ℕ) → i < o → operator_start p i + (first_of (operator_record p i) + second_of (operator_record p i)) ≤ p.items.count

module _ (p q : Plan) (e : Extends p q) where
  item-same : (x : Record) (st k : ℕ) → st + k < p.items.count → item_of q x st k ≡ item_of p x st k
  item-same x st k h =
      λ i. record { kind = item_kind x k; code = 0; a = (e.item (st + k) h i).a; b = (e.item (st + k) h i).b; c = 0; d = 0; bits = 0 }

  pub items-same : (x : Record) (st n : ℕ) → st + n ≤ p.items.count → items_of q x st n ≡ items_of p x st n
  unfolding items_of
  items-same x st zero h = refl
  items-same x st (suc n) h = λ i. items-same x st n (omega arith) i ++ (item-same x st n (omega arith) i ∷ [])

  with_same : (x y : Record) (st u : ℕ) → x ≡ y → st ≡ u → u + (first_of y + second_of y) ≤ p.items.count → with_items q x st ≡ with_items p y u
  with_same x y st u a b h =
      (λ i. with_items q (a i) (b i)) ∙ ap (λ (l : List Record). y ∷ l) (items-same y u (first_of y + second_of y) h)

  columns-same : (n : ℕ) → n ≤ p.columns.count → columns_to q n ≡ columns_to p n
  unfolding columns_to
  columns-same zero h = refl
  columns-same (suc n) h = λ i. columns-same n (omega arith) i ++ (e.column n (omega arith) i ∷ [])

  exprs-same : (n : ℕ) → n ≤ p.expressions.count → ((i : ℕ) → i < n → expr_start p i + (first_of (expr_record p i) + second_of (expr_record p i))
      ≤ p.items.count) → exprs_to q n ≡ exprs_to p n
  unfolding exprs_to
  exprs-same zero h w = refl
  exprs-same (suc n) h w =
      λ i. exprs-same n (omega arith) (λ j l. w j (omega arith)) i
      ++ with_same (expr_record q n) (expr_record p n) (expr_start q n) (expr_start p n) (e.expr n (omega arith)) (e.expr-start n (omega arith))
      (w n (omega arith)) i

  operators-same : (n : ℕ) → n ≤ p.operators.count → ((i : ℕ) → i < n → operator_start p i + (first_of (operator_record p i) + second_of (operator_record p i))
      ≤ p.items.count) → operators_to q n ≡ operators_to p n
  unfolding operators_to
  operators-same zero h w = refl
  operators-same (suc n) h w =
      λ i. operators-same n (omega arith) (λ j l. w j (omega arith)) i
      ++ with_same (operator_record q n) (operator_record p n) (operator_start q n) (operator_start p n) (e.operator n (omega arith))
      (e.operator-start n (omega arith)) (w n (omega arith)) i

-- ---- a record is what its table keeps of it
column_eta : (x : Record) → Fits x → (row_of x.kind).sort ≡ 1 → record { kind = 0x01; code = x.code; a = x.a; b = 0; c = 0; d = 0; bits = 0 } ≡ x
unfolding row_of line_of
column_eta x f s =
    let k = column-kind x.kind s in
    let b = sym (f.no_b (ap (λ (v : ℕ). (row_of v).b) k)) in
    let c = sym (f.no_c (ap (λ (v : ℕ). (row_of v).c) k)) in
    let d = sym (f.no_d (ap (λ (v : ℕ). (row_of v).d) k)) in
    let z = sym (f.no_bits (ap (λ (v : ℕ). (row_of v).bits) k)) in
    let e = sym k in
    λ i. record { kind = e i; code = x.code; a = x.a; b = b i; c = c i; d = d i; bits = z i }

expr_eta : (x : Record) → Fits x → (row_of x.kind).sort ≡ 2 → record { kind = x.kind; code = x.code; a = x.a; b = x.b; c = 0; d = 0; bits = x.bits } ≡ x
expr_eta x f s =
    let c = sym (f.no_c (expr-row x.kind s).c) in
    let d = sym (f.no_d (expr-row x.kind s).d) in
    λ i. record { kind = x.kind; code = x.code; a = x.a; b = x.b; c = c i; d = d i; bits = x.bits }

operator_eta : (x : Record) → Fits x → (row_of x.kind).sort ≡ 3 → record { kind = x.kind; code = x.code; a = x.a; b = x.b; c = x.c; d = x.d; bits = 0 }
    ≡ x
operator_eta x f s =
    let z = sym (f.no_bits (no_bits x.kind (λ e. omega arith))) in
    λ i. record { kind = x.kind; code = x.code; a = x.a; b = x.b; c = x.c; d = x.d; bits = z i }

-- an item, as the next one of its list
item_eta :
    (p : Plan) (x y : Record) (st m : ℕ) → Sized p → p.items.count < 2048 → Fits x → (row_of x.kind).sort ≡ 4 → item_kind y m ≡ x.kind → st + m
    ≡ p.items.count
    → item_of (with_item p x) y st m ≡ x
item_eta p x y st m z room f s k e =
    let n = ap (item_record (with_item p x)) e ∙ new-item p x z room in
    let o = sym (f.no_code (item-code x.kind s)) in
    let c = sym (f.no_c (item-row x.kind s).c) in
    let d = sym (f.no_d (item-row x.kind s).d) in
    let v = sym (f.no_bits (no_bits x.kind (λ q. omega arith))) in
    λ i. record { kind = k i; code = o i; a = (n i).a; b = (n i).b; c = c i; d = d i; bits = v i }

-- ---- the parts of a file so far
pub record Three (xs : List Record) (cs es os : List Record) : Type 0 where
  pub columns : part_of 1 xs ≡ cs
  pub exprs : part_of 2 xs ≡ es
  pub operators : part_of 3 xs ≡ os

pub data Parts (xs : List Record) (w : Wanted) (p : Plan) : Type 0 where
  at_rest :
      w.left + w.more ≡ 0
      → Three xs (columns_to p p.columns.count) (exprs_to p p.expressions.count) (operators_to p p.operators.count) → Parts xs w p
  in_expr :
      (i : ℕ) → p.expressions.count ≡ suc i → Lists p i p.operators.count → Open w (expr_record p i) (expr_start p i) p.items.count
      → ends_in 1 false xs ≡ false → ends_in 2 false xs ≡ true → ends_in 3 false xs ≡ false
      → Three xs (columns_to p p.columns.count)
      (exprs_to p i ++ (expr_record p i ∷ items_of p (expr_record p i) (expr_start p i) (p.items.count - expr_start p i))) (operators_to p p.operators.count)
      → Parts xs w p
  in_operator :
      (i : ℕ) → p.operators.count ≡ suc i → Lists p p.expressions.count i → Open w (operator_record p i) (operator_start p i) p.items.count
      → ends_in 1 false xs ≡ false → ends_in 2 false xs ≡ false → ends_in 3 false xs ≡ true
      → Three xs (columns_to p p.columns.count) (exprs_to p p.expressions.count)
      (operators_to p i ++ (operator_record p i ∷ items_of p (operator_record p i) (operator_start p i) (p.items.count - operator_start p i)))
      → Parts xs w p

-- where no item is wanted, the parts are whole
pub parts_whole : (xs : List Record) (w : Wanted) (p : Plan) → Wants w → kind_wanted w ≡ 0 → Parts xs w p → Three xs (columns_to p p.columns.count)
    (exprs_to p p.expressions.count) (operators_to p p.operators.count)
unfolding exprs_to operators_to
parts_whole xs w p f z (at_rest n t) = t
parts_whole xs w p f z (in_expr i e l o a b c t) =
    let y = expr_record p i in
    let h = open_shut w y (expr_start p i) p.items.count f z o in
    let n : p.items.count - expr_start p i ≡ first_of y + second_of y = omega arith in
    record {
      columns = t.columns;
      exprs = t.exprs ∙ ap (λ (k : ℕ). exprs_to p i ++ (y ∷ items_of p y (expr_start p i) k)) n ∙ ap (exprs_to p) (sym e);
      operators = t.operators;
    }
parts_whole xs w p f z (in_operator i e l o a b c t) =
    let y = operator_record p i in
    let h = open_shut w y (operator_start p i) p.items.count f z o in
    let n : p.items.count - operator_start p i ≡ first_of y + second_of y = omega arith in
    record {
      columns = t.columns;
      exprs = t.exprs;
      operators = t.operators ∙ ap (λ (k : ℕ). operators_to p i ++ (y ∷ items_of p y (operator_start p i) k)) n ∙ ap (operators_to p) (sym e);
    }

-- ---- one record more
lists_grow : (p q : Plan) (m n : ℕ) → Extends p q → m ≤ p.expressions.count → n ≤ p.operators.count → Lists p m n → Lists q m n
lists_grow p q m n e hm hn l =
    record {
      expr = λ i h. subst (λ (y : Record). expr_start q i + (first_of y + second_of y) ≤ q.items.count) (sym (e.expr i (omega arith)))
          (let s = e.expr-start i (omega arith) in omega (arith, l.expr i h, e.items));
      operator = λ i h. subst (λ (y : Record). operator_start q i + (first_of y + second_of y) ≤ q.items.count) (sym (e.operator i (omega arith)))
          (let s = e.operator-start i (omega arith) in omega (arith, l.operator i h, e.items));
    }

-- the other parts stay
module _ (xs : List Record) (x : Record) (p q : Plan) (e : Extends p q) (l : Lists p p.expressions.count p.operators.count)
    (t : Three xs (columns_to p p.columns.count) (exprs_to p p.expressions.count) (operators_to p p.operators.count)) where
  columns-stay : Joins 1 xs x false → part_of 1 (xs ++ (x ∷ [])) ≡ columns_to q p.columns.count
  columns-stay j = j.part ∙ append-nil (part_of 1 xs) ∙ t.columns ∙ sym (columns-same p q e p.columns.count (omega arith))

  exprs-stay : Joins 2 xs x false → part_of 2 (xs ++ (x ∷ [])) ≡ exprs_to q p.expressions.count
  exprs-stay j = j.part ∙ append-nil (part_of 2 xs) ∙ t.exprs ∙ sym (exprs-same p q e p.expressions.count (omega arith) l.expr)

  operators-stay : Joins 3 xs x false → part_of 3 (xs ++ (x ∷ [])) ≡ operators_to q p.operators.count
  operators-stay j = j.part ∙ append-nil (part_of 3 xs) ∙ t.operators ∙ sym (operators-same p q e p.operators.count (omega arith) l.operator)

pub joins-head : (k : ℕ) (xs : List Record) (x : Record) (n : ℕ) → (row_of x.kind).sort ≡ n → (n ≡ 4 → ⊥) → Joins k xs x (eqb n k)
joins-head k xs x n e f = joins k xs x (eqb n k) (belongs-head k (ends_in k false xs) x n e f)

module _ (xs : List Record) (x : Record) (p : Plan) (z : Sized p) (f : Fits x) (l : Lists p p.expressions.count p.operators.count)
    (t : Three xs (columns_to p p.columns.count) (exprs_to p p.expressions.count) (operators_to p p.operators.count)) where
  pub parts-column : p.columns.count < 64 → (row_of x.kind).sort ≡ 1 → Parts (xs ++ (x ∷ [])) (list_of (row_of x.kind) x) (with_column p x)
  unfolding columns_to
  parts-column h s =
      let q = with_column p x in
      let e = column-longer p x in
      let j = joins-head 1 xs x 1 s (λ u. omega arith) in
      at_rest (no_list (row_of x.kind) x (column-row x.kind s))
      (record {
        columns = j.part
            ∙ (λ i. (t.columns ∙ sym (columns-same p q e p.columns.count (omega arith))) i ++ (sym (new-column p x z h ∙ column_eta x f s) i ∷ []))
            ∙ ap (columns_to q) (sym (add-one p.columns.count));
        exprs = exprs-stay xs x p q e l t (joins-head 2 xs x 1 s (λ u. omega arith));
        operators = operators-stay xs x p q e l t (joins-head 3 xs x 1 s (λ u. omega arith));
      })

  pub parts-expr : p.expressions.count < 1024 → (row_of x.kind).sort ≡ 2 → Parts (xs ++ (x ∷ [])) (list_of (row_of x.kind) x)
      (with_expr p x p.items.count)
  unfolding items_of
  parts-expr h s =
      let q = with_expr p x p.items.count in
      let n = p.expressions.count in
      let e = expr-longer p x p.items.count in
      let j = joins-head 2 xs x 2 s (λ u. omega arith) in
      let d : q.items.count - expr_start q n ≡ 0 = let st = new-expr-start p x p.items.count z h in omega arith in
      in_expr n (add-one n) (lists_grow p q n p.operators.count e (omega arith) (omega arith) l) (expr_open p x z h s)
      (joins-head 1 xs x 2 s (λ u. omega arith)).ends j.ends (joins-head 3 xs x 2 s (λ u. omega arith)).ends
      (record {
        columns = columns-stay xs x p q e l t (joins-head 1 xs x 2 s (λ u. omega arith));
        exprs = j.part
            ∙ (λ i. (t.exprs ∙ sym (exprs-same p q e n (omega arith) l.expr)) i ++ (sym (new-expr p x p.items.count z h ∙ expr_eta x f s) i ∷ []))
            ∙ ap (λ (k : ℕ). exprs_to q n ++ (expr_record q n ∷ items_of q (expr_record q n) (expr_start q n) k)) (sym d);
        operators = operators-stay xs x p q e l t (joins-head 3 xs x 2 s (λ u. omega arith));
      })

  pub parts-operator : p.operators.count < 128 → (row_of x.kind).sort ≡ 3 → Parts (xs ++ (x ∷ [])) (list_of (row_of x.kind) x)
      (with_operator p x p.items.count)
  unfolding items_of
  parts-operator h s =
      let q = with_operator p x p.items.count in
      let n = p.operators.count in
      let e = operator-longer p x p.items.count in
      let j = joins-head 3 xs x 3 s (λ u. omega arith) in
      let d : q.items.count - operator_start q n ≡ 0 = let st = new-operator-start p x p.items.count z h in omega arith in
      in_operator n (add-one n) (lists_grow p q p.expressions.count n e (omega arith) (omega arith) l) (operator_open p x z h)
      (joins-head 1 xs x 3 s (λ u. omega arith)).ends (joins-head 2 xs x 3 s (λ u. omega arith)).ends j.ends
      (record {
        columns = columns-stay xs x p q e l t (joins-head 1 xs x 3 s (λ u. omega arith));
        exprs = exprs-stay xs x p q e l t (joins-head 2 xs x 3 s (λ u. omega arith));
        operators = j.part
            ∙ (λ i. (t.operators ∙ sym (operators-same p q e n (omega arith) l.operator)) i
            ++ (sym (new-operator p x p.items.count z h ∙ operator_eta x f s) i ∷ []))
            ∙ ap (λ (k : ℕ). operators_to q n ++ (operator_record q n ∷ items_of q (operator_record q n) (operator_start q n) k)) (sym d);
      })

-- one item more in its list
module _ (w : Wanted) (p : Plan) (x : Record) (z : Sized p) (room : p.items.count < 2048) (n : kind_wanted w ≡ 0 → ⊥) (f : Fits x)
    (s : (row_of x.kind).sort ≡ 4) (k : x.kind ≡ kind_wanted w) where
  list-more :
      (y : Record) (st : ℕ) → Open w y st p.items.count
      → items_of p y st (p.items.count - st) ++ (x ∷ []) ≡ items_of (with_item p x) y st (p.items.count + 1 - st)
  unfolding items_of
  list-more y st o =
      let m = p.items.count - st in
      let e : st + (p.items.count - st) ≡ p.items.count = omega (arith, o.begun) in
      let d : suc (p.items.count - st) ≡ p.items.count + 1 - st = omega (arith, o.begun) in
      (λ i. sym (items-same p (with_item p x) (item-longer p x) y st m (omega arith)) i
      ++ (sym (item_eta p x y st m z room f s (open_kind w y st p.items.count n o ∙ sym k) e) i ∷ []))
      ∙ ap (items_of (with_item p x) y st) d

  joins-item : (k : ℕ) (xs : List Record) (t : Bool) → ends_in k false xs ≡ t → Joins k xs x t
  joins-item k xs t e = joins k xs x t (belongs-item k (ends_in k false xs) x s ∙ e)

  pub parts-item : (xs : List Record) → Parts xs w p → Parts (xs ++ (x ∷ [])) (less_one w) (with_item p x)
  parts-item xs (at_rest e t) = absurd (let l = some_left w n in omega arith)
  parts-item xs (in_expr i e l o a b c t) =
      let q = with_item p x in
      let g = item-longer p x in
      let y = expr_record p i in
      let st = expr_start p i in
      let j = joins-item 2 xs true b in
      in_expr i e (lists_grow p q i p.operators.count g (omega arith) (omega arith) l) (open_less w y st p.items.count n o)
      (joins-item 1 xs false a).ends j.ends (joins-item 3 xs false c).ends
      (record {
        columns = (joins-item 1 xs false a).part ∙ append-nil (part_of 1 xs) ∙ t.columns ∙ sym (columns-same p q g p.columns.count (omega arith));
        exprs = j.part ∙ ap (λ (v : List Record). v ++ (x ∷ [])) t.exprs
            ∙ append_assoc (exprs_to p i) (y ∷ items_of p y st (p.items.count - st)) (x ∷ [])
            ∙ (λ i2. sym (exprs-same p q g i (omega arith) l.expr) i2 ++ (y ∷ list-more y st o i2));
        operators = (joins-item 3 xs false c).part ∙ append-nil (part_of 3 xs) ∙ t.operators ∙ sym
            (operators-same p q g p.operators.count (omega arith) l.operator);
      })
  parts-item xs (in_operator i e l o a b c t) =
      let q = with_item p x in
      let g = item-longer p x in
      let y = operator_record p i in
      let st = operator_start p i in
      let j = joins-item 3 xs true c in
      in_operator i e (lists_grow p q p.expressions.count i g (omega arith) (omega arith) l) (open_less w y st p.items.count n o)
      (joins-item 1 xs false a).ends (joins-item 2 xs false b).ends j.ends
      (record {
        columns = (joins-item 1 xs false a).part ∙ append-nil (part_of 1 xs) ∙ t.columns ∙ sym (columns-same p q g p.columns.count (omega arith));
        exprs = (joins-item 2 xs false b).part ∙ append-nil (part_of 2 xs) ∙ t.exprs ∙ sym (exprs-same p q g p.expressions.count (omega arith) l.expr);
        operators = j.part ∙ ap (λ (v : List Record). v ++ (x ∷ [])) t.operators
            ∙ append_assoc (operators_to p i) (y ∷ items_of p y st (p.items.count - st)) (x ∷ [])
            ∙ (λ i2. sym (operators-same p q g i (omega arith) l.operator) i2 ++ (y ∷ list-more y st o i2));
      })
