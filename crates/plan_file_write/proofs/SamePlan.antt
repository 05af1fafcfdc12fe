-- A plan that keeps the rules is written as the plan file's own definition has it. Assumes nothing.
use Prim.Native.Nat.{ℕ, zero, suc, ◌+◌, ◌<◌, ◌≤◌}
use mathlib.Core.Bool.{true, cond}
use mathlib.Core.List.{List, [], ◌∷◌, ◌++◌}
use mathlib.Core.Path.{◌≡◌, refl, sym, subst, ◌∙◌}
use native.Mathlib.Omega.{arith}
use borrow.Author.Tests.{ltb-true}
use lib.Dec.{eqb, ltb}
use Rattle.laws.proofs.Bools.{and_left, and_right}
use Rattle.plan_kinds.specs.declared.Record.{Record}
use Rattle.plan_kinds.specs.Rows.{row_of, expressions}
use Rattle.plan_kinds.specs.Records.{code_ok, bits_ok}
use Rattle.plan.specs.declared.Plan.{Plan}
use Rattle.plan.specs.Records.{column_record, expr_record, expr_start, operator_record, operator_start}
use Rattle.plan_rules.specs.Rules.{plan_ok, record_ok, expr_ok_of}
use Rattle.plan_rules.proofs.RuleLaws.{rules}
use Rattle.plan_file_laws.specs.ListItems.{first_of, second_of}
use Rattle.plan_file_laws.specs.Writing.{put_record, put_records}
use Rattle.plan_file_laws.specs.PlanRecords.{item_of, items_of, with_items, columns_to, exprs_to, operators_to, write_of}
use Rattle.plan_file_laws.proofs.Sequences.{put_snoc}
use Rattle.plan_file_laws.proofs.Cuts.{put_rest}
use Rattle.plan_file_laws.proofs.Written.{put_append}
use Rattle.writing.specs.Text.{lines}
use Rattle.plan_file_write.specs.Written.{record_bytes, item_in, items_bytes, listed_bytes, columns_bytes, expr_bytes}
use Rattle.plan_file_write.specs.Written.{operator_bytes, written_of}
use Rattle.plan_file_write.proofs.WriteLaws.{same_bits}

-- a literal that its four bytes hold
Small : Record → Type 0
Small x = (row_of x.kind).bits ≡ 4 → x.bits < 4294967296

same_bytes : (x : Record) → Small x → record_bytes x ≡ put_record x []
unfolding record_bytes Small
same_bytes x f = λ i. put_record
    (record { kind = x.kind; code = x.code; a = x.a; b = x.b; c = x.c; d = x.d; bits = same_bits (row_of x.kind).bits x.bits f i }) []

record_rest : (x : Record) (u : List ℕ) → put_record x u ≡ put_record x [] ++ u
unfolding put_records
record_rest x u = put_rest (x ∷ []) u

-- records one after the other
after_one : (xs : List Record) (x : Record) (b : List ℕ) → b ≡ put_records xs [] → Small x → b ++ record_bytes x ≡ put_records (xs ++ (x ∷ [])) []
after_one xs x b e f = (λ i. e i ++ same_bytes x f i) ∙ sym (put_snoc xs x [] ∙ put_rest xs (put_record x []))

after-some : (xs ys : List Record) (b c : List ℕ) → b ≡ put_records xs [] → c ≡ put_records ys [] → b ++ c ≡ put_records (xs ++ ys) []
after-some xs ys b c e g = (λ i. e i ++ g i) ∙ sym (put_append xs ys [] ∙ put_rest xs (put_records ys []))

bits_small : (n v : ℕ) → cond (eqb n 8) true (cond (eqb n 4) (ltb v 4294967296) (eqb v 0)) ≡ true → n ≡ 4 → v < 4294967296
bits_small n v h e = ltb-true v 4294967296 (subst (λ (k : ℕ). cond (eqb k 8) true (cond (eqb k 4) (ltb v 4294967296) (eqb v 0)) ≡ true) e h)

module _ (p : Plan) where
  items-same : (x : Record) (st n : ℕ) → lines n (λ (k : ℕ). record_bytes (item_in p.items.a p.items.b x st k)) ≡ put_records (items_of p x st n) []
  unfolding lines items_of put_records Small
  items-same x st zero = refl
  items-same x st (suc n) = after_one (items_of p x st n) (item_of p x st n) _ (items-same x st n) (λ e. omega arith)

  listed_same : (x : Record) (st : ℕ) → Small x → listed_bytes p.items.a p.items.b x st ≡ put_records (with_items p x st) []
  unfolding listed_bytes items_bytes put_records
  listed_same x st f =
      (λ i. same_bytes x f i ++ items-same x st (first_of x + second_of x) i)
      ∙ sym (record_rest x (put_records (items_of p x st (first_of x + second_of x)) []))

  columns-same : (n : ℕ) → columns_bytes p.columns.name p.columns.kind n ≡ put_records (columns_to p n) []
  unfolding columns_bytes lines columns_to put_records Small
  columns-same zero = refl
  columns-same (suc n) = after_one (columns_to p n) (column_record p n) _ (columns-same n) (λ e. omega arith)

  operators-same : (n : ℕ)
      → lines n (operator_bytes p.operators.kind p.operators.code p.operators.a p.operators.b p.operators.c p.operators.d
      p.operators.start p.items.a p.items.b) ≡ put_records (operators_to p n) []
  unfolding lines operators_to put_records Small
  operators-same zero = refl
  operators-same (suc n) = after-some (operators_to p n) (with_items p (operator_record p n) (operator_start p n)) _ _ (operators-same n)
      (listed_same (operator_record p n) (operator_start p n) (λ e. omega arith))

  module _ (ok : plan_ok p ≡ true) where
    expr-small : (i : ℕ) → i < p.expressions.count → Small (expr_record p i)
    unfolding Small expr_ok_of record_ok bits_ok
    expr-small i l e =
        let x = expr_record p i in
        let row = row_of x.kind in
        let whole = and_left _ _ ((rules p ok).expr i l) in
        let coded = and_right (eqb row.sort expressions) _ whole in
        let literal = and_right (code_ok row x) _ coded in
        bits_small row.bits x.bits (and_left _ _ literal) e

    exprs-same : (n : ℕ) → n ≤ p.expressions.count
        → lines n (expr_bytes p.expressions.kind p.expressions.code p.expressions.a p.expressions.b p.expressions.bits
        p.expressions.start p.items.a p.items.b) ≡ put_records (exprs_to p n) []
    unfolding lines exprs_to put_records
    exprs-same zero l = refl
    exprs-same (suc n) l = after-some (exprs_to p n) (with_items p (expr_record p n) (expr_start p n)) _ _ (exprs-same n (omega arith))
        (listed_same (expr_record p n) (expr_start p n) (expr-small n (omega arith)))

    pub written_same : written_of p ≡ write_of p
    unfolding written_of
    written_same =
        after-some (columns_to p p.columns.count) (exprs_to p p.expressions.count ++ operators_to p p.operators.count) _ _
        (columns-same p.columns.count)
        (after-some (exprs_to p p.expressions.count) (operators_to p p.operators.count) _ _ (exprs-same p.expressions.count (omega arith))
        (operators-same p.operators.count))
