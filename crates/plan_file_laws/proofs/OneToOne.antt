-- Two accepted files with one plan have the same columns, the same expressions with their items and the same operators with their items, each in
-- the same order: they differ at most in how the three are mixed. Assumes nothing.
use Prim.Native.Nat.{ℕ, ◌+◌}
use mathlib.Core.Path.{◌≡◌, refl, sym, ap, ◌∙◌, subst}
use mathlib.Core.Bool.{Bool, true, false, cond}
use mathlib.Core.List.{List, [], ◌∷◌, ◌++◌}
use native.Mathlib.Omega.{arith}
use lib.Dec.{eqb}
use lib.ListN.{length, length-append}
use borrow.Author.Tests.{leb-true}
use Rattle.laws.proofs.Bools.{and_left, and_right}
use Rattle.plan_kinds.specs.declared.Record.{Record}
use Rattle.plan_kinds.specs.Rows.{row_of}
use Rattle.plan.specs.declared.Plan.{Plan}
use Rattle.plan.specs.Plans.{empty_plan}
use Rattle.plan.specs.Records.{expr_record, operator_record}
use Rattle.plan_rules.specs.Rules.{record_ok, lists_ok, expr_ok_of, operator_ok_of}
use Rattle.plan_file.specs.declared.Wanted.{Wanted}
use Rattle.plan_file.specs.State.{State}
use Rattle.plan_file.specs.Answers.{is_whole}
use Rattle.plan_file.specs.Steps.{kind_wanted, start_state, read_of}
use Rattle.plan_file.proofs.StepCases.{Way, a_column, an_expr, an_operator, an_item}
use Rattle.plan_file.proofs.Finish.{last_of}
use Rattle.plan_file_laws.specs.ByteStrings.{Bytes}
use Rattle.plan_file_laws.specs.Writing.{records_of, Fits}
use Rattle.plan_file_laws.specs.PlanRecords.{columns_to, exprs_to, operators_to, part_from, part_of}
use Rattle.plan_file_laws.proofs.OpenLists.{some_left}
use Rattle.plan_file_laws.proofs.Phases.{RulesTo, shut}
use Rattle.plan_file_laws.proofs.RulesRead.{Kept, rules_in}
use Rattle.plan_file_laws.proofs.Written.{All}
use Rattle.plan_file_laws.proofs.Sequences.{Reads, begin, next, all_left, all-last, file_of_lem, kept-reads}
use Rattle.plan_file_laws.proofs.Parts.{ends_in, belongs-item, Joins, joins, joins-head, Lists, Three, Parts, at_rest, in_expr, in_operator}
use Rattle.plan_file_laws.proofs.Parts.{parts_whole, parts-column, parts-expr, parts-operator, parts-item}

-- the lists of a plan that keeps the rules are whole
pub lists_of : (p : Plan) (e o : ℕ) → RulesTo p e o → Lists p e o
unfolding expr_ok_of operator_ok_of lists_ok
lists_of p e o r =
    record {
      expr = λ i h. leb-true _ _ (and_left _ _ (and_right (record_ok 2 (expr_record p i) p.columns.count i p.operators.count) _ (r.expr i h)));
      operator = λ i h. leb-true _ _
          (and_left _ _ (and_right (record_ok 3 (operator_record p i) p.columns.count p.expressions.count i) _ (r.operator i h)));
    }

parts-way : (xs : List Record) (q : State) (x : Record) (t : State) → Kept q → Fits x → Way q x t → Parts xs q.wanted q.plan → Parts (xs ++ (x ∷ []))
    t.wanted t.plan
parts-way xs q x t k f (a_column s h z) a =
    let r = shut q.wanted q.plan k.wants z k.phase in
    parts-column xs x q.plan r.sized f (lists_of q.plan _ _ r) (parts_whole xs q.wanted q.plan k.wants z a) h s
parts-way xs q x t k f (an_expr s h z) a =
    let r = shut q.wanted q.plan k.wants z k.phase in
    parts-expr xs x q.plan r.sized f (lists_of q.plan _ _ r) (parts_whole xs q.wanted q.plan k.wants z a) h s
parts-way xs q x t k f (an_operator s h z) a =
    let r = shut q.wanted q.plan k.wants z k.phase in
    parts-operator xs x q.plan r.sized f (lists_of q.plan _ _ r) (parts_whole xs q.wanted q.plan k.wants z a) h s
parts-way xs q x t k f (an_item s h n e) a = parts-item q.wanted q.plan x (rules_in q.wanted q.plan k.phase).0 h n f s e xs a

parts-start : Parts [] start_state.wanted start_state.plan
unfolding start_state empty_plan columns_to exprs_to operators_to part_from
parts-start = at_rest refl (record { columns = refl; exprs = refl; operators = refl })

pub parts-reads : (xs : List Record) (q : State) → Reads xs q → All Fits xs → Parts xs q.wanted q.plan
parts-reads xs q begin a = parts-start
parts-reads xs q (next {xs = ys} {q = p} x t r k) a =
    parts-way ys p x t (kept-reads ys p r) (all-last Fits ys x a) k.way (parts-reads ys p r (all_left Fits ys (x ∷ []) a))

-- Where no item is wanted, the parts of the records are those of the plan to which they lead. Assumes nothing.
pub three-reads :
    (xs : List Record) (q : State) → Reads xs q → All Fits xs → kind_wanted q.wanted ≡ 0
    → Three xs (columns_to q.plan q.plan.columns.count) (exprs_to q.plan q.plan.expressions.count)
    (operators_to q.plan q.plan.operators.count)
three-reads xs q r a z = parts_whole xs q.wanted q.plan (kept-reads xs q r).wants z (parts-reads xs q r a)

-- The plan of an accepted file gives back its columns, its expressions with their items, and its operators with their items. Assumes nothing.
pub parts-read :
    (s : List ℕ) → Bytes s → is_whole (read_of s).reading ≡ true
    → Three (records_of s) (columns_to (read_of s).plan (read_of s).plan.columns.count) (exprs_to (read_of s).plan (read_of s).plan.expressions.count)
    (operators_to (read_of s).plan (read_of s).plan.operators.count)
parts-read s b e =
    let f = file_of_lem s b e in
    subst (λ (p : Plan). Three (records_of s) (columns_to p p.columns.count) (exprs_to p p.expressions.count) (operators_to p p.operators.count))
    (sym f.plan)
    (three-reads (records_of s) (last_of s) f.reads f.fit f.nothing)

-- Two accepted files with one plan have the same three parts. Assumes nothing.
pub same_parts :
    (s t : List ℕ) → Bytes s → Bytes t → is_whole (read_of s).reading ≡ true → is_whole (read_of t).reading ≡ true → (read_of s).plan ≡ (read_of t).plan
    → Three (records_of s) (part_of 1 (records_of t)) (part_of 2 (records_of t)) (part_of 3 (records_of t))
same_parts s t bs bt es et p =
    let u = parts-read s bs es in
    let v = parts-read t bt et in
    record {
      columns = u.columns ∙ ap (λ (q : Plan). columns_to q q.columns.count) p ∙ sym v.columns;
      exprs = u.exprs ∙ ap (λ (q : Plan). exprs_to q q.expressions.count) p ∙ sym v.exprs;
      operators = u.operators ∙ ap (λ (q : Plan). operators_to q q.operators.count) p ∙ sym v.operators;
    }

-- ---- every record is in one of the three
bit : Bool → ℕ
bit t = cond t 1 0

one-longer : (k : ℕ) (xs : List Record) (x : Record) (t : Bool) → Joins k xs x t → length (part_of k (xs ++ (x ∷ []))) ≡ length (part_of k xs) + bit t
unfolding bit
one-longer k xs x t j = ap length j.part ∙ length-append (part_of k xs) (cond t (x ∷ []) []) ∙ ap (λ (n : ℕ). length (part_of k xs) + n) (go t)
  where
    go : (t : Bool) → length (cond t (x ∷ []) []) ≡ cond t 1 0
    go true = refl
    go false = refl

abbrev Sum : List Record → Type 0
Sum xs = length (part_of 1 xs) + (length (part_of 2 xs) + length (part_of 3 xs)) ≡ length xs

sum_next :
    (xs : List Record) (x : Record) (a b c : Bool) → Joins 1 xs x a → Joins 2 xs x b → Joins 3 xs x c → bit a + (bit b + bit c) ≡ 1 → Sum xs → Sum
    (xs ++ (x ∷ []))
sum_next xs x a b c j1 j2 j3 e s =
    omega (arith, one-longer 1 xs x a j1, one-longer 2 xs x b j2, one-longer 3 xs x c j3, length-append xs (x ∷ []))

sum_head : (xs : List Record) (x : Record) (n : ℕ) → (row_of x.kind).sort ≡ n → (n ≡ 4 → ⊥) → bit (eqb n 1) + (bit (eqb n 2) + bit (eqb n 3)) ≡ 1 → Sum xs
    → Sum (xs ++ (x ∷ []))
sum_head xs x n e f g s = sum_next xs x (eqb n 1) (eqb n 2) (eqb n 3) (joins-head 1 xs x n e f) (joins-head 2 xs x n e f) (joins-head 3 xs x n e f) g s

sum_item : (xs : List Record) (x : Record) (w : Wanted) (p : Plan) → (row_of x.kind).sort ≡ 4 → (kind_wanted w ≡ 0 → ⊥) → Parts xs w p → Sum xs → Sum
    (xs ++ (x ∷ []))
unfolding bit
sum_item xs x w p e z (at_rest n t) s = absurd (let l = some_left w z in omega arith)
sum_item xs x w p e z (in_expr i n l o a b c t) s = sum_next xs x false true false (join 1 false a) (join 2 true b) (join 3 false c) refl s
  where
    join : (k : ℕ) (t : Bool) → ends_in k false xs ≡ t → Joins k xs x t
    join k t u = joins k xs x t (belongs-item k (ends_in k false xs) x e ∙ u)
sum_item xs x w p e z (in_operator i n l o a b c t) s = sum_next xs x false false true (join 1 false a) (join 2 false b) (join 3 true c) refl s
  where
    join : (k : ℕ) (t : Bool) → ends_in k false xs ≡ t → Joins k xs x t
    join k t u = joins k xs x t (belongs-item k (ends_in k false xs) x e ∙ u)

sum_way : (xs : List Record) (q : State) (x : Record) (t : State) → Way q x t → Parts xs q.wanted q.plan → Sum xs → Sum (xs ++ (x ∷ []))
unfolding bit
sum_way xs q x t (a_column s h z) a u = sum_head xs x 1 s (λ e. omega arith) refl u
sum_way xs q x t (an_expr s h z) a u = sum_head xs x 2 s (λ e. omega arith) refl u
sum_way xs q x t (an_operator s h z) a u = sum_head xs x 3 s (λ e. omega arith) refl u
sum_way xs q x t (an_item s h n e) a u = sum_item xs x q.wanted q.plan s n a u

pub sum_reads : (xs : List Record) (q : State) → Reads xs q → All Fits xs → length (part_of 1 xs) + (length (part_of 2 xs) + length (part_of 3 xs)) ≡ length xs
unfolding part_from
sum_reads xs q begin a = refl
sum_reads xs q (next {xs = ys} {q = p} x t r k) a =
    let b = all_left Fits ys (x ∷ []) a in
    sum_way ys p x t k.way (parts-reads ys p r b) (sum_reads ys p r b)

-- The three parts of an accepted file have together as many records as the file: none is left out. Assumes nothing.
pub parts_all : (s : List ℕ) → Bytes s → is_whole (read_of s).reading ≡ true → length (part_of 1 (records_of s))
    + (length (part_of 2 (records_of s)) + length (part_of 3 (records_of s))) ≡ length (records_of s)
parts_all s b e = let f = file_of_lem s b e in sum_reads (records_of s) (last_of s) f.reads f.fit
