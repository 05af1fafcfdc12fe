-- A Selection or a join that the simplifier replaces passes the same rows. Assumes nothing.
use Rattle.std.proofs.Common.{Ok, Err, Result}
use mathlib.Core.Path.{◌≡◌, refl, sym, ap, ap₂, subst, ◌∙◌}
use mathlib.Core.Bool.{true, ◌&&◌}
use mathlib.Core.Logic.{◌⊎◌, inl, inr}
use Prim.Native.Nat.{ℕ, ◌+◌, ◌<◌}
use native.Mathlib.Omega.{arith}
use lib.Dec.{ltb, leb}
use lib.ListN.{get_or, set, replicate}
use borrow.Author.Tests.{ltb-true}
use Rattle.laws.proofs.Bools.{and_left, and_right, cond_elim}
use Rattle.plan.specs.declared.Plan.{Plan}
use Rattle.plan.specs.declared.Expr.{Expr}
use Rattle.plan.specs.declared.Operator.{Operator}
use Rattle.plan.specs.Extends.{Sized}
use Rattle.plan.proofs.AppendLaws.{new-operator, new-operator-start}
use Rattle.plan_rules.specs.Rules.{plan_ok}
use Rattle.plan_rules.proofs.RuleLaws.{rules}
use Rattle.plan_data.specs.Nodes.{node_at, operator_data, record_of_operator, operator_at}
use Rattle.plan_data.specs.declared.JoinType.{JoinType}
use Rattle.plan_data.specs.declared.OperatorData.{OperatorData}
use Rattle.plan_data.specs.declared.OperatorData.TheVariants.{Selection, Join}
use Rattle.plan_data.proofs.NodeLaws.{operator-back}
use Rattle.rows_spec.specs.Compare.{truth_of}
use Rattle.rows_spec.specs.Typing.{boolean_at}
use Rattle.rows_spec.specs.Cells.{row_ok}
use Rattle.rows_spec.specs.Evaluate.{value_on, typed}
use Rattle.rows_spec.specs.declared.Row.{Row}
use Rattle.simplify_spec.specs.Shapes.{is_literal}
use Rattle.simplify_spec.specs.OneExpression.{shape_in, handle, with_items, simplify_at}
use Rattle.simplify_spec.specs.OneOperator.{held_of, held_count, held_at, each_to, item_first, item_second, write_all, with_list}
use Rattle.simplify_spec.specs.OneOperator.{rebuilt_of, plan_with, plan_added, operator_handle, rewrite_of, start_of, each_of, simplify_of}
use Rattle.simplify_spec.specs.Meaning.{Good, value_in}
use Rattle.simplify_spec.specs.declared.Tables.{Tables}
use Rattle.simplify_spec.specs.Answers.{Simplified}
use Rattle.simplify_spec.specs.declared.Held.{Held}
use Rattle.simplify_spec.specs.declared.Held.TheVariants.{One}
use Rattle.simplify_spec.specs.declared.Rewrite.{Rewrite}
use Rattle.simplify_spec.specs.declared.Rewrite.TheVariants.{Keep, Replace}
use Rattle.simplify_spec.specs.declared.SimplifyError.{SimplifyError}
use Rattle.simplify_spec.specs.declared.SimplifyError.TheVariants.{Room}
use Rattle.simplify_spec.specs.Answers.{Rewritten}
use Rattle.simplify_spec.proofs.StepLaws.{enter_in}
use Rattle.simplify_spec.proofs.Operating.{lit_truth}
use Rattle.simplify_spec.proofs.Theorems.{plan-good, grows, within, truth_kept}
use Rattle.simplify_spec.proofs.HeldLaws.{held_in}
use Rattle.simplify_spec.proofs.OperatorTheorems.{is_rewrite}

-- on every row that is right for p, the expression of q is as true as that of p
abbrev pub AsTrue : Plan → ℕ → Plan → ℕ → Type 0
AsTrue p e q f = (row : Row) → row_ok p row ≡ true → truth_of (value_on q row f) ≡ truth_of (value_on p row e)

-- the operator r of q is what `make` says of an expression that is as true as the expression e of p
pub record Remade (p q : Plan) (e : ℕ) (make : Expr → OperatorData) (r : Operator) : Type 0 where
  pub at : ℕ
  pub reads : operator_at q r.0 ≡ make (handle at)
  pub same : AsTrue p e q at

-- a Selection of p by e over i is replaced by r: it is i itself, and e is TRUE on every row; or a Selection over i
abbrev pub Passed : Plan → Plan → ℕ → Operator → Operator → Type 0
Passed p q e i r = ((r ≡ i) × ((row : Row) → row_ok p row ≡ true → truth_of (value_on p row e) ≡ 2)) ⊎ Remade p q e (λ (f : Expr). Selection f i) r

module _ (p : Plan) (s : Sized p) (ok : plan_ok p ≡ true) (o : Operator) (lt : o.0 < p.operators.count) (e : Expr)
    (one : held_of (operator_at p o.0) ≡ One e) where
  abbrev x : Simplified
  x = simplify_at e.0 (start_of p)

  abbrev ats : ℕ → ℕ
  ats k = get_or (set (replicate 2048 0) 0 (simplify_at e.0 (start_of p)).at) k 0

  there : e.0 < p.expressions.count
  there =
      subst (λ (h : Held). (k : ℕ) → k < held_count h → held_at p.items h k < p.expressions.count) one (held_in p (rules p ok) o.0 lt) 0 (omega arith)

  each-is : each_of p (operator_at p o.0) ≡ record {
    st = (simplify_at e.0 (start_of p)).st;
    ok = (simplify_at e.0 (start_of p)).ok;
    ats = set
        (replicate 2048 0) 0 (simplify_at e.0 (start_of p)).at;
  }
  unfolding each_to
  each-is =
      ap (λ (h : Held). each_to p.expressions.count (held_at p.items h) (start_of p) (held_count h)) one
      ∙ ap (λ (z : Simplified). record { st = z.st; ok = z.ok; ats = set (replicate 2048 0) 0 z.at })
      (enter_in p.expressions.count e.0 (start_of p) there)

  g : Good p (start_of p)
  g = plan-good p s ok

  module _ (q : (simplify_at e.0 (start_of p)).ok ≡ true) (ty : typed p e.0 ≡ true) where
    same_truth_of : (row : Row) → row_ok p row ≡ true → truth_of (value_in p (simplify_at e.0 (start_of p)).st row (simplify_at e.0 (start_of p)).at)
        ≡ truth_of (value_on p row e.0)
    same_truth_of = truth_kept p e.0 (start_of p) g there q (and_right (boolean_at p.columns.kind (node_at p) e.0) _ ty)

    -- an operator with one expression and no items, appended
    module _ (d : OperatorData) (make : Expr → OperatorData) (held : Held) (free : p.operators.count < 128)
        (kind code a b c f : ℕ) (made : record_of_operator (rebuilt_of d (simplify_at e.0 (start_of p)).st.items.count ats) ≡ record
        { kind = kind; code = code; a = a; b = b; c = c; d = f; bits = 0 })
        (back : operator_data (record { kind = kind; code = code; a = a; b = b; c = c; d = f; bits = 0 }) (simplify_at e.0 (start_of p)).st.items.count
        ≡ make (handle (simplify_at e.0 (start_of p)).at)) where
      abbrev t : Tables
      t = (simplify_at e.0 (start_of p)).st

      abbrev base : Plan
      base = plan_with p
          (with_items (simplify_at e.0 (start_of p)).st (with_list (simplify_at e.0 (start_of p)).st.items 0 (item_first p.items (One e) ats)
          (item_second (One e) ats)))

      base-sized : Sized base
      unfolding write_all
      base-sized =
          let z = (grows p e.0 (start_of p) g there q).good.sized in
          record {
            column-name = z.column-name;
            column-kind = z.column-kind;
            expr-kind = z.expr-kind;
            expr-code = z.expr-code;
            expr_a = z.expr_a;
            expr_b = z.expr_b;
            expr-bits = z.expr-bits;
            expr-start = z.expr-start;
            operator-kind = z.operator-kind;
            operator-code = z.operator-code;
            operator_a = z.operator_a;
            operator_b = z.operator_b;
            operator_c = z.operator_c;
            operator_d = z.operator_d;
            operator-start = z.operator-start;
            item_a = z.item_a;
            item_b = z.item_b;
          }

      pub remade : Remade p (plan_added p (simplify_at e.0 (start_of p)).st d (One e) ats) e.0 make (operator_handle p.operators.count)
      unfolding write_all
      remade =
          let y = record_of_operator (rebuilt_of d (simplify_at e.0 (start_of p)).st.items.count ats) in
          record {
            at = (simplify_at e.0 (start_of p)).at;
            reads =
                ap₂ operator_data
                (new-operator base (record_of_operator (rebuilt_of d (simplify_at e.0 (start_of p)).st.items.count ats))
                (simplify_at e.0 (start_of p)).st.items.count base-sized free
                ∙ (λ j. record { kind = (made j).kind; code = (made j).code; a = (made j).a; b = (made j).b; c = (made j).c; d = (made j).d; bits = 0 }))
                (new-operator-start base (record_of_operator (rebuilt_of d (simplify_at e.0 (start_of p)).st.items.count ats))
                (simplify_at e.0 (start_of p)).st.items.count base-sized free)
                ∙ back;
            same = same_truth_of;
          }

abbrev Outcome : Type 0
Outcome = Result Rewrite SimplifyError

never : {A : Type 0} {r : Operator} → ◌≡◌ {A = Outcome} (Ok Keep) (Ok (Replace r)) → A
never e = cc

never-room : {A : Type 0} {r : Operator} → ◌≡◌ {A = Outcome} (Err Room) (Ok (Replace r)) → A
never-room e = cc

same-handle : {a b : Operator} → ◌≡◌ {A = Outcome} (Ok (Replace a)) (Ok (Replace b)) → a ≡ b
same-handle e = cc

module _ (p : Plan) (s : Sized p) (ok : plan_ok p ≡ true) (o : Operator) (lt : o.0 < p.operators.count) (e : Expr) (ty : typed p e.0 ≡ true) where
  -- a typed Selection that is replaced
  pub selection_passes : (i : Operator) → operator_at p o.0 ≡ Selection e i → (r : Operator) → (simplify_of p o).rewrite ≡ Ok (Replace r) → Passed p
      (simplify_of p o).plan e.0 i r
  unfolding rewrite_of operator_data
  selection_passes i is = subst P (sym whole) parts
    where
      one : held_of (operator_at p o.0) ≡ One e
      one = ap held_of is

      x : Simplified
      x = simplify_at e.0 (start_of p)

      at : ℕ → ℕ
      at k = get_or (set (replicate 2048 0) 0 (simplify_at e.0 (start_of p)).at) k 0

      P : Rewritten → Type 0
      P w = (r : Operator) → w.rewrite ≡ Ok (Replace r) → Passed p w.plan e.0 i r

      whole : simplify_of p o
          ≡ rewrite_of p (Selection e i)
          (record {
            st = (simplify_at e.0 (start_of p)).st;
            ok = (simplify_at e.0 (start_of p)).ok;
            ats = set (replicate 2048 0) 0
                (simplify_at e.0 (start_of p)).at;
          })
      whole = is_rewrite p s ok o lt ∙ ap₂ (rewrite_of p) is (each-is p s ok o lt e one)

      parts : P
          (rewrite_of p (Selection e i)
          (record {
            st = (simplify_at e.0 (start_of p)).st;
            ok = (simplify_at e.0 (start_of p)).ok;
            ats = set (replicate 2048 0) 0
                (simplify_at e.0 (start_of p)).at;
          }))
      parts =
          cond_elim P (simplify_at e.0 (start_of p)).ok _ _
          (λ q.
          cond_elim P (simplify_at e.0 (start_of p)).st.changed _ _
          (λ c.
          cond_elim P (is_literal true (shape_in (simplify_at e.0 (start_of p)).st (simplify_at e.0 (start_of p)).at)) _ _
          (λ l r f.
          inl (
            sym (same-handle f),
            λ row right.
                sym (same_truth_of p s ok o lt e one q ty row right)
                ∙ lit_truth p (simplify_at e.0 (start_of p)).st (grows p e.0 (start_of p) (plan-good p s ok) (there p s ok o lt e one) q).good row true
                (simplify_at e.0 (start_of p)).at
                (within p e.0 (start_of p) (plan-good p s ok) (there p s ok o lt e one) q) l,
          ))
          (λ l.
          cond_elim P (ltb p.operators.count 128 && leb ((simplify_at e.0 (start_of p)).st.items.count + 0) 2048) _ _
          (λ t r f.
          inr (subst (Remade p _ e.0 (λ (h : Expr). Selection h i)) (same-handle f)
          (remade p s ok o lt e one q ty (Selection e i) (λ (h : Expr). Selection h i) (One e)
          (ltb-true p.operators.count 128 (and_left (ltb p.operators.count 128) _ t)) 0x33 0 (simplify_at e.0 (start_of p)).at i.0 0 0 refl
          refl)))
          (λ t r f. never-room f)))
          (λ c r f. never f))
          (λ q r f. never-room f)

  -- a join by a typed `on` that is replaced: an Inner join passes the same pairs of rows
  pub join-passes : (j : JoinType) (l i : Operator) → operator_at p o.0 ≡ Join j e l i → (r : Operator) → (simplify_of p o).rewrite ≡ Ok (Replace r)
      → Remade p (simplify_of p o).plan e.0 (λ (f : Expr). Join j f l i) r
  unfolding rewrite_of
  join-passes j l i is = subst P (sym whole) parts
    where
      one : held_of (operator_at p o.0) ≡ One e
      one = ap held_of is

      P : Rewritten → Type 0
      P w = (r : Operator) → w.rewrite ≡ Ok (Replace r) → Remade p w.plan e.0 (λ (f : Expr). Join j f l i) r

      whole : simplify_of p o
          ≡ rewrite_of p (Join j e l i)
          (record {
            st = (simplify_at e.0 (start_of p)).st;
            ok = (simplify_at e.0 (start_of p)).ok;
            ats = set (replicate 2048 0) 0
                (simplify_at e.0 (start_of p)).at;
          })
      whole = is_rewrite p s ok o lt ∙ ap₂ (rewrite_of p) is (each-is p s ok o lt e one)

      new : OperatorData
      new = Join j (handle (simplify_at e.0 (start_of p)).at) l i

      parts : P
          (rewrite_of p (Join j e l i)
          (record {
            st = (simplify_at e.0 (start_of p)).st;
            ok = (simplify_at e.0 (start_of p)).ok;
            ats = set (replicate 2048 0) 0
                (simplify_at e.0 (start_of p)).at;
          }))
      parts =
          cond_elim P (simplify_at e.0 (start_of p)).ok _ _
          (λ q.
          cond_elim P (simplify_at e.0 (start_of p)).st.changed _ _
          (λ c.
          cond_elim P (ltb p.operators.count 128 && leb ((simplify_at e.0 (start_of p)).st.items.count + 0) 2048) _ _
          (λ t r f.
          subst (Remade p _ e.0 (λ (h : Expr). Join j h l i)) (same-handle f)
          (remade p s ok o lt e one q ty (Join j e l i) (λ (h : Expr). Join j h l i) (One e)
          (ltb-true p.operators.count 128 (and_left (ltb p.operators.count 128) _ t))
          (record_of_operator new).kind (record_of_operator new).code (record_of_operator new).a (record_of_operator new).b (record_of_operator new).c
          (record_of_operator new).d refl
          (operator-back (simplify_at e.0 (start_of p)).st.items.count new tt)))
          (λ t r f. never-room f))
          (λ c r f. never f))
          (λ q r f. never-room f)
