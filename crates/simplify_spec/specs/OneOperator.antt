-- Simplifying the expressions of one operator, as the Rust's `rewrite` and `simplify_operator_exprs` do, and the answer. Assumes nothing.
use Rattle.std.specs.Prelude.{ℕ, zero, suc, ◌+◌, true, false, cond, ◌&&◌, List, ltb, leb, get_or, set, replicate, Ok, Err, Result}
use Rattle.plan.specs.declared.Plan.{Plan}
use Rattle.plan.specs.declared.Items.{Items}
use Rattle.plan.specs.declared.Operator.{Operator}
use Rattle.plan.specs.Plans.{operator_pushed}
use Rattle.plan_rules.specs.Rules.{plan_ok}
pub use Rattle.plan_data.specs.Nodes.{operator_at}
use Rattle.plan_data.specs.Nodes.{run_of, record_of_operator}
use Rattle.plan_data.specs.declared.OperatorData.{OperatorData}
use Rattle.plan_data.specs.declared.OperatorData.TheVariants.{Scan, ConstScan, TableFunction, Selection, Projection, Rename, Map, Aggregation, Sort}
use Rattle.plan_data.specs.declared.OperatorData.TheVariants.{Limit, Output, CrossProduct, Join}
use Rattle.simplify_spec.specs.Shapes.{is_literal}
use Rattle.simplify_spec.specs.OneExpression.{st_of, handle, shape_in, enter_of, simplify_at}
use Rattle.simplify_spec.specs.declared.Tables.{Tables}
use Rattle.simplify_spec.specs.Answers.{Each}
use Rattle.simplify_spec.specs.declared.Held.{Held}
use Rattle.simplify_spec.specs.declared.Held.TheVariants.{Nothing, One, Seconds, Firsts}
use Rattle.simplify_spec.specs.declared.Rewrite.{Rewrite}
use Rattle.simplify_spec.specs.declared.SimplifyError.{SimplifyError}
use Rattle.simplify_spec.specs.declared.Rewrite.TheVariants.{Keep, Replace}
use Rattle.simplify_spec.specs.declared.SimplifyError.TheVariants.{Room, NoSuch}
use Rattle.simplify_spec.specs.Answers.{Rewritten}

-- which expressions are simplified: a Selection's predicate, the `on` of every join, a Map's expressions, the keys of Aggregation and Sort
abbrev pub held_of : OperatorData → Held
held_of (Scan t cs) = Nothing
held_of (ConstScan cs) = Nothing
held_of (TableFunction cs) = Nothing
held_of (Selection e i) = One e
held_of (Projection i cs) = Nothing
held_of (Rename i ds) = Nothing
held_of (Map i cs) = Seconds cs.start cs.count
held_of (Aggregation i ks gs) = Firsts ks.start ks.count gs.count
held_of (Sort i ks) = Firsts ks.start ks.count 0
held_of (Limit i) = Nothing
held_of (Output i) = Nothing
held_of (CrossProduct l r) = Nothing
held_of (Join t e l r) = One e

-- how many there are, and the k-th
abbrev pub held_count : Held → ℕ
held_count Nothing = 0
held_count (One e) = 1
held_count (Seconds start count) = count
held_count (Firsts start count more) = count

abbrev pub held_at : Items → Held → ℕ → ℕ
held_at t Nothing k = 0
held_at t (One e) k = e.0
held_at t (Seconds start count) k = get_or t.b (start + k) 0
held_at t (Firsts start count more) k = get_or t.a (start + k) 0

-- expressions that are simplified one after the other, and what became of each
abbrev pub each_with : ℕ → ℕ → Each → ℕ → Each
each_with n e r k =
    record {
      st = (enter_of simplify_at n r.ok r.st e).st;
      ok = (enter_of simplify_at n r.ok r.st e).ok;
      ats = set r.ats k (enter_of simplify_at n r.ok r.st e).at;
    }

-- the first k of them, in a plan of n expressions
unfoldable pub each_to : ℕ → (ℕ → ℕ) → Tables → ℕ → Each
each_to n es st zero = record { st = st; ok = true; ats = replicate 2048 0 }
each_to n es st (suc k) = each_with n (es k) (each_to n es st k) k

-- the items of the new operator: how many, and the numbers of the k-th, where `at` says what became of the expressions
abbrev pub item_count : Held → ℕ
item_count Nothing = 0
item_count (One e) = 0
item_count (Seconds start count) = count
item_count (Firsts start count more) = count + more

abbrev pub item_first : Items → Held → (ℕ → ℕ) → ℕ → ℕ
item_first t Nothing at k = 0
item_first t (One e) at k = 0
item_first t (Seconds start count) at k = get_or t.a (start + k) 0
item_first t (Firsts start count more) at k = cond (ltb k (count)) (at k) (get_or t.a (start + k) 0)

abbrev pub item_second : Held → (ℕ → ℕ) → ℕ → ℕ
item_second Nothing at k = 0
item_second (One e) at k = 0
item_second (Seconds start count) at k = at k
item_second (Firsts start count more) at k = 0

-- n numbers written into a list from a place on
unfoldable pub write_all : List ℕ → ℕ → (ℕ → ℕ) → ℕ → List ℕ
write_all l at f zero = l
write_all l at f (suc n) = set (write_all l at f n) (at + n) (f n)

abbrev pub with_list : Items → ℕ → (ℕ → ℕ) → (ℕ → ℕ) → Items
with_list t n f g = record { count = t.count + n; a = write_all t.a t.count f n; b = write_all t.b t.count g n }

-- the new operator, whose lists start at `start`
abbrev pub rebuilt_of : OperatorData → ℕ → (ℕ → ℕ) → OperatorData
rebuilt_of (Scan t cs) start at = Scan t cs
rebuilt_of (ConstScan cs) start at = ConstScan cs
rebuilt_of (TableFunction cs) start at = TableFunction cs
rebuilt_of (Selection e i) start at = Selection (handle (at 0)) i
rebuilt_of (Projection i cs) start at = Projection i cs
rebuilt_of (Rename i ds) start at = Rename i ds
rebuilt_of (Map i cs) start at = Map i (run_of start cs.count)
rebuilt_of (Aggregation i ks gs) start at = Aggregation i (run_of start ks.count) (run_of (start + ks.count) gs.count)
rebuilt_of (Sort i ks) start at = Sort i (run_of start ks.count)
rebuilt_of (Limit i) start at = Limit i
rebuilt_of (Output i) start at = Output i
rebuilt_of (CrossProduct l r) start at = CrossProduct l r
rebuilt_of (Join t e l r) start at = Join t (handle (at 0)) l r

-- the plan with other tables of expressions and items
abbrev pub plan_with : Plan → Tables → Plan
plan_with p st = record { columns = p.columns; expressions = st.exprs; operators = p.operators; items = st.items }

-- and with one operator more
abbrev pub plan_added : Plan → Tables → OperatorData → Held → (ℕ → ℕ) → Plan
plan_added p st d held at =
    record {
      columns = p.columns;
      expressions = st.exprs;
      operators = operator_pushed p.operators (record_of_operator (rebuilt_of d st.items.count at)) st.items.count;
      items = with_list st.items (item_count held) (item_first p.items held at) (item_second held at);
    }

abbrev pub answered : Plan → Result Rewrite SimplifyError → Rewritten
answered p r = record { plan = p; rewrite = r }

abbrev pub operator_handle : ℕ → Operator
operator_handle o = record { 0 = o }

-- `new_data.add(..)`, or no room for the operator or its items
abbrev pub add_operator : Plan → Tables → OperatorData → Held → (ℕ → ℕ) → Rewritten
add_operator p st d held at =
    cond (ltb p.operators.count 128 && leb (st.items.count + item_count held) 2048)
    (answered (plan_added p st d held at) (Ok (Replace (operator_handle p.operators.count))))
    (answered p (Err Room))

-- Selection(true, input) is replaced by its input
abbrev pub input_or : Plan → Tables → OperatorData → Held → (ℕ → ℕ) → OperatorData → Rewritten
input_or p st d held at (Scan t cs) = add_operator p st d held at
input_or p st d held at (ConstScan cs) = add_operator p st d held at
input_or p st d held at (TableFunction cs) = add_operator p st d held at
input_or p st d held at (Selection e i) =
    cond (is_literal true (shape_in st (at 0))) (answered (plan_with p st) (Ok (Replace i))) (add_operator p st d held at)
input_or p st d held at (Projection i cs) = add_operator p st d held at
input_or p st d held at (Rename i ds) = add_operator p st d held at
input_or p st d held at (Map i cs) = add_operator p st d held at
input_or p st d held at (Aggregation i ks gs) = add_operator p st d held at
input_or p st d held at (Sort i ks) = add_operator p st d held at
input_or p st d held at (Limit i) = add_operator p st d held at
input_or p st d held at (Output i) = add_operator p st d held at
input_or p st d held at (CrossProduct l r) = add_operator p st d held at
input_or p st d held at (Join t e l r) = add_operator p st d held at

-- `if !changed` Keep
unfoldable pub rewrite_of : Plan → OperatorData → Each → Rewritten
rewrite_of p d r =
    cond r.ok
    (cond r.st.changed (input_or p r.st d (held_of d) (λ (k : ℕ). get_or r.ats k 0) d) (answered p (Ok Keep)))
    (answered p (Err Room))

abbrev pub start_of : Plan → Tables
start_of p = st_of p.expressions p.items false

abbrev pub each_of : Plan → OperatorData → Each
each_of p d = each_to p.expressions.count (held_at p.items (held_of d)) (start_of p) (held_count (held_of d))

-- the answer for the operator o of a plan, 8 first
unfoldable pub simplify_of : Plan → Operator → Rewritten
simplify_of p o =
    cond (plan_ok p && ltb o.0 p.operators.count) (rewrite_of p (operator_at p o.0) (each_of p (operator_at p o.0))) (answered p (Err NoSuch))

-- the number of a refusal, 0 for none
abbrev pub refusal_of : Result Rewrite SimplifyError → ℕ
refusal_of (Ok Keep) = 0
refusal_of (Ok (Replace o)) = 0
refusal_of (Err Room) = 3
refusal_of (Err NoSuch) = 8
