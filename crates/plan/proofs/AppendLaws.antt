-- Appending leaves what was there as it was: every earlier column, node, list and item reads as before, a refused call hands back the very plan,
-- and the new entry reads as what was appended. Assumes nothing.
use Prim.Native.Nat.{ℕ, ◌+◌, ◌≤◌, ◌<◌}
use mathlib.Core.Path.{◌≡◌, refl, ◌∙◌}
use mathlib.Core.Bool.{Bool, true, false, cond}
use mathlib.Core.List.{List}
use native.Mathlib.Nat.{le_refl, le_trans, lt_of_lt_of_le}
use native.Mathlib.Omega.{arith}
use lib.Dec.{leb}
use lib.ListN.{length, get_or, set, length-set}
use lib.Seq.{get_or-set_same, get_or-set_other}
use Rattle.plan_kinds.specs.declared.Record.{Record}
use Rattle.plan.specs.declared.Plan.{Plan}
use Rattle.plan.specs.Append.{Appended}
use Rattle.plan.specs.declared.Items.{Items}
use Rattle.plan.specs.Append.{with_column, with_expr, with_operator, with_item, append_column, append_expr, append_operator, append_item}
use Rattle.plan.specs.Records.{column_record, expr_record, expr_start, operator_record, operator_start, item_record}
use Rattle.plan.specs.Extends.{Extends, Sized}

pub extends-refl : (p : Plan) → Extends p p
extends-refl p =
    record {
      columns = le_refl _;
      exprs = le_refl _;
      operators = le_refl _;
      items = le_refl _;
      column = λ i h. refl;
      expr = λ i h. refl;
      expr-start = λ i h. refl;
      operator = λ i h. refl;
      operator-start = λ i h. refl;
      item = λ i h. refl;
    }

pub extends_trans : {p q r : Plan} → Extends p q → Extends q r → Extends p r
extends_trans e f =
    record {
      columns = le_trans e.columns f.columns;
      exprs = le_trans e.exprs f.exprs;
      operators = le_trans e.operators f.operators;
      items = le_trans e.items f.items;
      column = λ i h. f.column i (lt_of_lt_of_le h e.columns) ∙ e.column i h;
      expr = λ i h. f.expr i (lt_of_lt_of_le h e.exprs) ∙ e.expr i h;
      expr-start = λ i h. f.expr-start i (lt_of_lt_of_le h e.exprs) ∙ e.expr-start i h;
      operator = λ i h. f.operator i (lt_of_lt_of_le h e.operators) ∙ e.operator i h;
      operator-start = λ i h. f.operator-start i (lt_of_lt_of_le h e.operators) ∙ e.operator-start i h;
      item = λ i h. f.item i (lt_of_lt_of_le h e.items) ∙ e.item i h;
    }

-- an entry below the count is not touched by a store at the count
get_d_set-before : (l : List ℕ) (n i v : ℕ) → i < n → get_or (set l n v) i 0 ≡ get_or l i 0
get_d_set-before l n i v h = get_or-set_other l n i v 0 (λ e. omega arith)

more : (n : ℕ) → n ≤ n + 1
more n = omega arith

-- a refusal or a longer plan
choice : (P : Appended → Type 0) (t : Bool) (a b : Appended) → P a → P b → P (cond t a b)
choice P true a b x y = x
choice P false a b x y = y

-- ---- column
pub column-longer : (p : Plan) (x : Record) → Extends p (with_column p x)
column-longer p x =
    record {
      columns = more p.columns.count;
      exprs = le_refl _;
      operators = le_refl _;
      items = le_refl _;
      column = λ i h. λ j. record {
        kind = 0x01;
        code = get_d_set-before p.columns.kind p.columns.count i x.code h j;
        a = get_d_set-before p.columns.name
            p.columns.count i x.a h j;
        b = 0;
        c = 0;
        d = 0;
        bits = 0;
      };
      expr = λ i h. refl;
      expr-start = λ i h. refl;
      operator = λ i h. refl;
      operator-start = λ i h. refl;
      item = λ i h. refl;
    }

pub append_column-extends : (p : Plan) (x : Record) → Extends p (append_column p x).plan
unfolding append_column
append_column-extends p x = choice (λ (r : Appended). Extends p r.plan) (leb 64 p.columns.count) _ _ (extends-refl p) (column-longer p x)

pub column-longer-sized : (p : Plan) (x : Record) → Sized p → Sized (with_column p x)
column-longer-sized p x s =
    record {
      column-name = length-set p.columns.name p.columns.count x.a ∙ s.column-name;
      column-kind = length-set p.columns.kind p.columns.count x.code ∙ s.column-kind;
      expr-kind = s.expr-kind;
      expr-code = s.expr-code;
      expr_a = s.expr_a;
      expr_b = s.expr_b;
      expr-bits = s.expr-bits;
      expr-start = s.expr-start;
      operator-kind = s.operator-kind;
      operator-code = s.operator-code;
      operator_a = s.operator_a;
      operator_b = s.operator_b;
      operator_c = s.operator_c;
      operator_d = s.operator_d;
      operator-start = s.operator-start;
      item_a = s.item_a;
      item_b = s.item_b;
    }

pub append_column-sized : (p : Plan) (x : Record) → Sized p → Sized (append_column p x).plan
unfolding append_column
append_column-sized p x s = choice (λ (r : Appended). Sized r.plan) (leb 64 p.columns.count) _ _ s (column-longer-sized p x s)

-- ---- expr
pub expr-longer : (p : Plan) (x : Record) (st : ℕ) → Extends p (with_expr p x st)
expr-longer p x st =
    record {
      columns = le_refl _;
      exprs = more p.expressions.count;
      operators = le_refl _;
      items = le_refl _;
      column = λ i h. refl;
      expr = λ i h. λ j. record {
        kind = get_d_set-before p.expressions.kind p.expressions.count i x.kind h j;
        code = get_d_set-before p.expressions.code
            p.expressions.count i x.code h j;
        a = get_d_set-before p.expressions.a p.expressions.count i x.a h j;
        b = get_d_set-before p.expressions.b
            p.expressions.count i x.b h j;
        c = 0;
        d = 0;
        bits = get_d_set-before p.expressions.bits p.expressions.count i x.bits h j;
      };
      expr-start = λ i h. get_d_set-before p.expressions.start p.expressions.count i st h;
      operator = λ i h. refl;
      operator-start = λ i h. refl;
      item = λ i h. refl;
    }

pub append_expr-extends : (p : Plan) (x : Record) (st : ℕ) → Extends p (append_expr p x st).plan
unfolding append_expr
append_expr-extends p x st = choice (λ (r : Appended). Extends p r.plan) (leb 1024 p.expressions.count) _ _ (extends-refl p) (expr-longer p x st)

pub expr-longer-sized : (p : Plan) (x : Record) (st : ℕ) → Sized p → Sized (with_expr p x st)
expr-longer-sized p x st s =
    record {
      column-name = s.column-name;
      column-kind = s.column-kind;
      expr-kind = length-set p.expressions.kind p.expressions.count x.kind ∙ s.expr-kind;
      expr-code = length-set p.expressions.code p.expressions.count x.code ∙ s.expr-code;
      expr_a = length-set p.expressions.a p.expressions.count x.a ∙ s.expr_a;
      expr_b = length-set p.expressions.b p.expressions.count x.b ∙ s.expr_b;
      expr-bits = length-set p.expressions.bits p.expressions.count x.bits ∙ s.expr-bits;
      expr-start = length-set p.expressions.start p.expressions.count st ∙ s.expr-start;
      operator-kind = s.operator-kind;
      operator-code = s.operator-code;
      operator_a = s.operator_a;
      operator_b = s.operator_b;
      operator_c = s.operator_c;
      operator_d = s.operator_d;
      operator-start = s.operator-start;
      item_a = s.item_a;
      item_b = s.item_b;
    }

pub append_expr-sized : (p : Plan) (x : Record) (st : ℕ) → Sized p → Sized (append_expr p x st).plan
unfolding append_expr
append_expr-sized p x st s = choice (λ (r : Appended). Sized r.plan) (leb 1024 p.expressions.count) _ _ s (expr-longer-sized p x st s)

-- ---- operator
pub operator-longer : (p : Plan) (x : Record) (st : ℕ) → Extends p (with_operator p x st)
operator-longer p x st =
    record {
      columns = le_refl _;
      exprs = le_refl _;
      operators = more p.operators.count;
      items = le_refl _;
      column = λ i h. refl;
      expr = λ i h. refl;
      expr-start = λ i h. refl;
      operator = λ i h. λ j. record {
        kind = get_d_set-before p.operators.kind p.operators.count i x.kind h j;
        code = get_d_set-before p.operators.code
            p.operators.count i x.code h j;
        a = get_d_set-before p.operators.a p.operators.count i x.a h j;
        b = get_d_set-before p.operators.b
            p.operators.count i x.b h j;
        c = get_d_set-before p.operators.c p.operators.count i x.c h j;
        d = get_d_set-before p.operators.d p.operators.count
            i x.d h j;
        bits = 0;
      };
      operator-start = λ i h. get_d_set-before p.operators.start p.operators.count i st h;
      item = λ i h. refl;
    }

pub append_operator-extends : (p : Plan) (x : Record) (st : ℕ) → Extends p (append_operator p x st).plan
unfolding append_operator
append_operator-extends p x st = choice (λ (r : Appended). Extends p r.plan) (leb 128 p.operators.count) _ _ (extends-refl p) (operator-longer p x st)

pub operator-longer-sized : (p : Plan) (x : Record) (st : ℕ) → Sized p → Sized (with_operator p x st)
operator-longer-sized p x st s =
    record {
      column-name = s.column-name;
      column-kind = s.column-kind;
      expr-kind = s.expr-kind;
      expr-code = s.expr-code;
      expr_a = s.expr_a;
      expr_b = s.expr_b;
      expr-bits = s.expr-bits;
      expr-start = s.expr-start;
      operator-kind = length-set p.operators.kind p.operators.count x.kind ∙ s.operator-kind;
      operator-code = length-set p.operators.code p.operators.count x.code ∙ s.operator-code;
      operator_a = length-set p.operators.a p.operators.count x.a ∙ s.operator_a;
      operator_b = length-set p.operators.b p.operators.count x.b ∙ s.operator_b;
      operator_c = length-set p.operators.c p.operators.count x.c ∙ s.operator_c;
      operator_d = length-set p.operators.d p.operators.count x.d ∙ s.operator_d;
      operator-start = length-set p.operators.start p.operators.count st ∙ s.operator-start;
      item_a = s.item_a;
      item_b = s.item_b;
    }

pub append_operator-sized : (p : Plan) (x : Record) (st : ℕ) → Sized p → Sized (append_operator p x st).plan
unfolding append_operator
append_operator-sized p x st s = choice (λ (r : Appended). Sized r.plan) (leb 128 p.operators.count) _ _ s (operator-longer-sized p x st s)

-- ---- item
pub item-longer : (p : Plan) (x : Record) → Extends p (with_item p x)
item-longer p x =
    record {
      columns = le_refl _;
      exprs = le_refl _;
      operators = le_refl _;
      items = more p.items.count;
      column = λ i h. refl;
      expr = λ i h. refl;
      expr-start = λ i h. refl;
      operator = λ i h. refl;
      operator-start = λ i h. refl;
      item = λ i h. λ j. record {
        kind = 0;
        code = 0;
        a = get_d_set-before p.items.a p.items.count i x.a h j;
        b = get_d_set-before p.items.b p.items.count i x.b
            h j;
        c = 0;
        d = 0;
        bits = 0;
      };
    }

pub append_item-extends : (p : Plan) (x : Record) → Extends p (append_item p x).plan
unfolding append_item
append_item-extends p x = choice (λ (r : Appended). Extends p r.plan) (leb 2048 p.items.count) _ _ (extends-refl p) (item-longer p x)

-- a plan with other items, as many as it had
pub items-sized : (p : Plan) (t : Items) → Sized p → length t.a ≡ length p.items.a → length t.b ≡ length p.items.b
    → Sized (record { columns = p.columns; expressions = p.expressions; operators = p.operators; items = t })
items-sized p t s ea eb =
    record {
      column-name = s.column-name;
      column-kind = s.column-kind;
      expr-kind = s.expr-kind;
      expr-code = s.expr-code;
      expr_a = s.expr_a;
      expr_b = s.expr_b;
      expr-bits = s.expr-bits;
      expr-start = s.expr-start;
      operator-kind = s.operator-kind;
      operator-code = s.operator-code;
      operator_a = s.operator_a;
      operator_b = s.operator_b;
      operator_c = s.operator_c;
      operator_d = s.operator_d;
      operator-start = s.operator-start;
      item_a = ea ∙ s.item_a;
      item_b = eb ∙ s.item_b;
    }

pub item-longer-sized : (p : Plan) (x : Record) → Sized p → Sized (with_item p x)
item-longer-sized p x s = items-sized p _ s (length-set p.items.a p.items.count x.a) (length-set p.items.b p.items.count x.b)

pub append_item-sized : (p : Plan) (x : Record) → Sized p → Sized (append_item p x).plan
unfolding append_item
append_item-sized p x s = choice (λ (r : Appended). Sized r.plan) (leb 2048 p.items.count) _ _ s (item-longer-sized p x s)

-- the new entry reads as what was appended
get_d_set_at : (l : List ℕ) (n v m : ℕ) → length l ≡ m → n < m → get_or (set l n v) n 0 ≡ v
get_d_set_at l n v m e h = get_or-set_same l n v 0 (omega (arith, e))

pub new-expr :
    (p : Plan) (x : Record) (st : ℕ) → Sized p → p.expressions.count < 1024
    → expr_record (with_expr p x st) p.expressions.count ≡ record { kind = x.kind; code = x.code; a = x.a; b = x.b; c = 0; d = 0; bits = x.bits }
new-expr p x st s h =
    λ j.
    record {
      kind = get_d_set_at p.expressions.kind p.expressions.count x.kind 1024 s.expr-kind h j;
      code = get_d_set_at p.expressions.code p.expressions.count x.code 1024 s.expr-code h j;
      a = get_d_set_at p.expressions.a p.expressions.count x.a 1024 s.expr_a h j;
      b = get_d_set_at p.expressions.b p.expressions.count x.b 1024 s.expr_b h j;
      c = 0;
      d = 0;
      bits = get_d_set_at p.expressions.bits p.expressions.count x.bits 1024 s.expr-bits h j;
    }

pub new-expr-start : (p : Plan) (x : Record) (st : ℕ) → Sized p → p.expressions.count < 1024 → expr_start (with_expr p x st) p.expressions.count ≡ st
new-expr-start p x st s h = get_d_set_at p.expressions.start p.expressions.count st 1024 s.expr-start h

pub new-operator :
    (p : Plan) (x : Record) (st : ℕ) → Sized p → p.operators.count < 128
    → operator_record (with_operator p x st) p.operators.count ≡ record { kind = x.kind; code = x.code; a = x.a; b = x.b; c = x.c; d = x.d; bits = 0 }
new-operator p x st s h =
    λ j.
    record {
      kind = get_d_set_at p.operators.kind p.operators.count x.kind 128 s.operator-kind h j;
      code = get_d_set_at p.operators.code p.operators.count x.code 128 s.operator-code h j;
      a = get_d_set_at p.operators.a p.operators.count x.a 128 s.operator_a h j;
      b = get_d_set_at p.operators.b p.operators.count x.b 128 s.operator_b h j;
      c = get_d_set_at p.operators.c p.operators.count x.c 128 s.operator_c h j;
      d = get_d_set_at p.operators.d p.operators.count x.d 128 s.operator_d h j;
      bits = 0;
    }

pub new-operator-start : (p : Plan) (x : Record) (st : ℕ) → Sized p → p.operators.count < 128 → operator_start (with_operator p x st) p.operators.count ≡ st
new-operator-start p x st s h = get_d_set_at p.operators.start p.operators.count st 128 s.operator-start h

pub new-item :
    (p : Plan) (x : Record) → Sized p → p.items.count < 2048
    → item_record (with_item p x) p.items.count ≡ record { kind = 0; code = 0; a = x.a; b = x.b; c = 0; d = 0; bits = 0 }
new-item p x s h =
    λ j.
    record {
      kind = 0;
      code = 0;
      a = get_d_set_at p.items.a p.items.count x.a 2048 s.item_a h j;
      b = get_d_set_at p.items.b p.items.count x.b 2048 s.item_b h j;
      c = 0;
      d = 0;
      bits = 0;
    }

pub new-column :
    (p : Plan) (x : Record) → Sized p → p.columns.count < 64
    → column_record (with_column p x) p.columns.count ≡ record { kind = 0x01; code = x.code; a = x.a; b = 0; c = 0; d = 0; bits = 0 }
new-column p x s h =
    λ j.
    record {
      kind = 0x01;
      code = get_d_set_at p.columns.kind p.columns.count x.code 64 s.column-kind h j;
      a = get_d_set_at p.columns.name p.columns.count x.a 64 s.column-name h j;
      b = 0;
      c = 0;
      d = 0;
      bits = 0;
    }
