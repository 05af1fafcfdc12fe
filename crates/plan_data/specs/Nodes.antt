-- What the record of an expression and of an operator says, a line a kind, to be held against the table of the plan file; and the record of a node.
-- Assumes nothing.
use Rattle.std.specs.Prelude.{cond, ℕ, ◌+◌, ◌%◌, List, eqb, get_or, take, drop}
use Rattle.comparison.specs.Operators.{binary_op_code, binary_op_of}
use Rattle.plan_kinds.specs.declared.Record.{Record}
use Rattle.plan.specs.declared.Expressions.{Expressions}
use Rattle.plan.specs.declared.Operators.{Operators}
use Rattle.plan.specs.declared.Plan.{Plan}
use Rattle.plan.specs.Records.{expr_record_of, operator_record_in}
use Rattle.scalar.specs.Coded.{case_code, code_of, bits_of, scalar_of}
use Rattle.plan_data.specs.Codes.{unary_op_code, unary_op_of, nary_op_code, nary_op_of, join_type_code, join_type_of, kind_of_join, marker_of}
use Rattle.plan_data.specs.declared.Run.{Run}
use Rattle.plan_data.specs.declared.JoinType.TheVariants.{LeftMark}
use Rattle.plan_data.specs.declared.ExprData.{ExprData}
use Rattle.plan_data.specs.declared.ExprData.TheVariants.{Literal, ColumnRef, Unary, Binary, Nary}
use Rattle.plan_data.specs.declared.OperatorData.{OperatorData}
use Rattle.plan_data.specs.declared.OperatorData.TheVariants.{Scan, ConstScan, TableFunction, Selection, Projection, Rename, Map, Aggregation}
use Rattle.plan_data.specs.declared.OperatorData.TheVariants.{Sort, Limit, Output, CrossProduct, Join}

-- the `count` items from `start` on
abbrev pub run_of : ℕ → ℕ → Run
run_of start count = record { start = start; count = count }

-- the expression of a record whose list starts at `start`; any other kind is a literal's, and one that is not listed reads as the NULL of Boolean
unfoldable pub expr_data : Record → ℕ → ExprData
expr_data x start =
    cond (eqb x.kind 0x20) (ColumnRef (record { 0 = x.a }))
    (cond (eqb x.kind 0x21) (Unary (unary_op_of x.code) (record { 0 = x.a }))
    (cond (eqb x.kind 0x22) (Binary (binary_op_of x.code) (record { 0 = x.a }) (record { 0 = x.b }))
    (cond (eqb x.kind 0x23) (Nary (nary_op_of x.code) (run_of start x.a))
    (Literal (scalar_of x.kind x.code x.bits)))))

-- the operator of a record whose lists start at `start`; a kind that is not listed reads as a ConstScan of no columns
unfoldable pub operator_data : Record → ℕ → OperatorData
operator_data x start =
    cond (eqb x.kind 0x30) (Scan x.a (run_of start x.b))
    (cond (eqb x.kind 0x31) (ConstScan (run_of start x.a))
    (cond (eqb x.kind 0x32) (TableFunction (run_of start x.a))
    (cond (eqb x.kind 0x33) (Selection (record { 0 = x.a }) (record { 0 = x.b }))
    (cond (eqb x.kind 0x34) (Projection (record { 0 = x.a }) (run_of start x.b))
    (cond (eqb x.kind 0x35) (Rename (record { 0 = x.a }) (run_of start x.b))
    (cond (eqb x.kind 0x36) (Map (record { 0 = x.a }) (run_of start x.b))
    (cond (eqb x.kind 0x37) (Aggregation (record { 0 = x.a }) (run_of start x.b) (run_of (start + x.b) x.c))
    (cond (eqb x.kind 0x38) (Sort (record { 0 = x.a }) (run_of start x.b))
    (cond (eqb x.kind 0x39) (Limit (record { 0 = x.a }))
    (cond (eqb x.kind 0x3A) (Output (record { 0 = x.a }))
    (cond (eqb x.kind 0x3B) (CrossProduct (record { 0 = x.a }) (record { 0 = x.b }))
    (cond (eqb x.kind 0x3C) (Join (join_type_of x.code) (record { 0 = x.a }) (record { 0 = x.b }) (record { 0 = x.c }))
    (cond (eqb x.kind 0x3D) (Join (LeftMark (record { 0 = x.d })) (record { 0 = x.a }) (record { 0 = x.b }) (record { 0 = x.c }))
    (ConstScan (run_of 0 0)))))))))))))))

-- the node of a handle, from the arrays of the table of expressions
abbrev pub node_of : List ℕ → List ℕ → List ℕ → List ℕ → List ℕ → List ℕ → ℕ → ExprData
node_of kind code a b bits start h = expr_data (expr_record_of kind code a b bits h) (get_or start h 0)

-- the same from its table, and of a plan
abbrev pub node_from : Expressions → ℕ → ExprData
node_from t h = node_of t.kind t.code t.a t.b t.bits t.start h

abbrev pub node_at : Plan → ℕ → ExprData
node_at p h = node_from p.expressions h

-- the operator of a handle, from its table, and of a plan
abbrev pub operator_from : Operators → ℕ → OperatorData
operator_from t h = operator_data (operator_record_in t h) (get_or t.start h 0)

abbrev pub operator_at : Plan → ℕ → OperatorData
operator_at p h = operator_from p.operators h

-- the operands of a run of items
abbrev pub operands_of : List ℕ → Run → List ℕ
operands_of items r = take r.count (drop r.start items)

-- a count as a record has it: 16 bits
abbrev pub count_in : Run → ℕ
count_in r = r.count % 65536

-- a record without a payload
abbrev pub numbers_of : ℕ → ℕ → ℕ → ℕ → ℕ → ℕ → Record
numbers_of kind code a b c d = record { kind = kind; code = code; a = a; b = b; c = c; d = d; bits = 0 }

-- the record of an expression; where its list starts is no part of a record
abbrev pub record_of_expr : ExprData → Record
record_of_expr (Literal v) = record { kind = case_code v; code = code_of v; a = 0; b = 0; c = 0; d = 0; bits = bits_of v }
record_of_expr (ColumnRef column) = numbers_of 0x20 0 column.0 0 0 0
record_of_expr (Unary op expr) = numbers_of 0x21 (unary_op_code op) expr.0 0 0 0
record_of_expr (Binary op left right) = numbers_of 0x22 (binary_op_code op) left.0 right.0 0 0
record_of_expr (Nary op exprs) = numbers_of 0x23 (nary_op_code op) (count_in exprs) 0 0 0

-- the record of an operator
abbrev pub record_of_operator : OperatorData → Record
record_of_operator (Scan table columns) = numbers_of 0x30 0 table (count_in columns) 0 0
record_of_operator (ConstScan columns) = numbers_of 0x31 0 (count_in columns) 0 0 0
record_of_operator (TableFunction columns) = numbers_of 0x32 0 (count_in columns) 0 0 0
record_of_operator (Selection predicate input) = numbers_of 0x33 0 predicate.0 input.0 0 0
record_of_operator (Projection input columns) = numbers_of 0x34 0 input.0 (count_in columns) 0 0
record_of_operator (Rename input defs) = numbers_of 0x35 0 input.0 (count_in defs) 0 0
record_of_operator (Map input computations) = numbers_of 0x36 0 input.0 (count_in computations) 0 0
record_of_operator (Aggregation input keys aggregates) = numbers_of 0x37 0 input.0 (count_in keys) (count_in aggregates) 0
record_of_operator (Sort input keys) = numbers_of 0x38 0 input.0 (count_in keys) 0 0
record_of_operator (Limit input) = numbers_of 0x39 0 input.0 0 0 0
record_of_operator (Output input) = numbers_of 0x3A 0 input.0 0 0 0
record_of_operator (CrossProduct outer inner) = numbers_of 0x3B 0 outer.0 inner.0 0 0
record_of_operator (Join joinType on outer inner) =
    numbers_of (kind_of_join joinType) (join_type_code joinType) on.0 outer.0 inner.0 (marker_of joinType)
