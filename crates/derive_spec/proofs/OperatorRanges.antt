-- In a plan that keeps the rules what an operator names is of the plan: its expressions, its marker, and the columns and expressions of its lists.
-- Assumes nothing.
use mathlib.Core.Path.{◌≡◌, refl, subst}
use mathlib.Core.Bool.{Bool, true, ◌&&◌}
use mathlib.Core.List.{List}
use Prim.Native.Nat.{ℕ, ◌+◌, ◌<◌}
use native.Mathlib.Omega.{arith}
use lib.Dec.{T, leb, eqb, eqb→eq}
use lib.ListN.{get_or}
use borrow.Author.Tests.{ltb-true}
use Rattle.laws.proofs.Bools.{and_left, and_right, cond_T_elim, and4_first, and4_second}
use Rattle.lists.specs.Ranges.{all_from}
use Rattle.lists.proofs.RangeLaws.{all-at}
use Rattle.plan_kinds.specs.declared.Record.{Record}
use Rattle.plan_kinds.specs.Rows.{line_of, row_of}
use Rattle.plan_kinds.specs.Records.{code_ok, bits_ok, handle_ok, handles_ok, count_of, more_of}
use Rattle.plan.specs.declared.Plan.{Plan}
use Rattle.plan.specs.Records.{operator_record, operator_start}
use Rattle.plan_rules.specs.Rules.{record_ok, item_ok, lists_ok, operator_ok_of, plan_ok}
use Rattle.plan_rules.proofs.RuleLaws.{rules}
use Rattle.plan_data.specs.Codes.{join_type_of}
use Rattle.plan_data.specs.Nodes.{run_of, operator_data, operator_at}
use Rattle.plan_data.specs.declared.JoinType.{JoinType}
use Rattle.plan_data.specs.declared.JoinType.TheVariants.{Inner, LeftSemi, LeftAnti, LeftOuter, Single, RightOuter, FullOuter, LeftMark}
use Rattle.plan_data.specs.declared.OperatorData.{OperatorData}
use Rattle.plan_data.specs.declared.OperatorData.TheVariants.{Scan, ConstScan, TableFunction, Selection, Projection, Rename, Map, Aggregation, Sort}
use Rattle.plan_data.specs.declared.OperatorData.TheVariants.{Limit, Output, CrossProduct, Join}
use Rattle.derive_spec.proofs.ColumnRules.{ItemsBelow}

-- the marker of a LeftMark join is a column
abbrev pub MarkerBelow : ℕ → JoinType → Type 0
MarkerBelow nc Inner = Unit {0}
MarkerBelow nc LeftSemi = Unit {0}
MarkerBelow nc LeftAnti = Unit {0}
MarkerBelow nc LeftOuter = Unit {0}
MarkerBelow nc Single = Unit {0}
MarkerBelow nc RightOuter = Unit {0}
MarkerBelow nc FullOuter = Unit {0}
MarkerBelow nc (LeftMark c) = c.0 < nc

-- what deriving stores of an operator is of a plan with nc columns, ne expressions and the items a and b
abbrev pub InRange : ℕ → ℕ → List ℕ → List ℕ → OperatorData → Type 0
InRange nc ne a b (Scan table columns) = ItemsBelow nc a columns
InRange nc ne a b (ConstScan columns) = ItemsBelow nc a columns
InRange nc ne a b (TableFunction columns) = ItemsBelow nc a columns
InRange nc ne a b (Selection predicate input) = predicate.0 < ne
InRange nc ne a b (Projection input columns) = ItemsBelow nc a columns
InRange nc ne a b (Rename input defs) = ItemsBelow nc a defs
InRange nc ne a b (Map input computations) = ItemsBelow nc a computations × ItemsBelow ne b computations
InRange nc ne a b (Aggregation input keys aggregates) = ItemsBelow nc a aggregates
InRange nc ne a b (Sort input keys) = Unit {0}
InRange nc ne a b (Limit input) = Unit {0}
InRange nc ne a b (Output input) = Unit {0}
InRange nc ne a b (CrossProduct outer inner) = Unit {0}
InRange nc ne a b (Join joinType on outer inner) = (on.0 < ne) × MarkerBelow nc joinType

-- a code stands for no LeftMark join
unmarked : (nc n : ℕ) → MarkerBelow nc (join_type_of n)
unmarked nc n =
    let P = MarkerBelow nc in
    cond_T_elim P (eqb n 0) _ _ (λ t. tt)
    (cond_T_elim P (eqb n 1) _ _ (λ t. tt)
    (cond_T_elim P (eqb n 2) _ _ (λ t. tt)
    (cond_T_elim P (eqb n 3) _ _ (λ t. tt)
    (cond_T_elim P (eqb n 4) _ _ (λ t. tt)
    (cond_T_elim P (eqb n 5) _ _ (λ t. tt) tt)))))

fourth : (a b c d : Bool) → (((a && b) && c) && d) ≡ true → d ≡ true
fourth a b c d e = and_right ((a && b) && c) d e

module _ (nc ne np : ℕ) where
  as_column : (s v : ℕ) → s ≡ 2 → handle_ok s v nc ne np ≡ true → v < nc
  unfolding handle_ok
  as_column s v e h = ltb-true v nc (subst (λ (m : ℕ). handle_ok m v nc ne np ≡ true) e h)

  as_expression : (s v : ℕ) → s ≡ 3 → handle_ok s v nc ne np ≡ true → v < ne
  unfolding handle_ok
  as_expression s v e h = ltb-true v ne (subst (λ (m : ℕ). handle_ok m v nc ne np ≡ true) e h)

  -- the columns, and the expressions, of a run of right items of the kind i
  module _ (ia ib : List ℕ) (i from n : ℕ) (all : all_from (item_ok ia ib i nc ne np) from n ≡ true) where
    item-columns : (row_of i).a ≡ 2 → ItemsBelow nc ia (run_of from n)
    unfolding item_ok
    item-columns e k l =
        as_column (row_of i).a (get_or ia (from + k) 0) e
        (and4_first _ _ _ _ (all-at (item_ok ia ib i nc ne np) n from all (from + k) (omega arith) (omega arith)))

    item-expressions : (row_of i).b ≡ 3 → ItemsBelow ne ib (run_of from n)
    unfolding item_ok
    item-expressions e k l =
        as_expression (row_of i).b (get_or ib (from + k) 0) e
        (and4_second (handle_ok (row_of i).a (get_or ia (from + k) 0) nc ne np) _ _ _
        (all-at (item_ok ia ib i nc ne np) n from all (from + k) (omega arith) (omega arith)))

module _ (x : Record) (st nc ne np used : ℕ) (ia ib : List ℕ) (ok : record_ok 3 x nc ne np ≡ true) (lists : lists_ok ia ib used x st nc ne np ≡ true) where
  handles : handles_ok (row_of x.kind) x nc ne np ≡ true
  unfolding record_ok
  handles =
      and_right (bits_ok (row_of x.kind) x) _ (and_right (code_ok (row_of x.kind) x) _ (and_right (eqb (row_of x.kind).sort 3) _ ok))

  abbrev FirstItems : ℕ → Type 0
  FirstItems k = all_from (item_ok ia ib (row_of k).item nc ne np) st (count_of (row_of k) x) ≡ true

  abbrev LastItems : ℕ → Type 0
  LastItems k = all_from (item_ok ia ib 0x40 nc ne np) (st + count_of (row_of k) x) (more_of (row_of k) x) ≡ true

  first-items : FirstItems x.kind
  unfolding lists_ok
  first-items = and_left _ _ (and_right (leb (st + (count_of (row_of x.kind) x + more_of (row_of x.kind) x)) used) _ lists)

  last-items : LastItems x.kind
  unfolding lists_ok
  last-items =
      and_right (all_from (item_ok ia ib (row_of x.kind).item nc ne np) st (count_of (row_of x.kind) x)) _
      (and_right (leb (st + (count_of (row_of x.kind) x + more_of (row_of x.kind) x)) used) _ lists)

  module _ (k : ℕ) (q : T (eqb x.kind k)) where
    held : handles_ok (row_of k) x nc ne np ≡ true
    held = subst (λ (k : ℕ). handles_ok (row_of k) x nc ne np ≡ true) (eqb→eq x.kind k q) handles

    a_expression : (row_of k).a ≡ 3 → x.a < ne
    a_expression e = as_expression nc ne np (row_of k).a x.a e (and4_first _ _ _ _ held)

    d_column : (row_of k).d ≡ 2 → x.d < nc
    d_column e =
        as_column nc ne np (row_of k).d x.d e (fourth (handle_ok (row_of k).a x.a nc ne np) (handle_ok (row_of k).b x.b nc ne np)
        (handle_ok (row_of k).c x.c nc ne np) _ held)

    -- the n items of the kind i
    firsts : (i n : ℕ) → (row_of k).item ≡ i → count_of (row_of k) x ≡ n → all_from (item_ok ia ib i nc ne np) st n ≡ true
    firsts i n ei en =
        subst (λ (m : ℕ). all_from (item_ok ia ib i nc ne np) st m ≡ true) en
        (subst (λ (j : ℕ). all_from (item_ok ia ib j nc ne np) st (count_of (row_of k) x) ≡ true) ei (subst FirstItems (eqb→eq x.kind k q) first-items))

    -- and the m columns after them
    lasts : (n m : ℕ) → count_of (row_of k) x ≡ n → more_of (row_of k) x ≡ m → all_from (item_ok ia ib 0x40 nc ne np) (st + n) m ≡ true
    lasts n m en em =
        subst (λ (j : ℕ). all_from (item_ok ia ib 0x40 nc ne np) (st + j) m ≡ true) en
        (subst (λ (j : ℕ). all_from (item_ok ia ib 0x40 nc ne np) (st + count_of (row_of k) x) j ≡ true) em (subst LastItems (eqb→eq x.kind k q) last-items))

    columns : (i n : ℕ) → (row_of k).item ≡ i → count_of (row_of k) x ≡ n → (row_of i).a ≡ 2 → ItemsBelow nc ia (run_of st n)
    columns i n ei en e = item-columns nc ne np ia ib i st n (firsts i n ei en) e

  record_ranges : InRange nc ne ia ib (operator_data x st)
  unfolding operator_data row_of line_of count_of more_of
  record_ranges =
      let P = InRange nc ne ia ib in
      cond_T_elim P (eqb x.kind 0x30) _ _ (λ t. columns 0x30 t 0x40 x.b refl refl refl)
      (cond_T_elim P (eqb x.kind 0x31) _ _ (λ t. columns 0x31 t 0x40 x.a refl refl refl)
      (cond_T_elim P (eqb x.kind 0x32) _ _ (λ t. columns 0x32 t 0x40 x.a refl refl refl)
      (cond_T_elim P (eqb x.kind 0x33) _ _ (λ t. a_expression 0x33 t refl)
      (cond_T_elim P (eqb x.kind 0x34) _ _ (λ t. columns 0x34 t 0x40 x.b refl refl refl)
      (cond_T_elim P (eqb x.kind 0x35) _ _ (λ t. columns 0x35 t 0x41 x.b refl refl refl)
      (cond_T_elim P (eqb x.kind 0x36) _ _
      (λ t. (columns 0x36 t 0x42 x.b refl refl refl, item-expressions nc ne np ia ib 0x42 st x.b (firsts 0x36 t 0x42 x.b refl refl) refl))
      (cond_T_elim P (eqb x.kind 0x37) _ _ (λ t. item-columns nc ne np ia ib 0x40 (st + x.b) x.c (lasts 0x37 t x.b x.c refl refl) refl)
      (cond_T_elim P (eqb x.kind 0x38) _ _ (λ t. tt)
      (cond_T_elim P (eqb x.kind 0x39) _ _ (λ t. tt)
      (cond_T_elim P (eqb x.kind 0x3A) _ _ (λ t. tt)
      (cond_T_elim P (eqb x.kind 0x3B) _ _ (λ t. tt)
      (cond_T_elim P (eqb x.kind 0x3C) _ _ (λ t. (a_expression 0x3C t refl, unmarked nc x.code))
      (cond_T_elim P (eqb x.kind 0x3D) _ _ (λ t. (a_expression 0x3D t refl, d_column 0x3D t refl))
      (λ k l. absurd (omega arith)))))))))))))))

-- what an operator of the plan names is of the plan
pub operator_ranges : (p : Plan) → plan_ok p ≡ true → (h : ℕ) → h < p.operators.count
    → InRange p.columns.count p.expressions.count p.items.a p.items.b (operator_at p h)
unfolding operator_ok_of
operator_ranges p ok h l =
    let e = (rules p ok).operator h l in
    record_ranges (operator_record p h) (operator_start p h) p.columns.count p.expressions.count h p.items.count p.items.a p.items.b
    (and_left _ _ e)
    (and_right (record_ok 3 (operator_record p h) p.columns.count p.expressions.count h) _ e)
