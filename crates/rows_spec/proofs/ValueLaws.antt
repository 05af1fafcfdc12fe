-- The value of an expression is that of its node over the values of its operands; And and Or of one operand more. Assumes nothing.
use mathlib.Core.Path.{◌≡◌, refl, sym, ap, ◌∙◌}
use mathlib.Core.List.{List, [], ◌∷◌, ◌++◌}
use Prim.Native.Nat.{ℕ, suc, ◌+◌, ◌<◌, ◌≤◌}
use native.Mathlib.Omega.{arith}
use lib.ListN.{length, get_or, take}
use Rattle.std.proofs.lemmas.List.{take_more}
use Rattle.truth.specs.Truth.{all_of, any_of}
use Rattle.truth.proofs.TruthLaws.{and_unit, or_unit, and_t_comm, or_t_comm, all_append, any_append}
use Rattle.scalar.specs.declared.Kind.TheVariants as K
use Rattle.scalar.specs.declared.ScalarValue.{ScalarValue}
use Rattle.scalar.specs.declared.ScalarValue.TheVariants as S
use Rattle.plan_data.specs.Nodes.{operands_of}
use Rattle.plan_data.specs.declared.NaryOp.{NaryOp}
use Rattle.plan_data.specs.declared.NaryOp.TheVariants.{And, Or}
use Rattle.plan_data.specs.declared.ExprData.{ExprData}
use Rattle.rows_spec.specs.Compare.{truth_of}
use Rattle.rows_spec.specs.Values.{none_of, join_of, nary_of, truths, node_value, value_in, value_next, values, value_at}
use Rattle.rows_spec.proofs.InOrderLaws.{in_order_at, in_order_past}
use Rattle.rows_spec.proofs.CompareLaws.{truth_code}

module _ (cell : ℕ → ScalarValue) (node : ℕ → ExprData) (items : List ℕ) where
  -- the value of h in a list of values is that of its node over those before it
  pub value-step : (n h : ℕ) → h < n → value_in (values cell node items n) h ≡ node_value cell (value_in (values cell node items h)) (operands_of
      items) (node h)
  unfolding values
  value-step n h lt = in_order_at (value_next cell node items) (S.Null K.Boolean) n h lt

  -- where it is not in the list, it is the NULL of Boolean
  pub value-past : (n h : ℕ) → n ≤ h → value_in (values cell node items n) h ≡ S.Null K.Boolean
  unfolding values
  value-past n h le = in_order_past (value_next cell node items) (S.Null K.Boolean) n h le

  -- a longer list has the same value of h
  pub value_in_lem : (n h : ℕ) → h < n → value_in (values cell node items n) h ≡ value_at cell node items h
  value_in_lem n h lt = value-step n h lt ∙ sym (value-step (suc h) h (omega arith))

-- what a node's value is read from: the values of the nodes before it, and the NULL of Boolean from it on
pub ruleset node_values = (value-step, value-past)

-- And and Or of the truths of many operands: of none, and of one more
truths-append : (value : ℕ → ScalarValue) (l m : List ℕ) → truths value (l ++ m) ≡ truths value l ++ truths value m
unfolding truths
truths-append value [] m = refl
truths-append value (e ∷ l) m = ap (λ (xs : List ℕ). truth_of (value e) ∷ xs) (truths-append value l m)

nary_one : (op : NaryOp) (x : ℕ) → x < 3 → nary_of op (x ∷ []) ≡ x
unfolding all_of any_of
nary_one And x lt = and_t_comm x 2 ∙ and_unit x lt
nary_one Or x lt = or_t_comm x 0 ∙ or_unit x lt

nary-append : (op : NaryOp) (l m : List ℕ) → nary_of op (l ++ m) ≡ join_of op (nary_of op l) (nary_of op m)
nary-append And l m = all_append l m
nary-append Or l m = any_append l m

pub nary_nothing : (op : NaryOp) (value : ℕ → ScalarValue) → nary_of op (truths value []) ≡ none_of op
unfolding truths all_of any_of
nary_nothing And value = refl
nary_nothing Or value = refl

pub nary_more : (op : NaryOp) (value : ℕ → ScalarValue) (items : List ℕ) (i : ℕ) → i < length items
    → nary_of op (truths value (take (i + 1) items)) ≡ join_of op (nary_of op (truths value (take i items))) (truth_of (value (get_or items i 0)))
unfolding truths
nary_more op value items i lt =
    rw (take_more items i 0 lt, truths-append, nary-append)
    (ap (join_of op (nary_of op (truths value (take i items)))) (nary_one op (truth_of (value (get_or items i 0))) (truth_code (value (get_or items i 0)))))

pub ruleset nary_loop = (nary_nothing, nary_more)
