-- Case 11 of the rules, on plans with a Boolean column b: And[] and And[b] stay, And[true] is true, Or[false, b] is b. And what the Selection on each is
-- answered. Assumes nothing.
use Rattle.std.proofs.Common.{Ok}
use mathlib.Core.Path.{◌≡◌, refl}
use mathlib.Core.Bool.{true}
use mathlib.Core.List.{List, [], ◌∷◌, ◌++◌}
use Prim.Native.Nat.{ℕ, ◌-◌}
use lib.ListN.{length, replicate}
use Rattle.lists.specs.Ranges.{all_from, any_from, count_from}
use Rattle.plan_kinds.specs.Rows.{row_of, line_of}
use Rattle.plan_kinds.specs.Records.{bits_ok, handle_ok, count_of, more_of}
use Rattle.scalar.specs.declared.ScalarValue.TheVariants as S
use Rattle.plan.specs.declared.Plan.{Plan}
use Rattle.plan.specs.declared.Operator.{Operator}
use Rattle.plan_rules.specs.Rules.{record_ok, item_ok, lists_ok, expr_ok_of, operator_ok_of, scans_of, counts_within, plan_ok}
use Rattle.plan_data.specs.Nodes.{expr_data, operator_data}
use Rattle.plan_data.specs.declared.ExprData.TheVariants.{Literal}
use Rattle.simplify_spec.specs.OneExpression.{node_in, kept, took, operands_from, rebuilt, nary_of, simplify_below, simplify_at}
use Rattle.simplify_spec.specs.OneOperator.{each_to, write_all, rewrite_of, start_of, simplify_of}
use Rattle.simplify_spec.specs.declared.Rewrite.TheVariants.{Keep, Replace}

-- a table's array, filled up with zeros
abbrev filled : ℕ → List ℕ → List ℕ
filled n l = l ++ replicate (n - length l) 0

-- a plan with the column b, expressions by kind, code, first number and start, operands, a ConstScan and a Selection on the last expression
abbrev plan_for : ℕ → List ℕ → List ℕ → List ℕ → List ℕ → ℕ → List ℕ → Plan
plan_for n kind code a start used items =
    record {
      columns = record { count = 1; name = filled 64 []; kind = filled 64 (1 ∷ []) };
      expressions =
          record {
            count = n;
            kind = filled 1024 kind;
            code = filled 1024 code;
            a = filled 1024 a;
            b = filled 1024 [];
            start = filled 1024 start;
            bits = filled 1024 [];
          };
      operators =
          record {
            count = 2;
            kind = filled 128 (0x31 ∷ 0x33 ∷ []);
            code = filled 128 [];
            a = filled 128 (0 ∷ (n - 1) ∷ []);
            b = filled 128 [];
            c = filled 128 [];
            d = filled 128 [];
            start = filled 128 [];
          };
      items = record { count = used; a = filled 2048 items; b = filled 2048 [] };
    }

abbrev asked : Operator
asked = record { 0 = 1 }

-- And[]
abbrev pub and_none : Plan
and_none = plan_for 1 (0x23 ∷ []) [] [] [] 0 []

-- And[b]
abbrev pub and_one : Plan
and_one = plan_for 2 (0x20 ∷ 0x23 ∷ []) [] (0 ∷ 1 ∷ []) [] 1 (0 ∷ [])

-- And[true]
abbrev pub and-true : Plan
and-true = plan_for 2 (0x11 ∷ 0x23 ∷ []) (1 ∷ 0 ∷ []) (0 ∷ 1 ∷ []) [] 1 (0 ∷ [])

-- Or[false, b]
abbrev pub or-false : Plan
or-false = plan_for 3 (0x11 ∷ 0x20 ∷ 0x23 ∷ []) (0 ∷ 0 ∷ 1 ∷ []) (0 ∷ 0 ∷ 2 ∷ []) [] 2 (0 ∷ 1 ∷ [])

-- they keep the rules
pub cases-right : (plan_ok and_none ≡ true) × (plan_ok and_one ≡ true) × (plan_ok and-true ≡ true) × (plan_ok or-false ≡ true)
unfolding plan_ok counts_within expr_ok_of operator_ok_of record_ok lists_ok item_ok scans_of all_from any_from count_from row_of line_of bits_ok
    handle_ok count_of more_of
cases-right = (refl, refl, refl, refl)

pub and-none-stays : simplify_at 0 (start_of and_none) ≡ kept (start_of and_none) 0
unfolding simplify_at simplify_below operands_from nary_of expr_data
and-none-stays = refl

pub and-one-stays : simplify_at 1 (start_of and_one) ≡ kept (start_of and_one) 1
unfolding simplify_at simplify_below operands_from nary_of expr_data
and-one-stays = refl

-- a new literal, after the two expressions that there were
pub and-true-is : ((simplify_at 1 (start_of and-true)).ok ≡ true) × ((simplify_at 1 (start_of and-true)).at ≡ 2)
    × ((simplify_at 1 (start_of and-true)).st.exprs.count ≡ 3)
    × (node_in (simplify_at 1 (start_of and-true)).st 2 ≡ Literal (S.Boolean true))
unfolding simplify_at simplify_below operands_from nary_of rebuilt expr_data
and-true-is = (refl, refl, refl, refl)

pub or_false-is : simplify_at 2 (start_of or-false) ≡ took (start_of or-false) 1
unfolding simplify_at simplify_below operands_from nary_of rebuilt expr_data
or_false-is = refl

-- a Selection on And[] or And[b] is kept, on And[true] replaced by its input, on Or[false, b] by a Selection on b
pub selections_answered : ((simplify_of and_none asked).rewrite ≡ (Ok Keep)) × ((simplify_of and_one asked).rewrite ≡ (Ok Keep))
    × ((simplify_of and-true asked).rewrite ≡ Ok (Replace (record { 0 = 0 }))) × ((simplify_of or-false asked).rewrite ≡ Ok (Replace (record { 0 = 2 })))
unfolding simplify_of rewrite_of each_to write_all operator_data simplify_at simplify_below operands_from nary_of rebuilt expr_data plan_ok
    counts_within expr_ok_of
    operator_ok_of record_ok lists_ok item_ok scans_of all_from any_from count_from row_of line_of bits_ok handle_ok count_of more_of
selections_answered = (refl, refl, refl, refl)
