-- A plan keeps the rules where it passes the five tests, and breaks them where it fails one. Assumes nothing.
use Prim.Native.Nat.{ℕ, ◌≤◌}
use mathlib.Core.Path.{◌≡◌}
use mathlib.Core.Bool.{true, false}
use lib.Dec.{leb}
use borrow.Author.Tests.{leb-true}
use Rattle.laws.proofs.Bools.{and_left, and_right}
use Rattle.lists.specs.Ranges.{all_from}
use Rattle.plan.specs.declared.Plan.{Plan}
use Rattle.plan_rules.specs.Rules.{column_ok, expr_ok, operator_ok, scanned_once, counts_within, counts_ok, plan_ok}

pub exprs-within : (nc ne np used : ℕ) → counts_within nc ne np used ≡ true → ne ≤ 1024
unfolding counts_within
exprs-within nc ne np used h = leb-true ne 1024 (and_left _ _ (and_right (leb nc 64) _ h))

module _ (p : Plan) where
  pub fails_1 : counts_ok p ≡ false → false ≡ plan_ok p
  unfolding plan_ok
  fails_1 a = rw a

  pub fails_2 : counts_ok p ≡ true → all_from (column_ok p) 0 p.columns.count ≡ false → false ≡ plan_ok p
  unfolding plan_ok
  fails_2 a b = rw (a, b)

  pub fails_3 : counts_ok p ≡ true → all_from (column_ok p) 0 p.columns.count ≡ true → all_from (expr_ok p) 0 p.expressions.count ≡ false → false ≡ plan_ok p
  unfolding plan_ok
  fails_3 a b d = rw (a, b, d)

  pub fails_4 :
      counts_ok p ≡ true → all_from (column_ok p) 0 p.columns.count ≡ true → all_from (expr_ok p) 0 p.expressions.count ≡ true
      → all_from (operator_ok p) 0 p.operators.count ≡ false → false ≡ plan_ok p
  unfolding plan_ok
  fails_4 a b d e = rw (a, b, d, e)

  pub passes :
      counts_ok p ≡ true → all_from (column_ok p) 0 p.columns.count ≡ true → all_from (expr_ok p) 0 p.expressions.count ≡ true
      → all_from (operator_ok p) 0 p.operators.count ≡ true → all_from (scanned_once p) 0 p.columns.count ≡ plan_ok p
  unfolding plan_ok
  passes a b d e = rw (a, b, d, e)
