-- No conjunct asks for a bound that is a NaN. Assumes nothing.
use Rattle.std.proofs.Common.{Some, None, Option}
use Prim.Native.Nat.{ℕ, ◌<◌}
use mathlib.Core.Path.{◌≡◌, refl}
use mathlib.Core.Bool.{Bool, true, false, cond}
use mathlib.Core.List.{List}
use native.Mathlib.Omega.{arith}
use lib.Dec.{ltb}
use lib.Ieee.{Float, is_nan}
use Rattle.scalar.specs.Kinds.{is_null}
use Rattle.scalar.specs.Scalars.{scalar_to_f64}
use Rattle.scalar.specs.declared.ScalarValue.{ScalarValue}
use Rattle.scalar.proofs.ScalarLaws.{number_no_nan}
use Rattle.comparison.specs.Operators.{bounding}
use Rattle.comparison.specs.declared.BinaryOp.{BinaryOp}
use Rattle.plan_data.specs.declared.ExprData.{ExprData}
use Rattle.apply_spec.proofs.Recordings.{Each, node-each}
use Rattle.apply_action.specs.Actions.{same_action, bounded_by, range_action, literal_action, actions, action_of}
use Rattle.apply_action.specs.declared.Action.TheVariants.{Nothing, Contradiction, Residual, Same, Literal, Bound, Entry}
use Rattle.apply_shared_laws.specs.Has.{Numbered}

chosen : {A : Type 0} (P : A → Type 0) (b : Bool) (x y : A) → P x → P y → P (cond b x y)
chosen P true x y p q = p
chosen P false x y p q = q

abbrev zero-lt-one : 0 < 1
zero-lt-one = omega arith

same-numbered : (i j : ℕ) (both : Bool) → Numbered (same_action i j both)
unfolding same_action
same-numbered i j both =
    chosen Numbered (ltb i 128) (cond (ltb j 128) (Same i j both) (Same i i both)) Nothing
    (chosen Numbered (ltb j 128) (Same i j both) (Same i i both) zero-lt-one zero-lt-one) zero-lt-one

number-numbered : (op : BinaryOp) (i : ℕ) (n : Option Float) → ((x : Float) → n ≡ Some x → is_nan x ≡ false) → Numbered (bounded_by op i n)
unfolding bounded_by
number-numbered op i None h = zero-lt-one
number-numbered op i (Some x) h =
    chosen Numbered (bounding op) (cond (ltb i 128) (Bound i op x) Nothing) (cond (ltb i 128) (Entry i) Residual)
    (chosen Numbered (ltb i 128) (Bound i op x) Nothing (h x refl) zero-lt-one) (chosen Numbered (ltb i 128) (Entry i) Residual zero-lt-one zero-lt-one)

range-numbered : (op : BinaryOp) (i : ℕ) (v : ScalarValue) → Numbered (range_action op i v)
range-numbered op i v = number-numbered op i (scalar_to_f64 v) (number_no_nan v)

literal-numbered : (i : ℕ) (v : ScalarValue) → Numbered (literal_action i v)
unfolding literal_action
literal-numbered i v =
    chosen Numbered (ltb i 128) (cond (is_null v) Contradiction (Literal i v)) Nothing
    (chosen Numbered (is_null v) Contradiction (Literal i v) zero-lt-one zero-lt-one) zero-lt-one

ways_numbered : Each Numbered actions
ways_numbered = record {
  nothing = zero-lt-one;
  contradiction = zero-lt-one;
  residual = zero-lt-one;
  same = same-numbered;
  literal = literal-numbered;
  range = range-numbered;
}

pub numbered : (lineage : List ℕ) (node : ℕ → ExprData) (h : ℕ) → Numbered (action_of lineage node h)
unfolding action_of
numbered lineage node h = node-each Numbered actions ways_numbered lineage node (node h)
