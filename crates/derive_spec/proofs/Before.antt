-- In a plan that keeps the rules the inputs of an operator stand before it. Assumes nothing.
use mathlib.Core.Path.{◌≡◌, refl, sym, subst}
use mathlib.Core.Bool.{true, ◌&&◌}
use mathlib.Core.Logic.{◌⊎◌, inl, inr}
use Prim.Native.Nat.{ℕ, ◌<◌}
use lib.Dec.{T, eqb, eqb→eq}
use borrow.Author.Tests.{ltb-true}
use Rattle.laws.proofs.Bools.{and_left, and_right, cond_T_elim}
use Rattle.plan_kinds.specs.declared.Record.{Record}
use Rattle.plan_kinds.specs.Rows.{line_of, row_of}
use Rattle.plan_kinds.specs.Records.{code_ok, bits_ok, handle_ok, handles_ok}
use Rattle.plan.specs.declared.Plan.{Plan}
use Rattle.plan.specs.Records.{operator_record, operator_start}
use Rattle.plan_rules.specs.Rules.{record_ok, operator_ok_of, plan_ok}
use Rattle.plan_rules.proofs.RuleLaws.{rules}
use Rattle.plan_data.specs.Nodes.{operator_data, operator_at}
use Rattle.plan_data.specs.declared.OperatorData.{OperatorData}
use Rattle.derive_spec.specs.Residuals.{IsInput}

abbrev InputsBefore : ℕ → OperatorData → Type 0
InputsBefore h o = (i : ℕ) → IsInput o i → i < h

lt-of-eq : (h i j : ℕ) → j < h → i ≡ j → i < h
lt-of-eq h i j l e = subst (λ (k : ℕ). k < h) (sym e) l

lt-of-eq-either : (h i j k : ℕ) → j < h → k < h → (i ≡ j) ⊎ (i ≡ k) → i < h
lt-of-eq-either h i j k l m (inl e) = lt-of-eq h i j l e
lt-of-eq-either h i j k l m (inr e) = lt-of-eq h i k m e

module _ (x : Record) (st nc ne h : ℕ) (e : record_ok 3 x nc ne h ≡ true) where
  handles : handles_ok (row_of x.kind) x nc ne h ≡ true
  unfolding record_ok
  handles =
      and_right (bits_ok (row_of x.kind) x) _ (and_right (code_ok (row_of x.kind) x) _ (and_right (eqb (row_of x.kind).sort 3) _ e))

  module _ (k : ℕ) (q : T (eqb x.kind k)) where
    held : handles_ok (row_of k) x nc ne h ≡ true
    held = subst (λ (k : ℕ). handles_ok (row_of k) x nc ne h ≡ true) (eqb→eq x.kind k q) handles

    a_below : (row_of k).a ≡ 4 → x.a < h
    unfolding handle_ok
    a_below r =
        ltb-true x.a h
        (subst (λ (s : ℕ). handle_ok s x.a nc ne h ≡ true) r
        (and_left _ (handle_ok (row_of k).b x.b nc ne h)
        (and_left _ (handle_ok (row_of k).c x.c nc ne h) (and_left _ (handle_ok (row_of k).d x.d nc ne h) held))))

    b_below : (row_of k).b ≡ 4 → x.b < h
    unfolding handle_ok
    b_below r =
        ltb-true x.b h
        (subst (λ (s : ℕ). handle_ok s x.b nc ne h ≡ true) r
        (and_right (handle_ok (row_of k).a x.a nc ne h) _
        (and_left _ (handle_ok (row_of k).c x.c nc ne h) (and_left _ (handle_ok (row_of k).d x.d nc ne h) held))))

    c_below : (row_of k).c ≡ 4 → x.c < h
    unfolding handle_ok
    c_below r =
        ltb-true x.c h
        (subst (λ (s : ℕ). handle_ok s x.c nc ne h ≡ true) r
        (and_right (handle_ok (row_of k).a x.a nc ne h && handle_ok (row_of k).b x.b nc ne h) _ (and_left _ (handle_ok (row_of k).d x.d nc ne h) held)))

  record_before : InputsBefore h (operator_data x st)
  unfolding operator_data row_of line_of
  record_before =
      let P = InputsBefore h in
      cond_T_elim P (eqb x.kind 0x30) _ _ (λ t i u. absurd u)
      (cond_T_elim P (eqb x.kind 0x31) _ _ (λ t i u. absurd u)
      (cond_T_elim P (eqb x.kind 0x32) _ _ (λ t i u. absurd u)
      (cond_T_elim P (eqb x.kind 0x33) _ _ (λ t i u. lt-of-eq h i x.b (b_below 0x33 t refl) u)
      (cond_T_elim P (eqb x.kind 0x34) _ _ (λ t i u. lt-of-eq h i x.a (a_below 0x34 t refl) u)
      (cond_T_elim P (eqb x.kind 0x35) _ _ (λ t i u. lt-of-eq h i x.a (a_below 0x35 t refl) u)
      (cond_T_elim P (eqb x.kind 0x36) _ _ (λ t i u. lt-of-eq h i x.a (a_below 0x36 t refl) u)
      (cond_T_elim P (eqb x.kind 0x37) _ _ (λ t i u. lt-of-eq h i x.a (a_below 0x37 t refl) u)
      (cond_T_elim P (eqb x.kind 0x38) _ _ (λ t i u. lt-of-eq h i x.a (a_below 0x38 t refl) u)
      (cond_T_elim P (eqb x.kind 0x39) _ _ (λ t i u. lt-of-eq h i x.a (a_below 0x39 t refl) u)
      (cond_T_elim P (eqb x.kind 0x3A) _ _ (λ t i u. lt-of-eq h i x.a (a_below 0x3A t refl) u)
      (cond_T_elim P (eqb x.kind 0x3B) _ _ (λ t i u. lt-of-eq-either h i x.a x.b (a_below 0x3B t refl) (b_below 0x3B t refl) u)
      (cond_T_elim P (eqb x.kind 0x3C) _ _ (λ t i u. lt-of-eq-either h i x.b x.c (b_below 0x3C t refl) (c_below 0x3C t refl) u)
      (cond_T_elim P (eqb x.kind 0x3D) _ _ (λ t i u. lt-of-eq-either h i x.b x.c (b_below 0x3D t refl) (c_below 0x3D t refl) u)
      (λ i u. absurd u))))))))))))))

-- an input of an operator stands before it
pub inputs-before : (p : Plan) → plan_ok p ≡ true → (h i : ℕ) → h < p.operators.count → IsInput (operator_at p h) i → i < h
unfolding operator_ok_of
inputs-before p ok h i l u = record_before (operator_record p h) (operator_start p h) _ _ h (and_left _ _ ((rules p ok).operator h l)) i u
