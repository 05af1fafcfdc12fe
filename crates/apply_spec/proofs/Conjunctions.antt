-- An expression is TRUE of a row exactly where each of its conjuncts is, in a plan whose operands stand before their node. Assumes nothing.
use mathlib.Core.Path.{◌≡◌, refl, sym, ap, ◌∙◌, subst}
use mathlib.Core.Bool.{Bool, true, false, cond}
use mathlib.Core.List.{List, [], ◌∷◌}
use mathlib.Core.Logic.{◌↔◌}
use Prim.Native.Nat.{ℕ, ◌<◌, ◌≤◌}
use native.Mathlib.Decide.{dec_lt}
use native.Mathlib.Omega.{arith}
use lib.Dec.{T, eqb→eq}
use lib.ListN.{get_or}
use lib.Ieee.Fits.{and_i, and_l, and_r, eq→eqb}
use Rattle.laws.proofs.Numbers.{before-all}
use Rattle.scalar.specs.declared.Kind.TheVariants as K
use Rattle.scalar.specs.declared.ScalarValue.{ScalarValue}
use Rattle.scalar.specs.declared.ScalarValue.TheVariants as S
use Rattle.truth.specs.Truth.{is_false_code, is_true_code, all_of, every}
use Rattle.truth.proofs.TruthLaws.{all_true}
use Rattle.plan_data.specs.Nodes.{operands_of}
use Rattle.plan_data.specs.declared.NaryOp.TheVariants as N
use Rattle.plan_data.specs.declared.ExprData.{ExprData}
use Rattle.plan_data.specs.declared.ExprData.TheVariants.{Literal, ColumnRef, Unary, Binary, Nary}
use Rattle.apply_spec.specs.Conjuncts.{joined_of, conjuncts_by, conjuncts_to, conjuncts_of}
use Rattle.rows_spec.specs.Compare.{truth_of, of_truth}
use Rattle.rows_spec.specs.Values.{truths, node_value, value_in, values}
use Rattle.apply_spec.specs.Meaning.{WholeRow, OnNodes, AllOf}
use Rattle.rows_spec.proofs.ValueLaws.{value-past, value_in_lem}
use Rattle.apply_spec.proofs.Members.{all_append, all_left, all_right, all_map}
use Rattle.apply_spec.proofs.Readings.{value-here, conjuncts_here, conjuncts_before, conjuncts_past}

-- the operands of a node stand before h
abbrev pub OperandsBelow : List ℕ → ℕ → ExprData → Type 0
OperandsBelow items h (Literal v) = Unit {0}
OperandsBelow items h (ColumnRef c) = Unit {0}
OperandsBelow items h (Unary op e) = e.0 < h
OperandsBelow items h (Binary op l r) = (l.0 < h) × (r.0 < h)
OperandsBelow items h (Nary op r) = AllOf (λ (e : ℕ). e < h) (operands_of items r)

-- the value made of a truth has it: TRUE where it was TRUE. Assumes nothing
pub truth_back-true : (t : ℕ) → (truth_of (of_truth t) ≡ 2) ↔ (t ≡ 2)
truth_back-true t =
    let i = go (is_false_code t) (is_true_code t) (λ a b. apart t (eqb→eq t 0 a) (eqb→eq t 2 b)) in
    (λ e. eqb→eq t 2 (i.0 e), λ e. i.1 (eq→eqb e))
  where
    apart : (t : ℕ) → t ≡ 0 → t ≡ 2 → ⊥
    apart t a b = absurd (omega (arith, a, b))

    zero-two : ◌≡◌ {A = ℕ} 0 2 → ⊥
    zero-two e = absurd (omega (arith, e))

    one-two : ◌≡◌ {A = ℕ} 1 2 → ⊥
    one-two e = absurd (omega (arith, e))

    go : (a b : Bool) → (T a → T b → ⊥) → (truth_of (cond a (S.Boolean false) (cond b (S.Boolean true) (S.Null K.Boolean))) ≡ 2) ↔ T b
    go true true f = absurd (f tt tt)
    go true false f = (zero-two, λ t. absurd t)
    go false true f = (λ e. tt, λ t. refl)
    go false false f = (one-two, λ t. absurd t)

-- AND of the truths of operands is TRUE where each is. Assumes nothing
pub all-iff : (value : ℕ → ScalarValue) (es : List ℕ) → (all_of (truths value es) ≡ 2) ↔ AllOf (λ (e : ℕ). truth_of (value e) ≡ 2) es
unfolding truths every
all-iff value es = (
  λ t. to es (subst T (all_true (truths value es)) (eq→eqb t)),
  λ a. eqb→eq (all_of (truths value es)) 2 (subst T (sym (all_true (truths value es))) (from es a)),
)
  where
    to : (es : List ℕ) → T (every is_true_code (truths value es)) → AllOf (λ (e : ℕ). truth_of (value e) ≡ 2) es
    to [] t = tt
    to (e ∷ es) t =
        let b = every is_true_code (truths value es) in
        (eqb→eq (truth_of (value e)) 2 (and_l (is_true_code (truth_of (value e))) b t), to es (and_r (is_true_code (truth_of (value e))) b t))

    from : (es : List ℕ) → AllOf (λ (e : ℕ). truth_of (value e) ≡ 2) es → T (every is_true_code (truths value es))
    from [] a = tt
    from (e ∷ es) a = and_i (is_true_code (truth_of (value e))) (every is_true_code (truths value es)) (eq→eqb a.0) (from es a.1)

module _ (node : ℕ → ExprData) (items : List ℕ) where
  -- no conjunct stands after its expression. Assumes nothing
  pub conjuncts_within : (h : ℕ) → AllOf (λ (k : ℕ). k ≤ h) (conjuncts_of node items h)
  unfolding joined_of
  conjuncts_within = before-all (λ (h : ℕ). AllOf (λ (k : ℕ). k ≤ h) (conjuncts_of node items h)) step
    where
      joined : (h : ℕ) → ((e : ℕ) → e < h → AllOf (λ (k : ℕ). k ≤ e) (conjuncts_of node items e)) → (es : List ℕ) → AllOf (λ (k : ℕ). k ≤ h)
          (joined_of (conjuncts_to node items h) es)
      joined h ih [] = tt
      joined h ih (e ∷ es) =
          all_append (λ (k : ℕ). k ≤ h) (get_or (conjuncts_to node items h) e []) (joined_of (conjuncts_to node items h) es)
          (elim (dec_lt e h) [
            | yes l ↦ subst (AllOf (λ (k : ℕ). k ≤ h)) (sym (conjuncts_before node items h e l))
                (all_map (λ (k : ℕ). k ≤ e) (λ (k : ℕ). k ≤ h) (λ k q. omega arith) (conjuncts_of node items e) (ih e l))
            | no l ↦ subst (AllOf (λ (k : ℕ). k ≤ h)) (sym (conjuncts_past node items h e (omega arith))) tt
          ])
          (joined h ih es)

      self : (h : ℕ) → h ≤ h
      self h = omega arith

      go : (h : ℕ) → ((e : ℕ) → e < h → AllOf (λ (k : ℕ). k ≤ e) (conjuncts_of node items e)) → (x : ExprData) → AllOf (λ (k : ℕ). k ≤ h)
          (conjuncts_by (conjuncts_to node items h) items h x)
      go h ih (Literal v) = (self h, tt)
      go h ih (ColumnRef c) = (self h, tt)
      go h ih (Unary op e) = (self h, tt)
      go h ih (Binary op l r) = (self h, tt)
      go h ih (Nary N.And r) = joined h ih (operands_of items r)
      go h ih (Nary N.Or r) = (self h, tt)

      step : (h : ℕ) → ((e : ℕ) → e < h → AllOf (λ (k : ℕ). k ≤ e) (conjuncts_of node items e)) → AllOf (λ (k : ℕ). k ≤ h) (conjuncts_of node items h)
      step h ih = subst (AllOf (λ (k : ℕ). k ≤ h)) (sym (conjuncts_here node items h)) (go h ih (node h))

module _ (node : ℕ → ExprData) (items : List ℕ) (row : WholeRow) where
  abbrev O : ℕ → Type 0
  O h = OnNodes node items row h

  abbrev vals : ℕ → List ScalarValue
  vals h = values row.cols node items h

  abbrev cons : ℕ → List (List ℕ)
  cons h = conjuncts_to node items h

  null-two : ◌≡◌ {A = ℕ} 1 2 → ⊥
  null-two e = absurd (omega (arith, e))

  -- TRUE of a row, so is each conjunct. Assumes nothing
  pub conjuncts_on : (h : ℕ) → O h → AllOf O (conjuncts_of node items h)
  unfolding joined_of
  conjuncts_on = before-all (λ (h : ℕ). O h → AllOf O (conjuncts_of node items h)) step
    where
      joined : (h : ℕ) → ((e : ℕ) → e < h → O e → AllOf O (conjuncts_of node items e)) → (es : List ℕ) → AllOf (λ (e : ℕ). truth_of (value_in (vals h)
          e) ≡ 2) es
          → AllOf O (joined_of (cons h) es)
      joined h ih [] a = tt
      joined h ih (e ∷ es) a =
          all_append O (get_or (cons h) e []) (joined_of (cons h) es)
          (elim (dec_lt e h) [
            | yes l ↦ subst (AllOf O) (sym (conjuncts_before node items h e l)) (ih e l (ap truth_of (sym (value_in_lem row.cols node items h e l)) ∙
                a.0))
            | no l ↦ absurd (null-two (ap truth_of (sym (value-past row.cols node items h e (omega arith))) ∙ a.0))
          ])
          (joined h ih es a.1)

      go : (h : ℕ) → ((e : ℕ) → e < h → O e → AllOf O (conjuncts_of node items e)) → O h → (x : ExprData) → truth_of
          (node_value row.cols (value_in (vals h)) (operands_of items) x) ≡ 2 → AllOf O (conjuncts_by (cons h) items h x)
      go h ih o (Literal v) t = (o, tt)
      go h ih o (ColumnRef c) t = (o, tt)
      go h ih o (Unary op e) t = (o, tt)
      go h ih o (Binary op l r) t = (o, tt)
      go h ih o (Nary N.And r) t =
          joined h ih (operands_of items r)
          ((all-iff (value_in (vals h)) (operands_of items r)).0 ((truth_back-true (all_of (truths (value_in (vals h)) (operands_of items r)))).0 t))
      go h ih o (Nary N.Or r) t = (o, tt)

      step : (h : ℕ) → ((e : ℕ) → e < h → O e → AllOf O (conjuncts_of node items e)) → O h → AllOf O (conjuncts_of node items h)
      step h ih o =
          subst (AllOf O) (sym (conjuncts_here node items h)) (go h ih o (node h) (ap truth_of (sym (value-here row.cols node items h)) ∙ o))

  -- and back, where the operands of the first n expressions stand before them
  module _ (n : ℕ) (below : (h : ℕ) → h < n → OperandsBelow items h (node h)) where
    -- where each conjunct is TRUE of a row, so is the expression
    pub on_conjuncts : (h : ℕ) → h < n → AllOf O (conjuncts_of node items h) → O h
    unfolding joined_of
    on_conjuncts = before-all (λ (h : ℕ). h < n → AllOf O (conjuncts_of node items h) → O h) step
      where
        joined : (h : ℕ) → h < n → ((e : ℕ) → e < h → e < n → AllOf O (conjuncts_of node items e) → O e) → (es : List ℕ) → AllOf (λ (e : ℕ). e < h) es
            → AllOf O (joined_of (cons h) es) → AllOf (λ (e : ℕ). truth_of (value_in (vals h) e) ≡ 2) es
        joined h hn ih [] b a = tt
        joined h hn ih (e ∷ es) b a =
            let m = joined_of (cons h) es in (
              ap truth_of (value_in_lem row.cols node items h e b.0)
                  ∙ ih e b.0 (omega (arith, b.0, hn)) (subst (AllOf O) (conjuncts_before node items h e b.0) (all_left O (get_or (cons h) e []) m a)),
              joined h hn ih es b.1 (all_right O (get_or (cons h) e []) m a),
            )

        go : (h : ℕ) → h < n → ((e : ℕ) → e < h → e < n → AllOf O (conjuncts_of node items e) → O e) → (x : ExprData) → OperandsBelow items h x → node
            h ≡ x
            → AllOf O (conjuncts_by (cons h) items h x) → O h
        go h hn ih (Literal v) b q a = a.0
        go h hn ih (ColumnRef c) b q a = a.0
        go h hn ih (Unary op e) b q a = a.0
        go h hn ih (Binary op l r) b q a = a.0
        go h hn ih (Nary N.And r) b q a =
            ap truth_of (value-here row.cols node items h)
            ∙ ap (λ (x : ExprData). truth_of (node_value row.cols (value_in (vals h)) (operands_of items) x)) q
            ∙ (truth_back-true (all_of (truths (value_in (vals h)) (operands_of items r)))).1
            ((all-iff (value_in (vals h)) (operands_of items r)).1 (joined h hn ih (operands_of items r) b a))
        go h hn ih (Nary N.Or r) b q a = a.0

        step : (h : ℕ) → ((e : ℕ) → e < h → e < n → AllOf O (conjuncts_of node items e) → O e) → h < n → AllOf O (conjuncts_of node items h) → O h
        step h ih hn a = go h hn ih (node h) (below h hn) refl (subst (AllOf O) (conjuncts_here node items h) a)

    -- TRUE exactly where each conjunct is. Assumes that operands stand before their node
    pub conjuncts_iff : (h : ℕ) → h < n → O h ↔ AllOf O (conjuncts_of node items h)
    conjuncts_iff h hn = (conjuncts_on h, on_conjuncts h hn)
