-- Who refuses, and why: an operator that is reached, by its keys or because its residual list would pass 64. Assumes nothing.
use Rattle.std.proofs.Common.{Ok, Err, Result}
use mathlib.Core.Path.{◌≡◌, refl, sym, ap, subst, ◌∙◌}
use mathlib.Core.Bool.{Bool, true, false, cond, ◌&&◌, true≢false}
use mathlib.Core.List.{List, []}
use mathlib.Core.Logic.{◌⊎◌, inl, inr, ◌↔◌}
use Prim.Native.Nat.{ℕ, zero, suc, ◌<◌, ◌≤◌}
use native.Mathlib.Omega.{arith}
use lib.Dec.{ltb}
use lib.ListN.{get_or, length}
use borrow.Author.Tests.{lt-ltb, ltb-true}
use Rattle.constraint_spec.specs.Sets.{empty_set, merge_from}
use Rattle.constraint_spec.specs.Room.{joint_list}
use Rattle.constraint_spec.specs.Answers.{Applied}
use Rattle.plan.specs.declared.Plan.{Plan}
use Rattle.plan.specs.declared.Expr.{Expr}
use Rattle.plan.specs.declared.Operator.{Operator}
use Rattle.plan_rules.specs.Rules.{plan_ok}
use Rattle.plan_data.specs.Nodes.{node_at, operator_at}
use Rattle.plan_data.specs.declared.Run.{Run}
use Rattle.plan_data.specs.declared.JoinType.{JoinType}
use Rattle.plan_data.specs.declared.JoinType.TheVariants.{Inner, LeftSemi, LeftAnti, LeftOuter, Single, RightOuter, FullOuter, LeftMark}
use Rattle.plan_data.specs.declared.OperatorData.{OperatorData}
use Rattle.plan_data.specs.declared.OperatorData.TheVariants.{Scan, ConstScan, TableFunction, Selection, Projection, Rename, Map, Aggregation, Sort}
use Rattle.plan_data.specs.declared.OperatorData.TheVariants.{Limit, Output, CrossProduct, Join}
use Rattle.plan_identities.specs.Identities.{identities_of}
use Rattle.plan_identities.specs.declared.Identities.{Identities}
use Rattle.apply_spec.specs.Facts.{with_constraints}
use Rattle.apply_spec.specs.Conjuncts.{conjuncts_of}
use Rattle.apply_spec.specs.Entries.{answered, predicate_applied, overridden, overlaid, inputs_merged}
use Rattle.apply_spec.specs.Wanted.{conjunct_recorded}
use Rattle.apply_spec.specs.declared.LogicalFacts.{LogicalFacts}
use Rattle.apply_spec.specs.declared.FactsError.TheVariants as O
use Rattle.apply_spec.proofs.Refusals.{Roomy}
use Rattle.derive_spec.specs.Columns.{columns_in, facts_with, keys_ok, aggregated}
use Rattle.derive_spec.specs.Operators.{refusal_of, refuser_of, is_accepted, accepted, refused, given, fitted, filtered, joined, grouped}
use Rattle.derive_spec.specs.Operators.{operator_derived, outer_of, inner_of}
use Rattle.derive_spec.specs.Deriving.{missing, answers_to, answer_of, derive_of}
use Rattle.derive_spec.specs.Residuals.{predicate_list, operator_list, residuals_at, keys_fine, IsInput, Reached, here, through}
use Rattle.derive_spec.specs.declared.DeriveError.{DeriveError}
use Rattle.derive_spec.specs.declared.DeriveError.TheVariants.{UnsupportedKey, Residuals}
use Rattle.derive_spec.specs.Answers.{DeriveAnswer}
use Rattle.derive_spec.proofs.Answers.{answer-made, answer_at}
use Rattle.derive_spec.proofs.Before.{inputs-before}
use Rattle.derive_spec.proofs.Rooms.{roomy-empty, Kept, list-grows, predicate-kept, merge_kept}

abbrev numbered : ℕ → Operator
numbered h = record { 0 = h }

-- the operator h has column references as keys, and its residual list does not pass 64
abbrev pub Fine : Plan → ℕ → Type 0
Fine p h = (length (residuals_at p h) ≤ 64) × (keys_fine p (operator_at p h) ≡ true)

-- what the answer d of the operator h says
pub data Told (p : Plan) (h : ℕ) (d : DeriveAnswer) : Type 0 where
  -- facts, with no more residuals than there is room for; its inputs have facts too
  facts : d.outcome ≡ Ok tt → Roomy d.facts.constraints → Fine p h → ((i : ℕ) → IsInput (operator_at p h) i → (answer_of p i).outcome ≡ Ok tt) →
      Told
      p h d
  -- refusal 7 by an operator that is reached, whose list would pass 64
  full : (q : ℕ) → Reached p h q → d.outcome ≡ Err (Residuals (numbered q)) → 64 < length (residuals_at p q) → Told p h d
  -- refusal 6 by an operator that is reached, and has a key that is no column reference
  key : (q : ℕ) → Reached p h q → d.outcome ≡ Err (UnsupportedKey (numbered q)) → keys_fine p (operator_at p q) ≡ false → Told p h d

module _ (p : Plan) (h : ℕ) where
  -- an input's refusal is handed on; else its facts are used
  given-told : (d : DeriveAnswer) (make : LogicalFacts → DeriveAnswer) (i : ℕ) → IsInput (operator_at p h) i → Told p i d
      → (d.outcome ≡ Ok tt → Roomy d.facts.constraints → Told p h (make d.facts)) → Told p h (given d make)
  unfolding given
  given-told d make i u (facts e r fine up) f = subst (λ (o : Result (Unit {0}) DeriveError). Told p h (cond (is_accepted o) (make d.facts) d)) (sym e) (f e r)
  given-told d make i u (full q w e n) f = subst (λ (o : Result (Unit {0}) DeriveError). Told p h (cond (is_accepted o) (make d.facts) d)) (sym e)
      (full q (through u
      w) e n)
  given-told d make i u (key q w e n) f = subst (λ (o : Result (Unit {0}) DeriveError). Told p h (cond (is_accepted o) (make d.facts) d)) (sym e)
      (key q (through u w)
      e n)

  -- an input's answer is used as it is by Sort, Limit and Output
  passed_on : (d : DeriveAnswer) (i : ℕ) → IsInput (operator_at p h) i → Told p i d → (d.outcome ≡ Ok tt → Roomy d.facts.constraints → Told p h d)
      → Told p h d
  passed_on d i u (facts e r fine up) f = f e r
  passed_on d i u (full q w e n) f = full q (through u w) e n
  passed_on d i u (key q w e n) f = key q (through u w) e n

  -- the list of h, where o is its node
  module _ (o : OperatorData) (is : operator_at p h ≡ o) where
    abbrev list_here : List ℕ
    list_here = operator_list p (answer_of p (outer_of o)).facts (answer_of p (inner_of o)).facts o

    full-here : (d : DeriveAnswer) → d ≡ refused (Err (Residuals (numbered h))) → 64 < length list_here → Told p h d
    full-here d e n =
        full h here (ap (λ (x : DeriveAnswer). x.outcome) e)
        (subst (λ (x : OperatorData). 64 < length (operator_list p (answer_of p (outer_of x)).facts (answer_of p (inner_of x)).facts x)) (sym is) n)

    -- h is fine, and its inputs have facts
    fine_here : length list_here ≤ 64 → keys_fine p o ≡ true → Fine p h
    fine_here n k =
        subst (λ (x : OperatorData). (length (operator_list p (answer_of p (outer_of x)).facts (answer_of p (inner_of x)).facts x) ≤ 64) × (keys_fine
        p x ≡ true))
        (sym is) (n, k)

    abbrev Inputs : Type 0
    Inputs = (i : ℕ) → IsInput (operator_at p h) i → (answer_of p i).outcome ≡ Ok tt

    -- what applying and merging say
    answered-told : Inputs → keys_fine p o ≡ true → (old f : LogicalFacts) (a : Applied) → Kept a list_here → Told p h (fitted (numbered h) (answered
        old f a))
    answered-told up k old f a (inl m) =
        subst (λ (t : Bool). Told p h
        (fitted (numbered h)
        (cond t (record { facts = old; outcome = Err O.Residuals }) (record { facts = with_constraints f a.constraints; outcome = Ok tt }))))
        (sym m.0) (facts refl m.1 (fine_here m.3 k) up)
    answered-told up k old f a (inr m) =
        subst (λ (t : Bool). Told p h
        (fitted (numbered h)
        (cond t (record { facts = old; outcome = Err O.Residuals }) (record { facts = with_constraints f a.constraints; outcome = Ok tt }))))
        (sym m.0) (full-here _ refl m.1)

    filter_told : Inputs → keys_fine p o ≡ true → (e : Expr) (f : LogicalFacts) → Kept (predicate_applied p f.lineage f.constraints e.0) list_here
        → Told p h (fitted (numbered h) (filtered p e f))
    unfolding filtered
    filter_told up y e f k = answered-told up y f f (predicate_applied p f.lineage f.constraints e.0) k

    merge_told : Inputs → keys_fine p o ≡ true → (f g : LogicalFacts) → Kept (merge_from f.constraints g.constraints) list_here → Told p h
        (fitted (numbered h) (inputs_merged f g true))
    unfolding inputs_merged
    merge_told up y f g k =
        answered-told up y f
        (overlaid f g f.constraints) (merge_from f.constraints g.constraints) k

    -- Inner: first both lists, then the predicate
    inner-told : Inputs → keys_fine p o ≡ true → (on : Expr) (f g : LogicalFacts) → Roomy f.constraints → Roomy g.constraints
        → list_here ≡ predicate_list p (overridden f.lineage g.lineage) (joint_list f.constraints g.constraints) on.0
        → Told p h (given (fitted (numbered h) (inputs_merged f g true)) (λ m. fitted (numbered h) (filtered p on m)))
    unfolding inputs_merged given
    inner-told up y on f g rf rg e = go (merge_kept f.constraints g.constraints rf rg)
      where
        a : Applied
        a = merge_from f.constraints g.constraints

        m : LogicalFacts
        m = overlaid f g a.constraints

        both : Bool → DeriveAnswer
        both t = given (fitted (numbered h) (cond t (record { facts = f; outcome = Err O.Residuals }) (record { facts = m; outcome = Ok tt })))
            (λ m. fitted (numbered h) (filtered p on m))

        go : Kept a (joint_list f.constraints g.constraints) → Told p h (both a.refused)
        go (inl k) =
            subst (λ (t : Bool). Told p h (both t)) (sym k.0)
            (filter_told up y on m
            (subst (Kept (predicate_applied p m.lineage m.constraints on.0)) (ap (λ (l : List ℕ). predicate_list p m.lineage l on.0) k.2 ∙ sym
            e)
            (predicate-kept p m.lineage m.constraints k.1 on.0)))
        go (inr k) =
            subst (λ (t : Bool). Told p h (both t)) (sym k.0)
            (full-here _ refl
            (subst (λ (l : List ℕ). 64 < length l) (sym e)
            (omega (
              arith,
              k.1,
              list-grows (conjunct_recorded (overridden f.lineage g.lineage) (node_at p)) (joint_list f.constraints g.constraints)
                  (conjuncts_of (node_at p) p.items.a on.0),
            ))))

  -- ---- each kind
  module _ (told : (i : ℕ) → IsInput (operator_at p h) i → Told p i (answer_of p i)) where
    abbrev ids : Identities
    ids = identities_of p

    -- the inputs of a node o of h
    input : (o : OperatorData) → operator_at p h ≡ o → (i : ℕ) → IsInput o i → IsInput (operator_at p h) i
    input o is i u = subst (λ (x : OperatorData). IsInput x i) (sym is) u

    -- all inputs have facts where those of the node have
    inputs : (o : OperatorData) → operator_at p h ≡ o → ((i : ℕ) → IsInput o i → (answer_of p i).outcome ≡ Ok tt) → (i : ℕ) → IsInput (operator_at
        p h) i
        → (answer_of p i).outcome ≡ Ok tt
    inputs o is f i u = f i (subst (λ (x : OperatorData). IsInput x i) is u)

    one : (j : ℕ) → (answer_of p j).outcome ≡ Ok tt → (i : ℕ) → i ≡ j → (answer_of p i).outcome ≡ Ok tt
    one j e i w = subst (λ (k : ℕ). (answer_of p k).outcome ≡ Ok tt) (sym w) e

    two : (j k : ℕ) → (answer_of p j).outcome ≡ Ok tt → (answer_of p k).outcome ≡ Ok tt → (i : ℕ) → (i ≡ j) ⊎ (i ≡ k) → (answer_of p i).outcome
        ≡ Ok tt
    two j k e f i (inl w) = one j e i w
    two j k e f i (inr w) = one k f i w

    -- an answer with a set that has room, by a node that adds no residual
    module _ (o : OperatorData) (is : operator_at p h ≡ o) (none : list_here o is ≡ []) (k : keys_fine p o ≡ true) where
      plain : ((i : ℕ) → IsInput o i → (answer_of p i).outcome ≡ Ok tt) → (d : DeriveAnswer) → d.outcome ≡ Ok tt → Roomy d.facts.constraints →
          Told p
          h d
      plain up d e r = facts e r (fine_here o is (subst (λ (l : List ℕ). length l ≤ 64) (sym none) (omega arith)) k) (inputs o is up)

      -- over one input, which is made into something else
      single : (i : ℕ) (make : LogicalFacts → DeriveAnswer) → IsInput o i → ((j : ℕ) → IsInput o j → j ≡ i) → ((f : LogicalFacts) → (make f).outcome ≡
          (Ok tt))
          → ((f : LogicalFacts) → Roomy f.constraints → Roomy (make f).facts.constraints) → Told p h (given (answer_of p i) make)
      single i make u only yes-said room =
          given-told (answer_of p i) make i (input o is i u) (told i (input o is i u))
          (λ e r. plain (λ j w. one i e j (only j w)) (make (answer_of p i).facts) (yes-said (answer_of p i).facts) (room (answer_of p i).facts r))

      same : (i : ℕ) → IsInput o i → ((j : ℕ) → IsInput o j → j ≡ i) → Told p h (answer_of p i)
      same i u only =
          passed_on (answer_of p i) i (input o is i u) (told i (input o is i u)) (λ e r. plain (λ j w. one i e j (only j w)) (answer_of p i) e r)

    joined-told : (j : JoinType) (on : Expr) (outer inner : Operator) → operator_at p h ≡ Join j on outer inner
        → (answer_of p outer.0).outcome ≡ Ok tt → (answer_of p inner.0).outcome ≡ Ok tt
        → Roomy (answer_of p outer.0).facts.constraints → Roomy (answer_of p inner.0).facts.constraints
        → Told p h (joined p ids (numbered h) on (answer_of p outer.0).facts (answer_of p inner.0).facts j)
    unfolding inputs_merged
    joined-told Inner on outer inner is eo ei rf rg =
        inner-told (Join Inner on outer inner) is (inputs (Join Inner on outer inner) is (two outer.0 inner.0 eo ei)) refl on
        (answer_of p outer.0).facts (answer_of p inner.0).facts rf rg refl
    joined-told LeftSemi on outer inner is eo ei rf rg = plain (Join LeftSemi on outer inner) is refl refl (two outer.0 inner.0 eo ei) _ refl rf
    joined-told LeftAnti on outer inner is eo ei rf rg = plain (Join LeftAnti on outer inner) is refl refl (two outer.0 inner.0 eo ei) _ refl rf
    joined-told (LeftMark c) on outer inner is eo ei rf rg = plain (Join (LeftMark c) on outer inner) is refl refl (two outer.0 inner.0 eo ei) _ refl
        rf
    joined-told LeftOuter on outer inner is eo ei rf rg = plain (Join LeftOuter on outer inner) is refl refl (two outer.0 inner.0 eo ei) _ refl rf
    joined-told Single on outer inner is eo ei rf rg = plain (Join Single on outer inner) is refl refl (two outer.0 inner.0 eo ei) _ refl rf
    joined-told RightOuter on outer inner is eo ei rf rg = plain (Join RightOuter on outer inner) is refl refl (two outer.0 inner.0 eo ei) _ refl rg
    joined-told FullOuter on outer inner is eo ei rf rg = plain (Join FullOuter on outer inner) is refl refl (two outer.0 inner.0 eo ei) _ refl
        roomy-empty

    grouped-told : (i : Operator) (keys aggregates : Run) → operator_at p h ≡ Aggregation i keys aggregates → (answer_of p i.0).outcome ≡ Ok tt
        → Told p h (grouped p ids (numbered h) keys aggregates (answer_of p i.0).facts)
    unfolding grouped
    grouped-told i keys aggregates is up = go (keys_ok (node_at p) p.items.a keys) refl
      where
        go : (b : Bool) → keys_ok (node_at p) p.items.a keys ≡ b
            → Told p h
            (cond b (accepted (facts_with (aggregated ids (node_at p) p.items.a keys aggregates (columns_in (answer_of p i.0).facts)) empty_set))
            (refused (Err (UnsupportedKey (numbered h)))))
        go true e = plain (Aggregation i keys aggregates) is refl e (one i.0 up) _ refl roomy-empty
        go false e = key h here refl (ap (keys_fine p) is ∙ e)

    operator-told : (o : OperatorData) → operator_at p h ≡ o → Told p h (operator_derived p ids (numbered h) (answer_of p (outer_of o)) (answer_of p
        (inner_of o)) o)
    operator-told (Scan table columns) is = plain (Scan table columns) is refl refl (λ i u. absurd u) _ refl roomy-empty
    operator-told (ConstScan columns) is = plain (ConstScan columns) is refl refl (λ i u. absurd u) _ refl roomy-empty
    operator-told (TableFunction columns) is = plain (TableFunction columns) is refl refl (λ i u. absurd u) _ refl roomy-empty
    operator-told (Selection e i) is =
        let u = input (Selection e i) is i.0 refl in
        given-told (answer_of p i.0) _ i.0 u (told i.0 u)
        (λ y r. filter_told (Selection e i) is (inputs (Selection e i) is (one i.0 y)) refl e (answer_of p i.0).facts
        (predicate-kept p (answer_of p i.0).facts.lineage (answer_of p i.0).facts.constraints r e.0))
    operator-told (Projection i columns) is = single (Projection i columns) is refl refl i.0 _ refl (λ j w. w) (λ f. refl) (λ f r. r)
    operator-told (Rename i defs) is = single (Rename i defs) is refl refl i.0 _ refl (λ j w. w) (λ f. refl) (λ f r. r)
    operator-told (Map i computations) is = single (Map i computations) is refl refl i.0 _ refl (λ j w. w) (λ f. refl) (λ f r. r)
    operator-told (Aggregation i keys aggregates) is =
        let u = input (Aggregation i keys aggregates) is i.0 refl in
        given-told (answer_of p i.0) _ i.0 u (told i.0 u) (λ y r. grouped-told i keys aggregates is y)
    operator-told (Sort i keys) is = same (Sort i keys) is refl refl i.0 refl (λ j w. w)
    operator-told (Limit i) is = same (Limit i) is refl refl i.0 refl (λ j w. w)
    operator-told (Output i) is = same (Output i) is refl refl i.0 refl (λ j w. w)
    operator-told (CrossProduct o i) is =
        let u = input (CrossProduct o i) is o.0 (inl refl) in
        let w = input (CrossProduct o i) is i.0 (inr refl) in
        given-told (answer_of p o.0) _ o.0 u (told o.0 u)
        (λ eo rf. given-told (answer_of p i.0) _ i.0 w (told i.0 w)
        (λ ei rg. merge_told (CrossProduct o i) is (inputs (CrossProduct o i) is (two o.0 i.0 eo ei)) refl (answer_of p o.0).facts
        (answer_of p i.0).facts
        (merge_kept (answer_of p o.0).facts.constraints (answer_of p i.0).facts.constraints rf rg)))
    operator-told (Join j on o i) is =
        let u = input (Join j on o i) is o.0 (inl refl) in
        let w = input (Join j on o i) is i.0 (inr refl) in
        given-told (answer_of p o.0) _ o.0 u (told o.0 u)
        (λ eo rf. given-told (answer_of p i.0) _ i.0 w (told i.0 w) (λ ei rg. joined-told j on o i is eo ei rf rg))

-- ---- a plan that keeps the rules
module _ (p : Plan) (ok : plan_ok p ≡ true) where
  -- the rule of deriving, as the Rust has it: an answer from the answers of the inputs
  by-inputs : (h : ℕ) (l r l2 r2 : DeriveAnswer) (o : OperatorData) → ((i : ℕ) → IsInput o i → i ≡ outer_of o → l ≡ l2)
      → ((i : ℕ) → IsInput o i → i ≡ inner_of o → r ≡ r2)
      → operator_derived p (identities_of p) (numbered h) l r o ≡ operator_derived p (identities_of p) (numbered h) l2 r2 o
  by-inputs h l r l2 r2 (Scan table columns) f g = refl
  by-inputs h l r l2 r2 (ConstScan columns) f g = refl
  by-inputs h l r l2 r2 (TableFunction columns) f g = refl
  by-inputs h l r l2 r2 (Selection e i) f g = λ j. operator_derived p (identities_of p) (numbered h) (f i.0 refl refl j) r (Selection e i)
  by-inputs h l r l2 r2 (Projection i columns) f g = λ j. operator_derived p (identities_of p) (numbered h) (f i.0 refl refl j) r (Projection i
      columns)
  by-inputs h l r l2 r2 (Rename i defs) f g = λ j. operator_derived p (identities_of p) (numbered h) (f i.0 refl refl j) r (Rename i defs)
  by-inputs h l r l2 r2 (Map i computations) f g = λ j. operator_derived p (identities_of p) (numbered h) (f i.0 refl refl j) r (Map i computations)
  by-inputs h l r l2 r2 (Aggregation i keys aggregates) f g = λ j. operator_derived p (identities_of p) (numbered h) (f i.0 refl refl j) r
      (Aggregation i keys aggregates)
  by-inputs h l r l2 r2 (Sort i keys) f g = f i.0 refl refl
  by-inputs h l r l2 r2 (Limit i) f g = f i.0 refl refl
  by-inputs h l r l2 r2 (Output i) f g = f i.0 refl refl
  by-inputs h l r l2 r2 (CrossProduct o i) f g = λ j. operator_derived p (identities_of p) (numbered h) (f o.0 (inl refl) refl j)
      (g i.0 (inr refl) refl j) (CrossProduct o i)
  by-inputs h l r l2 r2 (Join how on o i) f g = λ j. operator_derived p (identities_of p) (numbered h) (f o.0 (inl refl) refl j) (g i.0 (inr refl)
      refl j)
      (Join how on o i)

  module _ (h : ℕ) (l : h < p.operators.count) where
    -- what the table has of an input is the input's answer
    input-answer : (i k : ℕ) → IsInput (operator_at p h) i → i ≡ k → get_or (answers_to p h) k missing ≡ answer_of p k
    input-answer i k u e = subst (λ (m : ℕ). get_or (answers_to p h) m missing ≡ answer_of p m) e (answer_at p h i (inputs-before p ok h i l u))

    pub answer-rule : answer_of p h ≡ operator_derived p (identities_of p) (numbered h) (answer_of p (outer_of (operator_at p h)))
        (answer_of p (inner_of (operator_at p h))) (operator_at p h)
    answer-rule =
        answer-made p h
        ∙ by-inputs h _ _ _ _ (operator_at p h) (λ i u e. input-answer i (outer_of (operator_at p h)) u e) (λ i u e. input-answer i (inner_of
        (operator_at p h)) u e)

  -- every answer is told, by the handles before it
  told_below : (n h : ℕ) → h < n → h < p.operators.count → Told p h (answer_of p h)
  told_below zero h b l = absurd (omega arith)
  told_below (suc n) h b l =
      subst (Told p h) (sym (answer-rule h l))
      (operator-told p h
      (λ i u. let m : i < h = inputs-before p ok h i l u in told_below n i (omega arith) (omega arith))
      (operator_at p h) refl)

  -- what deriving says of every operator of the plan
  pub derive_told : (h : ℕ) → h < p.operators.count → Told p h (derive_of p h)
  unfolding derive_of
  derive_told h l = rw (ok, lt-ltb h p.operators.count l) (told_below (suc h) h (omega arith) l)

  derive_answer : (h : ℕ) → h < p.operators.count → derive_of p h ≡ answer_of p h
  unfolding derive_of
  derive_answer h l = rw (ok, lt-ltb h p.operators.count l)

  -- what is reached is of the plan
  pub reached-below : {h q : ℕ} → Reached p h q → h < p.operators.count → q < p.operators.count
  reached-below here l = l
  reached-below {h} (through {i = i} u w) l = let m : i < h = inputs-before p ok h i l u in reached-below w (omega arith)

  -- where the aggregation keys are column references, deriving refuses only by 7, by an operator that is reached and whose residual list
  -- would pass 64
  pub only_residuals : ((q : ℕ) → q < p.operators.count → keys_fine p (operator_at p q) ≡ true) → (h : ℕ) → h < p.operators.count
      → (refusal_of (derive_of p h).outcome ≡ 0)
      ⊎ ((refusal_of (derive_of p h).outcome ≡ 7) × Reached p h (refuser_of (derive_of p h).outcome)
      × (64 < length (residuals_at p (refuser_of (derive_of p h).outcome))))
  only_residuals fine h l = go (derive_told h l)
    where
      go : Told p h (derive_of p h)
          → (refusal_of (derive_of p h).outcome ≡ 0)
          ⊎ ((refusal_of (derive_of p h).outcome ≡ 7) × Reached p h (refuser_of (derive_of p h).outcome)
          × (64 < length (residuals_at p (refuser_of (derive_of p h).outcome))))
      go (facts e r f up) = inl (ap refusal_of e)
      go (full q w e n) =
          inr (
            ap refusal_of e,
            subst (λ (o : Result (Unit {0}) DeriveError). Reached p h (refuser_of o)) (sym e) w,
            subst (λ (o : Result (Unit {0}) DeriveError). 64 < length (residuals_at p (refuser_of o))) (sym e) n,
          )
      go (key q w e n) = absurd (true≢false (sym (fine q (reached-below w l)) ∙ n))

  -- an operator of the plan is never refused by 8
  not_eight : (h : ℕ) → h < p.operators.count → refusal_of (derive_of p h).outcome ≡ 8 → ⊥
  not_eight h l y = go (derive_told h l)
    where
      go : Told p h (derive_of p h) → ⊥
      go (facts e r f up) = let z : ◌≡◌ {A = ℕ} 8 0 = sym y ∙ ap refusal_of e in absurd (omega (arith, z))
      go (full q w e n) = let z : ◌≡◌ {A = ℕ} 8 7 = sym y ∙ ap refusal_of e in absurd (omega (arith, z))
      go (key q w e n) = let z : ◌≡◌ {A = ℕ} 8 6 = sym y ∙ ap refusal_of e in absurd (omega (arith, z))

  accepted-told : (h : ℕ) → h < p.operators.count → (answer_of p h).outcome ≡ Ok tt → Fine p h
      × ((i : ℕ) → IsInput (operator_at p h) i → (answer_of p i).outcome ≡ Ok tt)
  accepted-told h l y = go (told_below (suc h) h (omega arith) l)
    where
      go : Told p h (answer_of p h) → Fine p h × ((i : ℕ) → IsInput (operator_at p h) i → (answer_of p i).outcome ≡ Ok tt)
      go (facts e r f up) = (f, up)
      go (full q w e n) = let z : Ok tt ≡ Err (Residuals (numbered q)) = sym y ∙ e in absurd (true≢false (ap is_accepted z))
      go (key q w e n) = let z : Ok tt ≡ Err (UnsupportedKey (numbered q)) = sym y ∙ e in absurd (true≢false (ap is_accepted z))

  fine_all : {h q : ℕ} → Reached p h q → h < p.operators.count → (answer_of p h).outcome ≡ Ok tt → Fine p q
  fine_all {h} here l y = (accepted-told h l y).0
  fine_all {h} (through {i = i} u w) l y =
      let m : i < h = inputs-before p ok h i l u in fine_all w (omega arith) ((accepted-told h l y).1 i u)

  -- an operator has facts exactly where each operator that it reaches has column references as keys and a residual list of at most 64
  pub accepted_exactly : (h : ℕ) → h < p.operators.count → ((derive_of p h).outcome ≡ Ok tt) ↔ ((q : ℕ) → Reached p h q → Fine p q)
  accepted_exactly h l = (
    (λ y q w. fine_all w l (sym (ap (λ (d : DeriveAnswer). d.outcome) (derive_answer h l)) ∙ y)),
    λ fine. back fine (derive_told h l),
  )
    where
      back : ((q : ℕ) → Reached p h q → Fine p q) → Told p h (derive_of p h) → (derive_of p h).outcome ≡ Ok tt
      back fine (facts e r f up) = e
      back fine (full q w e n) = absurd (omega (arith, n, (fine q w).0))
      back fine (key q w e n) = absurd (true≢false (sym (fine q w).1 ∙ n))

-- refusal 8 is given exactly where the plan breaks the rules or the operator is not there
pub eight_exactly : (p : Plan) (h : ℕ) → (refusal_of (derive_of p h).outcome ≡ 8) ↔ ((plan_ok p && ltb h p.operators.count) ≡ false)
unfolding derive_of
eight_exactly p h = (λ y. go (plan_ok p) (ltb h p.operators.count) refl refl y, λ n. rw n)
  where
    go : (a b : Bool) → plan_ok p ≡ a → ltb h p.operators.count ≡ b → refusal_of (derive_of p h).outcome ≡ 8 → (plan_ok p && ltb h p.operators.count)
        ≡ false
    go true true ea eb y = absurd (not_eight p ea h (ltb-true h p.operators.count eb) y)
    go true false ea eb y = rw (ea, eb)
    go false b ea eb y = rw ea
