-- What an operator holds, by its record; its items written one by one; its expressions simplified one after the other. Assumes nothing.
use mathlib.Core.Path.{◌≡◌, refl, sym, ap, subst, ◌∙◌}
use mathlib.Core.Bool.{true, false}
use mathlib.Core.List.{List}
use mathlib.Core.Logic.{◌⊎◌, inl, inr}
use Prim.Native.Nat.{ℕ, zero, suc, ◌+◌, ◌<◌, ◌≤◌}
use native.Mathlib.Omega.{arith}
use native.Mathlib.Numerals.{add-one}
use lib.Dec.{eqb}
use lib.ListN.{set}
use Rattle.laws.proofs.Bools.{cond_elim}
use Rattle.lists.proofs.RangeLaws.{below_or_not}
use Rattle.plan_kinds.specs.declared.Record.{Record}
use Rattle.plan.specs.declared.Items.{Items}
use Rattle.plan.specs.Plans.{item_pushed}
use Rattle.plan_append.specs.Appending.{item_record}
use Rattle.plan_data.specs.Nodes.{operator_data}
use Rattle.plan_data.specs.declared.OperatorData.{OperatorData}
use Rattle.plan_data.specs.declared.OperatorData.TheVariants.{Selection, Map, Aggregation, Sort, Join}
use Rattle.simplify_spec.specs.OneExpression.{kept, failed, enter_of, simplify_at}
use Rattle.simplify_spec.specs.OneOperator.{each_with, each_to, held_of, write_all, with_list}
use Rattle.simplify_spec.specs.Answers.{Each, Simplified}
use Rattle.simplify_spec.specs.declared.Tables.{Tables}
use Rattle.simplify_spec.specs.declared.Held.{Held}
use Rattle.simplify_spec.specs.declared.Held.TheVariants.{Nothing, One, Seconds, Firsts}

-- the same by the operator's kind, the lists being taken from the record
abbrev pub held_by : Record → ℕ → OperatorData → Held
held_by x start (Selection e i) = One e
held_by x start (Map i cs) = Seconds start x.b
held_by x start (Aggregation i ks gs) = Firsts start x.b x.c
held_by x start (Sort i ks) = Firsts start x.b 0
held_by x start (Join t e l r) = One e
held_by x start _ = Nothing

pub held_record : (x : Record) (start : ℕ) → held_by x start (operator_data x start) ≡ held_of (operator_data x start)
unfolding operator_data
held_record x start =
    let P : OperatorData → Type 0 = λ d. held_by x start d ≡ held_of d in
    let k = x.kind in
    cond_elim P (eqb k 0x30) _ _ (λ t. refl)
    (λ t. cond_elim P (eqb k 0x31) _ _ (λ t. refl)
    (λ t. cond_elim P (eqb k 0x32) _ _ (λ t. refl)
    (λ t. cond_elim P (eqb k 0x33) _ _ (λ t. refl)
    (λ t. cond_elim P (eqb k 0x34) _ _ (λ t. refl)
    (λ t. cond_elim P (eqb k 0x35) _ _ (λ t. refl)
    (λ t. cond_elim P (eqb k 0x36) _ _ (λ t. refl)
    (λ t. cond_elim P (eqb k 0x37) _ _ (λ t. refl)
    (λ t. cond_elim P (eqb k 0x38) _ _ (λ t. refl)
    (λ t. cond_elim P (eqb k 0x39) _ _ (λ t. refl)
    (λ t. cond_elim P (eqb k 0x3A) _ _ (λ t. refl)
    (λ t. cond_elim P (eqb k 0x3B) _ _ (λ t. refl)
    (λ t. cond_elim P (eqb k 0x3C) _ _ (λ t. refl)
    (λ t. cond_elim P (eqb k 0x3D) _ _ (λ t. refl) (λ t. refl))))))))))))))

-- ---- the new operator's items
pub list_more : (t : Items) (k : ℕ) (f g : ℕ → ℕ) → item_pushed (with_list t k f g) (item_record (f k) (g k)) ≡ with_list t (k + 1) f g
unfolding write_all
list_more t k f g =
    let n : t.count + k + 1 ≡ t.count + (k + 1) = omega arith in
    (λ j. record { count = n j; a = set (write_all t.a t.count f k) (t.count + k) (f k); b = set (write_all t.b t.count g k) (t.count + k) (g k) })
    ∙ ap (λ (m : ℕ). record { count = t.count + (k + 1); a = write_all t.a t.count f m; b = write_all t.b t.count g m }) (sym (add-one k))

-- ---- one expression after the other
module _ (n : ℕ) (es : ℕ → ℕ) (st t : Tables) (k e : ℕ) (ats : List ℕ) (er : each_to n es st k ≡ record { st = t; ok = true; ats = ats }) (ee : e ≡ es k)
  where
    each-suc : (q : Simplified) → q ≡ enter_of simplify_at n true t e → each_to n es st (suc k) ≡ record { st = q.st; ok = q.ok; ats = set ats k q.at }
    unfolding each_to
    each-suc q eq =
        (λ i. each_with n (sym ee i) (er i) k) ∙ ap (λ (z : Simplified). record { st = z.st; ok = z.ok; ats = set ats k z.at }) (sym eq)

    pub each_more : (u : Tables) (at : ℕ) → kept u at ≡ enter_of simplify_at n true t e
        → each_to n es st (k + 1) ≡ record { st = u; ok = true; ats = set ats k at }
    each_more u at eq = rw (add-one k) (each-suc (kept u at) eq)

    pub each_fails : (u : Tables) → failed u ≡ enter_of simplify_at n true t e → (c : ℕ) → k < c → (each_to n es st c).ok ≡ false
    unfolding each_to
    each_fails u eq zero lt = absurd (omega arith)
    each_fails u eq (suc m) lt = go (below_or_not k m) (λ l. each_fails u eq m l)
      where
        go : (k < m) ⊎ (m ≤ k) → (k < m → (each_to n es st m).ok ≡ false) → (each_to n es st (suc m)).ok ≡ false
        go (inl l) before = rw (before l)
        go (inr l) before =
            let p : k ≡ m = omega arith in
            subst (λ (j : ℕ). (each_to n es st (suc j)).ok ≡ false) p (ap (λ (r : Each). r.ok) (each-suc (failed u) eq))
