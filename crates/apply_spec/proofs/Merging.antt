-- Merged facts are met by exactly the rows that meet both, from the answer of `merge_inputs` alone. Assumes nothing.
use Rattle.std.proofs.Common.{Ok, Err}
use mathlib.Core.Path.{◌≡◌, refl, sym, ap, ◌∙◌, subst}
use mathlib.Core.Bool.{Bool, true, false, cond, not, ◌&&◌}
use mathlib.Core.List.{List}
use mathlib.Core.Logic.{◌↔◌}
use Prim.Native.Nat.{ℕ, zero, suc}
use native.Mathlib.Omega.{arith}
use lib.Dec.{T, eqb}
use lib.ListN.{get_or, set, length, length-set}
use Rattle.scalar.specs.Scalars.{Typed}
use Rattle.constraint_spec.specs.Sets.{done, refused_with, steps_to, merge_room, merged_set, merge_from}
use Rattle.constraint_spec.specs.Meets.{Meets, Good}
use Rattle.constraint_spec.specs.declared.ConstraintSet.{ConstraintSet}
use Rattle.constraint_spec.specs.Answers.{Applied}
use Rattle.constraint_spec.proofs.Merge.{merged-good, merge_iff}
use Rattle.constraint_spec.proofs.Operations.{no_row}
use Rattle.plan.specs.declared.Plan.{Plan}
use Rattle.plan_rules.specs.Rules.{plan_ok}
use Rattle.apply_spec.specs.Facts.{with_constraints, facts_ok}
use Rattle.apply_spec.specs.Entries.{answered, refused, accepted, override, overridden, overlaid, inputs_merged, merge_inputs}
use Rattle.apply_spec.specs.declared.LogicalFacts.{LogicalFacts}
use Rattle.apply_spec.specs.declared.FactsError.TheVariants.{Residuals, NoSuch}
use Rattle.plan.specs.declared.Expr.{Expr}
use Rattle.apply_spec.specs.Meaning.{WholeRow, Consistent, On, MeetsFacts, Wide, GoodFacts, fresh_facts, AcceptedAll, AllOn}
use Rattle.apply_spec.proofs.Answers.{Reached, ExactAll, all-reached, sequence_sound, sequence_exact, other-outcome}

-- a lineage that is overridden keeps its length
overridden-long : (left right : List ℕ) → length (overridden left right) ≡ length left
unfolding overridden steps_to
overridden-long left right = go 64
  where
    one : (b : Bool) (l : List ℕ) (c x : ℕ) → length (cond b l (set l c x)) ≡ length l
    one true l c x = refl
    one false l c x = length-set l c x

    go : (n : ℕ) → length (steps_to (override right) n left) ≡ length left
    go zero = refl
    go (suc n) = one (eqb (get_or right n 0) 0) (steps_to (override right) n left) n (get_or right n 0) ∙ go n

-- what an accepted merge was made of: the sets were merged and there was room, or the left's was kept
record Joined (p : Plan) (f g : LogicalFacts) (merge : Bool) (a : Applied) : Type 0 where
  pub room : T (not a.refused)
  pub lineage : (merge_inputs p f g merge).facts.lineage ≡ overridden f.lineage g.lineage
  pub set : (merge_inputs p f g merge).facts.constraints ≡ a.constraints

abbrev tried : LogicalFacts → LogicalFacts → Bool → Applied
tried f g merge = cond merge (merge_from f.constraints g.constraints) (done f.constraints)

abbrev joined_facts : LogicalFacts → LogicalFacts → LogicalFacts
joined_facts f g = overlaid f g f.constraints

joined : (p : Plan) (f g : LogicalFacts) (merge : Bool) → (merge_inputs p f g merge).outcome ≡ Ok tt → Joined p f g merge (tried f g merge)
unfolding merge_inputs inputs_merged
joined p f g merge = go (plan_ok p && (facts_ok p f && facts_ok p g)) refl
  where
    clear : (r : Bool) (x : LogicalFacts) → (cond r (refused f (Err Residuals)) (accepted x)).outcome ≡ Ok tt → T (not r)
    clear true x q = other-outcome (Err Residuals) (λ z. absurd (omega (arith, z))) q
    clear false x q = tt

    made : (r : Bool) (x : LogicalFacts) → T (not r) → (cond r (refused f (Err Residuals)) (accepted x)).facts ≡ x
    made true x t = absurd t
    made false x t = refl

    go : (b : Bool) → (plan_ok p && (facts_ok p f && facts_ok p g)) ≡ b
        → (cond b (answered f (joined_facts f g) (tried f g merge)) (refused f (Err NoSuch))).outcome
        ≡ Ok tt → Joined p f g merge (tried f g merge)
    go true t q =
        let x = with_constraints (joined_facts f g) (tried f g merge).constraints in
        let n = clear (tried f g merge).refused x q in
        let e = ap (λ (b : Bool). (cond b (answered f (joined_facts f g) (tried f g merge)) (refused f (Err NoSuch))).facts) t ∙ made
        (tried f g merge).refused x n in
        record { room = n; lineage = ap (λ (y : LogicalFacts). y.lineage) e; set = ap (λ (y : LogicalFacts). y.constraints) e }
    go false t q = other-outcome (Err NoSuch) (λ z. absurd (omega (arith, z))) q

record Merged (a b : ConstraintSet) : Type 0 where
  pub room : T (merge_room a b)
  pub set : (merge_from a b).constraints ≡ merged_set a b

merged : (a b : ConstraintSet) → T (not (merge_from a b).refused) → Merged a b
unfolding merge_from
merged a b = go (merge_room a b) (λ t. t)
  where
    go : (x : Bool) → (T x → T (merge_room a b)) → T (not (cond x (done (merged_set a b)) (refused_with a)).refused) → Merged a b
    go true f u = record { room = f tt; set = is (merge_room a b) (f tt) }
      where
        is : (y : Bool) → T y → (cond y (done (merged_set a b)) (refused_with a)).constraints ≡ merged_set a b
        is true t = refl
        is false t = absurd t
    go false f u = absurd u

module _ (p : Plan) (f g : LogicalFacts) (gf : GoodFacts f) (gg : GoodFacts g) (q : (merge_inputs p f g true).outcome ≡ Ok tt) where
  parts : Joined p f g true (merge_from f.constraints g.constraints)
  parts = joined p f g true q

  both : Merged f.constraints g.constraints
  both = merged f.constraints g.constraints parts.room

  is : (merge_inputs p f g true).facts.constraints ≡ merged_set f.constraints g.constraints
  is = parts.set ∙ both.set

  -- merged facts are good. Assumes good facts
  pub merge_good : GoodFacts (merge_inputs p f g true).facts
  merge_good = record {
    long = ap length parts.lineage ∙ overridden-long f.lineage g.lineage ∙ gf.long;
    set = subst Good (sym is) (merged-good g.constraints gg.set f.constraints gf.set);
  }

  module _ (row : WholeRow) (typed : (i : ℕ) → Typed (row.ids i)) where
    -- an accepted merge is met by exactly the rows that meet both. Assumes good facts
    pub merge_exact : MeetsFacts p row (merge_inputs p f g true).facts ↔ (MeetsFacts p row f × MeetsFacts p row g)
    merge_exact =
        let i = merge_iff g.constraints gg.set (On p row) row.ids typed f.constraints gf.set both.room in
        (λ m. i.0 (subst (Meets (On p row) row.ids) is m), λ m. subst (Meets (On p row) row.ids) (sym is) (i.1 m))

    -- where the merged flag is set no row meets both. Assumes good facts
    pub merge_none : (merge_inputs p f g true).facts.constraints.contradictory ≡ true → MeetsFacts p row f → MeetsFacts p row g → ⊥
    merge_none t m n = no_row (On p row) row.ids (merge_inputs p f g true).facts.constraints t (merge_exact.1 (m, n))

-- an accepted merge of lineages alone keeps the left's rows. Assumes nothing
pub keep_exact : (p : Plan) (f g : LogicalFacts) → (merge_inputs p f g false).outcome ≡ Ok tt → (row : WholeRow) → MeetsFacts p row
    (merge_inputs p f g false).facts ↔ MeetsFacts p row f
keep_exact p f g q row =
    let e = (joined p f g false q).set in
    (subst (Meets (On p row) row.ids) e, subst (Meets (On p row) row.ids) (sym e))

-- two runs of accepted predicates from fresh facts, merged: every row that is consistent with both lineages and of which all are TRUE meets the facts, and
-- a set flag means that there is no such row. Assumes nothing else
module _ (p : Plan) (wide : Wide p) (l m d e : List ℕ) (ll : length l ≡ 64) (ml : length m ≡ 64) (es ds : List Expr) (f g : LogicalFacts)
    (a : AcceptedAll p (fresh_facts l d) es f) (b : AcceptedAll p (fresh_facts m e) ds g) (q : (merge_inputs p f g true).outcome ≡ Ok tt)
    (row : WholeRow) (c : Consistent l row) (k : Consistent m row) where
  left : Reached p wide row (fresh_facts l d) f es
  left = all-reached p wide l d ll es f a row c

  right : Reached p wide row (fresh_facts m e) g ds
  right = all-reached p wide m e ml ds g b row k

  -- every such row meets the merged facts
  pub merged-sound : AllOn p row es → AllOn p row ds → MeetsFacts p row (merge_inputs p f g true).facts
  merged-sound x y =
      (merge_exact p f g left.good right.good q row c.typed).1
      (sequence_sound p wide l d ll es f a row c x, sequence_sound p wide m e ml ds g b row k y)

  -- where their flag is set there is no such row
  pub merged-none : (merge_inputs p f g true).facts.constraints.contradictory ≡ true → AllOn p row es → AllOn p row ds → ⊥
  merged-none t x y = no_row (On p row) row.ids (merge_inputs p f g true).facts.constraints t (merged-sound x y)

  -- and exactly those rows, under the conditions of exactness
  pub merged-exact : ExactAll p wide row l es → ExactAll p wide row m ds → MeetsFacts p row (merge_inputs p f g true).facts ↔ (AllOn p row es × AllOn p row ds)
  merged-exact x y = (
    λ n.
        let i = (merge_exact p f g left.good right.good q row c.typed).0 n in
        ((sequence_exact p wide l d ll es f a row c x).0 i.0, (sequence_exact p wide m e ml ds g b row k y).0 i.1),
    λ n. merged-sound n.0 n.1,
  )
