-- The answer has no set after a refusal, so it does not matter which is handed back. Assumes nothing.
use Rattle.std.proofs.Common.{Ok, Err, Result}
use mathlib.Core.Path.{◌≡◌, refl, sym, ap, ◌∙◌}
use mathlib.Core.Bool.{Bool, true, false, cond, true≢false, false≢true}
use Rattle.std.specs.Result.{is_err}
use Rattle.apply_spec.specs.Told.{told}
use Rattle.constraint_spec.specs.Sets.{refused_with}
use Rattle.constraint_spec.specs.declared.ConstraintSet.{ConstraintSet}
use Rattle.constraint_spec.specs.Answers.{Applied, applied}
use Rattle.constraint_spec.specs.declared.ConstraintError.{ConstraintError}
use Rattle.apply_spec.specs.Facts.{with_constraints}
use Rattle.apply_spec.specs.Entries.{accepted, refused, answered}
use Rattle.apply_spec.specs.declared.LogicalFacts.{LogicalFacts}
use Rattle.apply_spec.specs.declared.FactsError.TheVariants.{Residuals}
use Rattle.apply_shared_laws.specs.Given.{or_given}

pub answered_given : (old f : LogicalFacts) (s : ConstraintSet) (a : Applied) → answered old f (or_given s a) ≡ answered old f a
answered_given old f s a = go a.refused refl
  where
    go : (b : Bool) → a.refused ≡ b → answered old f (or_given s a) ≡ answered old f a
    go true e =
        ap (λ (b : Bool). answered old f (cond b (refused_with s) a)) e
        ∙ sym (ap (λ (b : Bool). cond b (refused old (Err Residuals)) (accepted (with_constraints f a.constraints))) e)
    go false e = ap (λ (b : Bool). answered old f (cond b (refused_with s) a)) e

module _ (s : ConstraintSet) (a : Applied) where
  -- what was recorded before a refusal is taken back
  pub taken_back : (z : ConstraintSet) (r : Result (Unit {0}) ConstraintError) → is_err r ≡ true → or_given s (applied z r) ≡ or_given s a
      → applied s r ≡ or_given s a
  taken_back z (Ok u) e h = absurd (false≢true e)
  taken_back z (Err x) e h = h

  pub taken_in : (z : ConstraintSet) (r : Result (Unit {0}) ConstraintError) → is_err r ≡ false → or_given s (applied z r) ≡ or_given s a
      → applied z r ≡ or_given s a
  taken_in z (Ok u) e h = h
  taken_in z (Err x) e h = absurd (true≢false e)

  -- so a refusal leaves the set
  pub set_back : (z : ConstraintSet) (x : ConstraintError) → applied z (Err x) ≡ or_given s a → z ≡ s
  set_back z x h = go a.refused refl
    where
      go : (b : Bool) → a.refused ≡ b → z ≡ s
      go true e = ap (λ (q : Applied). q.constraints) (h ∙ ap (λ (b : Bool). cond b (refused_with s) a) e)
      go false e =
          absurd (true≢false (ap (λ (q : Applied). q.refused) (h ∙ ap (λ (b : Bool). cond b (refused_with s) a) e) ∙ e))

-- ---- facts
module _ (f : LogicalFacts) (a : Applied) (s : ConstraintSet) where
  pub facts_in : (u : Unit {0}) → applied s (Ok u) ≡ or_given f.constraints a → told (with_constraints f s) (Ok tt) ≡ answered f f a
  facts_in u h = ap (answered f f) h ∙ answered_given f f f.constraints a

  pub facts_back : (x : ConstraintError) → applied s (Err x) ≡ or_given f.constraints a → told (with_constraints f s) (Err Residuals) ≡ answered f f a
  facts_back x h =
      ap (λ (z : ConstraintSet). told (with_constraints f z) (Err Residuals)) (set_back f.constraints a s x h)
      ∙ ap (answered f f) h
      ∙ answered_given f f f.constraints a
