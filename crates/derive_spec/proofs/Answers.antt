-- The table of answers: an entry stays what it was when it was made, and past the end nothing is there. Assumes nothing.
use Prim.Native.Nat.{ℕ, suc, ◌<◌, ◌≤◌}
use mathlib.Core.Path.{◌≡◌, refl, sym, ◌∙◌}
use mathlib.Core.List.{[], ◌∷◌, ◌++◌}
use native.Mathlib.Omega.{arith}
use lib.ListN.{get_or}
use Rattle.laws.proofs.Lists.{table_at, table-past}
use Rattle.plan.specs.declared.Plan.{Plan}
use Rattle.derive_spec.specs.Deriving.{missing, answer_from, answers_to, answer_of}
use Rattle.derive_spec.specs.Answers.{DeriveAnswer}

module _ (p : Plan) where
  abbrev next : ℕ → DeriveAnswer
  next n = answer_from p (answers_to p n) n

  starts : answers_to p 0 ≡ []
  unfolding answers_to
  starts = refl

  grows : (n : ℕ) → answers_to p (suc n) ≡ answers_to p n ++ (next n ∷ [])
  unfolding answers_to
  grows n = refl

  made : (n h : ℕ) → h < n → get_or (answers_to p n) h missing ≡ answer_from p (answers_to p h) h
  made n h l = table_at missing (answers_to p) next starts grows n h l

  -- the answer of an operator, from the answers of those before it
  pub answer-made : (h : ℕ) → answer_of p h ≡ answer_from p (answers_to p h) h
  unfolding answer_of
  answer-made h = made (suc h) h (omega arith)

  -- what the table has of an operator is its answer, however far the table goes
  pub answer_at : (n h : ℕ) → h < n → get_or (answers_to p n) h missing ≡ answer_of p h
  answer_at n h l = made n h l ∙ sym (answer-made h)

  pub answer-past : (n h : ℕ) → n ≤ h → get_or (answers_to p n) h missing ≡ missing
  answer-past n h l = table-past missing (answers_to p) next starts grows n h l
