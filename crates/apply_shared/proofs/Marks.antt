-- Marks by handle: what another mark at one place makes of them. Assumes nothing.
use Prim.Native.Nat.{ℕ, ◌<◌}
use mathlib.Core.Path.{◌≡◌, refl, sym, ap, subst, ◌∙◌}
use mathlib.Core.Bool.{Bool, true, false}
use mathlib.Core.List.{List}
use lib.Dec.{eqb}
use lib.ListN.{length, set}
use lib.Seq.{get_or-set_same, get_or-set_other}
use borrow.Author.Tests.{eqb-true, eqb-false}
use Rattle.apply_shared.specs.declared.Mark.{Mark}
use Rattle.apply_shared.specs.Turns.{no_mark, mark_at}

-- one of the two things that a mark says, and a property of handles
module _ (says : Mark → Bool) (P : ℕ → Type 0) (ms : List Mark) (i : ℕ) (m : Mark) where
  -- what is marked now: the place of the new mark, and what was marked
  pub mark-either : P i → ((h : ℕ) → says (mark_at ms h) ≡ true → P h) → (h : ℕ) → says (mark_at (set ms i m) h) ≡ true → P h
  mark-either p old h e = go (eqb h i) refl
    where
      go : (t : Bool) → eqb h i ≡ t → P h
      go true q = subst P (sym (eqb-true h i q)) p
      go false q = old h (sym (ap says (get_or-set_other ms i h m no_mark (eqb-false h i q))) ∙ e)

  -- what was marked: the place of the new mark, and what is marked now
  pub mark-taken : P i → ((h : ℕ) → says (mark_at (set ms i m) h) ≡ true → P h) → (h : ℕ) → says (mark_at ms h) ≡ true → P h
  mark-taken p new h e = go (eqb h i) refl
    where
      go : (t : Bool) → eqb h i ≡ t → P h
      go true q = subst P (sym (eqb-true h i q)) p
      go false q = new h (ap says (get_or-set_other ms i h m no_mark (eqb-false h i q)) ∙ e)

-- where the new mark says what was said there, all is as it was
pub mark_same : (says : Mark → Bool) (ms : List Mark) (i : ℕ) (m : Mark) → i < length ms → says m ≡ says (mark_at ms i) → (h : ℕ)
    → says (mark_at (set ms i m) h) ≡ says (mark_at ms h)
mark_same says ms i m l same h = go (eqb h i) refl
  where
    go : (b : Bool) → eqb h i ≡ b → says (mark_at (set ms i m) h) ≡ says (mark_at ms h)
    go true q =
        subst (λ (k : ℕ). says (mark_at (set ms i m) k) ≡ says (mark_at ms k)) (sym (eqb-true h i q))
        (ap says (get_or-set_same ms i m no_mark l) ∙ same)
    go false q = ap says (get_or-set_other ms i h m no_mark (eqb-false h i q))

-- what was marked stays so, where the new mark says it too
pub mark-stays : (says : Mark → Bool) (ms : List Mark) (i : ℕ) (m : Mark) → i < length ms → says m ≡ true → (h : ℕ) → says (mark_at ms h) ≡ true
    → says (mark_at (set ms i m) h) ≡ true
mark-stays says ms i m l t h e = go (eqb h i) refl
  where
    go : (b : Bool) → eqb h i ≡ b → says (mark_at (set ms i m) h) ≡ true
    go true q = ap (λ (k : ℕ). says (mark_at (set ms i m) k)) (eqb-true h i q) ∙ ap says (get_or-set_same ms i m no_mark l) ∙ t
    go false q = ap says (get_or-set_other ms i h m no_mark (eqb-false h i q)) ∙ e
