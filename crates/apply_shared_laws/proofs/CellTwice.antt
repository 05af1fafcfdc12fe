-- What an action records a place has, and an action leaves a place that has it as it is. Assumes nothing.
use Prim.Native.Nat.{◌<◌}
use mathlib.Core.Path.{◌≡◌, refl, sym, ap, ap₂, ◌∙◌}
use mathlib.Core.Bool.{Bool, true, false, not, ◌||◌, false≢true}
use mathlib.Core.Logic.{inl, inr}
use native.Mathlib.Omega.{arith}
use Rattle.laws.proofs.Bools.{or_inr, or_inl}
use Rattle.scalar.specs.Scalars.{same_scalar, holds_nan}
use Rattle.scalar.specs.declared.ScalarValue.{ScalarValue}
use Rattle.scalar.proofs.ScalarLaws.{same_self}
use Rattle.value_range.specs.Ranges.{empty_range}
use Rattle.value_range.specs.declared.ValueRange.{ValueRange}
use Rattle.constraint_spec.specs.Sets.{entry_of, clashes, range_in, tighten_by, crossed, bounds_by}
use Rattle.constraint_spec.specs.declared.Holder.{Holder}
use Rattle.constraint_spec.specs.declared.Entry as En
use Rattle.constraint_set.proofs.Passes.{or_keeps}
use Rattle.apply_action.specs.Cells.{literal_cell, bound_cell, entry_cell, cell_after}
use Rattle.apply_action.specs.declared.Action.{Action}
use Rattle.apply_action.specs.declared.Action.TheVariants.{Nothing, Contradiction, Residual, Same, Literal, Bound, Entry}
use Rattle.apply_action.specs.declared.Cell.{Cell}
use Rattle.apply_shared_laws.specs.Has.{Alike, HasCell}
use Rattle.apply_shared_laws.proofs.Tightening.{taken-once_only, not_taken}
use Rattle.apply_shared_laws.proofs.Growing.{literal-comes, range-there}

-- every scalar is alike to itself
self : (v : ScalarValue) → Alike v v
self v = go (holds_nan v) refl (same_self v)
  where
    go : (n : Bool) → holds_nan v ≡ n → same_scalar v v ≡ not n → Alike v v
    go true e h = inr e
    go false e h = inl h

-- ---- what an action records is there
pub has-after : (act : Action) (c : Cell) → HasCell act (cell_after c act)
unfolding literal_cell bound_cell entry_cell
has-after Nothing c = omega arith
has-after Contradiction c = refl
has-after Residual c = omega arith
has-after (Same i j true) c = λ e. refl
has-after (Same i j false) c = λ e. absurd (false≢true e)
has-after (Literal i w) c = (
  refl,
  literal-comes c.literal w c.contradictory _ (λ e. or_inl _ _ (or_inl _ _ e))
      (λ e. or_inl (c.contradictory || clashes c.literal w) _ (or_inr c.contradictory (clashes c.literal w) e)) w (inl (self w)),
)
has-after (Bound i op x) c = (refl, (refl, taken-once_only op x (range_in c.entry)))
has-after (Entry i) c = (refl, refl)

-- ---- and it is not recorded again, if it is no literal
abbrev pub Plain : Action → Type 0
Plain Nothing = 0 < 1
Plain Contradiction = 0 < 1
Plain Residual = 0 < 1
Plain (Same i j both) = 0 < 1
Plain (Literal i v) = ⊥
Plain (Bound i op x) = 0 < 1
Plain (Entry i) = 0 < 1

-- the flag says already what the checks of the place would find
pub record Told (c : Cell) : Type 0 where
  pub outside : crossed c.literal c.entry ≡ true → c.contradictory ≡ true
  pub empty : c.entry.present ≡ true → empty_range c.entry.range ≡ true → c.contradictory ≡ true

module _ (c : Cell) (t : Told c) where
  abbrev cell_with : Bool → Holder → En.Entry → Bool → Cell
  cell_with n l e f = record { non_null = n; literal = l; entry = e; contradictory = f }

  -- the flag after one more test and the check
  quiet : (x : Bool) (l : Holder) (e : En.Entry) → (x ≡ true → c.contradictory ≡ true) → l ≡ c.literal → e ≡ c.entry
      → ((c.contradictory || x) || crossed l e) ≡ c.contradictory
  quiet x l e h el ee =
      ap₂ (λ (f g : Bool). f || g) (or_keeps c.contradictory x h) (ap₂ crossed el ee) ∙ or_keeps c.contradictory (crossed c.literal c.entry)
      t.outside

  -- a range that is there already
  entry-again : (r : ValueRange) → c.entry.present ≡ true → r ≡ c.entry.range → entry_of r ≡ c.entry
  entry-again r p e = λ i. record { present = sym p i; range = e i }

  pub again-cell : (act : Action) → Plain act → HasCell act c → cell_after c act ≡ c
  unfolding bound_cell entry_cell
  again-cell Nothing a h = refl
  again-cell Contradiction a h = λ i. cell_with c.non_null c.literal c.entry (sym h i)
  again-cell Residual a h = refl
  again-cell (Same i j true) a h = λ k. cell_with (sym (h refl) k) c.literal c.entry c.contradictory
  again-cell (Same i j false) a h = refl
  again-cell (Literal i w) a h = absurd a
  again-cell (Bound i op x) a h =
      let there = h.1.0 in
      let in_range : range_in c.entry ≡ c.entry.range = range-there c.entry there in
      let r = tighten_by (range_in c.entry) (bounds_by op x) in
      let same : r ≡ c.entry.range = ap (λ (z : ValueRange). tighten_by z (bounds_by op x)) in_range ∙ not_taken op x c.entry.range h.1.1 in
      let e : entry_of r ≡ c.entry = entry-again r there same in
      λ k. cell_with (sym h.0 k) c.literal (e k) (quiet (empty_range r) c.literal (entry_of r) (λ z. t.empty there (ap empty_range (sym same) ∙ z)) refl
      e k)
  again-cell (Entry i) a h = λ k. cell_with (sym h.0 k) c.literal (entry-again (range_in c.entry) h.1 (range-there c.entry h.1) k)
      c.contradictory
