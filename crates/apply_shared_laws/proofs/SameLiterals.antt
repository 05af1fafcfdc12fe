-- Two literals that are the same by the Rust's `==` clash with the same literals and are outside the same ranges: an action makes of two places that differ in
-- them one place, or again two that differ in them. Assumes nothing.
use Rattle.std.proofs.Common.{Some, None, Option, Float}
use mathlib.Core.Path.{◌≡◌, refl, sym, ap, ◌∙◌}
use mathlib.Core.Bool.{Bool, true, false, not, cond, ◌&&◌, ◌||◌, false≢true}
use mathlib.Core.Logic.{◌⊎◌, inl, inr}
use Rattle.scalar.specs.Scalars.{same_scalar, scalar_to_f64}
use Rattle.scalar.specs.declared.ScalarValue.{ScalarValue}
use Rattle.scalar.proofs.FloatLaws.{eq-left, lt-left, lt-right}
use Rattle.scalar.proofs.ScalarLaws.{same_number, same_numbers, same_comm, same_left}
use Rattle.value_range.specs.Ranges.{empty_range}
use Rattle.value_range.specs.declared.ValueRange.{ValueRange}
use Rattle.constraint_spec.specs.Sets.{held, entry_of, clashes, range_in, tighten_by, outside, crossed, bounds_by}
use Rattle.constraint_spec.specs.declared.Holder.{Holder}
use Rattle.constraint_spec.specs.declared.Entry as En
use Rattle.constraint_set.specs.Settled.{literal_on, literal_bad}
use Rattle.apply_action.specs.Cells.{flagged_cell, literal_cell, bound_cell, entry_cell, cell_after}
use Rattle.apply_action.specs.declared.Action.{Action}
use Rattle.apply_action.specs.declared.Action.TheVariants.{Nothing, Contradiction, Residual, Same, Literal, Bound, Entry}
use Rattle.apply_action.specs.declared.Cell.{Cell}

-- a place with another literal
abbrev pub laid_cell : Cell → ScalarValue → Cell
laid_cell c v = record { non_null = c.non_null; literal = held v; entry = c.entry; contradictory = c.contradictory }

-- numbers that are `==` are outside the same ranges
outside-same : (m n : Option Float) (r : ValueRange) → same_number m n ≡ true → outside m r ≡ outside n r
outside-same (Some x) (Some y) r h = λ i.
    (r.lower.present && (lt-left x y r.lower.value h i || (eq-left x y r.lower.value h i && not r.lower.inclusive)))
    || (r.upper.present && (lt-right x y r.upper.value h i || (eq-left x y r.upper.value h i && not r.upper.inclusive)))
outside-same (Some x) None r h = absurd (false≢true h)
outside-same None (Some y) r h = absurd (false≢true h)
outside-same None None r h = refl

-- the flag is set already, and stays so whatever an action records
pub flag-through : (act : Action) (c : Cell) → cell_after (flagged_cell c) act ≡ flagged_cell (cell_after c act)
unfolding literal_cell bound_cell entry_cell
flag-through Nothing c = refl
flag-through Contradiction c = refl
flag-through Residual c = refl
flag-through (Same i j true) c = refl
flag-through (Same i j false) c = refl
flag-through (Literal i w) c = refl
flag-through (Bound i op x) c = refl
flag-through (Entry i) c = refl

module _ (x v : ScalarValue) (e : same_scalar x v ≡ true) where
  clash-same : (w : ScalarValue) → clashes (held x) w ≡ clashes (held v) w
  clash-same w = ap not (same_left x v e w)

  clash_with : (h : Holder) → clashes h x ≡ clashes h v
  clash_with h = ap (λ (b : Bool). h.present && not b) (same_comm h.value x ∙ same_left x v e h.value ∙ same_comm v h.value)

  pub crossed-same : (n : En.Entry) → crossed (held x) n ≡ crossed (held v) n
  crossed-same n = ap (λ (b : Bool). n.present && b) (outside-same (scalar_to_f64 x) (scalar_to_f64 v) n.range (same_numbers x v e))

  -- ---- what an action makes of a place with the one and of the place with the other
  module _ (c : Cell) (l : c.literal ≡ held x) where
    abbrev Passes : Cell → Cell → Type 0
    Passes d d' = (d' ≡ d) ⊎ ((d.literal ≡ held x) × (d' ≡ laid_cell d v))

    crossed-laid : (n : En.Entry) → crossed (held v) n ≡ crossed c.literal n
    crossed-laid n = sym (ap (λ (h : Holder). crossed h n) l ∙ crossed-same n)

    -- a literal that comes, which clashes or not
    abbrev came : ScalarValue → Holder → Bool → Cell
    came w h b = record {
      non_null = true;
      literal = cond b h (held w);
      entry = c.entry;
      contradictory = (c.contradictory || b) || crossed (cond b h (held w)) c.entry;
    }

    literal-passes : (w : ScalarValue) → Passes (literal_cell c w) (literal_cell (laid_cell c v) w)
    unfolding literal_cell
    literal-passes w = go (clashes c.literal w) (clashes (held v) w) (sym (ap (λ (h : Holder). clashes h w) l ∙ clash-same w))
      where
        go : (b b' : Bool) → b' ≡ b → Passes (came w c.literal b) (came w (held v) b')
        go true true z = inr
            (l, λ i. record { non_null = true; literal = held v; entry = c.entry; contradictory = (c.contradictory || true) || crossed-laid c.entry i })
        go true false z = absurd (false≢true z)
        go false true z = absurd (false≢true (sym z))
        go false false z = inl refl

    pub cell-passes : (act : Action) → Passes (cell_after c act) (cell_after (laid_cell c v) act)
    unfolding bound_cell entry_cell
    cell-passes Nothing = inr (l, refl)
    cell-passes Contradiction = inr (l, refl)
    cell-passes Residual = inr (l, refl)
    cell-passes (Same i j true) = inr (l, refl)
    cell-passes (Same i j false) = inr (l, refl)
    cell-passes (Literal i w) = literal-passes w
    cell-passes (Bound i op y) =
        let r = tighten_by (range_in c.entry) (bounds_by op y) in
        inr (
          l,
          λ k. record {
            non_null = true;
            literal = held v;
            entry = entry_of r;
            contradictory = (c.contradictory || empty_range r) || crossed-laid
                (entry_of r) k;
          },
        )
    cell-passes (Entry i) = inr (l, refl)

  -- ---- and what a join makes of two places of which one has the one or the other
  pub record Joins (g h g' h' : Holder) : Type 0 where
    pub bad : literal_bad g' h' ≡ literal_bad g h
    pub on : (literal_on g' h' ≡ literal_on g h) ⊎ ((literal_on g h ≡ held x) × (literal_on g' h' ≡ held v))

  pub joins-old : (h : Holder) → Joins (held x) h (held v) h
  unfolding literal_on literal_bad
  joins-old h = record {
    bad = ap (λ (b : Bool). h.present && b) (sym (clash-same h.value));
    on = go h.present (clashes (held x) h.value) (clashes (held v) h.value) (sym (clash-same h.value));
  }
    where
      put : Bool → Bool → Holder → Holder
      put p b g = cond p (cond b g (held h.value)) g

      go : (p b b' : Bool) → b' ≡ b → (put p b' (held v) ≡ put p b (held x)) ⊎ ((put p b (held x) ≡ held x) × (put p b' (held v) ≡ held v))
      go true true true z = inr (refl, refl)
      go true true false z = absurd (false≢true z)
      go true false true z = absurd (false≢true (sym z))
      go true false false z = inl refl
      go false b b' z = inr (refl, refl)

  pub joins-new : (g : Holder) → Joins g (held x) g (held v)
  unfolding literal_on literal_bad
  joins-new g = record { bad = sym (clash_with g); on = go (clashes g x) (clashes g v) (sym (clash_with g)) }
    where
      go : (b b' : Bool) → b' ≡ b → (cond b' g (held v) ≡ cond b g (held x)) ⊎ ((cond b g (held x) ≡ held x) × (cond b' g (held v) ≡ held v))
      go true true z = inl refl
      go true false z = absurd (false≢true z)
      go false true z = absurd (false≢true (sym z))
      go false false z = inr (refl, refl)
