-- What a place of a set has it keeps, whatever an action records there and whatever place is joined to it. Assumes nothing.
use mathlib.Core.Path.{◌≡◌, refl, sym, ap, ◌∙◌, subst}
use mathlib.Core.Bool.{Bool, true, false, not, cond, ◌&&◌, ◌||◌}
use mathlib.Core.Logic.{◌⊎◌, inl, inr}
use lib.Ieee.{Float}
use Rattle.laws.proofs.Bools.{or_inr, or_inl}
use Rattle.scalar.specs.Scalars.{same_scalar}
use Rattle.scalar.specs.declared.ScalarValue.{ScalarValue}
use Rattle.scalar.proofs.ScalarLaws.{same_left}
use Rattle.value_range.specs.Ranges.{unbounded_range}
use Rattle.value_range.specs.declared.ValueRange.{ValueRange}
use Rattle.comparison.specs.declared.BinaryOp.{BinaryOp}
use Rattle.constraint_spec.specs.Sets.{held, entry_of, clashes, range_in, tighten_by, crossed, bounds_by}
use Rattle.constraint_spec.specs.declared.Holder.{Holder}
use Rattle.constraint_spec.specs.declared.Entry as En
use Rattle.constraint_set.specs.Settled.{null_on, literal_on, literal_bad, range_on, range_bad, place_of}
use Rattle.constraint_normal.specs.Ready.{Bounded}
use Rattle.apply_action.specs.Cells.{literal_cell, bound_cell, entry_cell, cell_after}
use Rattle.apply_action.specs.declared.Action.{Action}
use Rattle.apply_action.specs.declared.Action.TheVariants.{Nothing, Contradiction, Residual, Same, Literal, Bound, Entry}
use Rattle.apply_action.specs.declared.Cell.{Cell}
use Rattle.apply_shared_laws.specs.Has.{Numbered, Alike, HasLiteral, taken_by, HasBound, HasCell}
use Rattle.apply_shared_laws.proofs.Tightening.{BothComparable, taken-stays, taken-comes, comparable_open, comparable_bounds, comparable_tightened}

-- whatever is asked of the first is so of the second
pub record Grows (c d : Cell) : Type 0 where
  pub null : c.non_null ≡ true → d.non_null ≡ true
  pub literal : (v : ScalarValue) → HasLiteral v c → HasLiteral v d
  pub bound : (op : BinaryOp) (x : Float) → HasBound op x c → HasBound op x d
  pub entry : c.entry.present ≡ true → d.entry.present ≡ true
  pub flag : c.contradictory ≡ true → d.contradictory ≡ true

pub grown-has : (act : Action) (c d : Cell) → Grows c d → HasCell act c → HasCell act d
grown-has Nothing c d g h = h
grown-has Contradiction c d g h = g.flag h
grown-has Residual c d g h = h
grown-has (Same i j both) c d g h = λ e. g.null (h e)
grown-has (Literal i v) c d g h = (g.null h.0, g.literal v h.1)
grown-has (Bound i op x) c d g h = (g.null h.0, g.bound op x h.1)
grown-has (Entry i) c d g h = (g.null h.0, g.entry h.1)

-- what stands as it stood, with the flag set perhaps
flag-on : {P : Type 0} (f g : Bool) → (f ≡ true → g ≡ true) → P ⊎ (f ≡ true) → P ⊎ (g ≡ true)
flag-on f g h (inl p) = inl p
flag-on f g h (inr e) = inr (h e)

pub grows-flag : (c : Cell) (n f : Bool) → (c.non_null ≡ true → n ≡ true) → (c.contradictory ≡ true → f ≡ true)
    → Grows c (record { non_null = n; literal = c.literal; entry = c.entry; contradictory = f })
grows-flag c n f h k = record {
  null = h;
  literal = λ v p. (p.0, flag-on c.contradictory f k p.1);
  bound = λ op x p. p;
  entry = λ p. p;
  flag = k;
}

-- ---- a literal comes to a place
clash-there : (p q : Bool) → (p && not q) ≡ true → p ≡ true
clash-there true q e = refl
clash-there false q e = e

pub true-of-and-not-false : (p q : Bool) → p ≡ true → (p && not q) ≡ false → q ≡ true
true-of-and-not-false p true h e = refl
true-of-and-not-false true false h e = sym e
true-of-and-not-false false false h e = h

-- what is alike to the one is alike to the other
alike-by : (x w v : ScalarValue) → same_scalar x w ≡ true → Alike x v → Alike w v
alike-by x w v e (inl s) = inl (sym (same_left x w e v) ∙ s)
alike-by x w v e (inr n) = inr n

-- the literal that is then there, and the flag f, which says whether they clash
module _ (old : Holder) (w : ScalarValue) (was f : Bool) (stays : was ≡ true → f ≡ true) (told : clashes old w ≡ true → f ≡ true) where
  abbrev now : Holder
  now = cond (clashes old w) old (held w)

  -- what was there is there, or the flag is set
  pub literal-stays : (v : ScalarValue) → (old.present ≡ true) × (Alike old.value v ⊎ (was ≡ true)) → (now.present ≡ true)
      × (Alike now.value v ⊎ (f ≡ true))
  literal-stays v h = go (clashes old w) refl
    where
      go : (b : Bool) → clashes old w ≡ b → ((cond b old (held w)).present ≡ true) × (Alike (cond b old (held w)).value v ⊎ (f ≡ true))
      go true e = (h.0, inr (told e))
      go false e = (
        refl,
        elim h.1 [
          | inl s ↦ inl (alike-by old.value w v (true-of-and-not-false old.present (same_scalar old.value w) h.0 e) s)
          | inr k ↦ inr (stays k)
        ],
      )

  -- and so is what comes
  pub literal-comes : (v : ScalarValue) → Alike w v ⊎ (was ≡ true) → (now.present ≡ true) × (Alike now.value v ⊎ (f ≡ true))
  literal-comes v h = go (clashes old w) refl
    where
      go : (b : Bool) → clashes old w ≡ b → ((cond b old (held w)).present ≡ true) × (Alike (cond b old (held w)).value v ⊎ (f ≡ true))
      go true e = (clash-there old.present (same_scalar old.value w) e, inr (told e))
      go false e = (refl, flag-on was f stays h)

-- ---- what an action records
comparable_in : (e : En.Entry) → Bounded e → BothComparable (range_in e)
comparable_in e s = go e.present s
  where
    go : (p : Bool) → (p ≡ true → BothComparable e.range) → BothComparable (cond p e.range unbounded_range)
    go true h = h refl
    go false h = comparable_open

pub range-there : (e : En.Entry) → e.present ≡ true → range_in e ≡ e.range
range-there e h = ap (λ (b : Bool). cond b e.range unbounded_range) h

bound-stays : (op : BinaryOp) (x : Float) (e : En.Entry) (new : ValueRange) → e.present ≡ true → taken_by op x e.range ≡ false → taken_by op x
    (tighten_by (range_in e) new) ≡ false
bound-stays op x e new h k = taken-stays op x (range_in e) new (ap (taken_by op x) (range-there e h) ∙ k)

-- a place keeps what it has
pub grows-after : (act : Action) (c : Cell) → Grows c (cell_after c act)
unfolding literal_cell bound_cell entry_cell
grows-after Nothing c = grows-flag c c.non_null c.contradictory (λ e. e) (λ e. e)
grows-after Contradiction c = grows-flag c c.non_null true (λ e. e) (λ e. refl)
grows-after Residual c = grows-flag c c.non_null c.contradictory (λ e. e) (λ e. e)
grows-after (Same i j true) c = grows-flag c true c.contradictory (λ e. refl) (λ e. e)
grows-after (Same i j false) c = grows-flag c c.non_null c.contradictory (λ e. e) (λ e. e)
grows-after (Literal i w) c = record {
  null = λ e. refl;
  literal = literal-stays c.literal w c.contradictory _ (λ e. or_inl _ _ (or_inl _ _ e))
      (λ e. or_inl (c.contradictory || clashes c.literal w) _ (or_inr c.contradictory (clashes c.literal w) e));
  bound = λ op x p. p;
  entry = λ p. p;
  flag = λ e. or_inl _ _ (or_inl _ _ e);
}
grows-after (Bound i o y) c = record {
  null = λ e. refl;
  literal = λ v p. (p.0, flag-on c.contradictory _ (λ e. or_inl _ _ (or_inl _ _ e)) p.1);
  bound = λ op x p. (refl, bound-stays op x c.entry (bounds_by o y) p.0 p.1);
  entry = λ p. refl;
  flag = λ e. or_inl _ _ (or_inl _ _ e);
}
grows-after (Entry i) c = record {
  null = λ e. refl;
  literal = λ v p. p;
  bound = λ op x p. (refl, bound-stays op x c.entry unbounded_range p.0 p.1);
  entry = λ p. refl;
  flag = λ e. e;
}

-- ---- two places that become one
unfoldable pub joined_cell : Cell → Cell → Cell
joined_cell c d = record {
  non_null = null_on c.non_null d.non_null;
  literal = (place_of c.literal d.literal c.entry d.entry).literal;
  entry = (place_of c.literal d.literal c.entry d.entry).entry;
  contradictory = c.contradictory || (place_of c.literal d.literal c.entry d.entry).bad;
}

module _ (c d : Cell) where
  -- the flag after a clash, and after what set it before
  clash-told : d.literal.present ≡ true → clashes c.literal d.literal.value ≡ true → (joined_cell c d).contradictory ≡ true
  unfolding joined_cell place_of literal_bad
  clash-told h e =
      let bad = d.literal.present && clashes c.literal d.literal.value in
      let empty = range_bad c.entry d.entry in
      or_inr c.contradictory ((bad || empty) || crossed (literal_on c.literal d.literal) (range_on c.entry d.entry))
      (or_inl (bad || empty) (crossed (literal_on c.literal d.literal) (range_on c.entry d.entry))
      (or_inl bad empty (ap (λ (b : Bool). b && clashes c.literal d.literal.value) h ∙ e)))

  flag-stays : c.contradictory ≡ true → (joined_cell c d).contradictory ≡ true
  unfolding joined_cell
  flag-stays e = or_inl _ _ e

  abbrev flagged : Bool
  flagged = (joined_cell c d).contradictory

  abbrev both : Holder
  both = cond (clashes c.literal d.literal.value) c.literal (held d.literal.value)

  literal-is : (joined_cell c d).literal ≡ cond d.literal.present both c.literal
  unfolding joined_cell place_of literal_on
  literal-is = refl

  entry-is : (joined_cell c d).entry ≡ cond d.entry.present (entry_of (tighten_by (range_in c.entry) d.entry.range)) c.entry
  unfolding joined_cell place_of range_on
  entry-is = refl

  abbrev Holds : ScalarValue → Holder → Type 0
  Holds v x = (x.present ≡ true) × (Alike x.value v ⊎ (flagged ≡ true))

  abbrev Bounds : BinaryOp → Float → En.Entry → Type 0
  Bounds op x e = (e.present ≡ true) × (taken_by op x e.range ≡ false)

  -- what the first place has
  left-literal : (v : ScalarValue) → HasLiteral v c → HasLiteral v (joined_cell c d)
  left-literal v h = subst (Holds v) (sym literal-is) (go d.literal.present refl)
    where
      go : (p : Bool) → d.literal.present ≡ p → Holds v (cond p both c.literal)
      go true e = literal-stays c.literal d.literal.value c.contradictory flagged flag-stays (clash-told e) v h
      go false e = (h.0, flag-on c.contradictory flagged flag-stays h.1)

  left-bound : (op : BinaryOp) (x : Float) → HasBound op x c → HasBound op x (joined_cell c d)
  left-bound op x h = subst (Bounds op x) (sym entry-is) (go d.entry.present)
    where
      go : (p : Bool) → Bounds op x (cond p (entry_of (tighten_by (range_in c.entry) d.entry.range)) c.entry)
      go true = (refl, bound-stays op x c.entry d.entry.range h.0 h.1)
      go false = h

  left-entry : c.entry.present ≡ true → (joined_cell c d).entry.present ≡ true
  left-entry h = subst (λ (e : En.Entry). e.present ≡ true) (sym entry-is) (go d.entry.present)
    where
      go : (p : Bool) → (cond p (entry_of (tighten_by (range_in c.entry) d.entry.range)) c.entry).present ≡ true
      go true = refl
      go false = h

  left-null : c.non_null ≡ true → (joined_cell c d).non_null ≡ true
  unfolding joined_cell null_on
  left-null e = or_inl c.non_null d.non_null e

  pub grows-left : Grows c (joined_cell c d)
  grows-left = record { null = left-null; literal = left-literal; bound = left-bound; entry = left-entry; flag = flag-stays }

  -- what the second place has, where both have the set's flag
  module _ (same : d.contradictory ≡ true → c.contradictory ≡ true) (sc : Bounded c.entry) (sd : Bounded d.entry) where
    right-literal : (v : ScalarValue) → HasLiteral v d → HasLiteral v (joined_cell c d)
    right-literal v h =
        subst (Holds v) (sym (literal-is ∙ ap (λ (p : Bool). cond p both c.literal) h.0))
        (literal-comes c.literal d.literal.value d.contradictory flagged (λ e. flag-stays (same e)) (clash-told h.0) v h.1)

    right-bound : (op : BinaryOp) (x : Float) → HasBound op x d → HasBound op x (joined_cell c d)
    right-bound op x h =
        subst (Bounds op x) (sym (entry-is ∙ ap (λ (p : Bool). cond p (entry_of (tighten_by (range_in c.entry) d.entry.range)) c.entry) h.0))
        (refl, taken-comes op x (range_in c.entry) d.entry.range (comparable_in c.entry sc) (sd h.0) h.1)

    right-entry : d.entry.present ≡ true → (joined_cell c d).entry.present ≡ true
    right-entry h = ap (λ (e : En.Entry). e.present)
        (entry-is ∙ ap (λ (p : Bool). cond p (entry_of (tighten_by (range_in c.entry) d.entry.range)) c.entry) h)

    right-null : d.non_null ≡ true → (joined_cell c d).non_null ≡ true
    unfolding joined_cell null_on
    right-null e = or_inr c.non_null d.non_null e

    pub grows-right : Grows d (joined_cell c d)
    grows-right = record { null = right-null; literal = right-literal; bound = right-bound; entry = right-entry; flag = λ e. flag-stays (same e) }

-- ---- what is recorded is bounded by numbers
pub bounded-after : (act : Action) (c : Cell) → Numbered act → Bounded c.entry → Bounded (cell_after c act).entry
unfolding literal_cell bound_cell entry_cell
bounded-after Nothing c a s = s
bounded-after Contradiction c a s = s
bounded-after Residual c a s = s
bounded-after (Same i j true) c a s = s
bounded-after (Same i j false) c a s = s
bounded-after (Literal i w) c a s = s
bounded-after (Bound i op x) c a s = λ e. comparable_tightened (range_in c.entry) (bounds_by op x) (comparable_in c.entry s) (comparable_bounds op x a)
bounded-after (Entry i) c a s = λ e. comparable_in c.entry s

pub bounded-joined : (c d : Cell) → Bounded c.entry → Bounded d.entry → Bounded (joined_cell c d).entry
bounded-joined c d p q = subst Bounded (sym (entry-is c d)) (go d.entry.present refl)
  where
    go : (b : Bool) → d.entry.present ≡ b → Bounded (cond b (entry_of (tighten_by (range_in c.entry) d.entry.range)) c.entry)
    go true e = λ z. comparable_tightened (range_in c.entry) d.entry.range (comparable_in c.entry p) (q e)
    go false e = p
