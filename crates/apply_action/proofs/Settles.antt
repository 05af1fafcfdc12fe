-- What an action records keeps a set settled. Assumes nothing.
use Prim.Native.Nat.{ℕ, ◌<◌}
use mathlib.Core.Path.{◌≡◌, refl, sym, ap, subst, ◌∙◌}
use mathlib.Core.Bool.{Bool, true, false, cond, ◌||◌}
use mathlib.Core.List.{List}
use mathlib.Core.Logic.{◌⊎◌, ⊎_elim}
use native.Mathlib.Decide.{ℕ_discrete}
use native.Mathlib.Omega.{arith}
use lib.Dec.{T}
use lib.ListN.{get_or, set, length-set}
use lib.Seq.{get_or-set_same, get_or-set_other}
use Rattle.laws.proofs.Bools.{or_inr, or_inl}
use Rattle.value_range.specs.Ranges.{unbounded_range}
use Rattle.value_range.specs.declared.ValueRange.{ValueRange}
use Rattle.value_classes.proofs.ClassLaws.{falling, canonical_idempotent}
use Rattle.constraint_spec.specs.Sets.{none, held, no_entry, blank, entry_of, classes_of, non_nulls, literals, literal_at, entry_at, canonical_at}
use Rattle.constraint_spec.specs.Sets.{range_in, bounds_by}
use Rattle.constraint_spec.specs.declared.Entry as En
use Rattle.constraint_spec.specs.declared.ConstraintSet.{ConstraintSet}
use Rattle.constraint_set.specs.Checked.{Checked}
use Rattle.constraint_set.specs.Settled.{null_on, literal_on, range_on, range_bad, Stands, Settled}
use Rattle.constraint_set.proofs.Contents.{null-same, literal-again, range-again, range_tells}
use Rattle.apply_action.specs.Actions.{first_of, recorded_in, Proper}
use Rattle.apply_action.specs.Cells.{Long, cell_of, with_cell, non_null_cell, literal_cell, bound_cell, entry_cell, cell_after}
use Rattle.apply_action.specs.declared.Action.{Action}
use Rattle.apply_action.specs.declared.Action.TheVariants.{Nothing, Contradiction, Residual, Same, Literal, Bound, Entry}
use Rattle.apply_action.specs.declared.Cell.{Cell}
use Rattle.apply_action.proofs.CellLaws.{written_is, recorded-checked}

-- ---- a content put at a representative, in the form in which a pass puts it at an empty place
stands_set : {A : Type 0} (n : A) (put : A → A → A) (root : ℕ → ℕ) (d : A) (l : List A) → Stands n put root d l → (r : ℕ) → r < 128 → root r ≡ r → (x
    : A)
    → put n x ≡ x → Stands n put root d (set l r x)
stands_set {A = A} n put root d l st r low own x e = record {
  long = length-set l r x ∙ st.long;
  away = λ i h m. get_or-set_other l r i x d (λ q. m (subst (λ (k : ℕ). root k ≡ k) (sym q) own)) ∙ st.away i h m;
  same = λ i h. elim (ℕ_discrete i r) [
    | yes q ↦ subst (λ (y : A). put n y ≡ y) (sym (ap (λ (k : ℕ). get_or (set l r x) k d) q ∙ get_or-set_same l r x d (omega (arith, st.long)))) e
    | no m ↦ subst (λ (y : A). put n y ≡ y) (sym (get_or-set_other l r i x d m)) (st.same i h)
  ];
}

-- what a cell has to be so that it can stand in u
record Fit (u : ConstraintSet) (c : Cell) : Type 0 where
  literal-so : literal_on none c.literal ≡ c.literal
  entry-so : range_on no_entry c.entry ≡ c.entry
  empty-told : range_bad no_entry c.entry ≡ true → c.contradictory ≡ true
  stays : u.contradictory ≡ true → c.contradictory ≡ true

-- an entry that is made where there was none is not empty
made-full : (x : En.Entry) → range_bad no_entry (entry_of (range_in x)) ≡ true → range_bad no_entry x ≡ true
unfolding range_bad
made-full x e = go x.present x.range e
  where
    go : (p : Bool) (t : ValueRange) → range_bad no_entry (entry_of (cond p t unbounded_range)) ≡ true → range_bad no_entry (record {
      present = p;
      range = t;
    }) ≡ true
    go true t e = e
    go false t e = absurd (subst T (sym e) tt)

-- a flag that is set for what comes or was set before for what was there
or_told : (f x y was : Bool) → (was ≡ true → f ≡ true) → (x ≡ true) ⊎ (was ≡ true) → ((f || x) || y) ≡ true
or_told f x y was h = ⊎_elim (λ (t : x ≡ true). or_inl (f || x) y (or_inr f x t)) (λ t. or_inl (f || x) y (or_inl f x (h t)))

module _ (u : ConstraintSet) (g : Settled u) (r : ℕ) (low : r < 128) where
  abbrev old : Cell
  old = cell_of u r

  fit-old : Fit u old
  fit-old = record { literal-so = g.equal.same r low; entry-so = g.within.same r low; empty-told = g.quiet r low; stays = λ e. e }

  fit-null : (both : Bool) → Fit u (cond both (non_null_cell old) old)
  fit-null true = record { literal-so = g.equal.same r low; entry-so = g.within.same r low; empty-told = g.quiet r low; stays = λ e. e }
  fit-null false = fit-old

  -- what an action makes of a cell can stand where the cell stood
  fit-after : (act : Action) → Fit u (cell_after old act)
  unfolding literal_cell bound_cell entry_cell literal_on range_on range_bad
  fit-after Nothing = fit-old
  fit-after Contradiction = record { literal-so = g.equal.same r low; entry-so = g.within.same r low; empty-told = λ e. refl; stays = λ e. refl }
  fit-after Residual = fit-old
  fit-after (Same i j both) = fit-null both
  fit-after (Literal i v) = record {
    literal-so = literal-again (literal_at u r) (held v) (g.equal.same r low);
    entry-so = g.within.same r low;
    empty-told = λ e. or_inl _ _ (or_inl _ _ (g.quiet r low e));
    stays = λ e. or_inl _ _ (or_inl _ _ e);
  }
  fit-after (Bound i op x) = record {
    literal-so = g.equal.same r low;
    entry-so = range-again (entry_at u r) (entry_of (bounds_by op x)) (g.within.same r low);
    empty-told = λ e. or_told u.contradictory (range_bad (entry_at u r) (entry_of (bounds_by op x))) _ (range_bad no_entry (entry_at u r)) (g.quiet r
        low)
        (range_tells (entry_at u r) (entry_of (bounds_by op x)) (g.within.same r low) e);
    stays = λ e. or_inl _ _ (or_inl _ _ e);
  }
  fit-after (Entry i) = record {
    literal-so = g.equal.same r low;
    entry-so = range-again (entry_at u r) (entry_of unbounded_range) (g.within.same r low);
    empty-told = λ e. g.quiet r low (made-full (entry_at u r) e);
    stays = λ e. e;
  }

  -- such a cell keeps the set settled
  cell-settled : (c : Cell) → canonical_at u r ≡ r → Fit u c → Checked (with_cell u r c) → Settled (with_cell u r c)
  unfolding with_cell
  cell-settled c own f ok = record {
    many = g.many;
    ok = g.ok;
    nulls = stands_set false null_on (canonical_at u) false (non_nulls u) g.nulls r low own c.non_null (null-same c.non_null);
    equal = stands_set none literal_on (canonical_at u) none (literals u) g.equal r low own c.literal f.literal-so;
    within = stands_set no_entry range_on (canonical_at u) blank u.ranges g.within r low own c.entry f.entry-so;
    quiet = λ i h. elim (ℕ_discrete i r) [
      | yes q ↦
          (λ e. f.empty-told
          (subst (λ (y : En.Entry). range_bad no_entry y ≡ true) (ap (λ (k : ℕ). get_or (set u.ranges r c.entry) k blank) q ∙ get_or-set_same u.ranges
          r
          c.entry blank (omega (arith, g.within.long))) e))
      | no m ↦ (λ e. f.stays (g.quiet i h (subst (λ (y : En.Entry). range_bad no_entry y ≡ true) (get_or-set_other u.ranges r i c.entry blank m) e)))
    ];
    checked = ok;
  }

module _ (u : ConstraintSet) (g : Settled u) (act : Action) (p : Proper act) (r : ℕ) (low : r < 128) (er : r ≡ canonical_at u (first_of act)) where
  long : Long u
  long = (g.equal.long, g.within.long)

  own : canonical_at u r ≡ r
  own = subst (λ (k : ℕ). canonical_at u k ≡ k) (sym er) (canonical_idempotent (classes_of u) (falling (classes_of u) g.ok) (first_of act))

  is : with_cell u r (cell_after (cell_of u r) act) ≡ recorded_in act u
  is = written_is true u long (λ e. g.checked) act r p low er

  -- what an action records keeps a set settled. Assumes a settled set
  pub recorded-settled : Settled (recorded_in act u)
  recorded-settled =
      subst Settled is
      (cell-settled u g r low (cell_after (cell_of u r) act) own (fit-after u g r low act)
      (subst Checked (sym is) (recorded-checked u long true act p (omega (arith, er)) (λ e. g.checked) refl)))
