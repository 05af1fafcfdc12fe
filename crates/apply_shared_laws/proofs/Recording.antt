-- What an action records in an ready set leaves it ready and keeps what was there. Assumes nothing.
use Prim.Native.Nat.{ℕ, ◌<◌}
use mathlib.Core.Path.{◌≡◌, refl, sym, ap, ◌∙◌, subst}
use mathlib.Core.Bool.{Bool, true, false, cond, ◌&&◌}
use native.Mathlib.Decide.{ℕ_discrete}
use native.Mathlib.Omega.{arith}
use lib.ListN.{length}
use lib.Seq.{get_or-set_same, get_or-set_other}
use Rattle.value_classes.proofs.ClassLaws.{canonical_small}
use Rattle.value_range.specs.Ranges.{unbounded_range, empty_range}
use Rattle.constraint_spec.specs.Sets.{none, no_entry, blank, entry_of, tighten_by, classes_of, non_nulls, literals, handles, non_null_at, literal_at}
use Rattle.constraint_spec.specs.Sets.{entry_at, canonical_at}
use Rattle.constraint_spec.specs.declared.ConstraintSet.{ConstraintSet}
use Rattle.constraint_spec.specs.declared.Entry as En
use Rattle.constraint_set.specs.Settled.{range_on, range_bad, Settled}
use Rattle.constraint_set.proofs.Checking.{crossed-flagged}
use Rattle.constraint_normal.specs.Ready.{Bounded, Ready}
use Rattle.apply_action.specs.Actions.{first_of, recorded_in, Proper}
use Rattle.apply_action.specs.Cells.{cell_of, with_cell, cell_after}
use Rattle.apply_action.specs.declared.Action.{Action}
use Rattle.apply_action.specs.declared.Cell.{Cell}
use Rattle.apply_action.proofs.CellLaws.{written_is, first-low, cell_same}
use Rattle.apply_action.proofs.Settles.{recorded-settled}
use Rattle.apply_shared_laws.specs.Has.{Numbered, HasCell}
use Rattle.apply_shared_laws.proofs.Growing.{Grows, grows-flag, grows-after, bounded-after}
use Rattle.apply_shared_laws.proofs.CellTwice.{Plain, Told, has-after, again-cell}
use Rattle.apply_shared_laws.proofs.Keeping.{Keeps}

-- ---- a cell written at r
module _ (u : ConstraintSet) (g : Settled u) (r : ℕ) (low : r < 128) (d : Cell) where
  cell_at : cell_of (with_cell u r d) r ≡ d
  unfolding with_cell
  cell_at = λ i. record {
    non_null = get_or-set_same (non_nulls u) r d.non_null false (omega (arith, g.nulls.long)) i;
    literal = get_or-set_same (literals u) r d.literal none (omega (arith, g.equal.long)) i;
    entry = get_or-set_same u.ranges r d.entry blank (omega (arith, g.within.long)) i;
    contradictory = d.contradictory;
  }

  cell-off : (k : ℕ) → (k ≡ r → ⊥) → cell_of (with_cell u r d) k ≡ record {
    non_null = non_null_at u k;
    literal = literal_at u k;
    entry = entry_at u k;
    contradictory = d.contradictory;
  }
  unfolding with_cell
  cell-off k n = λ i. record {
    non_null = get_or-set_other (non_nulls u) r k d.non_null false n i;
    literal = get_or-set_other (literals u) r k d.literal none n i;
    entry = get_or-set_other u.ranges r k d.entry blank n i;
    contradictory = d.contradictory;
  }

  cell-grows : Grows (cell_of u r) d → (k : ℕ) → Grows (cell_of u k) (cell_of (with_cell u r d) k)
  cell-grows p k = elim (ℕ_discrete k r) [
    | yes e ↦ subst (λ (z : ℕ). Grows (cell_of u z) (cell_of (with_cell u r d) z)) (sym e) (subst (Grows (cell_of u r)) (sym cell_at) p)
    | no n ↦ subst (Grows (cell_of u k)) (sym (cell-off k n)) (grows-flag (cell_of u k) (non_null_at u k) d.contradictory (λ e. e) p.flag)
  ]

  cell-bounded : Bounded d.entry → (k : ℕ) → Bounded (entry_at u k) → Bounded (entry_at (with_cell u r d) k)
  cell-bounded p k q = elim (ℕ_discrete k r) [
    | yes e ↦ subst (λ (z : ℕ). Bounded (entry_at (with_cell u r d) z)) (sym e) (subst (λ (c : Cell). Bounded c.entry) (sym cell_at) p)
    | no n ↦ subst (λ (c : Cell). Bounded c.entry) (sym (cell-off k n)) q
  ]

  cell-keeps : Grows (cell_of u r) d → Keeps u (with_cell u r d)
  cell-keeps p = record {
    classes = unfold with_cell in λ i j e. e;
    cells = λ i h. place i;
    handled = unfold with_cell in λ h e. e;
  }
    where
      place : (i : ℕ) → Grows (cell_of u (canonical_at u i)) (cell_of (with_cell u r d) (canonical_at (with_cell u r d) i))
      place i = unfold with_cell in cell-grows p (canonical_at u i)

-- ---- a range that is empty has set the flag
empty-told : (e : En.Entry) {f : Bool} → range_on no_entry e ≡ e → (range_bad no_entry e ≡ true → f ≡ true) → e.present ≡ true → empty_range e.range ≡ true → f
    ≡ true
unfolding range_on range_bad
empty-told e same h there z =
    h (ap (λ (b : Bool). b && empty_range (tighten_by unbounded_range e.range)) there ∙ ap empty_range clean ∙ z)
  where
    clean : tighten_by unbounded_range e.range ≡ e.range
    clean = ap (λ (x : En.Entry). x.range) (sym (ap (λ (b : Bool). cond b (entry_of (tighten_by unbounded_range e.range)) no_entry) there) ∙ same)

-- ---- an action
module _ (u : ConstraintSet) (rd : Ready u) (act : Action) (p : Proper act) where
  g : Settled u
  g = rd.settled

  abbrev r : ℕ
  r = canonical_at u (first_of act)

  low : r < 128
  low = canonical_small (classes_of u) (first_of act) r g.many refl (first-low act p)

  abbrev now : Cell
  now = cell_after (cell_of u r) act

  pub recorded-is : with_cell u r now ≡ recorded_in act u
  recorded-is = written_is true u (g.equal.long, g.within.long) (λ e. g.checked) act r p low refl

  pub recorded_ready : Numbered act → Ready (recorded_in act u)
  recorded_ready a = record {
    settled = recorded-settled u g act p r low refl;
    bounds = λ i h. subst (λ (t : ConstraintSet). Bounded (entry_at t i)) recorded-is
        (cell-bounded u g r low now (bounded-after act (cell_of u r) a (rd.bounds r low)) i (rd.bounds i h));
    room = subst (λ (t : ConstraintSet). length (handles t) ≡ 64) recorded-is (unfold with_cell in rd.room);
  }

  pub recorded-keeps : Keeps u (recorded_in act u)
  recorded-keeps = subst (Keeps u) recorded-is (cell-keeps u g r low now (grows-after act (cell_of u r)))

  pub recorded-has : HasCell act (cell_of (recorded_in act u) (canonical_at (recorded_in act u) (first_of act)))
  recorded-has = subst (λ (t : ConstraintSet). HasCell act (cell_of t (canonical_at t (first_of act)))) recorded-is at
    where
      at : HasCell act (cell_of (with_cell u r now) (canonical_at (with_cell u r now) (first_of act)))
      at = unfold with_cell in subst (HasCell act) (sym (cell_at u g r low now)) (has-after act (cell_of u r))

  -- the checks would find nothing new
  pub recorded-told : Told (cell_of u r)
  recorded-told = record { outside = crossed-flagged u g.checked r low; empty = empty-told (entry_at u r) (g.within.same r low) (g.quiet r low) }

  -- what is there is not recorded again
  pub recorded-again : Plain act → HasCell act (cell_of u r) → recorded_in act u ≡ u
  recorded-again a h = sym recorded-is ∙ ap (with_cell u r) (again-cell (cell_of u r) recorded-told act a h) ∙ cell_same u r
