-- A literal that was applied before is put in the place of one that is the same, or sets the flag, and nothing else; and what an action records in the set
-- before that and in the set after it. Assumes nothing.
use Prim.Native.Nat.{ℕ, zero, suc, ◌<◌}
use mathlib.Core.Path.{◌≡◌, refl, sym, ap, ap₂, ◌∙◌, subst}
use mathlib.Core.Bool.{Bool, true, false, not, cond, ◌&&◌, ◌||◌, or-false}
use mathlib.Core.List.{List, [], ◌∷◌}
use mathlib.Core.Logic.{◌⊎◌, inl, inr}
use native.Mathlib.Decide.{ℕ_discrete}
use native.Mathlib.Omega.{arith}
use lib.ListN.{length, set}
use lib.Seq.{set-get_or, get_or-set_same, get_or-set_other}
use Rattle.laws.proofs.Bools.{or_inr, or_inl}
use Rattle.scalar.specs.Scalars.{same_scalar, holds_nan}
use Rattle.scalar.specs.declared.ScalarValue.{ScalarValue}
use Rattle.scalar.proofs.ScalarLaws.{same_self, same_left}
use Rattle.constraint_spec.specs.Sets.{none, blank, held, classes_of, non_nulls, literals, non_null_at, literal_at, entry_at, with_values}
use Rattle.constraint_spec.specs.Sets.{with_literals, with_flag}
use Rattle.constraint_spec.specs.Sets.{canonical_at, clashes, crossed, add_literal}
use Rattle.constraint_spec.specs.declared.Holder.{Holder}
use Rattle.constraint_spec.specs.declared.Entry as En
use Rattle.constraint_spec.specs.declared.ConstraintSet.{ConstraintSet}
use Rattle.constraint_set.proofs.Passes.{or_keeps}
use Rattle.constraint_normal.specs.Ready.{Ready}
use Rattle.apply_action.specs.Actions.{first_of, recorded_in, Proper}
use Rattle.apply_action.specs.Cells.{cell_of, with_cell, flagged_cell, literal_cell, cell_after}
use Rattle.apply_action.specs.declared.Action.{Action}
use Rattle.apply_action.specs.declared.Action.TheVariants.{Literal}
use Rattle.apply_action.specs.declared.Cell.{Cell}
use Rattle.apply_action.proofs.CellLaws.{cell-flagged}
use Rattle.apply_shared_laws.proofs.CellTwice.{Told}
use Rattle.apply_shared_laws.proofs.Recording.{recorded-is, recorded-told}
use Rattle.apply_shared_laws.proofs.SameLiterals.{laid_cell, crossed-same, cell-passes}

-- ---- two entries of a list
module _ {A : Type 0} where
  pub set_twice : (l : List A) (r : ℕ) (x y : A) → set (set l r x) r y ≡ set l r y
  set_twice [] r x y = refl
  set_twice (z ∷ l) zero x y = refl
  set_twice (z ∷ l) (suc r) x y = ap (λ (m : List A). z ∷ m) (set_twice l r x y)

  pub set-swap : (l : List A) (r q : ℕ) (x y : A) → (r ≡ q → ⊥) → set (set l r x) q y ≡ set (set l q y) r x
  set-swap [] r q x y d = refl
  set-swap (z ∷ l) zero zero x y d = absurd (d refl)
  set-swap (z ∷ l) zero (suc q) x y d = refl
  set-swap (z ∷ l) (suc r) zero x y d = refl
  set-swap (z ∷ l) (suc r) (suc q) x y d = ap (λ (m : List A). z ∷ m) (set-swap l r q x y (λ e. d (ap suc e)))

-- ---- a set with another literal at r
abbrev pub laid : ConstraintSet → ℕ → ScalarValue → ConstraintSet
laid s r v = with_literals s (set (literals s) r (held v))

-- the set with other lists and another flag
abbrev rest : ConstraintSet → List Bool → List Holder → List En.Entry → Bool → ConstraintSet
rest u n l e f = with_values u (classes_of u) n l e f

-- ---- a literal where there is one, and that is not NULL
module _ (u : ConstraintSet) (rd : Ready u) (i : ℕ) (v : ScalarValue) (p : Proper (Literal i v)) where
  abbrev r : ℕ
  r = canonical_at u i

  abbrev c : Cell
  c = cell_of u r

  abbrev old : Holder
  old = literal_at u r

  told : Told c
  told = recorded-told u rd (Literal i v) p

  as_cell : (d : Cell) → literal_cell c v ≡ d → add_literal u i v ≡ with_cell u r d
  as_cell d e = sym (recorded-is u rd (Literal i v) p) ∙ ap (with_cell u r) e

  module _ (nn : non_null_at u r ≡ true) where
    -- one that clashes sets the flag
    pub clash-form : clashes old v ≡ true → add_literal u i v ≡ with_flag u true
    clash-form e = as_cell (flagged_cell c) flagged ∙ cell-flagged u r
      where
        flagged : literal_cell c v ≡ flagged_cell c
        flagged = unfold literal_cell in λ k. record {
          non_null = sym nn k;
          literal = ap (λ (b : Bool). cond b old (held v)) e k;
          entry = entry_at u r;
          contradictory = or_inl (u.contradictory || clashes old v) (crossed (cond (clashes old v) old (held v)) (entry_at u r))
              (or_inr u.contradictory (clashes old v) e) k;
        }

    -- and any other is put there
    pub same-form : (x : ScalarValue) → same_scalar x v ≡ true → old ≡ held x → add_literal u i v ≡ laid u r v
    same-form x e l = as_cell (laid_cell c v) put ∙ laid_cell_lem
      where
        no_clash : clashes old v ≡ false
        no_clash = ap (λ (h : Holder). clashes h v) l ∙ ap not e

        literal-is : cond (clashes old v) old (held v) ≡ held v
        literal-is = ap (λ (b : Bool). cond b old (held v)) no_clash

        quiet : crossed (held v) (entry_at u r) ≡ true → u.contradictory ≡ true
        quiet z = told.outside (ap (λ (h : Holder). crossed h (entry_at u r)) l ∙ crossed-same x v e (entry_at u r) ∙ z)

        flag_is : ((u.contradictory || clashes old v) || crossed (cond (clashes old v) old (held v)) (entry_at u r)) ≡ u.contradictory
        flag_is =
            ap₂ (λ (b : Bool) (h : Holder). (u.contradictory || b) || crossed h (entry_at u r)) no_clash literal-is
            ∙ ap (λ (b : Bool). b || crossed (held v) (entry_at u r)) (or-false u.contradictory)
            ∙ or_keeps u.contradictory (crossed (held v) (entry_at u r)) quiet

        put : literal_cell c v ≡ laid_cell c v
        put = unfold literal_cell in λ k. record { non_null = sym nn k; literal = literal-is k; entry = entry_at u r; contradictory = flag_is k }

        laid_cell_lem : with_cell u r (laid_cell c v) ≡ laid u r v
        laid_cell_lem = unfold with_cell in λ k. rest u (set-get_or (non_nulls u) r false k) (set (literals u) r (held v)) (set-get_or u.ranges r
            blank k)
            u.contradictory

  -- NaN clashes with every literal
  pub nan-clashes : holds_nan v ≡ true → old.present ≡ true → clashes old v ≡ true
  nan-clashes n h = ap₂ (λ (a b : Bool). a && not b) h (never (same_scalar old.value v) refl)
    where
      never : (b : Bool) → same_scalar old.value v ≡ b → same_scalar old.value v ≡ false
      never true e = same_left old.value v e v ∙ same_self v ∙ ap not n
      never false e = e

-- ---- what an action records in a set and in the same with another literal
module _ (x v : ScalarValue) (same : same_scalar x v ≡ true) (i : ℕ) where
  -- t is u, or u with v in the place of x
  abbrev pub Passed : ConstraintSet → ConstraintSet → Type 0
  Passed u t = (t ≡ u) ⊎ ((literal_at u (canonical_at u i) ≡ held x) × (t ≡ laid u (canonical_at u i) v))

  module _ (u : ConstraintSet) (rd : Ready u) (rt : Ready (laid u (canonical_at u i) v)) (low : canonical_at u i < 128)
      (l : literal_at u (canonical_at u i) ≡ held x) (act : Action) (p : Proper act) where
    abbrev at : ℕ
    at = canonical_at u i

    abbrev t : ConstraintSet
    t = laid u at v

    abbrev q : ℕ
    q = canonical_at u (first_of act)

    abbrev after : ConstraintSet → ℕ → Cell
    after s k = cell_after (cell_of s k) act

    -- at another place
    module _ (n : q ≡ at → ⊥) where
      off-cell : cell_of t q ≡ cell_of u q
      off-cell = λ k. record {
        non_null = non_null_at u q;
        literal = get_or-set_other (literals u) at q (held v) none n k;
        entry = entry_at u q;
        contradictory = u.contradictory;
      }

      off-place : Passed (with_cell u q (after u q)) (with_cell t q (after t q))
      unfolding with_cell
      off-place = inr (
        get_or-set_other (literals u) q at (after u q).literal none (λ e. n (sym e)) ∙ l,
        ap (λ (d : Cell). with_cell t q (cell_after d act)) off-cell
            ∙ (λ k. rest u (set (non_nulls u) q (after u q).non_null) (set-swap (literals u) at q (held v) (after u q).literal (λ e. n (sym e)) k)
            (set u.ranges q (after u q).entry) (after u q).contradictory),
      )

    -- at the same
    long : at < length (literals u)
    long = omega (arith, low, rd.settled.equal.long)

    on-cell : cell_of t at ≡ laid_cell (cell_of u at) v
    on-cell = λ k. record {
      non_null = non_null_at u at;
      literal = get_or-set_same (literals u) at (held v) none long k;
      entry = entry_at u at;
      contradictory = u.contradictory;
    }

    abbrev d : Cell
    d = after u at

    on-place : Passed (with_cell u at (after u at)) (with_cell t at (after t at))
    unfolding with_cell
    on-place = elim (cell-passes x v same (cell_of u at) l act) [
      | inl z ↦ inl (ap (λ (e : Cell). with_cell t at (cell_after e act)) on-cell ∙ ap (with_cell t at) z
          ∙ (λ k. rest u (set (non_nulls u) at d.non_null) (set_twice (literals u) at (held v) d.literal k) (set u.ranges at d.entry)
          d.contradictory))
      | inr z ↦ inr (
        get_or-set_same (literals u) at d.literal none long ∙ z.0,
        ap (λ (e : Cell). with_cell t at (cell_after e act)) on-cell ∙ ap (with_cell t at) z.1
            ∙ (λ k. rest u (set (non_nulls u) at d.non_null)
            ((set_twice (literals u) at (held v) (held v) ∙ sym (set_twice (literals u) at d.literal (held v))) k) (set u.ranges at d.entry)
            d.contradictory),
      )
    ]

    pub recorded-passes : Passed (recorded_in act u) (recorded_in act t)
    recorded-passes =
        subst (λ (z : ConstraintSet). Passed z (recorded_in act t)) (recorded-is u rd act p)
        (subst (Passed (with_cell u q (after u q))) (recorded-is t rt act p) (elim (ℕ_discrete q at) [
          | yes e ↦ subst (λ (k : ℕ). Passed (with_cell u k (after u k)) (with_cell t k (after t k))) (sym e) on-place
          | no n ↦ off-place n
        ]))
