-- What an action records for a conjunct the set has, and keeps through every other action; an action that is no literal changes nothing when it is done again.
-- Assumes nothing.
use Prim.Native.Nat.{ℕ}
use mathlib.Core.Path.{◌≡◌, refl, sym, ap, ◌∙◌, subst}
use mathlib.Core.Bool.{Bool, true, false, cond, true≢false}
use Rattle.constraint_spec.specs.Sets.{canonical_at, add_residual, done}
use Rattle.constraint_spec.specs.declared.ConstraintSet.{ConstraintSet}
use Rattle.constraint_spec.specs.Answers.{Applied}
use Rattle.constraint_normal.specs.Ready.{Ready}
use Rattle.apply_action.specs.Actions.{acted, first_of, second_of, is_residual, recorded_in, Proper, joined_by}
use Rattle.apply_action.specs.declared.Action.{Action}
use Rattle.apply_action.specs.declared.Action.TheVariants.{Nothing, Contradiction, Residual, Same, Literal, Bound, Entry}
use Rattle.apply_action.proofs.CellLaws.{acted-is, joined-together}
use Rattle.apply_shared_laws.specs.Has.{Numbered, Has}
use Rattle.apply_shared_laws.proofs.CellTwice.{Plain}
use Rattle.apply_shared_laws.proofs.Keeping.{Keeps, keeps_self, keeps-cell, keeps-has}
use Rattle.apply_shared_laws.proofs.Recording.{recorded_ready, recorded-keeps, recorded-has, recorded-again}
use Rattle.apply_shared_laws.proofs.HandleKept.{added-again, added_ready, added-keeps, added-has}
use Rattle.apply_shared_laws.proofs.ClassJoins.{union_ready, union_keeps, union_together}

-- ---- the classes are one
pub joined_ready : (act : Action) (q : ConstraintSet) → Proper act → Ready q → Ready (joined_by act q)
joined_ready Nothing q p rd = rd
joined_ready Contradiction q p rd = rd
joined_ready Residual q p rd = rd
joined_ready (Same i j both) q p rd = union_ready q rd i j p.0 p.1
joined_ready (Literal i v) q p rd = rd
joined_ready (Bound i op x) q p rd = rd
joined_ready (Entry i) q p rd = rd

joined_keeps : (act : Action) (q : ConstraintSet) → Proper act → Ready q → Keeps q (joined_by act q)
joined_keeps Nothing q p rd = keeps_self q
joined_keeps Contradiction q p rd = keeps_self q
joined_keeps Residual q p rd = keeps_self q
joined_keeps (Same i j both) q p rd = union_keeps q rd i j p.0 p.1
joined_keeps (Literal i v) q p rd = keeps_self q
joined_keeps (Bound i op x) q p rd = keeps_self q
joined_keeps (Entry i) q p rd = keeps_self q

joined-one : (act : Action) (q : ConstraintSet) → Proper act → Ready q → canonical_at (joined_by act q) (first_of act) ≡ canonical_at (joined_by act q)
    (second_of act)
joined-one Nothing q p rd = refl
joined-one Contradiction q p rd = refl
joined-one Residual q p rd = refl
joined-one (Same i j both) q p rd = union_together q rd i j p.0 p.1
joined-one (Literal i v) q p rd = refl
joined-one (Bound i op x) q p rd = refl
joined-one (Entry i) q p rd = refl

-- ---- an action done
module _ (act : Action) (p : Proper act) (a : Numbered act) (q : ConstraintSet) (rd : Ready q) (h : ℕ) where
  -- the set after the join and after what is recorded
  abbrev u : ConstraintSet
  u = joined_by act q

  abbrev w : ConstraintSet
  w = recorded_in act u

  u_ready : Ready u
  u_ready = joined_ready act q p rd

  w_ready : Ready w
  w_ready = recorded_ready u u_ready act p a

  u_keeps : Keeps q u
  u_keeps = joined_keeps act q p rd

  w_keeps : Keeps u w
  w_keeps = recorded-keeps u u_ready act p

  abbrev ends : Bool → Applied
  ends b = cond b (add_residual w h) (done w)

  -- what holds of it, and of it with the residual where the action leaves one, holds in the end
  pub acted-so : (P : ConstraintSet → Type 0) → (is_residual act ≡ false → P w) → ((add_residual w h).refused ≡ false → P (add_residual w h).constraints)
      → (acted act q h).refused ≡ false → P (acted act q h).constraints
  acted-so P f g e =
      subst (λ (x : Applied). P x.constraints) (sym (acted-is act q h))
      (go (is_residual act) refl (ap (λ (x : Applied). x.refused) (sym (acted-is act q h)) ∙ e))
    where
      go : (b : Bool) → is_residual act ≡ b → (ends b).refused ≡ false → P (ends b).constraints
      go true r e = g e
      go false r e = f r

  pub acted_ready : (acted act q h).refused ≡ false → Ready (acted act q h).constraints
  acted_ready = acted-so Ready (λ r. w_ready) (added_ready w w_ready h)

  -- what was done before is kept
  pub acted-keeps : (other : Action) (k : ℕ) → Proper other → Has other k q → (acted act q h).refused ≡ false → Has other k (acted act q h).constraints
  acted-keeps other k o x = acted-so (Has other k) (λ r. in_w) (λ e. keeps-has w (add_residual w h).constraints (added-keeps w w_ready h e) other k o in_w)
    where
      in_w : Has other k w
      in_w = keeps-has u w w_keeps other k o (keeps-has q u u_keeps other k o x)

  -- what is done is there
  pub acted-has : (acted act q h).refused ≡ false → Has act h (acted act q h).constraints
  acted-has = acted-so (Has act h)
      (λ r. record { cell = recorded-has u u_ready act p; one_class = one; residual = λ e. absurd (true≢false (sym e ∙ r)) })
      (λ e.
      let k : Keeps w (add_residual w h).constraints = added-keeps w w_ready h e in
      record {
        cell = keeps-cell w (add_residual w h).constraints k act p (recorded-has u u_ready act p);
        one_class = k.classes (first_of act) (second_of act) one;
        residual = λ z. added-has w w_ready h e;
      })
    where
      one : canonical_at w (first_of act) ≡ canonical_at w (second_of act)
      one = w_keeps.classes (first_of act) (second_of act) (joined-one act q p rd)

  -- and changes nothing when it is done again, if it is no literal
  pub acted-again : Plain act → Has act h q → acted act q h ≡ done q
  acted-again l x = acted-is act q h ∙ go (is_residual act) refl
    where
      same : w ≡ q
      same = ap (recorded_in act) (sym (joined-together act q p x.one_class)) ∙ recorded-again q rd act p l x.cell

      go : (b : Bool) → is_residual act ≡ b → ends b ≡ done q
      go true r = ap (λ (t : ConstraintSet). add_residual t h) same ∙ added-again q h (x.residual r)
      go false r = ap done same
