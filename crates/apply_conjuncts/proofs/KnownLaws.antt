-- What is known of a set stays known of what a conjunct makes of it. Assumes nothing.
use Prim.Native.Nat.{ℕ, ◌+◌, ◌<◌}
use Rattle.std.proofs.Common.{Result}
use mathlib.Core.Path.{◌≡◌, refl, sym, ap, subst, ◌∙◌}
use mathlib.Core.Bool.{Bool, true, cond, ◌||◌}
use mathlib.Core.List.{List}
use lib.Dec.{ltb}
use lib.ListN.{get_or, set}
use Rattle.laws.proofs.Bools.{cond_T_elim}
use Rattle.value_range.specs.Ranges.{unbounded_range}
use Rattle.value_classes.specs.Classes.{Whole}
use Rattle.value_classes.specs.Listed.{roots_of}
use Rattle.value_classes.specs.declared.Roots.{Roots}
use Rattle.value_classes.proofs.ClassLaws.{canonical_small}
use Rattle.value_classes.proofs.MemberLaws.{roots_at}
use Rattle.constraint_spec.specs.Sets.{handles, canonical_at, union_values, normalized, add_non_null, put_non_null}
use Rattle.constraint_spec.specs.Sets.{with_residuals, has_handle, room_for, push_residual, add_residual, done, refused_with}
use Rattle.constraint_spec.specs.Answers.{Applied, applied}
use Rattle.constraint_spec.specs.declared.ConstraintError.{ConstraintError}
use Rattle.constraint_spec.specs.declared.ConstraintSet.{ConstraintSet}
use Rattle.constraint_spec.proofs.Beside.{Beside, beside_self, beside_flag, beside_null, beside_lay, add_non_null_beside, add_literal_beside, add_bound_beside}
use Rattle.constraint_spec.proofs.Operations.{union_one, union_two}
use Rattle.constraint_set.specs.Checked.{Checked}
use Rattle.constraint_set.proofs.Checking.{just_checked}
use Rattle.apply_action.specs.Actions.{first_of, is_checking, is_residual, recorded_in, Proper}
use Rattle.apply_action.specs.Cells.{Long}
use Rattle.apply_action.specs.declared.Action.{Action}
use Rattle.apply_action.specs.declared.Action.TheVariants.{Nothing, Contradiction, Residual, Same, Literal, Bound, Entry}
use Rattle.apply_action.proofs.CellLaws.{first-low, recorded-checked}
use Rattle.apply_action.proofs.Settles.{recorded-settled}
use Rattle.apply_conjuncts.specs.Knowing.{Knows}
use Rattle.apply_conjuncts.specs.declared.Known.{Known}

-- ---- the table of representatives
module _ (s : ConstraintSet) (k : Known) (knows : Knows s k) (i : ℕ) (low : i < 128) where
  pub root-at : get_or k.roots.of i 0 ≡ canonical_at s i
  root-at = ap (λ (r : Roots). get_or r.of i 0) knows.rooted ∙ roots_at s.equivalence_classes i low

  pub root-low : get_or k.roots.of i 0 < 128
  root-low = canonical_small s.equivalence_classes i (get_or k.roots.of i 0) knows.whole root-at low

-- ---- two classes joined
module _ (s u : ConstraintSet) (k : Known) (knows : Knows s k) (i j : ℕ) (hi : i < 128) (hj : j < 128) where
  -- they were one
  pub joined_already : get_or k.roots.of i 0 ≡ get_or k.roots.of j 0 → s ≡ union_values s i j
  joined_already e = sym (union_one s i j hi hj (sym (root-at s k knows i hi) ∙ e ∙ root-at s k knows j hj))

  normal_checked : (t : ConstraintSet) → Checked (normalized t)
  unfolding normalized
  normal_checked t = just_checked _

  -- they were two: the union checks the set
  pub joined_checked : (get_or k.roots.of i 0 ≡ get_or k.roots.of j 0 → ⊥) → u ≡ union_values s i j → Checked u
  joined_checked d e =
      let apart : canonical_at s i ≡ canonical_at s j → ⊥ = λ z. d (root-at s k knows i hi ∙ z ∙ sym (root-at s k knows j hj)) in
      subst Checked (sym (e ∙ union_two s i j hi hj apart)) (normal_checked _)

-- ---- an action recorded at the representative
recorded_beside : (act : Action) (u : ConstraintSet) → Beside u (recorded_in act u)
recorded_beside Nothing u = beside_self u
recorded_beside Contradiction u = beside_flag u u (beside_self u) true
recorded_beside Residual u = beside_self u
recorded_beside (Same i j both) u = cond_T_elim (Beside u) both (add_non_null u i) u (λ t. add_non_null_beside u i) (beside_self u)
recorded_beside (Literal i v) u = add_literal_beside u i v
recorded_beside (Bound i op x) u = add_bound_beside u i op x
recorded_beside (Entry i) u = beside_lay u (put_non_null u (canonical_at u i)) (beside_null u u (beside_self u) (canonical_at u i)) (canonical_at u i)
    unbounded_range

-- the set is checked now, if it was or the action asks for it
abbrev pub with_check : Known → Bool → Known
with_check k b = record k { checked = k.checked || b }

knows_recorded : (u w : ConstraintSet) (k : Known) (act : Action) → Knows u k → Proper act → Long u → w ≡ recorded_in act u
    → Knows w (with_check k (is_checking act))
knows_recorded u w k act knows p long ew = subst (λ (x : ConstraintSet). Knows x (with_check k (is_checking act))) (sym ew) at_once
  where
    low : canonical_at u (first_of act) < 128
    low = canonical_small u.equivalence_classes (first_of act) (canonical_at u (first_of act)) knows.whole refl (first-low act p)

    same : (recorded_in act u).equivalence_classes ≡ u.equivalence_classes
    same = (recorded_beside act u).classes

    at_once : Knows (recorded_in act u) (with_check k (is_checking act))
    at_once = record {
      whole = subst Whole (sym same) knows.whole;
      rooted = knows.rooted ∙ ap roots_of (sym same);
      settles = λ e. recorded-settled u (knows.settles e) act p (canonical_at u (first_of act)) low refl;
      told = recorded-checked u long k.checked act p low knows.told;
    }

-- ---- a handle kept
module _ (k : Known) where
  knows_listed : (w : ConstraintSet) (l : List ℕ) (n : ℕ) → Knows w k → Knows (with_residuals w l n) k
  knows_listed w l n knows = record {
    whole = knows.whole;
    rooted = knows.rooted;
    settles = λ e. let g = knows.settles e in record {
      many = g.many;
      ok = g.ok;
      nulls = g.nulls;
      equal = g.equal;
      within = g.within;
      quiet = g.quiet;
      checked = g.checked;
    };
    told = knows.told;
  }

  knows_pushed : (w : ConstraintSet) (h : ℕ) → Knows w k → Knows (push_residual w h) k
  unfolding push_residual
  knows_pushed w h knows =
      let more = with_residuals w (set (handles w) w.residuals h) (w.residuals + 1) in
      cond_T_elim (λ (t : ConstraintSet). Knows t k) (has_handle w h) w (cond (ltb w.residuals 64) more w) (λ t. knows)
      (cond_T_elim (λ (t : ConstraintSet). Knows t k) (ltb w.residuals 64) more w (λ t. knows_listed w _ _ knows) knows)

  abbrev Known_of : Applied → Type 0
  Known_of a = Knows a.constraints k

  knows_kept : (w : ConstraintSet) (h : ℕ) (residual : Bool) (a : Applied) → a ≡ cond residual (add_residual w h) (done w) → Knows w k
      → Knows a.constraints k
  unfolding add_residual
  knows_kept w h residual a e knows =
      subst Known_of (sym e)
      (cond_T_elim Known_of residual (cond (room_for w h) (done (push_residual w h)) (refused_with w)) (done w)
      (λ t. cond_T_elim Known_of (room_for w h) (done (push_residual w h)) (refused_with w) (λ u. knows_pushed w h knows) knows) knows)

-- ---- both, as the code leaves them
pub knows_after : (u w v : ConstraintSet) (k : Known) (act : Action) (h : ℕ) (b : Bool) (r : Result (Unit {0}) ConstraintError) → Knows u k → Proper act
    → Long u → w ≡ recorded_in act u → b ≡ is_checking act → applied v r ≡ cond (is_residual act) (add_residual w h) (done w)
    → Knows v (record k { checked = k.checked || b })
knows_after u w v k act h b r knows p long ew eb ev =
    knows_kept (record k { checked = k.checked || b }) w h (is_residual act) (applied v r) ev
    (subst (λ (x : Bool). Knows w (record k { checked = k.checked || x })) (sym eb) (knows_recorded u w k act knows p long ew))

-- what `join_known` makes of a pair
pub ruleset pair_joined = (joined_already, joined_checked)
