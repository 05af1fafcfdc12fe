-- A literal that was applied before, applied once more before another action or only after it: the set is one, or again one to which the literal is
-- applied once
-- more. Assumes nothing.
use Prim.Native.Nat.{ℕ, ◌+◌, ◌<◌}
use mathlib.Core.Path.{◌≡◌, refl, sym, ap, ◌∙◌, subst}
use mathlib.Core.Bool.{Bool, true, false, cond, ◌||◌}
use mathlib.Core.List.{List}
use mathlib.Core.Logic.{◌⊎◌, inl, inr}
use native.Mathlib.Omega.{arith}
use lib.Dec.{ltb}
use lib.ListN.{set}
use lib.Seq.{get_or-set_same}
use Rattle.scalar.specs.Scalars.{same_scalar, holds_nan}
use Rattle.scalar.specs.declared.ScalarValue.{ScalarValue}
use Rattle.scalar.proofs.ScalarLaws.{same_left}
use Rattle.value_classes.proofs.ClassLaws.{canonical_small}
use Rattle.constraint_spec.specs.Sets.{none, held, classes_of, non_nulls, literals, handles, literal_at, with_values, with_literals, with_flag}
use Rattle.constraint_spec.specs.Sets.{with_residuals, has_handle}
use Rattle.constraint_spec.specs.Sets.{canonical_at, clashes, push_residual, add_literal, add_residual, applied_of, done, refused_with}
use Rattle.constraint_spec.specs.declared.Holder.{Holder}
use Rattle.constraint_spec.specs.declared.ConstraintSet.{ConstraintSet}
use Rattle.constraint_spec.specs.Answers.{Applied}
use Rattle.constraint_normal.specs.Ready.{Ready}
use Rattle.apply_action.specs.Actions.{acted, first_of, is_residual, recorded_in, Proper, joined_by}
use Rattle.apply_action.specs.Cells.{cell_of, with_cell, flagged_cell, cell_after}
use Rattle.apply_action.specs.declared.Action.{Action}
use Rattle.apply_action.specs.declared.Action.TheVariants.{Nothing, Contradiction, Residual, Same, Literal, Bound, Entry}
use Rattle.apply_action.specs.declared.Cell.{Cell}
use Rattle.apply_action.proofs.CellLaws.{acted-is}
use Rattle.apply_shared_laws.specs.Has.{Numbered, Has}
use Rattle.apply_shared_laws.proofs.Growing.{true-of-and-not-false}
use Rattle.apply_shared_laws.proofs.Recording.{recorded-is, recorded_ready}
use Rattle.apply_shared_laws.proofs.HandleKept.{added-so}
use Rattle.apply_shared_laws.proofs.ActedTwice.{joined_ready, acted-so, acted_ready, acted-keeps, acted-has}
use Rattle.apply_shared_laws.proofs.SameLiterals.{flag-through}
use Rattle.apply_shared_laws.proofs.LaidSets.{set_twice, laid, clash-form, same-form, nan-clashes, Passed, recorded-passes}
use Rattle.apply_shared_laws.proofs.LaidJoins.{union_passes, union_flagged}

-- what an action makes of a set, but for the residual
abbrev whole : Action → ConstraintSet → ConstraintSet
whole act q = recorded_in act (joined_by act q)

-- ---- in a set with the flag
flag_ready : (s : ConstraintSet) → Ready s → Ready (with_flag s true)
flag_ready s rd = recorded_ready s rd Contradiction (omega arith) (omega arith)

joined-flagged : (act : Action) (s : ConstraintSet) → Proper act → Ready s → joined_by act (with_flag s true) ≡ with_flag (joined_by act s) true
joined-flagged Nothing s p rd = refl
joined-flagged Contradiction s p rd = refl
joined-flagged Residual s p rd = refl
joined-flagged (Same i j both) s p rd = union_flagged s rd (flag_ready s rd) i j p.0 p.1
joined-flagged (Literal i v) s p rd = refl
joined-flagged (Bound i op x) s p rd = refl
joined-flagged (Entry i) s p rd = refl

recorded-flagged : (act : Action) (u : ConstraintSet) → Proper act → Ready u → recorded_in act (with_flag u true) ≡ with_flag (recorded_in act u) true
recorded-flagged act u p rd =
    let q = canonical_at u (first_of act) in
    sym (recorded-is (with_flag u true) (flag_ready u rd) act p) ∙ ap (with_cell (with_flag u true) q) (flag-through act (cell_of u q)) ∙ written q
    (cell_after (cell_of u q) act)
    ∙ ap (λ (z : ConstraintSet). with_flag z true) (recorded-is u rd act p)
  where
    written : (q : ℕ) (d : Cell) → with_cell (with_flag u true) q (flagged_cell d) ≡ with_flag (with_cell u q d) true
    written q d = unfold with_cell in refl

whole-flagged : (act : Action) (s : ConstraintSet) → Proper act → Ready s → whole act (with_flag s true) ≡ with_flag (whole act s) true
whole-flagged act s p rd = ap (recorded_in act) (joined-flagged act s p rd) ∙ recorded-flagged act (joined_by act s) p (joined_ready act s p rd)

-- ---- in a set with a literal that is the same
module _ (x v : ScalarValue) (same : same_scalar x v ≡ true) (i : ℕ) (low : i < 128) (s : ConstraintSet) (rd : Ready s)
    (rt : Ready (laid s (canonical_at s i) v)) (e : literal_at s (canonical_at s i) ≡ held x) where
  abbrev laid_in : ConstraintSet
  laid_in = laid s (canonical_at s i) v

  joined-passes : (act : Action) → Proper act → Passed x v same i (joined_by act s) (joined_by act laid_in)
  joined-passes Nothing p = inr (e, refl)
  joined-passes Contradiction p = inr (e, refl)
  joined-passes Residual p = inr (e, refl)
  joined-passes (Same j k both) p = union_passes x v same i s rd rt e j k p.0 p.1
  joined-passes (Literal j w) p = inr (e, refl)
  joined-passes (Bound j op y) p = inr (e, refl)
  joined-passes (Entry j) p = inr (e, refl)

  whole-passes : (act : Action) → Proper act → Passed x v same i (whole act s) (whole act laid_in)
  whole-passes act p = elim (joined-passes act p) [
    | inl z ↦ inl (ap (recorded_in act) z)
    | inr z ↦ subst (λ (q : ConstraintSet). Passed x v same i (whole act s) (recorded_in act q)) (sym z.1)
        (recorded-passes x v same i u u_ready (subst Ready z.1 (joined_ready act laid_in p rt))
        (canonical_small (classes_of u) i (canonical_at u i) u_ready.settled.many refl low) z.0 act p)
  ]
    where
      u : ConstraintSet
      u = joined_by act s

      u_ready : Ready (joined_by act s)
      u_ready = joined_ready act s p rd

-- ---- other literals and another flag do not change what is residual
abbrev edited : (List Holder → List Holder) → (Bool → Bool) → ConstraintSet → ConstraintSet
edited g f w = with_values w (classes_of w) (non_nulls w) (g (literals w)) w.ranges (f w.contradictory)

module _ (g : List Holder → List Holder) (f : Bool → Bool) where
  abbrev on_set : Applied → Applied
  on_set a = applied_of (edited g f a.constraints) a.refused

  residual-edited : (w : ConstraintSet) (h : ℕ) → add_residual (edited g f w) h ≡ on_set (add_residual w h)
  unfolding add_residual push_residual
  residual-edited w h = go (has_handle w h) (ltb w.residuals 64)
    where
      added : ConstraintSet → Bool → Bool → Applied
      added z a b = cond (a || b) (done (cond a z (cond b (with_residuals z (set (handles z) z.residuals h) (z.residuals + 1)) z))) (refused_with z)

      go : (a b : Bool) → added (edited g f w) a b ≡ on_set (added w a b)
      go true b = refl
      go false true = refl
      go false false = refl

  acted-edited : (act : Action) (s t : ConstraintSet) (h : ℕ) → whole act t ≡ edited g f (whole act s) → acted act t h ≡ on_set (acted act s h)
  acted-edited act s t h e =
      acted-is act t h ∙ ap (λ (z : ConstraintSet). cond (is_residual act) (add_residual z h) (done z)) e ∙ go (is_residual act) ∙ ap on_set
      (sym (acted-is act s h))
    where
      go : (b : Bool) → cond b (add_residual (edited g f (whole act s)) h) (done (edited g f (whole act s))) ≡ on_set
          (cond b (add_residual (whole act s) h) (done (whole act s)))
      go true = residual-edited (whole act s) h
      go false = refl

-- ---- a literal in a set that has it
module _ (i : ℕ) (v : ScalarValue) (pa : Proper (Literal i v)) (n : ℕ) where
  abbrev pub again : ConstraintSet → ConstraintSet
  again q = add_literal q i v

  abbrev Known : ConstraintSet → Type 0
  Known q = Has (Literal i v) n q

  again_ready : (q : ConstraintSet) → Ready q → Ready (again q)
  again_ready q rd = recorded_ready q rd (Literal i v) pa (omega arith)

  -- it sets the flag, or is put in the place of one that is the same
  nan-again : (q : ConstraintSet) → Ready q → Known q → holds_nan v ≡ true → again q ≡ with_flag q true
  nan-again q rd k z = clash-form q rd i v pa k.cell.0 (nan-clashes q rd i v pa z k.cell.1.0)

  module _ (s : ConstraintSet) (rd : Ready s) (known : Known s) where
    abbrev r : ℕ
    r = canonical_at s i

    abbrev x : ScalarValue
    x = (literal_at s r).value

    literal-is : literal_at s r ≡ held x
    literal-is = λ k. record { present = known.cell.1.0 k; value = x }

    same-again : same_scalar x v ≡ true → again s ≡ laid s r v
    same-again e = same-form s rd i v pa known.cell.0 x e literal-is

    -- the three cases
    by_cases : (P : Type 0) → (again s ≡ s → P) → (holds_nan v ≡ true → P) → (same_scalar x v ≡ true → P) → P
    by_cases P idle nan same = elim known.cell.1.1 [
      | inl z ↦ elim z [ inl e ↦ same e | inr e ↦ nan e ]
      | inr z ↦ go z (clashes (literal_at s r) v) refl
    ]
      where
        go : s.contradictory ≡ true → (b : Bool) → clashes (literal_at s r) v ≡ b → P
        go z true e = idle (clash-form s rd i v pa known.cell.0 e ∙ (λ k. with_flag s (sym z k)))
        go z false e = same (true-of-and-not-false (literal_at s r).present (same_scalar x v) known.cell.1.0 e)

    laid_ready : same_scalar x v ≡ true → Ready (laid s r v)
    laid_ready e = subst Ready (same-again e) (again_ready s rd)

    -- twice is once
    pub again-twice : again (again s) ≡ again s
    again-twice = by_cases (again (again s) ≡ again s) (ap again)
        (λ z. nan-again (again s) (again_ready s rd) (acted-has (Literal i v) pa (omega arith) s rd n refl) z ∙ ap (λ (q : ConstraintSet). with_flag q true)
        (nan-again s rd known z) ∙ sym (nan-again s rd known z))
        (λ e. ap again (same-again e) ∙ laid-again e ∙ sym (same-again e))
      where
        low : r < 128
        low = canonical_small (classes_of s) i r rd.settled.many refl pa.0

        laid-again : same_scalar x v ≡ true → again (laid s r v) ≡ laid s r v
        laid-again e =
            same-form (laid s r v) (laid_ready e) i v pa known.cell.0 v (sym (same_left x v e v) ∙ e)
            (get_or-set_same (literals s) r (held v) none (omega (arith, low, rd.settled.equal.long)))
            ∙ ap (with_literals s) (set_twice (literals s) r (held v) (held v))

    -- ---- and another action
    module _ (act : Action) (p : Proper act) (a : Numbered act) (h : ℕ) where
      -- both are refused, or both are one, or the literal can be applied after it
      abbrev pub Next : Applied → Applied → Type 0
      Next d d' = ((d.refused ≡ true) × (d'.refused ≡ true)) ⊎ ((d' ≡ d) ⊎ ((d.refused ≡ false) × (d' ≡ done (again d.constraints))))

      abbrev d : Applied
      d = acted act s h

      abbrev z : ConstraintSet
      z = d.constraints

      module _ (e : d.refused ≡ false) where
        z_ready : Ready z
        z_ready = acted_ready act p a s rd h e

        z_known : Known z
        z_known = acted-keeps act p a s rd h (Literal i v) n pa known e

      next-edited : (g : List Holder → List Holder) (f : Bool → Bool) (t : ConstraintSet) → acted act t h ≡ on_set g f d
          → (d.refused ≡ false → again z ≡ edited g f z) → Next d (acted act t h)
      next-edited g f t path form = go d.refused refl
        where
          go : (b : Bool) → d.refused ≡ b → Next d (acted act t h)
          go true e = inl (e, ap (λ (q : Applied). q.refused) path ∙ e)
          go false e = inr (inr (e, path ∙ (λ k. applied_of (sym (form e) k) (e k))))

      next-nan : holds_nan v ≡ true → Next d (acted act (with_flag s true) h)
      next-nan y =
          next-edited (λ (m : List Holder). m) (λ (b : Bool). true) (with_flag s true)
          (acted-edited (λ (m : List Holder). m) (λ (b : Bool). true) act s (with_flag s true) h (whole-flagged act s p rd))
          (λ e. nan-again z (z_ready e) (z_known e) y)

      next-same : same_scalar x v ≡ true → Next d (acted act (laid s r v) h)
      next-same y = elim (whole-passes x v y i pa.0 s rd (laid_ready y) literal-is act p) [
        | inl q ↦ inr
            (inl (acted-is act (laid s r v) h ∙ ap (λ (w : ConstraintSet). cond (is_residual act) (add_residual w h) (done w)) q ∙ sym (acted-is act s h)))
        | inr q ↦ next-edited put (λ (b : Bool). b) (laid s r v) (acted-edited put (λ (b : Bool). b) act s (laid s r v) h q.1) (λ e. form q.0 e)
      ]
        where
          k : ℕ
          k = canonical_at (whole act s) i

          put : List Holder → List Holder
          put m = set m k (held v)

          Stays : ConstraintSet → Type 0
          Stays w = (canonical_at w i ≡ k) × (literal_at w k ≡ held x)

          form : literal_at (whole act s) k ≡ held x → d.refused ≡ false → again z ≡ laid z k v
          form l e =
              let st : Stays z = acted-so act p a s rd h Stays (λ y. (refl, l)) (added-so (whole act s) h Stays (λ y. (refl, l)) (λ y. (refl, l))) e in
              same-form z (z_ready e) i v pa (z_known e).cell.0 x y (ap (literal_at z) st.0 ∙ st.1) ∙ ap (λ (m : ℕ). laid z m v) st.0

      pub next : Next d (acted act (again s) h)
      next = by_cases (Next d (acted act (again s) h))
          (λ e. inr (inl (ap (λ (q : ConstraintSet). acted act q h) e)))
          (λ e. subst (λ (q : ConstraintSet). Next d (acted act q h)) (sym (nan-again s rd known e)) (next-nan e))
          (λ e. subst (λ (q : ConstraintSet). Next d (acted act q h)) (sym (same-again e)) (next-same e))
