-- A good set keeps the rules, and a set that keeps them is good where its arrays hold what their types say and its bounds are numbers. Assumes nothing.
use mathlib.Core.Path.{◌≡◌, sym, subst}
use mathlib.Core.Bool.{true, not, cond, ◌&&◌}
use Prim.Native.Nat.{ℕ, ◌+◌, ◌≤◌, ◌<◌, min}
use native.Mathlib.Decide.{ℕ_discrete}
use native.Mathlib.Omega.{arith}
use borrow.Author.Tests.{le-leb, leb-true}
use lib.Dec.{leb, ltb, eqb, ltb→lt}
use lib.ListN.{length, set}
use Rattle.value_classes.specs.Classes.{Whole, Falling, classes_ok, joined_classes}
use Rattle.value_classes.proofs.ClassLaws.{falling, falling-ok, joined-whole, joined-falling}
use Rattle.constraint_spec.specs.Sets.{classes_of, non_nulls, literals, handles, non_null_at, literal_at, entry_at, handle_at, canonical_at}
use Rattle.laws.proofs.Bools.{and_left, and_right, and_both, cond_T_elim}
use Rattle.constraint_spec.specs.Sets.{with_classes, with_residuals, flag_if, set_ok, put_non_null, lay_range, normalized, union_values, add_literal}
use Rattle.constraint_spec.specs.Sets.{has_handle, push_residual, join_member, join_class, merge_literal, merge_range, merge_non_null, merge_residual}
use Rattle.constraint_spec.specs.Sets.{merge_classes, merge_literals, merge_ranges, merge_non_nulls, merge_residuals, merged_set}
use Rattle.constraint_spec.specs.Meets.{SoundHolder, SoundEntry, Good}
use Rattle.constraint_spec.specs.declared.ConstraintSet.{ConstraintSet}
use Rattle.constraint_spec.proofs.Steps.{steps-good}
use Rattle.constraint_spec.proofs.Beside.{Beside, beside_self, beside_null, beside_lay, beside_normalized, add_literal_beside}
use Rattle.constraint_spec.proofs.Operations.{union_one, union_two}

pub good-ok : (s : ConstraintSet) → Good s → set_ok s ≡ true
unfolding set_ok
good-ok s g = and_both (classes_ok (classes_of s)) (leb s.residuals 64) (falling-ok (classes_of s) g.fall) (le-leb _ _ g.few)

pub ok-falls : (s : ConstraintSet) → set_ok s ≡ true → Falling (classes_of s)
unfolding set_ok
ok-falls s e = falling (classes_of s) (and_left (classes_ok (classes_of s)) (leb s.residuals 64) e)

pub ok-few : (s : ConstraintSet) → set_ok s ≡ true → s.residuals ≤ 64
unfolding set_ok
ok-few s e = leb-true _ _ (and_right (classes_ok (classes_of s)) (leb s.residuals 64) e)

-- what the types of the arrays say
pub record Shaped (s : ConstraintSet) : Type 0 where
  pub long : Whole (classes_of s)
  pub nulls_long : length (non_nulls s) ≡ 128
  pub literals_long : length (literals s) ≡ 128
  pub ranges_long : length s.ranges ≡ 128
  pub handles_long : length (handles s) ≡ 64
  pub typed : (i : ℕ) → i < 128 → SoundHolder (literal_at s i)

pub ok-good : (s : ConstraintSet) → set_ok s ≡ true → Shaped s → ((i : ℕ) → i < 128 → SoundEntry (entry_at s i)) → Good s
ok-good s e h n = record {
  long = h.long;
  fall = ok-falls s e;
  nulls_long = h.nulls_long;
  literals_long = h.literals_long;
  ranges_long = h.ranges_long;
  handles_long = h.handles_long;
  few = ok-few s e;
  typed = h.typed;
  sound = n;
}

-- ---- what keeps the rules stays so, good or not
abbrev pub Ruled : ConstraintSet → Type 0
Ruled s = Whole (classes_of s) × Falling (classes_of s) × (s.residuals ≤ 64)

pub ruled : (s : ConstraintSet) → Whole (classes_of s) → set_ok s ≡ true → Ruled s
ruled s l e = (l, ok-falls s e, ok-few s e)

pub ruled-ok : (s : ConstraintSet) → Ruled s → set_ok s ≡ true
unfolding set_ok
ruled-ok s r = and_both (classes_ok (classes_of s)) (leb s.residuals 64) (falling-ok (classes_of s) r.1) (le-leb _ _ r.2)

pub ruled_beside : (s t : ConstraintSet) → Beside s t → Ruled s → Ruled t
ruled_beside s t b r = (
  subst Whole (sym b.classes) r.0,
  subst Falling (sym b.classes) r.1,
  subst (λ (n : ℕ). n ≤ 64) (sym b.count) r.2,
)

pub ruled-normalized : (s : ConstraintSet) → Ruled s → Ruled (normalized s)
ruled-normalized s r = ruled_beside s (normalized s) (beside_normalized s s (beside_self s)) r

-- a union of two identities keeps the rules. Assumes that the set keeps them
pub ruled_union : (s : ConstraintSet) (i j : ℕ) → i < 128 → j < 128 → Ruled s → Ruled (union_values s i j)
ruled_union s i j hi hj r = elim (ℕ_discrete (canonical_at s i) (canonical_at s j)) [
  | yes e ↦ subst Ruled (sym (union_one s i j hi hj e)) r
  | no d ↦ subst Ruled (sym (union_two s i j hi hj d))
      (ruled-normalized (with_classes s (joined_classes (classes_of s) i j))
      (joined-whole (classes_of s) i j r.0, joined-falling (classes_of s) r.0 r.1 i j hi hj, r.2))
]

pub ruled-residual : (s : ConstraintSet) (h : ℕ) → Ruled s → Ruled (push_residual s h)
unfolding push_residual
ruled-residual s h r =
    cond_T_elim Ruled (has_handle s h) s (cond (ltb s.residuals 64) (with_residuals s (set (handles s) s.residuals h) (s.residuals + 1)) s) (λ t. r)
    (cond_T_elim Ruled (ltb s.residuals 64) (with_residuals s (set (handles s) s.residuals h) (s.residuals + 1)) s
    (λ t. (r.0, r.1, omega (arith, ltb→lt s.residuals 64 t))) r)

-- and so does a merge, whatever is merged. Assumes that the first set keeps them
pub ruled-merged : (a b : ConstraintSet) → Ruled a → Ruled (merged_set a b)
unfolding merged_set merge_residuals merge_non_nulls merge_ranges merge_literals merge_classes
ruled-merged a b ra =
    ruled-normalized _
    (steps-good Ruled (merge_residual (handles b)) (min b.residuals 64) (λ k h t r. ruled-residual t (handle_at b k) r) (min b.residuals 64) (omega
    arith) _
    (steps-good Ruled (merge_non_null (non_nulls b)) 128
    (λ i h t r. cond_T_elim Ruled (non_null_at b i) (put_non_null t i) t (λ c. ruled_beside t (put_non_null t i) (beside_null t t (beside_self t) i)
    r) r) 128
    (omega arith) _
    (steps-good Ruled (merge_range b.ranges) 128
    (λ i h t r. cond_T_elim Ruled (entry_at b i).present (lay_range t (canonical_at t i) (entry_at b i).range) t
    (λ c. ruled_beside t (lay_range t (canonical_at t i) (entry_at b i).range) (beside_lay t t (beside_self t) (canonical_at t i) (entry_at b
    i).range) r) r) 128
    (omega arith) _
    (steps-good Ruled (merge_literal (literals b)) 128
    (λ i h t r. cond_T_elim Ruled (literal_at b i).present (add_literal t i (literal_at b i).value) t
    (λ c. ruled_beside t (add_literal t i (literal_at b i).value) (add_literal_beside t i (literal_at b i).value) r) r) 128 (omega arith) _
    (steps-good Ruled (join_class b.equivalence_classes) 128
    (λ q hq t r. steps-good Ruled (join_member b.equivalence_classes q) 128
    (λ i hi u w. cond_T_elim Ruled (eqb (canonical_at b i) q && not (eqb i q)) (union_values u q i) u (λ c. ruled_union u q i hq hi w) w) 128 (omega
    arith) t r)
    128 (omega arith) (flag_if b.contradictory a) ra)))))
