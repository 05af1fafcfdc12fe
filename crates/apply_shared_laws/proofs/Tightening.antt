-- A bound that a range does not take it does not take when it is tightened, nor does a range that is tightened by one that does not take it; and what
-- a range has taken it does not take again. One law for both ends. Assumes nothing.
use mathlib.Core.Path.{◌≡◌, refl, sym, ap, ◌∙◌, subst}
use mathlib.Core.Bool.{Bool, true, false, not, cond, ◌&&◌, ◌||◌, true≢false, false≢true}
use mathlib.Core.Logic.{◌⊎◌, inl, inr}
use lib.Ieee.{Float, is_nan, lt, eq}
use Rattle.laws.proofs.Bools.{and_left, and_right, and_both, or_cases, ne-false-of-true, cond-apply, cond_T_elim}
use Rattle.scalar.proofs.FloatLaws.{eq_comm, eq-left, lt-left, lt-right, lt-self, lt_trans, lt-total}
use Rattle.value_range.specs.Ranges.{no_bound, bound_at, unbounded_range, takes_lower, takes_upper, tighten_lower, tighten_upper}
use Rattle.value_range.specs.declared.Bound.{Bound}
use Rattle.value_range.specs.declared.ValueRange.{ValueRange}
use Rattle.comparison.specs.declared.BinaryOp.{BinaryOp}
use Rattle.comparison.specs.declared.BinaryOp.TheVariants.{Eq, NotEq, Lt, LtEq, Gt, GtEq, IsNotDistinctFrom}
use Rattle.constraint_spec.specs.Sets.{lower_by, upper_by, tighten_by, bounds_by}
use Rattle.constraint_normal.specs.Ready.{Comparable}
use Rattle.apply_shared_laws.specs.Has.{taken_by}

-- ---- tests
neither : (a b : Bool) → (a ≡ true → ⊥) → (b ≡ true → ⊥) → (a || b) ≡ false
neither true b f g = absurd (f refl)
neither false true f g = absurd (g refl)
neither false false f g = refl

-- ---- an order of floats, upwards or downwards: F a b says that b is tighter than a
record Tighter (F : Float → Float → Bool) : Type 0 where
  pub through : (x y z : Float) → F x y ≡ true → F y z ≡ true → F x z ≡ true
  pub from : (x y z : Float) → eq x y ≡ true → F x z ≡ F y z
  pub to : (x y z : Float) → eq x y ≡ true → F z x ≡ F z y
  pub self : (x : Float) → F x x ≡ false
  pub total : (x y : Float) → is_nan x ≡ false → is_nan y ≡ false → F x y ≡ false → (eq y x ≡ true) ⊎ (F y x ≡ true)

ordered : (x y : Float) → is_nan x ≡ false → is_nan y ≡ false → lt x y ≡ false → (eq x y ≡ true) ⊎ (lt y x ≡ true)
ordered x y p q n = or_cases (eq x y) (lt y x) (sym (ap (λ (b : Bool). b || (eq x y || lt y x)) n) ∙ lt-total x y p q)

turned : {X : Type 0} (x y : Float) → (eq x y ≡ true) ⊎ X → (eq y x ≡ true) ⊎ X
turned x y (inl e) = inl (eq_comm y x ∙ e)
turned x y (inr k) = inr k

upwards : Tighter lt
upwards = record { through = lt_trans; from = lt-left; to = lt-right; self = lt-self; total = λ x y p q n. turned x y (ordered x y p q n) }

downwards : Tighter (λ (x y : Float). lt y x)
downwards = record { through = λ x y z h k. lt_trans z y x k h; from = lt-right; to = lt-left; self = lt-self; total = λ x y p q n. ordered y x q p n }

-- ---- one end of a range
module _ (F : Float → Float → Bool) (o : Tighter F) where
  abbrev takes : Bound → Float → Bool → Bool
  takes b v i = not b.present || (F b.value v || (eq v b.value && (b.inclusive && not i)))

  -- the end after v came
  abbrev after : Bound → Float → Bool → Bound
  after b v i = cond (takes b v i) (bound_at v i) b

  record Loose (b : Bound) (v : Float) (i : Bool) : Type 0 where
    pub there : b.present ≡ true
    pub not-over : F b.value v ≡ false
    pub not_at : (eq v b.value && (b.inclusive && not i)) ≡ false

  loose : (b : Bound) (v : Float) (i : Bool) → takes b v i ≡ false → Loose b v i
  loose b v i e = go b.present (F b.value v) _ refl refl refl e
    where
      go : (p l q : Bool) → b.present ≡ p → F b.value v ≡ l → (eq v b.value && (b.inclusive && not i)) ≡ q → (not p || (l || q)) ≡ false → Loose b v i
      go true true q ep el eq z = absurd (true≢false z)
      go true false q ep el eq z = record { there = ep; not-over = el; not_at = eq ∙ z }
      go false l q ep el eq z = absurd (true≢false z)

  -- what was taken does not come in again
  taken-once : (b : Bound) (v : Float) (i : Bool) → takes (after b v i) v i ≡ false
  taken-once b v i = go (takes b v i) refl
    where
      both : (w : Bool) → (w && not w) ≡ false
      both true = refl
      both false = refl

      go : (t : Bool) → takes b v i ≡ t → takes (cond t (bound_at v i) b) v i ≡ false
      go true e = neither (F v v) _ (λ h. ne-false-of-true _ h (o.self v)) (λ h. ne-false-of-true _ (and_right (eq v v) (i && not i) h) (both i))
      go false e = e

  -- what is not taken is not taken by a tighter end
  stays_out : (b : Bound) (v : Float) (j : Bool) (x : Float) (i : Bool) → takes b x i ≡ false → takes (after b v j) x i ≡ false
  stays_out b v j x i e = go (takes b v j) refl
    where
      l : Loose b x i
      l = loose b x i e

      over : F b.value v ≡ true → takes (bound_at v j) x i ≡ false
      over h = neither (F v x) _
          (λ k. ne-false-of-true _ (o.through b.value v x h k) l.not-over)
          (λ k. ne-false-of-true _ (o.to x v b.value (and_left (eq x v) (j && not i) k) ∙ h) l.not-over)

      at : (eq v b.value && (b.inclusive && not j)) ≡ true → takes (bound_at v j) x i ≡ false
      at h = neither (F v x) _
          (λ k. ne-false-of-true _ (sym (o.from v b.value x (and_left (eq v b.value) (b.inclusive && not j) h)) ∙ k) l.not-over)
          (λ k. no_two j (and_left j (not i) (and_right (eq x v) (j && not i) k))
          (and_right b.inclusive (not j) (and_right (eq v b.value) (b.inclusive && not j) h)))
        where
          no_two : (w : Bool) → w ≡ true → not w ≡ true → ⊥
          no_two true p q = false≢true q
          no_two false p q = false≢true p

      come : (p : Bool) → b.present ≡ p → (not p || (F b.value v || (eq v b.value && (b.inclusive && not j)))) ≡ true → takes (bound_at v j) x i ≡ false
      come false ep z = absurd (ne-false-of-true _ l.there ep)
      come true ep z = elim (or_cases (F b.value v) (eq v b.value && (b.inclusive && not j)) z) [ inl h ↦ over h | inr h ↦ at h ]

      go : (t : Bool) → takes b v j ≡ t → takes (cond t (bound_at v j) b) x i ≡ false
      go true t = come b.present refl t
      go false t = e

  -- what a bound c does not take b does not take either, if b does not take c
  module _ (b c : Bound) (x : Float) (i : Bool) (sb : Comparable b) (sc : Comparable c) (l : Loose c x i) (m : Loose b c.value c.inclusive) where
    -- c is at b, or b is over it
    side : (eq c.value b.value ≡ true) ⊎ (F c.value b.value ≡ true)
    side = o.total b.value c.value (sb m.there) (sc l.there) m.not-over

    through_b : F b.value x ≡ true → ⊥
    through_b k = elim side [
      | inl q ↦ ne-false-of-true _ (o.from c.value b.value x q ∙ k) l.not-over
      | inr q ↦ ne-false-of-true _ (o.through c.value b.value x q k) l.not-over
    ]

    at_c : eq c.value b.value ≡ true → eq x b.value ≡ true → (b.inclusive && not i) ≡ true → ⊥
    at_c q z k = go c.inclusive refl
      where
        x_c : eq x c.value ≡ true
        x_c = eq_comm x c.value ∙ eq-left c.value b.value x q ∙ eq_comm b.value x ∙ z

        go : (w : Bool) → c.inclusive ≡ w → ⊥
        go true e = ne-false-of-true _ (and_both _ _ x_c (and_both _ _ e (and_right b.inclusive (not i) k))) l.not_at
        go false e = ne-false-of-true _ (and_both _ _ q (and_both _ _ (and_left b.inclusive (not i) k) (ap not e))) m.not_at

    at_b : (eq x b.value && (b.inclusive && not i)) ≡ true → ⊥
    at_b k = elim side [
      | inl q ↦ at_c q (and_left (eq x b.value) (b.inclusive && not i) k) (and_right (eq x b.value) (b.inclusive && not i) k)
      | inr q ↦ ne-false-of-true _ (o.to x b.value c.value (and_left (eq x b.value) (b.inclusive && not i) k) ∙ q) l.not-over
    ]

    out : takes b x i ≡ false
    out = ap (λ (p : Bool). not p || (F b.value x || (eq x b.value && (b.inclusive && not i)))) m.there ∙ neither (F b.value x) _ through_b at_b

  -- what a bound c does not take is not taken where c came. Assumes that neither is a NaN
  comes-out : (b c : Bound) (x : Float) (i : Bool) → Comparable b → Comparable c → takes c x i ≡ false → takes (after b c.value c.inclusive) x i ≡ false
  comes-out b c x i sb sc e = go (takes b c.value c.inclusive) refl
    where
      l : Loose c x i
      l = loose c x i e

      go : (t : Bool) → takes b c.value c.inclusive ≡ t → takes (cond t (bound_at c.value c.inclusive) b) x i ≡ false
      go true t = ap (λ (q : Bool). not q || (F c.value x || (eq x c.value && (c.inclusive && not i)))) (sym l.there) ∙ e
      go false t = out b c x i sb sc l (loose b c.value c.inclusive t)

-- ---- both ends
-- a range that is tightened below keeps its upper end, and the other way round
lower_upper : (t : ValueRange) (b : Bound) → (lower_by t b).upper ≡ t.upper
lower_upper t b =
    cond_T_elim (λ (r : ValueRange). r.upper ≡ t.upper) b.present (tighten_lower t b.value b.inclusive) t
    (λ p. cond_T_elim (λ (r : ValueRange). r.upper ≡ t.upper) (takes_lower t.lower b.value b.inclusive)
    (record { lower = bound_at b.value b.inclusive; upper = t.upper }) t (λ q. refl) refl) refl

upper_lower : (t : ValueRange) (b : Bound) → (upper_by t b).lower ≡ t.lower
upper_lower t b =
    cond_T_elim (λ (r : ValueRange). r.lower ≡ t.lower) b.present (tighten_upper t b.value b.inclusive) t
    (λ p. cond_T_elim (λ (r : ValueRange). r.lower ≡ t.lower) (takes_upper t.upper b.value b.inclusive)
    (record { lower = t.lower; upper = bound_at b.value b.inclusive }) t (λ q. refl) refl) refl

-- an end with a bound, where there is one
abbrev with_lower : Bound → Bound → Bound
with_lower a b = cond b.present (cond (takes_lower a b.value b.inclusive) (bound_at b.value b.inclusive) a) a

abbrev with_upper : Bound → Bound → Bound
with_upper a b = cond b.present (cond (takes_upper a b.value b.inclusive) (bound_at b.value b.inclusive) a) a

lower-is : (t new : ValueRange) → (tighten_by t new).lower ≡ with_lower t.lower new.lower
lower-is t new =
    upper_lower (lower_by t new.lower) new.upper
    ∙ cond-apply (λ (r : ValueRange). r.lower) b.present (tighten_lower t b.value b.inclusive) t
    ∙ ap (λ (x : Bound). cond b.present x t.lower) (cond-apply (λ (r : ValueRange). r.lower) (takes_lower t.lower b.value b.inclusive)
    (record { lower = bound_at b.value b.inclusive; upper = t.upper }) t)
  where
    b : Bound
    b = new.lower

upper_of : (t : ValueRange) (b : Bound) → (upper_by t b).upper ≡ with_upper t.upper b
upper_of t b =
    cond-apply (λ (r : ValueRange). r.upper) b.present (tighten_upper t b.value b.inclusive) t
    ∙ ap (λ (x : Bound). cond b.present x t.upper) (cond-apply (λ (r : ValueRange). r.upper) (takes_upper t.upper b.value b.inclusive)
    (record { lower = t.lower; upper = bound_at b.value b.inclusive }) t)

upper_is : (t new : ValueRange) → (tighten_by t new).upper ≡ with_upper t.upper new.upper
upper_is t new = upper_of (lower_by t new.lower) new.upper ∙ ap (λ (a : Bound). with_upper a new.upper) (lower_upper t new.lower)

module _ (x : Float) (i : Bool) where
  lower-stays : (a b : Bound) → takes_lower a x i ≡ false → takes_lower (with_lower a b) x i ≡ false
  lower-stays a b e = cond_T_elim (λ (z : Bound). takes_lower z x i ≡ false) b.present (after lt upwards a b.value b.inclusive) a
      (λ p. stays_out lt upwards a b.value b.inclusive x i e) e

  upper_stays : (a b : Bound) → takes_upper a x i ≡ false → takes_upper (with_upper a b) x i ≡ false
  upper_stays a b e = cond_T_elim (λ (z : Bound). takes_upper z x i ≡ false) b.present (after (λ (y z : Float). lt z y) downwards a b.value b.inclusive)
      a (λ p. stays_out (λ (y z : Float). lt z y) downwards a b.value b.inclusive x i e) e

  lower-comes : (a b : Bound) → Comparable a → Comparable b → takes_lower b x i ≡ false → takes_lower (with_lower a b) x i ≡ false
  lower-comes a b sa sb e =
      ap (λ (p : Bool). takes_lower (cond p (after lt upwards a b.value b.inclusive) a) x i) (loose lt upwards b x i e).there
      ∙ comes-out lt upwards a b x i sa sb e

  upper_comes : (a b : Bound) → Comparable a → Comparable b → takes_upper b x i ≡ false → takes_upper (with_upper a b) x i ≡ false
  upper_comes a b sa sb e =
      ap (λ (p : Bool). takes_upper (cond p (after (λ (y z : Float). lt z y) downwards a b.value b.inclusive) a) x i)
      (loose (λ (y z : Float). lt z y) downwards b x i e).there
      ∙ comes-out (λ (y z : Float). lt z y) downwards a b x i sa sb e

  -- the two ends of a range that is tightened
  module _ (r new : ValueRange) where
    lower-kept : takes_lower r.lower x i ≡ false → takes_lower (tighten_by r new).lower x i ≡ false
    lower-kept e = ap (λ (z : Bound). takes_lower z x i) (lower-is r new) ∙ lower-stays r.lower new.lower e

    upper_kept : takes_upper r.upper x i ≡ false → takes_upper (tighten_by r new).upper x i ≡ false
    upper_kept e = ap (λ (z : Bound). takes_upper z x i) (upper_is r new) ∙ upper_stays r.upper new.upper e

    lower-new : Comparable r.lower → Comparable new.lower → takes_lower new.lower x i ≡ false → takes_lower (tighten_by r new).lower x i ≡ false
    lower-new p q e = ap (λ (z : Bound). takes_lower z x i) (lower-is r new) ∙ lower-comes r.lower new.lower p q e

    upper_new : Comparable r.upper → Comparable new.upper → takes_upper new.upper x i ≡ false → takes_upper (tighten_by r new).upper x i ≡ false
    upper_new p q e = ap (λ (z : Bound). takes_upper z x i) (upper_is r new) ∙ upper_comes r.upper new.upper p q e

  lower-once : (r : ValueRange) → takes_lower (tighten_lower r x i).lower x i ≡ false
  lower-once r = ap (λ (z : Bound). takes_lower z x i) (lower-is r (record { lower = bound_at x i; upper = no_bound })) ∙ taken-once lt upwards r.lower x i

  upper_once : (r : ValueRange) → takes_upper (tighten_upper r x i).upper x i ≡ false
  upper_once r = ap (λ (z : Bound). takes_upper z x i) (upper_is r (record { lower = no_bound; upper = bound_at x i })) ∙ taken-once (λ (y z : Float). lt z y)
      downwards r.upper x i

-- ---- the bound of a comparison
abbrev pub BothComparable : ValueRange → Type 0
BothComparable r = Comparable r.lower × Comparable r.upper

-- one that is not taken is not taken after another range came
pub taken-stays : (op : BinaryOp) (x : Float) (r new : ValueRange) → taken_by op x r ≡ false → taken_by op x (tighten_by r new) ≡ false
taken-stays Eq x r new e = refl
taken-stays NotEq x r new e = refl
taken-stays Lt x r new e = upper_kept x false r new e
taken-stays LtEq x r new e = upper_kept x true r new e
taken-stays Gt x r new e = lower-kept x false r new e
taken-stays GtEq x r new e = lower-kept x true r new e
taken-stays IsNotDistinctFrom x r new e = refl

-- nor where the range came that did not take it
pub taken-comes : (op : BinaryOp) (x : Float) (r new : ValueRange) → BothComparable r → BothComparable new → taken_by op x new ≡ false → taken_by op x
    (tighten_by r new) ≡ false
taken-comes Eq x r new p q e = refl
taken-comes NotEq x r new p q e = refl
taken-comes Lt x r new p q e = upper_new x false r new p.1 q.1 e
taken-comes LtEq x r new p q e = upper_new x true r new p.1 q.1 e
taken-comes Gt x r new p q e = lower-new x false r new p.0 q.0 e
taken-comes GtEq x r new p q e = lower-new x true r new p.0 q.0 e
taken-comes IsNotDistinctFrom x r new p q e = refl

-- nor after it came itself
pub taken-once_only : (op : BinaryOp) (x : Float) (r : ValueRange) → taken_by op x (tighten_by r (bounds_by op x)) ≡ false
taken-once_only Eq x r = refl
taken-once_only NotEq x r = refl
taken-once_only Lt x r = upper_once x false r
taken-once_only LtEq x r = upper_once x true r
taken-once_only Gt x r = lower-once x false r
taken-once_only GtEq x r = lower-once x true r
taken-once_only IsNotDistinctFrom x r = refl

-- and it leaves the range as it is
pub not_taken : (op : BinaryOp) (x : Float) (r : ValueRange) → taken_by op x r ≡ false → tighten_by r (bounds_by op x) ≡ r
not_taken Eq x r e = refl
not_taken NotEq x r e = refl
not_taken Lt x r e = ap (λ (t : Bool). cond t (record { lower = r.lower; upper = bound_at x false }) r) e
not_taken LtEq x r e = ap (λ (t : Bool). cond t (record { lower = r.lower; upper = bound_at x true }) r) e
not_taken Gt x r e = ap (λ (t : Bool). cond t (record { lower = bound_at x false; upper = r.upper }) r) e
not_taken GtEq x r e = ap (λ (t : Bool). cond t (record { lower = bound_at x true; upper = r.upper }) r) e
not_taken IsNotDistinctFrom x r e = refl

-- ---- bounds that are no NaN
one-of-both : (t : Bool) (a b : Bound) → Comparable a → Comparable b → Comparable (cond b.present (cond t (bound_at b.value b.inclusive) a) a)
one-of-both t a b p q = go b.present t q
  where
    go : (there t : Bool) → (there ≡ true → is_nan b.value ≡ false) → Comparable (cond there (cond t (bound_at b.value b.inclusive) a) a)
    go true true q = q
    go true false q = p
    go false t q = p

pub comparable_tightened : (r new : ValueRange) → BothComparable r → BothComparable new → BothComparable (tighten_by r new)
comparable_tightened r new p q = (
  subst Comparable (sym (lower-is r new)) (one-of-both (takes_lower r.lower new.lower.value new.lower.inclusive) r.lower new.lower p.0
      q.0),
  subst Comparable (sym (upper_is r new)) (one-of-both (takes_upper r.upper new.upper.value new.upper.inclusive) r.upper new.upper p.1
      q.1),
)

absent : Comparable no_bound
absent e = absurd (false≢true e)

pub comparable_open : BothComparable unbounded_range
comparable_open = (absent, absent)

pub comparable_bounds : (op : BinaryOp) (x : Float) → is_nan x ≡ false → BothComparable (bounds_by op x)
comparable_bounds Eq x h = (absent, absent)
comparable_bounds NotEq x h = (absent, absent)
comparable_bounds Lt x h = (absent, λ e. h)
comparable_bounds LtEq x h = (absent, λ e. h)
comparable_bounds Gt x h = (λ e. h, absent)
comparable_bounds GtEq x h = (λ e. h, absent)
comparable_bounds IsNotDistinctFrom x h = (absent, absent)
