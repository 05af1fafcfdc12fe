-- What the test of one place says of what stands there: away from a representative nothing, and else what a pass would put there. And the
-- other way round: nothing that a ready set has is refused. Assumes nothing.
use mathlib.Core.Path.{◌≡◌, refl, sym, ap, subst, ◌∙◌}
use mathlib.Core.Bool.{Bool, true, false, not, ◌&&◌, ◌||◌, false≢true, true≢false}
use lib.Dec.{T}
use lib.Ieee.{Float, binary64, is_nan, fits}
use borrow.Author.Tests.{not-true}
use Rattle.laws.proofs.Bools.{and_left, and_right, and_both}
use Rattle.scalar.specs.declared.Kind.TheVariants as K
use Rattle.scalar.specs.declared.ScalarValue.{ScalarValue}
use Rattle.scalar.specs.declared.ScalarValue.TheVariants as S
use Rattle.value_range.specs.Ranges.{no_bound, unbounded_range, empty_range}
use Rattle.value_range.specs.declared.Bound.{Bound}
use Rattle.value_range.specs.declared.ValueRange.{ValueRange}
use Rattle.constraint_spec.specs.Sets.{none, no_entry, lower_by, upper_by, tighten_by, crossed}
use Rattle.constraint_spec.specs.declared.Holder.{Holder}
use Rattle.constraint_spec.specs.declared.Entry.{Entry}
use Rattle.constraint_set.specs.Settled.{literal_on, range_on, range_bad}
use Rattle.constraint_normal.specs.Ready.{Comparable, Bounded}
use Rattle.constraint_normal.specs.ReadyPlaces.{blank_scalar, ready_holder, blank_bound, ready_bound, ready_entry, quiet_place, ready_place}
use Rattle.constraint_normal.proofs.Floats.{zero-float, zero_bits}
use Rattle.constraint_normal.specs.Held.{FitsEntry}

-- ---- literals
blank_scalar_lem : (v : ScalarValue) → blank_scalar v ≡ true → v ≡ S.Null K.Boolean
unfolding blank_scalar
blank_scalar_lem (S.Null K.Boolean) e = refl
blank_scalar_lem (S.Null K.Int32) e = absurd (false≢true e)
blank_scalar_lem (S.Null K.Int64) e = absurd (false≢true e)
blank_scalar_lem (S.Null K.Float64) e = absurd (false≢true e)
blank_scalar_lem (S.Null K.Date32) e = absurd (false≢true e)
blank_scalar_lem (S.Boolean b) e = absurd (false≢true e)
blank_scalar_lem (S.Int32 n) e = absurd (false≢true e)
blank_scalar_lem (S.Int64 n) e = absurd (false≢true e)
blank_scalar_lem (S.Float64 x) e = absurd (false≢true e)
blank_scalar_lem (S.Date32 n) e = absurd (false≢true e)

abbrev holder : Bool → ScalarValue → Holder
holder p v = record { present = p; value = v }

pub holder-away : (h : Holder) → ready_holder false h ≡ true → h ≡ none
unfolding ready_holder
holder-away h = go h.present h.value
  where
    go : (p : Bool) (v : ScalarValue) → ready_holder false (holder p v) ≡ true → holder p v ≡ none
    go true v e = absurd (false≢true e)
    go false v e = ap (holder false) (blank_scalar_lem v e)

pub holder-same : (root : Bool) (h : Holder) → ready_holder root h ≡ true → literal_on none h ≡ h
unfolding ready_holder literal_on
holder-same root h = go h.present h.value
  where
    go : (p : Bool) (v : ScalarValue) → ready_holder root (holder p v) ≡ true → literal_on none (holder p v) ≡ holder p v
    go true v e = refl
    go false v e = sym (ap (holder false) (blank_scalar_lem v e))

pub holder-back : (root : Bool) (h : Holder) → (root ≡ false → h ≡ none) → literal_on none h ≡ h → ready_holder root h ≡ true
unfolding ready_holder literal_on blank_scalar
holder-back root h = go root h.present h.value
  where
    go : (r p : Bool) (v : ScalarValue) → (r ≡ false → holder p v ≡ none) → literal_on none (holder p v) ≡ holder p v → ready_holder r (holder p v) ≡
        true
    go true true v a s = refl
    go false true v a s = absurd (true≢false (ap (λ (h : Holder). h.present) (a refl)))
    go r false v a s = subst (λ (h : Holder). blank_scalar h.value ≡ true) s refl

-- ---- bounds
abbrev bound : Float → Bool → Bool → Bound
bound x p i = record { value = x; present = p; inclusive = i }

blank-bound : (b : Bound) → T (fits binary64 b.value) → blank_bound b ≡ true → b ≡ no_bound
unfolding blank_bound
blank-bound b = go b.value b.present b.inclusive
  where
    go : (x : Float) (p i : Bool) → T (fits binary64 x) → blank_bound (bound x p i) ≡ true → bound x p i ≡ no_bound
    go x true i f e = absurd (false≢true e)
    go x false true f e = absurd (false≢true e)
    go x false false f e = ap (λ (y : Float). bound y false false) (zero-float x f e)

no_bound-blank : (b : Bound) → no_bound ≡ b → blank_bound b ≡ true
unfolding blank_bound
no_bound-blank b e = subst (λ (c : Bound). blank_bound c ≡ true) e zero_bits

bound_comparable : (b : Bound) → ready_bound b ≡ true → Comparable b
unfolding ready_bound
bound_comparable b = go b.value b.present b.inclusive
  where
    go : (x : Float) (p i : Bool) → ready_bound (bound x p i) ≡ true → p ≡ true → is_nan x ≡ false
    go x true i e q = not-true (is_nan x) e
    go x false i e q = absurd (false≢true q)

-- ---- ranges
abbrev between : Bound → Bound → ValueRange
between l u = record { lower = l; upper = u }

lower-same : (b : Bound) → T (fits binary64 b.value) → ready_bound b ≡ true → lower_by unbounded_range b ≡ between b no_bound
unfolding ready_bound
lower-same b = go b.value b.present b.inclusive
  where
    go : (x : Float) (p i : Bool) → T (fits binary64 x) → ready_bound (bound x p i) ≡ true → lower_by unbounded_range (bound x p i) ≡ between (bound x
        p i) no_bound
    go x true i f e = refl
    go x false i f e = ap (λ (c : Bound). between c no_bound) (sym (blank-bound (bound x false i) f e))

upper_same : (l b : Bound) → T (fits binary64 b.value) → ready_bound b ≡ true → upper_by (between l no_bound) b ≡ between l b
unfolding ready_bound
upper_same l b = go b.value b.present b.inclusive
  where
    go : (x : Float) (p i : Bool) → T (fits binary64 x) → ready_bound (bound x p i) ≡ true → upper_by (between l no_bound) (bound x p i) ≡ between l
        (bound x p i)
    go x true i f e = refl
    go x false i f e = ap (λ (c : Bound). between l c) (sym (blank-bound (bound x false i) f e))

range_same : (l u : Bound) → T (fits binary64 l.value) → T (fits binary64 u.value) → ready_bound l && ready_bound u ≡ true → tighten_by
    unbounded_range
    (between l u) ≡ between l u
range_same l u fl fu e = ap (λ (t : ValueRange). upper_by t u) (lower-same l fl (and_left (ready_bound l) (ready_bound u) e)) ∙ upper_same l u fu
    (and_right (ready_bound l) (ready_bound u) e)

abbrev entry : Bool → ValueRange → Entry
entry p r = record { present = p; range = r }

blank-entry : (l u : Bound) → T (fits binary64 l.value) → T (fits binary64 u.value) → blank_bound l && blank_bound u ≡ true → entry false (between l
    u)
    ≡ no_entry
blank-entry l u fl fu e = λ i. entry false (between (blank-bound l fl (and_left (blank_bound l) (blank_bound u) e) i)
    (blank-bound u fu (and_right (blank_bound l) (blank_bound u) e) i))

pub entry-away : (e : Entry) → FitsEntry e → ready_entry false e ≡ true → e ≡ no_entry
unfolding ready_entry
entry-away e = go e.present e.range.lower e.range.upper
  where
    go : (p : Bool) (l u : Bound) → FitsEntry (entry p (between l u)) → ready_entry false (entry p (between l u)) ≡ true → entry p (between l u) ≡
        no_entry
    go true l u f t = absurd (false≢true t)
    go false l u f t = blank-entry l u f.0 f.1 t

pub entry-same : (root : Bool) (e : Entry) → FitsEntry e → ready_entry root e ≡ true → range_on no_entry e ≡ e
unfolding ready_entry range_on
entry-same root e = go e.present e.range.lower e.range.upper
  where
    go : (p : Bool) (l u : Bound) → FitsEntry (entry p (between l u)) → ready_entry root (entry p (between l u)) ≡ true → range_on no_entry
        (entry p (between l u)) ≡ entry p (between l u)
    go true l u f t = ap (entry true) (range_same l u f.0 f.1 (and_right root _ t))
    go false l u f t = sym (blank-entry l u f.0 f.1 t)

pub entry-bounded : (root : Bool) (e : Entry) → ready_entry root e ≡ true → Bounded e
unfolding ready_entry
entry-bounded root e = go e.present e.range.lower e.range.upper
  where
    go : (p : Bool) (l u : Bound) → ready_entry root (entry p (between l u)) ≡ true → p ≡ true → Comparable l × Comparable u
    go true l u t q =
        let b = and_right root (ready_bound l && ready_bound u) t in
        (bound_comparable l (and_left (ready_bound l) (ready_bound u) b), bound_comparable u (and_right (ready_bound l) (ready_bound u) b))
    go false l u t q = absurd (false≢true q)

-- an entry that a pass leaves as it is has a range that is empty where the pass would find it so
pub same-empty : (e : Entry) → range_on no_entry e ≡ e → range_bad no_entry e ≡ (e.present && empty_range e.range)
unfolding range_on range_bad
same-empty e = go e.present e.range
  where
    go : (p : Bool) (r : ValueRange) → range_on no_entry (entry p r) ≡ entry p r → range_bad no_entry (entry p r) ≡ (p && empty_range r)
    go true r s = λ i. empty_range (s i).range
    go false r s = refl

lower-back : (l u : Bound) → tighten_by unbounded_range (between l u) ≡ between l u → Comparable l → ready_bound l ≡ true
unfolding ready_bound
lower-back l u = go l.value l.present l.inclusive u.present u.value u.inclusive
  where
    go : (x : Float) (p i q : Bool) (y : Float) (j : Bool) → tighten_by unbounded_range (between (bound x p i) (bound y q j)) ≡ between (bound x p i)
        (bound y q j) → Comparable (bound x p i) → ready_bound (bound x p i) ≡ true
    go x true i q y j s t = ap not (t refl)
    go x false i true y j s t = no_bound-blank (bound x false i) (ap (λ (r : ValueRange). r.lower) s)
    go x false i false y j s t = no_bound-blank (bound x false i) (ap (λ (r : ValueRange). r.lower) s)

upper_back : (l u : Bound) → tighten_by unbounded_range (between l u) ≡ between l u → Comparable u → ready_bound u ≡ true
unfolding ready_bound
upper_back l u = go u.value u.present u.inclusive l.present l.value l.inclusive
  where
    go : (x : Float) (p i q : Bool) (y : Float) (j : Bool) → tighten_by unbounded_range (between (bound y q j) (bound x p i)) ≡ between (bound y q j)
        (bound x p i) → Comparable (bound x p i) → ready_bound (bound x p i) ≡ true
    go x true i q y j s t = ap not (t refl)
    go x false i true y j s t = no_bound-blank (bound x false i) (ap (λ (r : ValueRange). r.upper) s)
    go x false i false y j s t = no_bound-blank (bound x false i) (ap (λ (r : ValueRange). r.upper) s)

pub entry-back : (root : Bool) (e : Entry) → (root ≡ false → e ≡ no_entry) → range_on no_entry e ≡ e → Bounded e → ready_entry root e ≡ true
unfolding ready_entry range_on
entry-back root e = go root e.present e.range.lower e.range.upper
  where
    go : (r p : Bool) (l u : Bound) → (r ≡ false → entry p (between l u) ≡ no_entry) → range_on no_entry (entry p (between l u)) ≡ entry p (between l
        u)
        → Bounded (entry p (between l u)) → ready_entry r (entry p (between l u)) ≡ true
    go true true l u a s t = and_both (ready_bound l) (ready_bound u) (lower-back l u (ap (λ (e : Entry). e.range) s) (t refl).0)
        (upper_back l u (ap (λ (e : Entry). e.range) s) (t refl).1)
    go false true l u a s t = absurd (true≢false (ap (λ (e : Entry). e.present) (a refl)))
    go r false l u a s t = and_both (blank_bound l) (blank_bound u) (no_bound-blank l (ap (λ (e : Entry). e.range.lower) s))
        (no_bound-blank u (ap (λ (e : Entry). e.range.upper) s))

-- ---- all of one place
pub record Parts (root flag n : Bool) (h : Holder) (e : Entry) : Type 0 where
  pub null : (not n || root) ≡ true
  pub literal : ready_holder root h ≡ true
  pub range : ready_entry root e ≡ true
  pub quiet : (flag || quiet_place h e) ≡ true

pub parts : (root flag n : Bool) (h : Holder) (e : Entry) → ready_place root flag n h e ≡ true → Parts root flag n h e
unfolding ready_place
parts root flag n h e t =
    let a = and_right (not n || root) (ready_holder root h && (ready_entry root e && (flag || quiet_place h e))) t in
    let b = and_right (ready_holder root h) (ready_entry root e && (flag || quiet_place h e)) a in
    record {
      null = and_left (not n || root) _ t;
      literal = and_left (ready_holder root h) _ a;
      range = and_left (ready_entry root e) _ b;
      quiet = and_right (ready_entry root e) (flag || quiet_place h e) b;
    }

pub whole : (root flag n : Bool) (h : Holder) (e : Entry) → Parts root flag n h e → ready_place root flag n h e ≡ true
unfolding ready_place
whole root flag n h e p = and_both _ _ p.null (and_both _ _ p.literal (and_both _ _ p.range p.quiet))

pub null-away : (n : Bool) → (not n || false) ≡ true → n ≡ false
null-away true e = absurd (false≢true e)
null-away false e = refl

pub null-back : (root n : Bool) → (root ≡ false → n ≡ false) → (not n || root) ≡ true
null-back true true a = refl
null-back true false a = refl
null-back false n a = ap (λ (b : Bool). not b || false) (a refl)

-- where the flag is clear the range is not empty and the literal is in it
pub flagged : (flag : Bool) (h : Holder) (e : Entry) → (flag || quiet_place h e) ≡ true → (e.present && empty_range e.range) ≡ true → flag ≡ true
unfolding quiet_place
flagged flag h e = go flag (e.present && empty_range e.range) (crossed h e)
  where
    go : (f a c : Bool) → (f || (not a && not c)) ≡ true → a ≡ true → f ≡ true
    go true a c q t = refl
    go false true c q t = q
    go false false c q t = t

pub uncrossed : (flag : Bool) (h : Holder) (e : Entry) → (flag || quiet_place h e) ≡ true → flag ≡ false → crossed h e ≡ false
unfolding quiet_place
uncrossed flag h e = go flag (e.present && empty_range e.range) (crossed h e)
  where
    go : (f a c : Bool) → (f || (not a && not c)) ≡ true → f ≡ false → c ≡ false
    go true a c q t = absurd (true≢false t)
    go false true c q t = absurd (false≢true q)
    go false false c q t = not-true c q

pub quiet-back : (flag : Bool) (h : Holder) (e : Entry) → ((e.present && empty_range e.range) ≡ true → flag ≡ true) → (crossed h e ≡ true → flag ≡
    true)
    → (flag || quiet_place h e) ≡ true
unfolding quiet_place
quiet-back flag h e = go flag (e.present && empty_range e.range) (crossed h e)
  where
    go : (f a c : Bool) → (a ≡ true → f ≡ true) → (c ≡ true → f ≡ true) → (f || (not a && not c)) ≡ true
    go true a c p q = refl
    go false true c p q = p refl
    go false false true p q = q refl
    go false false false p q = refl
