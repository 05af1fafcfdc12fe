-- What is recorded of an identity holds of the same values. Assumes nothing.
use mathlib.Core.Path.{◌≡◌, sym, ap, subst}
use mathlib.Core.Bool.{Bool, true, false, not, ◌||◌}
use mathlib.Core.Logic.{inl, inr}
use Prim.Native.Nat.{ℕ}
use lib.Dec.{T}
use Rattle.scalar.specs.Kinds.{is_null}
use Rattle.scalar.specs.Scalars.{Typed}
use Rattle.scalar.specs.declared.ScalarValue.{ScalarValue}
use Rattle.constraint_spec.specs.Values.{same, equals, Place, place_of, ok_range}
use Rattle.constraint_spec.specs.Meets.{null_ok, literal_ok, entry_ok, Like, SoundHolder}
use Rattle.constraint_spec.specs.declared.Holder.{Holder}
use Rattle.constraint_spec.specs.declared.Entry.{Entry}
use Rattle.constraint_spec.proofs.ValueLaws.{alike-null, alike-sym, alike_trans, alike-place, alike-equals}

module _ (v : ℕ → ScalarValue) (tv : (i : ℕ) → Typed (v i)) where
  pub like_sym : (a b : ℕ) → Like v a b → Like v b a
  like_sym a b (inl e) = inl (sym e)
  like_sym a b (inr t) = inr (alike-sym (v a) (v b) (tv a) (tv b) t)

  pub like_trans : (a b c : ℕ) → Like v a b → Like v b c → Like v a c
  like_trans a b c (inl e) l = subst (λ (x : ℕ). Like v x c) (sym e) l
  like_trans a b c (inr t) (inl e) = inr (subst (λ (x : ℕ). T (same (v a) (v x))) e t)
  like_trans a b c (inr t) (inr k) = inr (alike_trans (v a) (v b) (tv a) (tv b) (v c) (tv c) t k)

  pub like_null : (a b : ℕ) → Like v a b → is_null (v a) ≡ is_null (v b)
  like_null a b (inl e) = ap (λ (x : ℕ). is_null (v x)) e
  like_null a b (inr t) = alike-null (v a) (v b) (tv a) (tv b) t

  pub like_place : (a b : ℕ) → Like v a b → place_of (v a) ≡ place_of (v b)
  like_place a b (inl e) = ap (λ (x : ℕ). place_of (v x)) e
  like_place a b (inr t) = alike-place (v a) (v b) (tv a) (tv b) t

  pub like_equals : (a b : ℕ) → Like v a b → (l : ScalarValue) → Typed l → T (equals (v a) l) → T (equals (v b) l)
  like_equals a b (inl e) l tl t = subst (λ (x : ℕ). T (equals (v x) l)) e t
  like_equals a b (inr k) l tl t = alike-equals (v a) (v b) (tv a) (tv b) l tl k t

  pub like_null_ok : (a b : ℕ) → Like v a b → (x : Bool) → T (null_ok (v a) x) → T (null_ok (v b) x)
  like_null_ok a b l x t = subst (λ (n : Bool). T (not x || not n)) (like_null a b l) t

  pub like_literal_ok : (a b : ℕ) → Like v a b → (h : Holder) → SoundHolder h → T (literal_ok (v a) h) → T (literal_ok (v b) h)
  like_literal_ok a b l h s = go h.present s
    where
      go : (p : Bool) → (T p → Typed h.value) → T (not p || equals (v a) h.value) → T (not p || equals (v b) h.value)
      go true s t = like_equals a b l h.value (s tt) t
      go false s t = tt

  pub like_entry_ok : (a b : ℕ) → Like v a b → (e : Entry) → T (entry_ok (v a) e) → T (entry_ok (v b) e)
  like_entry_ok a b l e t = subst (λ (p : Place). T (not e.present || ok_range p e.range)) (like_place a b l) t
