-- An expression is typed where its node is, over its operands; and the flags that one pass in handle order keeps. Assumes nothing.
use mathlib.Core.Path.{◌≡◌, refl, sym, ap, fun_ext, ◌∙◌}
use mathlib.Core.Bool.{Bool, true, false}
use mathlib.Core.List.{List}
use Prim.Native.Nat.{ℕ, suc, ◌+◌, ◌<◌, ◌≤◌}
use native.Mathlib.Omega.{arith}
use lib.Dec.{ltb, eqb}
use lib.ListN.{length, get_or, set, replicate, length-set}
use lib.Seq.{get_or-set_same, get_or-set_other}
use borrow.Author.Tests.{eqb-true, eqb-false, ltb-true, ltb-false}
use Rattle.laws.proofs.Lists.{get_d_replicate-self}
use Rattle.plan_data.specs.Nodes.{operands_of}
use Rattle.plan_data.specs.declared.ExprData.{ExprData}
use Rattle.rows_spec.specs.Typing.{boolean_at, node_typed, flagged, typing_next, typings, typed_at}
use Rattle.rows_spec.proofs.InOrderLaws.{in_order_at, in_order_past}

module _ (columns : List ℕ) (node : ℕ → ExprData) (items : List ℕ) where
  -- h is typed in a list of flags where its node is, by the flags before it
  pub typing_step : (n h : ℕ) → h < n → flagged (typings columns node items n) h ≡ node_typed (flagged (typings columns node items h)) (boolean_at columns node)
      (operands_of items) (node h)
  unfolding typings
  typing_step n h lt = in_order_at (typing_next columns node items) false n h lt

  -- where it is not in the list, it is not
  pub typing_past : (n h : ℕ) → n ≤ h → flagged (typings columns node items n) h ≡ false
  unfolding typings
  typing_past n h le = in_order_past (typing_next columns node items) false n h le

  pub typing_in : (n h : ℕ) → h < n → flagged (typings columns node items n) h ≡ typed_at columns node items h
  typing_in n h lt = typing_step n h lt ∙ sym (typing_step (suc h) h (omega arith))

  -- 1,024 flags, of which the first i are set by whether their expressions are typed
  pub record Flags (flags : List Bool) (i : ℕ) : Type 0 where
    pub size : length flags ≡ 1024
    pub each : (e : ℕ) → get_or flags e false ≡ flagged (typings columns node items i) e

  pub flags_none : Flags (replicate 1024 false) 0
  flags_none = record { size = refl; each = λ e. get_d_replicate-self 1024 e false ∙ sym (typing_past 0 e (omega arith)) }

  -- whether the next is typed, by them
  pub flags_next : (flags : List Bool) (i : ℕ) → Flags flags i
      → node_typed (flagged flags) (boolean_at columns node) (operands_of items) (node i) ≡ typed_at columns node items i
  flags_next flags i f =
      ap (λ (g : ℕ → Bool). node_typed g (boolean_at columns node) (operands_of items) (node i)) (fun_ext f.each)
      ∙ sym (typing_step (suc i) i (omega arith))

  pub flags_more : (flags : List Bool) (i : ℕ) → i < 1024 → Flags flags i
      → (t : Bool) → t ≡ node_typed (flagged flags) (boolean_at columns node) (operands_of items) (node i) → Flags (set flags i t) (i + 1)
  flags_more flags i lt f t p = record { size = length-set flags i t ∙ f.size; each = λ e. go e (eqb e i) refl }
    where
      now-typed : t ≡ flagged (typings columns node items (i + 1)) i
      now-typed = p ∙ flags_next flags i f ∙ sym (typing_in (i + 1) i (omega arith))

      older : (e : ℕ) → (e ≡ i → ⊥) → flagged (typings columns node items i) e ≡ flagged (typings columns node items (i + 1)) e
      older e ne = late (ltb e i) refl
        where
          late : (b : Bool) → ltb e i ≡ b → flagged (typings columns node items i) e ≡ flagged (typings columns node items (i + 1)) e
          late true q = typing_in i e (ltb-true e i q) ∙ sym (typing_in (i + 1) e (omega (arith, ltb-true e i q)))
          late false q = typing_past i e (ltb-false e i q) ∙ sym (typing_past (i + 1) e (omega (arith, ltb-false e i q, ne)))

      go : (e : ℕ) (b : Bool) → eqb e i ≡ b → get_or (set flags i t) e false ≡ flagged (typings columns node items (i + 1)) e
      go e true q = let s : e ≡ i = eqb-true e i q in rw s (get_or-set_same flags i t false (omega (arith, f.size)) ∙ now-typed)
      go e false q = get_or-set_other flags i e t false (eqb-false e i q) ∙ f.each e ∙ older e (eqb-false e i q)
