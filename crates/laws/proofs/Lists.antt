-- Laws of lists that several crates need. Assumes nothing.
use Prim.Native.Nat.{ℕ, zero, suc, ◌+◌, ◌<◌, ◌≤◌}
use mathlib.Core.Path.{◌≡◌, refl, sym, ap, ap₂, ◌∙◌, subst}
use mathlib.Core.List.{List, [], ◌∷◌, ◌++◌}
use native.Mathlib.Decide.{dec_lt}
use native.Mathlib.Omega.{arith}
use lib.ListN.{get_or, length, take, drop, replicate, length-append, get_or-append, get_or-eq_default}
use lib.Seq.{get_or_at, drop-cons}

-- a list of one value has it at each place, and past its end where it is the default
pub get_d_replicate-self : {A : Type 0} (n i : ℕ) (x : A) → get_or (replicate n x) i x ≡ x
get_d_replicate-self zero i x = refl
get_d_replicate-self (suc n) zero x = refl
get_d_replicate-self (suc n) (suc i) x = get_d_replicate-self n i x

-- a part of two lists whose entries there are the same
pub take-drop-same : (l m : List ℕ) (n s : ℕ) → s + n ≤ length l → s + n ≤ length m → ((j : ℕ) → s ≤ j → j < s + n → get_or m j 0 ≡ get_or l j 0)
    → take n (drop s m) ≡ take n (drop s l)
take-drop-same l m zero s a b h = refl
take-drop-same l m (suc n) s a b h =
    let p : s < length l = omega arith in
    let q : s < length m = omega arith in
    rw (drop-cons l s 0 p, drop-cons m s 0 q)
    (ap₂ (λ (x : ℕ) (xs : List ℕ). x ∷ xs) (h s (omega arith) (omega arith))
    (take-drop-same l m n (suc s) (omega arith) (omega arith) (λ j lo hi. h j (omega arith) (omega arith))))

-- ---- a table that grows by one entry at a time
module _ {A : Type 0} (d : A) (tbl : ℕ → List A) (next : ℕ → A) (start : tbl 0 ≡ []) (more : (n : ℕ) → tbl (suc n) ≡ tbl n ++ (next n ∷ [])) where
  -- n entries. Assumes nothing
  pub table-long : (n : ℕ) → length (tbl n) ≡ n
  table-long zero = ap length start
  table-long (suc n) =
      let e : length (tbl n) ≡ n = table-long n in
      ap length (more n) ∙ length-append (tbl n) (next n ∷ []) ∙ omega (arith, e)

  -- the newest entry
  pub table-last : (h : ℕ) → get_or (tbl (suc h)) h d ≡ next h
  table-last h = ap (λ (l : List A). get_or l h d) (more h) ∙ get_or_at (tbl h) (next h) [] d h (table-long h)

  -- an entry stays what it was when it was the newest
  pub table_at : (n e : ℕ) → e < n → get_or (tbl n) e d ≡ next e
  table_at zero e h = absurd (omega arith)
  table_at (suc n) e h = elim (dec_lt e n) [
    | yes l ↦
        ap (λ (l : List A). get_or l e d) (more n)
        ∙ get_or-append (tbl n) (next n ∷ []) d e (subst (λ (k : ℕ). e < k) (sym (table-long n)) l)
        ∙ table_at n e l
    | no l ↦
        let k : n ≡ e = omega arith in
        subst (λ (k : ℕ). get_or (tbl (suc n)) k d ≡ next k) k (table-last n)
  ]

  -- past the end
  pub table-past : (n e : ℕ) → n ≤ e → get_or (tbl n) e d ≡ d
  table-past n e h = get_or-eq_default (tbl n) d (subst (λ (k : ℕ). k ≤ e) (sym (table-long n)) h)
