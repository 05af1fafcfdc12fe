-- The lines of classes, with the representatives read from a table. Assumes nothing.
use Prim.Native.Nat.{ℕ, zero, suc, ◌+◌, ◌<◌}
use mathlib.Core.Bool.{Bool, true, false, cond}
use mathlib.Core.List.{List, [], ◌∷◌, ◌++◌}
use mathlib.Core.Path.{◌≡◌, refl, sym, ap, ◌∙◌}
use native.Mathlib.Omega.{arith}
use Rattle.std.specs.Prelude.{count_by}
use Rattle.std.proofs.lemmas.List.Recursion.{is_count_by}
use lib.Dec.{eqb, leb}
use lib.ListN.{get_or, length}
use Rattle.lists.specs.Ranges.{count_from}
use Rattle.lists.proofs.RangeLaws.{count_same}
use Rattle.plan_identities.specs.declared.Identities.{Identities}
use Rattle.value_classes.specs.Classes.{canonical_of}
use Rattle.value_classes.specs.Listed.{roots_of}
use Rattle.value_classes.specs.declared.ValueEquivalenceClasses.{ValueEquivalenceClasses}
use Rattle.value_classes.specs.declared.Roots.{Roots}
use Rattle.value_classes.proofs.MemberLaws.{roots_at}
use Rattle.writing.specs.Text.{lines}
use Rattle.listing_lines.specs.Lines.{member_text}
use Rattle.listing.specs.Listing.{class_word, members_in, members_text, class_line, class_lines}

pub lines_same : (n : ℕ) (f g : ℕ → List ℕ) → ((k : ℕ) → k < n → f k ≡ g k) → lines n f ≡ lines n g
unfolding lines
lines_same zero f g h = refl
lines_same (suc n) f g h = λ i. lines_same n f g (λ k l. h k (omega arith)) i ++ h n (omega arith) i

module _ (ids : Identities) (f g : ℕ → ℕ) (same : (i : ℕ) → i < 128 → f i ≡ g i) where
  members_same : (r : ℕ) → members_in f r ≡ members_in g r
  unfolding members_in
  members_same r = count_same _ _ 128 0 (λ j lo hi. ap (λ (x : ℕ). eqb x r) (same j (omega arith)))

  text_same : (r : ℕ) → members_text ids f r ≡ members_text ids g r
  unfolding members_text
  text_same r = lines_same 128 _ _ (λ k l. ap (λ (x : ℕ). member_text ids x r k) (same k l))

  line_same : (r : ℕ) → class_line ids f r ≡ class_line ids g r
  unfolding class_line
  line_same r = λ i. cond (leb 2 (members_same r i)) (class_word ++ (text_same r i ++ (10 ∷ []))) []

  all_same : class_lines ids f ≡ class_lines ids g
  unfolding class_lines
  all_same = lines_same 128 _ _ (λ k l. line_same k)

-- a table that has the representative of each identity serves
pub table_same : (ids : Identities) (k : ValueEquivalenceClasses) (t : Roots) → t ≡ roots_of k
    → class_lines ids (λ (i : ℕ). get_or t.of i 0) ≡ class_lines ids (canonical_of k)
table_same ids k t e = all_same ids (λ (i : ℕ). get_or t.of i 0) (canonical_of k) (λ i l. ap (λ (r : Roots). get_or r.of i 0) e ∙ roots_at k i l)

-- a chain that counts in a list counts its places
count_shift : (f : ℕ → Bool) (n i : ℕ) → count_from f (suc i) n ≡ count_from (λ (j : ℕ). f (suc j)) i n
unfolding count_from
count_shift f zero i = refl
count_shift f (suc n) i = ap (λ (m : ℕ). cond (f (suc i)) 1 0 + m) (count_shift f n (suc i))

pub counted : (p : ℕ → Bool) (xs : List ℕ) → count_by p xs ≡ count_from (λ (i : ℕ). p (get_or xs i 0)) 0 (length xs)
unfolding count_from
counted p xs = sym (is_count_by (λ (l : List ℕ). count_from (λ (i : ℕ). p (get_or l i 0)) 0 (length l)) p none more xs)
  where
    none : count_from (λ (i : ℕ). p (get_or [] i 0)) 0 0 ≡ 0
    none = refl

    one : (b : Bool) (m n : ℕ) → m ≡ n → cond b 1 0 + m ≡ cond b (1 + n) n
    one true m n e = omega arith
    one false m n e = omega arith

    more : (x : ℕ) (l : List ℕ) → count_from (λ (i : ℕ). p (get_or (x ∷ l) i 0)) 0 (suc (length l))
        ≡ cond (p x) (1 + count_from (λ (i : ℕ). p (get_or l i 0)) 0 (length l)) (count_from (λ (i : ℕ). p (get_or l i 0)) 0 (length l))
    more x l = one (p x) _ _ (count_shift (λ (i : ℕ). p (get_or (x ∷ l) i 0)) (length l) 0)
