-- Laws of writing: nothing, one byte, one thing after another. Assumes nothing.
use Prim.Native.Nat.{ℕ, zero, suc, ◌+◌, ◌-◌, ◌/◌, ◌%◌, ◌≤◌, ◌<◌}
use mathlib.Core.List.{List, [], ◌∷◌, ◌++◌}
use mathlib.Core.Path.{◌≡◌, refl, sym, ap, subst, ◌∙◌}
use native.Mathlib.Nat.{add-zero, add_assoc}
use native.Mathlib.Decide.{dec_lt, dec_le}
use native.Mathlib.Numerals.{add-one}
use native.Mathlib.Omega.{arith}
use borrow.Author.Tests.{lt-ltb, le-ltb}
use lib.ListN.{set, length, length-append, length-set}
use lib.Seq.{set_out}
use Rattle.io.specs.Digits.{last_digits, hex_digit_ascii}
use Rattle.writing.specs.Text.{stored, after, Wrote, decimal_by, decimal_of, lines}

pub stored-length : (b o : List ℕ) (a : ℕ) → length (stored o a b) ≡ length o
unfolding stored
stored-length [] o a = refl
stored-length (x ∷ b) o a = stored-length b (set o a x) (suc a) ∙ length-set o a x

stored_past : (b o : List ℕ) (a : ℕ) → length o ≤ a → stored o a b ≡ o
unfolding stored
stored_past [] o a h = refl
stored_past (x ∷ b) o a h = ap (λ (l : List ℕ). stored l (suc a) b) (set_out o a x h) ∙ stored_past b o (suc a) (omega arith)

pub stored_append : (x y o : List ℕ) (a : ℕ) → stored o a (x ++ y) ≡ stored (stored o a x) (a + length x) y
unfolding stored
stored_append [] y o a = ap (λ (n : ℕ). stored o n y) (sym (add-zero a))
stored_append (v ∷ x) y o a = stored_append x y (set o a v) (suc a) ∙ ap (λ (n : ℕ). stored (stored (set o a v) (suc a) x) n y) (shift a (length x))
  where
    shift : (a n : ℕ) → suc a + n ≡ a + suc n
    shift a n = omega arith

pub after_in : (m a n : ℕ) → a < m → a + n ≤ m → after m a n ≡ a + n
unfolding after
after_in m a n h k = rw (lt-ltb a m h) (omega arith)

pub after-end : (m a n : ℕ) → a < m → m ≤ a + n → after m a n ≡ m
unfolding after
after-end m a n h k = rw (lt-ltb a m h) (omega arith)

pub after-past : (m a n : ℕ) → m ≤ a → after m a n ≡ a
unfolding after
after-past m a n h = rw (le-ltb a m h)

pub wrote_none : (o : List ℕ) (a : ℕ) → Wrote o a o a []
unfolding stored
wrote_none o
    a = (
      refl,
      elim (dec_lt a (length o)) [
        | yes l ↦ sym (after_in (length o) a 0 l (omega arith) ∙ add-zero a)
        | no g ↦ sym
            (after-past (length o) a 0 (omega arith))
      ],
    )

-- where the second part starts, the first has ended
same_end : (p y : List ℕ) (m a n : ℕ) → length p ≡ m → stored p (a + n) y ≡ stored p (after m a n) y
same_end p y m a n e =
    elim (dec_lt a m) [
      | yes l ↦ elim (dec_le (a + n) m) [
        | yes k ↦ ap (λ (i : ℕ). stored p i y) (sym (after_in m a n l k))
        | no g ↦ (let h : m ≤ a + n = omega arith in
            stored_past y p (a + n) (omega arith) ∙ sym (ap (λ (i : ℕ). stored p i y) (after-end m a n l h) ∙ stored_past y p m (omega arith)))
      ]
      | no g ↦ (let h : m ≤ a = omega arith in
          stored_past y p (a + n) (omega arith) ∙ sym (ap (λ (i : ℕ). stored p i y) (after-past m a n h) ∙ stored_past y p a (omega arith)))
    ]

after-after : (m a n k : ℕ) → after m (after m a n) k ≡ after m a (n + k)
after-after m a n k =
    elim (dec_lt a m) [
      | yes l ↦ elim (dec_lt (a + n) m) [
        | yes g ↦ ap (λ (i : ℕ). after m i k) (after_in m a n l (omega arith)) ∙ from m a n k l g
        | no g ↦ (let h : m ≤ a + n = omega arith in
            ap (λ (i : ℕ). after m i k) (after-end m a n l h) ∙ after-past m m k (omega arith) ∙ sym (after-end m a (n + k) l (omega arith)))
      ]
      | no g ↦ (let h : m ≤ a = omega arith in
          ap (λ (i : ℕ). after m i k) (after-past m a n h) ∙ after-past m a k h ∙ sym (after-past m a (n + k) h))
    ]
  where
    from : (m a n k : ℕ) → a < m → a + n < m → after m (a + n) k ≡ after m a (n + k)
    from m a n k l g =
        elim (dec_le (a + n + k) m) [
          | yes h ↦ after_in m (a + n) k g h ∙ add_assoc a n k ∙ sym (after_in m a (n + k) l (omega arith))
          | no h ↦ after-end m (a + n) k g (omega arith) ∙ sym (after-end m a (n + k) l (omega arith))
        ]

pub wrote_then : (o : List ℕ) (a : ℕ) (p : List ℕ) (b : ℕ) (q : List ℕ) (c : ℕ) (x y : List ℕ)
    → Wrote o a p b x → length p ≡ length o → Wrote p b q c y → Wrote o a q c (x ++ y)
wrote_then o a p b q c x y u e v = (
  v.0 ∙ ap (λ (i : ℕ). stored p i y) u.1 ∙ sym (same_end p y (length o) a (length x) e) ∙ ap (λ (l : List ℕ). stored l (a + length x) y) u.0 ∙ sym
      (stored_append x y o a),
  v.1 ∙ ap (λ (m : ℕ). after m b (length y)) e ∙ ap (λ (i : ℕ). after (length o) i (length y)) u.1 ∙ after-after (length o) a (length x) (length y)
      ∙ ap (after (length o) a) (sym (length-append x y)),
)

-- one byte
pub wrote_byte : (o : List ℕ) (a b : ℕ) → a < length o → Wrote o a (set o a b) (a + 1) (b ∷ [])
unfolding stored
wrote_byte o a b l = (refl, sym (after_in (length o) a 1 l (omega arith)))

pub wrote_full : (o : List ℕ) (a b : ℕ) → length o ≤ a → Wrote o a o a (b ∷ [])
unfolding stored
wrote_full o a b l = (sym (set_out o a b l), sym (after-past (length o) a 1 l))

-- decimal: the bound does not matter
dec_fuel : (k m n : ℕ) → n < k → n < m → decimal_by k n ≡ decimal_by m n
unfolding decimal_by
dec_fuel zero m n a b = absurd (omega arith)
dec_fuel (suc k) zero n a b = absurd (omega arith)
dec_fuel (suc k) (suc m) n a b =
    elim (dec_lt n 10) [
      | yes l ↦ rw (lt-ltb n 10 l)
      | no g ↦ (let h : 10 ≤ n = omega arith in rw (le-ltb n 10 h)
          (ap (λ (t : List ℕ). t ++ ((48 + n % 10) ∷ [])) (dec_fuel k m (n / 10) (omega arith) (omega arith))))
    ]

pub decimal_low : (n : ℕ) → n < 10 → decimal_of n ≡ (48 + n) ∷ []
unfolding decimal_of decimal_by
decimal_low n l = rw (lt-ltb n 10 l)

pub decimal_high : (n : ℕ) → 10 ≤ n → decimal_of n ≡ decimal_of (n / 10) ++ ((48 + n % 10) ∷ [])
unfolding decimal_of decimal_by
decimal_high n l = rw (le-ltb n 10 l) (ap (λ (t : List ℕ). t ++ ((48 + n % 10) ∷ [])) (dec_fuel n (suc (n / 10)) (n / 10) (omega arith) (omega arith)))

pub lines_more : (n : ℕ) (f : ℕ → List ℕ) → lines (n + 1) f ≡ lines n f ++ f n
unfolding lines
lines_more n f = rw add-one

pub digits_more : (k n : ℕ) → (k ≡ 0 → ⊥) → last_digits 16 k n ≡ last_digits 16 (k - 1) (n / 16) ++ (hex_digit_ascii (n % 16) ∷ [])
digits_more zero n l = absurd (l refl)
digits_more (suc k) n l = let e : suc k - 1 ≡ k = omega arith in rw e

-- the same bytes in other words
pub wrote_as : (o : List ℕ) (a : ℕ) (q : List ℕ) (r : ℕ) (x y : List ℕ) → Wrote o a q r x → x ≡ y → Wrote o a q r y
wrote_as o a q r x y w e = subst (Wrote o a q r) e w
