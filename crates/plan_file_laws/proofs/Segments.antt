-- The parts of a record in bytes: bytes split into a part and the rest, and a part that was put is read back. Assumes nothing.
use Prim.Native.Nat.{ℕ, ◌+◌, ◌*◌, ◌/◌, ◌%◌, ◌≤◌, ◌<◌}
use mathlib.Core.Path.{◌≡◌, sym, ap, ◌∙◌}
use mathlib.Core.List.{List, ◌∷◌}
use mathlib.Core.Logic.{◌⊎◌, ⊎_elim}
use native.Mathlib.Omega.{arith}
use native.Mathlib.Numerals.{add-one}
use native.Mathlib.Nat.{div-add-mod', add-zero}
use native.Mathlib.Decide.{ℕ_discrete}
use lib.Dec.{eqb}
use lib.ListN.{get_or, length, drop}
use lib.Seq.{drop-cons, drop-drop, get_or-drop}
use borrow.Author.Tests.{eq-eqb, ne_eqb}
use Rattle.plan_file.specs.Bytes.{word2, word4, word8, code_from, word_from, bits_from}
use Rattle.plan_file_laws.specs.ByteStrings.{Bytes}
use Rattle.plan_file_laws.specs.Writing.{put2, put4, put8, put_word, put_code, put_bits}
use Rattle.plan_file_laws.proofs.Layouts.{width, code_width}

-- ---- numbers out of their parts
high2 : (a b : ℕ) → b < 256 → (a * 256 + b) / 256 ≡ a
high2 a b h = omega arith

low2 : (a b : ℕ) → b < 256 → (a * 256 + b) % 256 ≡ b
low2 a b h = omega arith

high4 : (a b : ℕ) → b < 65536 → (a * 65536 + b) / 65536 ≡ a
high4 a b h = omega arith

low4 : (a b : ℕ) → b < 65536 → (a * 65536 + b) % 65536 ≡ b
low4 a b h = omega arith

high8 : (a b : ℕ) → b < 4294967296 → (a * 4294967296 + b) / 4294967296 ≡ a
high8 a b h = omega arith

low8 : (a b : ℕ) → b < 4294967296 → (a * 4294967296 + b) % 4294967296 ≡ b
low8 a b h = omega arith

word2-fits : (a b : ℕ) → a < 256 → b < 256 → a * 256 + b < 65536
word2-fits a b p q = omega arith

word4-fits : (a b : ℕ) → a < 65536 → b < 65536 → a * 65536 + b < 4294967296
word4-fits a b p q = omega arith

module _ (t : List ℕ) where
  -- ---- bytes split into a number and the rest
  pub one_byte : (at : ℕ) → at < length t → drop at t ≡ get_or t at 0 ∷ drop (at + 1) t
  one_byte at h = drop-cons t at 0 h ∙ ap (λ (n : ℕ). get_or t at 0 ∷ drop n t) (sym (add-one at))

  module _ (b : Bytes t) where
    word2-below : (at : ℕ) → word2 t at < 65536
    word2-below at = word2-fits (get_or t at 0) (get_or t (at + 1) 0) (b at) (b (at + 1))

    word4-below : (at : ℕ) → word4 t at < 4294967296
    word4-below at = word4-fits (word2 t at) (word2 t (at + 2)) (word2-below at) (word2-below (at + 2))

    two_bytes : (at : ℕ) → at + 2 ≤ length t → drop at t ≡ put2 (word2 t at) (drop (at + 2) t)
    two_bytes at h =
        let n : at + 1 + 1 ≡ at + 2 = omega arith in
        one_byte at (omega arith)
        ∙ ap (λ (u : List ℕ). get_or t at 0 ∷ u) (one_byte (at + 1) (omega arith) ∙ ap (λ (k : ℕ). get_or t (at + 1) 0 ∷ drop k t) n)
        ∙ sym (λ i. high2 (get_or t at 0) (get_or t (at + 1) 0) (b (at + 1)) i ∷ low2 (get_or t at 0) (get_or t (at + 1) 0) (b (at + 1)) i ∷ drop (at + 2) t)

    four_bytes : (at : ℕ) → at + 4 ≤ length t → drop at t ≡ put4 (word4 t at) (drop (at + 4) t)
    four_bytes at h =
        let n : at + 2 + 2 ≡ at + 4 = omega arith in
        two_bytes at (omega arith)
        ∙ ap (put2 (word2 t at)) (two_bytes (at + 2) (omega arith) ∙ ap (λ (k : ℕ). put2 (word2 t (at + 2)) (drop k t)) n)
        ∙ sym (λ i. put2 (high4 (word2 t at) (word2 t (at + 2)) (word2-below (at + 2)) i)
        (put2 (low4 (word2 t at) (word2 t (at + 2)) (word2-below (at + 2)) i) (drop (at + 4) t)))

    eight-bytes : (at : ℕ) → at + 8 ≤ length t → drop at t ≡ put8 (word8 t at) (drop (at + 8) t)
    eight-bytes at h =
        let n : at + 4 + 4 ≡ at + 8 = omega arith in
        four_bytes at (omega arith)
        ∙ ap (put4 (word4 t at)) (four_bytes (at + 4) (omega arith) ∙ ap (λ (k : ℕ). put4 (word4 t (at + 4)) (drop k t)) n)
        ∙ sym (λ i. put4 (high8 (word4 t at) (word4 t (at + 4)) (word4-below (at + 4)) i)
        (put4 (low8 (word4 t at) (word4 t (at + 4)) (word4-below (at + 4)) i) (drop (at + 8) t)))

    pub split_word : (at p sort : ℕ) → (sort ≡ 0) ⊎ (p ≡ at) → at + width sort ≤ length t → drop at t ≡ put_word sort (word_from t p sort)
        (drop (at + width sort) t)
    unfolding put_word word_from
    split_word at p sort place h =
        elim (ℕ_discrete sort 0) [
          | yes e ↦ rw (eq-eqb sort 0 e) (ap (λ (n : ℕ). drop n t) (sym (add-zero at)))
          | no n ↦ rw (ne_eqb sort 0 n)
              (two_bytes at (rw (ne_eqb sort 0 n) at h) ∙ ap (λ (k : ℕ). put2 (word2 t k) (drop (at + 2) t)) (⊎_elim (λ e. absurd (n e)) (λ e. sym e) place))
        ]

    split-four : (n m : ℕ) → m ≡ 4 → n ≡ 1 → n + m ≤ length t → drop n t ≡ put_bits m (bits_from t m) (drop (n + m) t)
    unfolding put_bits bits_from
    split-four n m e f h = rw (e, f) (four_bytes 1 (omega arith))

    split-eight : (n m : ℕ) → m ≡ 8 → n ≡ 1 → n + m ≤ length t → drop n t ≡ put_bits m (bits_from t m) (drop (n + m) t)
    unfolding put_bits bits_from
    split-eight n m e f h = rw (e, f) (eight-bytes 1 (omega arith))

    split-none : (n m : ℕ) → m ≡ 0 → drop n t ≡ put_bits m (bits_from t m) (drop (n + m) t)
    unfolding put_bits bits_from
    split-none n m e = rw e (ap (λ (k : ℕ). drop k t) (sym (add-zero n)))

    pub split-bits : (n m : ℕ) → (m ≡ 0) ⊎ (((m ≡ 4) ⊎ (m ≡ 8)) × (n ≡ 1)) → n + m ≤ length t → drop n t ≡ put_bits m (bits_from t m) (drop (n + m) t)
    split-bits n m place h =
        ⊎_elim (λ e. split-none n m e) (λ c. ⊎_elim (λ e. split-four n m e c.1 h) (λ e. split-eight n m e c.1 h) c.0) place

  pub split-code : (n k c : ℕ) → (k ≡ 0 → ⊥) → (c ≡ k → n ≡ k) → n + code_width c k ≤ length t → drop n t ≡ put_code (eqb c k) (code_from t c)
      (drop (n + code_width c k) t)
  unfolding put_code code_from
  split-code n k c z place h =
      elim (ℕ_discrete c k) [
        | yes e ↦ rw (eq-eqb c k e, ne_eqb c 0 (λ y. z (sym e ∙ y)))
            (one_byte n (let g = rw (eq-eqb c k e) at h in omega arith) ∙ ap (λ (m : ℕ). get_or t m 0 ∷ drop (n + 1) t) (place e ∙ sym e))
        | no e ↦ rw (ne_eqb c k e) (ap (λ (m : ℕ). drop m t) (sym (add-zero n)))
      ]

  -- ---- a part that was put is read back
  first_of : (at v : ℕ) (u : List ℕ) → drop at t ≡ v ∷ u → (get_or t at 0 ≡ v) × (drop (at + 1) t ≡ u)
  first_of at v u e = (
    ap (λ (n : ℕ). get_or t n 0) (sym (add-zero at)) ∙ sym (get_or-drop at t 0 0) ∙ ap (λ (l : List ℕ). get_or l 0 0) e,
    sym (drop-drop 1 at t) ∙ ap (drop 1) e,
  )

  got2 : (at v : ℕ) (u : List ℕ) → drop at t ≡ put2 v u → (word2 t at ≡ v) × (drop (at + 2) t ≡ u)
  got2 at v u e =
      let f = first_of at (v / 256) (v % 256 ∷ u) e in
      let g = first_of (at + 1) (v % 256) u f.1 in
      let n : at + 2 ≡ at + 1 + 1 = omega arith in
      ((λ i. f.0 i * 256 + g.0 i) ∙ div-add-mod' v 256, ap (λ (k : ℕ). drop k t) n ∙ g.1)

  got4 : (at v : ℕ) (u : List ℕ) → drop at t ≡ put4 v u → (word4 t at ≡ v) × (drop (at + 4) t ≡ u)
  got4 at v u e =
      let f = got2 at (v / 65536) (put2 (v % 65536) u) e in
      let g = got2 (at + 2) (v % 65536) u f.1 in
      let n : at + 4 ≡ at + 2 + 2 = omega arith in
      ((λ i. f.0 i * 65536 + g.0 i) ∙ div-add-mod' v 65536, ap (λ (k : ℕ). drop k t) n ∙ g.1)

  got8 : (at v : ℕ) (u : List ℕ) → drop at t ≡ put8 v u → (word8 t at ≡ v) × (drop (at + 8) t ≡ u)
  got8 at v u e =
      let f = got4 at (v / 4294967296) (put4 (v % 4294967296) u) e in
      let g = got4 (at + 4) (v % 4294967296) u f.1 in
      let n : at + 8 ≡ at + 4 + 4 = omega arith in
      ((λ i. f.0 i * 4294967296 + g.0 i) ∙ div-add-mod' v 4294967296, ap (λ (k : ℕ). drop k t) n ∙ g.1)

  drop-stays : (n : ℕ) (u : List ℕ) → drop n t ≡ u → drop (n + 0) t ≡ u
  drop-stays n u e = ap (λ (k : ℕ). drop k t) (add-zero n) ∙ e

  pub got_word :
      (at p sort v : ℕ) (u : List ℕ) → (sort ≡ 0) ⊎ (p ≡ at) → (sort ≡ 0 → v ≡ 0) → drop at t ≡ put_word sort v u
      → (word_from t p sort ≡ v) × (drop (at + width sort) t ≡ u)
  unfolding put_word word_from
  got_word at p sort v u place none e =
      elim (ℕ_discrete sort 0) [
        | yes z ↦ rw (eq-eqb sort 0 z) (sym (none z), drop-stays at u (rw (eq-eqb sort 0 z) at e))
        | no n ↦ (let g = got2 at v u (rw (ne_eqb sort 0 n) at e) in
            rw (ne_eqb sort 0 n) (ap (word2 t) (⊎_elim (λ z. absurd (n z)) (λ z. z) place) ∙ g.0, g.1))
      ]

  abbrev GotBits : ℕ → ℕ → ℕ → List ℕ → Type 0
  GotBits n m v u = (bits_from t m ≡ v) × (drop (n + m) t ≡ u)

  got_four : (n m v : ℕ) (u : List ℕ) → m ≡ 4 → n ≡ 1 → drop n t ≡ put_bits m v u → GotBits n m v u
  unfolding put_bits bits_from
  got_four n m v u z o e = rw (z, o) (got4 1 v u (rw (z, o) at e))

  got_eight : (n m v : ℕ) (u : List ℕ) → m ≡ 8 → n ≡ 1 → drop n t ≡ put_bits m v u → GotBits n m v u
  unfolding put_bits bits_from
  got_eight n m v u z o e = rw (z, o) (got8 1 v u (rw (z, o) at e))

  got_none : (n m v : ℕ) (u : List ℕ) → m ≡ 0 → v ≡ 0 → drop n t ≡ put_bits m v u → GotBits n m v u
  unfolding put_bits bits_from
  got_none n m v u z y e = rw z (sym y, drop-stays n u (rw z at e))

  pub got_bits : (n m v : ℕ) (u : List ℕ) → (m ≡ 0) ⊎ (((m ≡ 4) ⊎ (m ≡ 8)) × (n ≡ 1)) → (m ≡ 0 → v ≡ 0) → drop n t ≡ put_bits m v u → GotBits n m v u
  got_bits n m v u place none e =
      ⊎_elim (λ z. got_none n m v u z (none z) e) (λ c. ⊎_elim (λ z. got_four n m v u z c.1 e) (λ z. got_eight n m v u z c.1 e) c.0) place

  pub got_code :
      (n k c v : ℕ) (u : List ℕ) → (k ≡ 0 → ⊥) → (c ≡ k → n ≡ k) → drop n t ≡ put_code (eqb c k) v u
      → (c ≡ k → code_from t c ≡ v) × (drop (n + code_width c k) t ≡ u)
  unfolding put_code code_from
  got_code n k c v u z place e =
      elim (ℕ_discrete c k) [
        | yes y ↦ (let g = first_of n v u (rw (eq-eqb c k y) at e) in
            rw (eq-eqb c k y, ne_eqb c 0 (λ o. z (sym y ∙ o))) (λ o. ap (λ (m : ℕ). get_or t m 0) (y ∙ sym (place y)) ∙ g.0, g.1))
        | no y ↦ rw (ne_eqb c k y) (λ o. absurd (y o), drop-stays n u (rw (ne_eqb c k y) at e))
      ]
