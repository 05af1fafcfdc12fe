-- `==` and `<` on all floats, infinities included: `==` is symmetric and reflexive but for the NaN, floats that are `==` compare alike with every float,
-- and `<` is irreflexive, transitive and total but for the NaN. Assumes nothing.
use mathlib.Core.Path.{◌≡◌, refl, sym, ap, ◌∙◌, subst}
use mathlib.Core.Bool.{Bool, true, false, not, ◌&&◌, ◌||◌, beq, true≢false, false≢true}
use Prim.Native.Nat.{ℕ, suc, ◌+◌, ◌≤◌}
use native.Mathlib.Omega.{arith}
use lib.Dec.{T, not_T}
use lib.Pow.{pow_pos, pow_mono}
use lib.IntN.{ℤ, pos, negsuc}
use lib.Signed.{lt_z}
use lib.Ieee.{Float, nan, inf, fin, is_nan, lt, eq}
use lib.Ieee.Bits.{is_true, is_false}
use Rattle.scalar.specs.Exact.{eq_z, finite, exact_at}
use Rattle.scalar.proofs.WholeLaws.{eq_z→eq, eq_z-refl, eq_z_comm, lt→le, le_lt, irrefl, one_of}
use Rattle.scalar.proofs.ExactLaws.{Reaches, lt_at, eq-at}

pub yes : {b : Bool} → b ≡ true → T b
yes e = subst T (sym e) tt

-- ---- a scale for any floats
-- how many digits a float has behind the point
abbrev pub depth : Float → ℕ
depth nan = 0
depth (inf s) = 0
depth (fin s m (pos k)) = 0
depth (fin s m (negsuc k)) = suc k

reaches : (l : ℕ) (x : Float) → depth x ≤ l → Reaches l x
reaches l nan h = tt
reaches l (inf s) h = tt
reaches l (fin s m (pos k)) h = pow_pos l
reaches l (fin s m (negsuc k)) h = pow_mono h

module _ (l : ℕ) (x y : Float) (p : T (finite x)) (q : T (finite y)) (h : depth x ≤ l) (k : depth y ≤ l) where
  lt_deep : lt x y ≡ lt_z (exact_at l x) (exact_at l y)
  lt_deep = lt_at l x y p q (reaches l x h) (reaches l y k)

  eq_deep : eq x y ≡ eq_z (exact_at l x) (exact_at l y)
  eq_deep = eq-at l x y p q (reaches l x h) (reaches l y k)

-- ---- `==`
pub beq→eq : (a b : Bool) → beq a b ≡ true → a ≡ b
beq→eq true true h = refl
beq→eq true false h = absurd (false≢true h)
beq→eq false true h = absurd (false≢true h)
beq→eq false false h = refl

beq_comm : (a b : Bool) → beq a b ≡ beq b a
beq_comm true true = refl
beq_comm true false = refl
beq_comm false true = refl
beq_comm false false = refl

pub eq_comm : (x y : Float) → eq x y ≡ eq y x
unfolding eq
eq_comm nan nan = refl
eq_comm nan (inf t) = refl
eq_comm nan (fin t n d) = refl
eq_comm (inf s) nan = refl
eq_comm (inf s) (inf t) = beq_comm s t
eq_comm (inf s) (fin t n d) = refl
eq_comm (fin s m e) nan = refl
eq_comm (fin s m e) (inf t) = refl
eq_comm (fin s m e) (fin t n d) =
    let x = fin s m e in
    let y = fin t n d in
    let l = depth x + depth y in
    eq_deep l x y tt tt (omega arith) (omega arith) ∙ eq_z_comm (exact_at l x) (exact_at l y) ∙ sym (eq_deep l y x tt tt (omega arith) (omega arith))

pub eq_self : (x : Float) → eq x x ≡ not (is_nan x)
unfolding eq is_nan
eq_self nan = refl
eq_self (inf true) = refl
eq_self (inf false) = refl
eq_self (fin s m e) =
    let x = fin s m e in
    let l = depth x in
    eq_deep l x x tt tt (omega arith) (omega arith) ∙ is_true (eq_z (exact_at l x) (exact_at l x)) (eq_z-refl (exact_at l x))

-- what answers alike for finite floats of one value answers alike for floats that are `==`
module _ (G : Float → Bool) (respects : (x y : Float) → T (finite x) → T (finite y) → ((l : ℕ) → depth x ≤ l → depth y ≤ l → exact_at l x ≡ exact_at l y) → G x
    ≡ G y) where
  pub alike : (x y : Float) → eq x y ≡ true → G x ≡ G y
  unfolding eq
  alike nan y h = absurd (false≢true h)
  alike (inf s) nan h = absurd (false≢true h)
  alike (inf s) (inf t) h = ap (λ (b : Bool). G (inf b)) (beq→eq s t h)
  alike (inf s) (fin t n d) h = absurd (false≢true h)
  alike (fin s m e) nan h = absurd (false≢true h)
  alike (fin s m e) (inf t) h = absurd (false≢true h)
  alike (fin s m e) (fin t n d) h =
      let x = fin s m e in
      let y = fin t n d in
      respects x y tt tt (λ l p q. eq_z→eq (exact_at l x) (exact_at l y) (yes (sym (eq_deep l x y tt tt p q) ∙ h)))

-- a test of floats that on finite ones is one of their values, against z on its right
module _ (R : Float → Float → Bool) (Z : ℤ → ℤ → Bool)
    (at : (l : ℕ) (x y : Float) → T (finite x) → T (finite y) → depth x ≤ l → depth y ≤ l → R x y ≡ Z (exact_at l x) (exact_at l y))
    (off : (x y z : Float) → T (finite x) → T (finite y) → T (not (finite z)) → R x z ≡ R y z) where
  against : (z x y : Float) → T (finite x) → T (finite y) → ((l : ℕ) → depth x ≤ l → depth y ≤ l → exact_at l x ≡ exact_at l y) → R x z ≡ R y z
  against nan x y p q e = off x y nan p q tt
  against (inf u) x y p q e = off x y (inf u) p q tt
  against (fin u o g) x y p q e =
      let z = fin u o g in
      let l = depth x + depth y + depth z in
      at l x z p tt (omega arith) (omega arith)
      ∙ ap (λ (w : ℤ). Z w (exact_at l z)) (e l (omega arith) (omega arith))
      ∙ sym (at l y z q tt (omega arith) (omega arith))

  pub left : (x y z : Float) → eq x y ≡ true → R x z ≡ R y z
  left x y z = alike (λ (v : Float). R v z) (against z) x y

lt-off : (x y z : Float) → T (finite x) → T (finite y) → T (not (finite z)) → lt x z ≡ lt y z
unfolding lt
lt-off (fin s m e) (fin t n d) nan p q h = refl
lt-off (fin s m e) (fin t n d) (inf u) p q h = refl
lt-off nan y z p q h = elim p [ ]
lt-off (inf _) y z p q h = elim p [ ]
lt-off (fin s m e) nan z p q h = elim q [ ]
lt-off (fin s m e) (inf _) z p q h = elim q [ ]
lt-off (fin s m e) (fin t n d) (fin _ _ _) p q h = elim h [ ]

gt_off : (x y z : Float) → T (finite x) → T (finite y) → T (not (finite z)) → lt z x ≡ lt z y
unfolding lt
gt_off (fin s m e) (fin t n d) nan p q h = refl
gt_off (fin s m e) (fin t n d) (inf u) p q h = refl
gt_off nan y z p q h = elim p [ ]
gt_off (inf _) y z p q h = elim p [ ]
gt_off (fin s m e) nan z p q h = elim q [ ]
gt_off (fin s m e) (inf _) z p q h = elim q [ ]
gt_off (fin s m e) (fin t n d) (fin _ _ _) p q h = elim h [ ]

eq-off : (x y z : Float) → T (finite x) → T (finite y) → T (not (finite z)) → eq x z ≡ eq y z
unfolding eq
eq-off (fin s m e) (fin t n d) nan p q h = refl
eq-off (fin s m e) (fin t n d) (inf u) p q h = refl
eq-off nan y z p q h = elim p [ ]
eq-off (inf _) y z p q h = elim p [ ]
eq-off (fin s m e) nan z p q h = elim q [ ]
eq-off (fin s m e) (inf _) z p q h = elim q [ ]
eq-off (fin s m e) (fin t n d) (fin _ _ _) p q h = elim h [ ]

-- floats that are `==` compare alike with every float
pub lt-left : (x y z : Float) → eq x y ≡ true → lt x z ≡ lt y z
lt-left = left lt lt_z lt_deep lt-off

pub lt-right : (x y z : Float) → eq x y ≡ true → lt z x ≡ lt z y
lt-right = left (λ (x z : Float). lt z x) (λ (a b : ℤ). lt_z b a) (λ l x y p q h k. lt_deep l y x q p k h) gt_off

pub eq-left : (x y z : Float) → eq x y ≡ true → eq x z ≡ eq y z
eq-left = left eq eq_z eq_deep eq-off

-- ---- `<`
below_none : (s : Bool) → (s && not s) ≡ false
below_none true = refl
below_none false = refl

pub lt-self : (x : Float) → lt x x ≡ false
unfolding lt
lt-self nan = refl
lt-self (inf s) = below_none s
lt-self (fin s m e) =
    let x = fin s m e in
    let l = depth x in
    lt_deep l x x tt tt (omega arith) (omega arith) ∙ is_false (lt_z (exact_at l x) (exact_at l x))
    (not_T (lt_z (exact_at l x) (exact_at l x)) (irrefl (exact_at l x)))

-- floats that are `==` are not `<`
pub lt-apart : (x y : Float) → lt x y ≡ true → eq x y ≡ false
lt-apart x y h = go (eq x y) refl
  where
    go : (b : Bool) → eq x y ≡ b → b ≡ false
    go true e = absurd (false≢true (sym (lt-self y) ∙ sym (lt-left x y y e) ∙ h))
    go false e = refl

-- what is `<` an infinity is `<` it still from below
pub lt_trans : (x y z : Float) → lt x y ≡ true → lt y z ≡ true → lt x z ≡ true
unfolding lt
lt_trans nan y z h k = absurd (false≢true h)
lt_trans (inf s) nan z h k = absurd (false≢true h)
lt_trans (inf false) (inf t) z h k = absurd (false≢true h)
lt_trans (inf true) (inf true) z h k = absurd (false≢true h)
lt_trans (inf true) (inf false) nan h k = absurd (false≢true k)
lt_trans (inf true) (inf false) (inf u) h k = absurd (false≢true k)
lt_trans (inf true) (inf false) (fin u o g) h k = absurd (false≢true k)
lt_trans (inf s) (fin t n d) nan h k = absurd (false≢true k)
lt_trans (inf false) (fin t n d) (inf u) h k = absurd (false≢true h)
lt_trans (inf true) (fin t n d) (inf u) h k = k
lt_trans (inf s) (fin t n d) (fin u o g) h k = h
lt_trans (fin s m e) nan z h k = absurd (false≢true h)
lt_trans (fin s m e) (inf true) z h k = absurd (false≢true h)
lt_trans (fin s m e) (inf false) nan h k = absurd (false≢true k)
lt_trans (fin s m e) (inf false) (inf u) h k = absurd (false≢true k)
lt_trans (fin s m e) (inf false) (fin u o g) h k = absurd (false≢true k)
lt_trans (fin s m e) (fin t n d) nan h k = absurd (false≢true k)
lt_trans (fin s m e) (fin t n d) (inf u) h k = k
lt_trans (fin s m e) (fin t n d) (fin u o g) h k =
    let x = fin s m e in
    let y = fin t n d in
    let z = fin u o g in
    let l = depth x + depth y + depth z in
    let a = exact_at l x in
    let b = exact_at l y in
    let c = exact_at l z in
    lt_deep l x z tt tt (omega arith) (omega arith)
    ∙ is_true (lt_z a c)
    (le_lt a b c
    (lt→le a b (yes (sym (lt_deep l x y tt tt (omega arith) (omega arith)) ∙ h)))
    (yes (sym (lt_deep l y z tt tt (omega arith) (omega arith)) ∙ k)))

-- of two floats that are no NaN one is `<` the other, or they are `==`
pub lt-total : (x y : Float) → is_nan x ≡ false → is_nan y ≡ false → (lt x y || (eq x y || lt y x)) ≡ true
unfolding lt eq is_nan
lt-total nan y h k = absurd (true≢false h)
lt-total (inf s) nan h k = absurd (true≢false k)
lt-total (inf true) (inf true) h k = refl
lt-total (inf true) (inf false) h k = refl
lt-total (inf false) (inf true) h k = refl
lt-total (inf false) (inf false) h k = refl
lt-total (inf true) (fin t n d) h k = refl
lt-total (inf false) (fin t n d) h k = refl
lt-total (fin s m e) nan h k = absurd (true≢false k)
lt-total (fin s m e) (inf true) h k = refl
lt-total (fin s m e) (inf false) h k = refl
lt-total (fin s m e) (fin t n d) h k =
    let x = fin s m e in
    let y = fin t n d in
    let l = depth x + depth y in
    let p : depth x ≤ l = omega arith in
    let q : depth y ≤ l = omega arith in
    (λ i. lt_deep l x y tt tt p q i || (eq_deep l x y tt tt p q i || lt_deep l y x tt tt q p i))
    ∙ one_of (exact_at l x) (exact_at l y)
