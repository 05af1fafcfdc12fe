-- How long a listing can be. Assumes nothing.
use Prim.Native.Nat.{ℕ, zero, suc, ◌+◌, ◌-◌, ◌*◌, ◌^◌, ◌≤◌, ◌<◌, min}
use mathlib.Core.Bool.{Bool, true, false, cond, ◌&&◌, ◌||◌, false≢true}
use mathlib.Core.List.{List, [], ◌∷◌, ◌++◌}
use mathlib.Core.Path.{◌≡◌, refl, ap, ◌∙◌}
use native.Mathlib.Decide.{dec_lt, dec_le}
use native.Mathlib.Nat.{le_trans, mul-le-mul_right}
use native.Mathlib.Omega.{arith}
use borrow.Author.Tests.{lt-ltb, le-ltb, le-leb, lt-leb, eq-eqb, ne_eqb, ltb-true}
use lib.Dec.{ltb, leb, eqb}
use lib.ListN.{get_or, length, length-append}
use Rattle.laws.proofs.Bools.{and_left, and_right, cond-one_le}
use Rattle.lists.specs.Ranges.{all_from, count_from}
use Rattle.lists.proofs.RangeLaws.{table, count-last}
use Rattle.plan.specs.declared.Plan.{Plan}
use Rattle.plan_rules.specs.Rules.{plan_ok}
use Rattle.plan_rules.proofs.RuleLaws.{rules}
use Rattle.plan_rules.proofs.AppendRules.{Within, counts-within}
use Rattle.scalar.specs.Scalars.{Typed}
use Rattle.constraint_spec.specs.Sets.{set_ok, canonical_at, non_nulls, literals, handles, literal_at, handle_at}
use Rattle.plan_identities.specs.declared.Identities.{Identities}
use Rattle.apply_spec.specs.Facts.{lineage_ok, definition_ok, residual_ok, facts_ok}
use Rattle.apply_spec.specs.declared.LogicalFacts.{LogicalFacts}
use Rattle.writing.specs.Text.{lines}
use Rattle.listing_lines.specs.Lines.{header_line, member_text}
use Rattle.listing_lines.proofs.Lengths.{header_length, column-length, define_length, member-length, nonnull_length, literal-length, range_length}
use Rattle.listing_lines.proofs.Lengths.{residual-length}
use Rattle.listing.specs.Listing.{column_lines, define_lines, members_in, members_text, class_line, class_lines, nonnull_lines}
use Rattle.listing.specs.Listing.{literal_lines, range_lines, residual_lines, set_text, listing_text}
use Rattle.listing.specs.Typed.{TypedFacts}

-- ---- lines are as long as their sum, and no longer than the longest of them each
unfoldable sum_to : (ℕ → ℕ) → ℕ → ℕ
sum_to g zero = 0
sum_to g (suc n) = sum_to g n + g n

lines_sum : (n : ℕ) (f : ℕ → List ℕ) (g : ℕ → ℕ) → ((k : ℕ) → k < n → length (f k) ≤ g k) → length (lines n f) ≤ sum_to g n
unfolding lines sum_to
lines_sum zero f g h = omega arith
lines_sum (suc n) f g h =
    omega (arith, length-append (lines n f) (f n), lines_sum n f g (λ k l. h k (omega arith)), h n (omega arith))

lines-length : (n m : ℕ) (f : ℕ → List ℕ) → ((k : ℕ) → k < n → length (f k) ≤ m) → length (lines n f) ≤ n * m
unfolding lines
lines-length zero m f h = omega arith
lines-length (suc n) m f h =
    omega (arith, length-append (lines n f) (f n), lines-length n m f (λ k l. h k (omega arith)), h n (omega arith))

sum_times : (m : ℕ) (g : ℕ → ℕ) (n : ℕ) → sum_to (λ (k : ℕ). m * g k) n ≡ m * sum_to g n
unfolding sum_to
sum_times m g zero = omega arith
sum_times m g (suc n) = omega (arith, sum_times m g n)

sum_both : (f g h : ℕ → ℕ) (n : ℕ) → ((k : ℕ) → h k ≡ f k + g k) → sum_to h n ≡ sum_to f n + sum_to g n
unfolding sum_to
sum_both f g h zero e = omega arith
sum_both f g h (suc n) e = omega (arith, sum_both f g h n e, e n)

-- ---- classes: every identity is a member of one at the most
one-root : (x n : ℕ) → sum_to (λ (r : ℕ). cond (eqb x r) 1 0) n ≡ cond (ltb x n) 1 0
unfolding sum_to
one-root x zero = rw (le-ltb x 0 (omega arith))
one-root x (suc n) =
    elim (dec_lt x n) [
      | yes l ↦ rw (one-root x n, lt-ltb x n l, lt-ltb x (suc n) (omega arith), ne_eqb x n (λ e. absurd (omega (arith, e)))) (omega arith)
      | no g ↦ elim (dec_lt x (suc n)) [
        | yes k ↦ (let e : x ≡ n = omega arith in rw (one-root x n, le-ltb x n (omega arith), lt-ltb x (suc n) k, eq-eqb x n e) (omega arith))
        | no k ↦ rw (one-root x n, le-ltb x n (omega arith), le-ltb x (suc n) (omega arith), ne_eqb x n (λ e. absurd (omega (arith, e)))) (omega arith)
      ]
    ]

sum_none : (g : ℕ → ℕ) (n : ℕ) → ((k : ℕ) → g k ≡ 0) → sum_to g n ≡ 0
unfolding sum_to
sum_none g zero e = refl
sum_none g (suc n) e = omega (arith, sum_none g n e, e n)

-- the members of all classes together
all_members : (root : ℕ → ℕ) (m n : ℕ) → sum_to (λ (r : ℕ). count_from (λ (i : ℕ). eqb (root i) r) 0 n) m ≤ n
unfolding count_from
all_members root m zero = omega (arith, sum_none (λ (r : ℕ). count_from (λ (i : ℕ). eqb (root i) r) 0 0) m (λ k. refl))
all_members root m (suc n) =
    omega (
      arith,
      sum_both (λ (r : ℕ). count_from (λ (i : ℕ). eqb (root i) r) 0 n) (λ (r : ℕ). cond (eqb (root (0 + n)) r) 1 0)
          (λ (r : ℕ). count_from (λ (i : ℕ). eqb (root i) r) 0 (suc n)) m (λ r. count-last (λ (i : ℕ). eqb (root i) r) n 0),
      one-root (root (0 + n)) m,
      cond-one_le (ltb (root (0 + n)) m),
      all_members root m n,
    )

count_sum : (f : ℕ → Bool) (n : ℕ) → count_from f 0 n ≡ sum_to (λ (i : ℕ). cond (f i) 1 0) n
unfolding count_from sum_to
count_sum f zero = refl
count_sum f (suc n) =
    let e : 0 + n ≡ n = omega arith in
    count-last f n 0 ∙ ap (λ (i : ℕ). count_from f 0 n + cond (f i) 1 0) e ∙ ap (λ (k : ℕ). k + cond (f n) 1 0) (count_sum f n)

members_length : (ids : Identities) (root : ℕ → ℕ) (r : ℕ) → length (members_text ids root r) ≤ 4 * members_in root r
unfolding members_text members_in
members_length ids root r =
    omega (
      arith,
      lines_sum 128 (λ (i : ℕ). member_text ids (root i) r i) (λ (i : ℕ). 4 * cond (eqb (root i) r) 1 0) (λ i l. member-length ids (root i) r i l),
      sum_times 4 (λ (i : ℕ). cond (eqb (root i) r) 1 0) 128,
      count_sum (λ (i : ℕ). eqb (root i) r) 128,
    )

-- from two members up, six bytes and four for each member are at most seven for each member
class_length : (ids : Identities) (root : ℕ → ℕ) (r : ℕ) → length (class_line ids root r) ≤ 7 * members_in root r
unfolding class_line
class_length ids root r =
    elim (dec_le 2 (members_in root r)) [
      | yes l ↦ rw (le-leb 2 (members_in root r) l) (omega (arith, length-append (members_text ids root r) (10 ∷ []), members_length ids root r))
      | no g ↦ rw (lt-leb 2 (members_in root r) (omega arith)) (omega arith)
    ]

classes-length : (ids : Identities) (root : ℕ → ℕ) → length (class_lines ids root) ≤ 896
unfolding class_lines members_in
classes-length ids root =
    omega (
      arith,
      lines_sum 128 (class_line ids root) (λ (r : ℕ). 7 * members_in root r) (λ r l. class_length ids root r),
      sum_times 7 (members_in root) 128,
      all_members root 128 128,
    )

-- ---- the whole, by the digits of numbers: an operator has d + 1, a Derived identity of the lineage k + 2, an expression e + 1
module _ (d k e : ℕ) (h : ℕ) (ids : Identities) (f : LogicalFacts)
    (operator : h < 10 ^ suc d)
    (lineage : (c : ℕ) → c < 64 → get_or f.lineage c 0 < 65 + 10 ^ suc (suc k))
    (definitions : (c : ℕ) → c < 64 → get_or f.definitions c 0 < 10 ^ suc e)
    (residuals : (i : ℕ) → i < f.constraints.residuals → handle_at f.constraints i < 10 ^ suc e)
    (values : (i : ℕ) → Typed (literal_at f.constraints i).value) where
  columns-length : length (column_lines ids f.lineage) ≤ 64 * (14 + k)
  unfolding column_lines
  columns-length = lines-length 64 (14 + k) _ (λ c l. column-length ids k c _ l (lineage c l))

  defines_length : length (define_lines f.definitions) ≤ 64 * (13 + e)
  unfolding define_lines
  defines_length = lines-length 64 (13 + e) _ (λ c l. define_length e c _ l (definitions c l))

  nonnulls_length : length (nonnull_lines ids (non_nulls f.constraints)) ≤ 128 * 12
  unfolding nonnull_lines
  nonnulls_length = lines-length 128 12 _ (λ i l. nonnull_length ids i _ l)

  literals-length : length (literal_lines ids (literals f.constraints)) ≤ 128 * 37
  unfolding literal_lines
  literals-length = lines-length 128 37 _ (λ i l. literal-length ids i _ l (values i))

  ranges_length : length (range_lines ids f.constraints.ranges) ≤ 128 * 46
  unfolding range_lines
  ranges_length = lines-length 128 46 _ (λ i l. range_length ids i _ l)

  residuals-length : length (residual_lines (handles f.constraints) f.constraints.residuals) ≤ 64 * (12 + e)
  unfolding residual_lines
  residuals-length =
      le_trans (lines-length (min f.constraints.residuals 64) (12 + e) _ (λ i l. residual-length e _ (residuals i (omega arith))))
      (mul-le-mul_right (12 + e) (omega arith))

  whole_length : length (listing_text h ids f) ≤ (10 + d) + (64 * (14 + k) + (64 * (13 + e) + (896 + (128 * 12 + (128 * 37 + (128 * 46 + 64 * (12 + e)))))))
  unfolding listing_text set_text
  whole_length =
      omega (
        arith,
        length-append (header_line h f.constraints.contradictory)
            (column_lines ids f.lineage ++ (define_lines f.definitions ++ set_text ids f.constraints)),
        length-append (column_lines ids f.lineage) (define_lines f.definitions ++ set_text ids f.constraints),
        length-append (define_lines f.definitions) (set_text ids f.constraints),
        length-append (class_lines ids (canonical_at f.constraints))
            (nonnull_lines ids (non_nulls f.constraints)
            ++ (literal_lines ids (literals f.constraints) ++ (range_lines ids f.constraints.ranges ++ residual_lines (handles f.constraints)
            f.constraints.residuals))),
        length-append (nonnull_lines ids (non_nulls f.constraints))
            (literal_lines ids (literals f.constraints) ++ (range_lines ids f.constraints.ranges ++ residual_lines (handles f.constraints)
            f.constraints.residuals)),
        length-append (literal_lines ids (literals f.constraints)) (range_lines ids f.constraints.ranges ++ residual_lines (handles f.constraints)
            f.constraints.residuals),
        length-append (range_lines ids f.constraints.ranges) (residual_lines (handles f.constraints) f.constraints.residuals),
        header_length d h f.constraints.contradictory operator,
        columns-length,
        defines_length,
        classes-length ids (canonical_at f.constraints),
        nonnulls_length,
        literals-length,
        ranges_length,
        residuals-length,
      )

-- ---- every listing that a program can ask for, of whatever facts
pub listing-length : (h : ℕ) (ids : Identities) (f : LogicalFacts) → h < 2 ^ 64 → TypedFacts f → length (listing_text h ids f) ≤ 16157
listing-length h ids f l t =
    omega (
      arith,
      whole_length 19 1 4 h ids f (omega arith) (λ c m. omega (arith, t.lineage c)) (λ c m. omega (arith, t.definitions c))
          (λ i m. omega (arith, t.handles i)) t.literals,
    )

-- ---- the largest listing of facts over a plan
lineage-small : (v c nc : ℕ) → nc ≤ 64 → (eqb v 0 || (ltb c nc && (ltb (v - 1) nc || (leb 64 (v - 1) && ltb (v - 1) (64 + nc))))) ≡ true → v < 129
lineage-small v c nc l h =
    elim (dec_lt v 129) [
      | yes g ↦ g
      | no g ↦ absurd (false≢true (and_right (leb 64 (v - 1)) false (and_right (ltb c nc) (leb 64 (v - 1) && false)
          (rw (ne_eqb v 0 (λ z. absurd (omega (arith, z))), le-ltb (v - 1) nc (omega arith), le-ltb (v - 1) (64 + nc) (omega arith)) at h))))
    ]

definition_small : (d c nc ne : ℕ) → ne ≤ 1024 → (eqb d 0 || (ltb c nc && leb d ne)) ≡ true → d ≤ 1024
definition_small d c nc ne l h =
    elim (dec_le d 1024) [
      | yes g ↦ g
      | no g ↦ absurd (false≢true (and_right (ltb c nc) false (rw (ne_eqb d 0 (λ z. absurd (omega (arith, z))), lt-leb d ne (omega arith)) at h)))
    ]

module _ (p : Plan) (f : LogicalFacts) (ok : plan_ok p ≡ true) (facts : facts_ok p f ≡ true) where
  few : Within p
  few = counts-within p (rules p ok)

  lineages : all_from (lineage_ok f.lineage p.columns.count) 0 64 ≡ true
  unfolding facts_ok
  lineages = and_left _ _ facts

  definitions : all_from (definition_ok f.definitions p.columns.count p.expressions.count) 0 64 ≡ true
  unfolding facts_ok
  definitions = and_left _ _ (and_right (all_from (lineage_ok f.lineage p.columns.count) 0 64) _ facts)

  residuals : all_from (residual_ok f.constraints p.expressions.count) 0 f.constraints.residuals ≡ true
  unfolding facts_ok
  residuals =
      and_right (set_ok f.constraints) _
      (and_right (all_from (definition_ok f.definitions p.columns.count p.expressions.count) 0 64) _
      (and_right (all_from (lineage_ok f.lineage p.columns.count) 0 64) _ facts))

  pub plan-listing-length : (h : ℕ) (ids : Identities) → h < p.operators.count
      → ((i : ℕ) → Typed (literal_at f.constraints i).value) → length (listing_text h ids f) ≤ 15948
  unfolding lineage_ok definition_ok
  plan-listing-length h ids l typed =
      let w = few in
      omega (
        arith,
        whole_length 2 0 3 h ids f (omega arith)
            (λ c m. omega (
              arith,
              lineage-small (get_or f.lineage c 0) c p.columns.count w.columns
                  (table (lineage_ok f.lineage p.columns.count) 64 lineages c m),
            ))
            (λ c m. omega (
              arith,
              definition_small (get_or f.definitions c 0) c p.columns.count p.expressions.count w.exprs
                  (table (definition_ok f.definitions p.columns.count p.expressions.count) 64 definitions c m),
            ))
            (λ i m. omega (
              arith,
              ltb-true (handle_at f.constraints i) p.expressions.count
                  (table (residual_ok f.constraints p.expressions.count) f.constraints.residuals residuals i m),
            ))
            typed,
      )
