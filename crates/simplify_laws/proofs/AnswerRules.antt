-- The plan that the simplifier hands back keeps the rules. Assumes nothing.
use mathlib.Core.Path.{◌≡◌, refl, sym, ap, ap₂, subst, ◌∙◌}
use mathlib.Core.Bool.{true, cond, ◌&&◌, true≢false}
use Prim.Native.Nat.{ℕ, zero, suc, ◌+◌, ◌-◌, ◌<◌, ◌≤◌}
use native.Mathlib.Omega.{arith}
use native.Mathlib.Nat.{le_refl}
use lib.Dec.{ltb, leb, eqb}
use lib.ListN.{length, get_or}
use borrow.Author.Tests.{lt-ltb, le-ltb, eqb-true, ltb-true, leb-true}
use Rattle.laws.proofs.Bools.{and_left, and_right, cond_elim}
use Rattle.lists.specs.Ranges.{all_from}
use Rattle.lists.proofs.RangeLaws.{all-at}
use Rattle.plan_kinds.specs.declared.Record.{Record}
use Rattle.plan_kinds.specs.Rows.{row_of, line_of}
use Rattle.plan_kinds.specs.Records.{code_ok, bits_ok, handle_ok, handles_ok, count_of, more_of}
use Rattle.plan.proofs.AppendLaws.{items-sized}
use Rattle.plan.specs.declared.Plan.{Plan}
use Rattle.plan.specs.declared.Items.{Items}
use Rattle.plan.specs.declared.Operator.{Operator}
use Rattle.plan.specs.Records.{operator_record, operator_start}
use Rattle.plan.specs.Extends.{Sized}
use Rattle.plan_rules.specs.Rules.{record_ok, item_ok, lists_ok, operator_ok_of, plan_ok}
use Rattle.plan_rules.proofs.RuleLaws.{Rules, rules, rules-of, grown}
use Rattle.plan_rules.proofs.AppendRules.{counts-within, once-kept, counts-fit}
use Rattle.plan_data.specs.Codes.{join_type_of}
use Rattle.plan_data.specs.Nodes.{operator_data, record_of_operator, operator_at}
use Rattle.plan_data.specs.declared.JoinType.{JoinType}
use Rattle.plan_data.specs.declared.JoinType.TheVariants.{Inner, LeftSemi, LeftAnti, LeftOuter, Single, RightOuter, FullOuter, LeftMark}
use Rattle.plan_data.specs.declared.OperatorData.{OperatorData}
use Rattle.plan_data.specs.declared.OperatorData.TheVariants.{Scan, ConstScan, TableFunction, Selection, Projection, Rename, Map, Aggregation, Sort}
use Rattle.plan_data.specs.declared.OperatorData.TheVariants.{Limit, Output, CrossProduct, Join}
use Rattle.simplify_spec.specs.Shapes.{is_literal}
use Rattle.simplify_spec.specs.OneExpression.{handle, shape_in, with_items}
use Rattle.simplify_spec.specs.OneOperator.{held_of, held_count, held_at, each_to, each_of, start_of, add_operator, input_or, rewrite_of}
use Rattle.simplify_spec.specs.OneOperator.{simplify_of, item_count, item_first, item_second, with_list, rebuilt_of, plan_with, plan_added}
use Rattle.simplify_spec.specs.Meaning.{Good}
use Rattle.simplify_spec.specs.declared.Tables.{Tables}
use Rattle.simplify_spec.specs.Answers.{Each}
use Rattle.simplify_spec.specs.Answers.{Rewritten}
use Rattle.simplify_spec.proofs.OperatorTheorems.{list-extends, all-kept, is_rewrite}
use Rattle.simplify_laws.specs.Wholes.{RightOperator}
use Rattle.simplify_laws.proofs.NewOperators.{new-rules, selection_right, Marked, join-operator-right, map-right, sort-right, aggregation_right}
use Rattle.simplify_laws.proofs.NewOperators.{write_length, write_at}

-- the old record x, its lists from start0 on in the items t0; new tables with ne expressions and items t, and what became of the expressions
module _ (x : Record) (start0 nc ne0 np used : ℕ) (t0 : Items) (ok : record_ok 3 x nc ne0 np ≡ true)
    (lists : lists_ok t0.a t0.b used x start0 nc ne0 np ≡ true)
    (small : used ≤ 2048) (t : Items) (sa : length t.a ≡ 2048) (sb : length t.b ≡ 2048) (ne n : ℕ) (np≤n : np ≤ n) (at : ℕ → ℕ) where
  handles : handles_ok (row_of x.kind) x nc ne0 np ≡ true
  unfolding record_ok
  handles =
      and_right (bits_ok (row_of x.kind) x) _
      (and_right (code_ok (row_of x.kind) x) _ (and_right (eqb (row_of x.kind).sort 3) _ ok))

  h_a : handle_ok (row_of x.kind).a x.a nc ne0 np ≡ true
  h_a = and_left _ _ (and_left _ _ (and_left _ _ handles))

  h_b : handle_ok (row_of x.kind).b x.b nc ne0 np ≡ true
  h_b = and_right (handle_ok (row_of x.kind).a x.a nc ne0 np) _ (and_left _ _ (and_left _ _ handles))

  h_c : handle_ok (row_of x.kind).c x.c nc ne0 np ≡ true
  h_c = and_right (handle_ok (row_of x.kind).a x.a nc ne0 np && handle_ok (row_of x.kind).b x.b nc ne0 np) _ (and_left _ _ handles)

  h_d : handle_ok (row_of x.kind).d x.d nc ne0 np ≡ true
  h_d = and_right ((handle_ok (row_of x.kind).a x.a nc ne0 np && handle_ok (row_of x.kind).b x.b nc ne0 np) && handle_ok (row_of x.kind).c x.c
      nc ne0 np) _ handles

  as_operator : (s v : ℕ) → s ≡ 4 → handle_ok s v nc ne0 np ≡ true → v < n
  unfolding handle_ok
  as_operator s v e h =
      let l : v < np = ltb-true v np (subst (λ (m : ℕ). handle_ok m v nc ne0 np ≡ true) e h) in
      omega arith

  as_column : (s v : ℕ) → s ≡ 2 → handle_ok s v nc ne0 np ≡ true → v < nc
  unfolding handle_ok
  as_column s v e h = ltb-true v nc (subst (λ (m : ℕ). handle_ok m v nc ne0 np ≡ true) e h)

  row_a : (k s : ℕ) → (row_of k).a ≡ s → x.kind ≡ k → (row_of x.kind).a ≡ s
  row_a k s q e = ap (λ (m : ℕ). (row_of m).a) e ∙ q

  row_b : (k s : ℕ) → (row_of k).b ≡ s → x.kind ≡ k → (row_of x.kind).b ≡ s
  row_b k s q e = ap (λ (m : ℕ). (row_of m).b) e ∙ q

  row_c : (k s : ℕ) → (row_of k).c ≡ s → x.kind ≡ k → (row_of x.kind).c ≡ s
  row_c k s q e = ap (λ (m : ℕ). (row_of m).c) e ∙ q

  row_d : (k s : ℕ) → (row_of k).d ≡ s → x.kind ≡ k → (row_of x.kind).d ≡ s
  row_d k s q e = ap (λ (m : ℕ). (row_of m).d) e ∙ q

  within : (k c m : ℕ) → count_of (row_of k) x ≡ c → more_of (row_of k) x ≡ m → x.kind ≡ k → start0 + (c + m) ≤ used
  unfolding lists_ok
  within k c m qc qm e =
      let w : start0 + (count_of (row_of x.kind) x + more_of (row_of x.kind) x) ≤ used = leb-true
      (start0 + (count_of (row_of x.kind) x + more_of (row_of x.kind) x)) used (and_left _ _ lists) in
      subst (λ (j : ℕ). start0 + j ≤ used) (ap₂ (λ (a b : ℕ). a + b) (ap (λ (y : ℕ). count_of (row_of y) x) e ∙ qc) (ap (λ (y : ℕ). more_of (row_of y)
      x) e ∙ qm)) w

  firsts-old : (k i c : ℕ) → (row_of k).item ≡ i → count_of (row_of k) x ≡ c → x.kind ≡ k → all_from (item_ok t0.a t0.b i nc ne0 np) start0 c ≡ true
  unfolding lists_ok
  firsts-old k i c qi qc e =
      let a : all_from (item_ok t0.a t0.b (row_of x.kind).item nc ne0 np) start0 (count_of (row_of x.kind) x) ≡ true =
      and_left _ _ (and_right (leb (start0 + (count_of (row_of x.kind) x + more_of (row_of x.kind) x)) used) _ lists) in
      subst (λ (m : ℕ). all_from (item_ok t0.a t0.b i nc ne0 np) start0 m ≡ true) (ap (λ (y : ℕ). count_of (row_of y) x) e ∙ qc)
      (subst (λ (m : ℕ). all_from (item_ok t0.a t0.b m nc ne0 np) start0 (count_of (row_of x.kind) x) ≡ true) (ap (λ (y : ℕ). (row_of y).item) e ∙ qi)
      a)

  others-old : (k c m : ℕ) → count_of (row_of k) x ≡ c → more_of (row_of k) x ≡ m → x.kind ≡ k → all_from (item_ok t0.a t0.b 0x40 nc ne0 np) (start0 +
      c) m
      ≡ true
  unfolding lists_ok
  others-old k c m qc qm e =
      let a : all_from (item_ok t0.a t0.b 0x40 nc ne0 np) (start0 + count_of (row_of x.kind) x) (more_of (row_of x.kind) x) ≡ true =
      and_right (all_from (item_ok t0.a t0.b (row_of x.kind).item nc ne0 np) start0 (count_of (row_of x.kind) x)) _
      (and_right (leb (start0 + (count_of (row_of x.kind) x + more_of (row_of x.kind) x)) used) _ lists) in
      subst (λ (j : ℕ). all_from (item_ok t0.a t0.b 0x40 nc ne0 np) (start0 + j) m ≡ true) (ap (λ (y : ℕ). count_of (row_of y) x) e ∙ qc)
      (subst (λ (j : ℕ). all_from (item_ok t0.a t0.b 0x40 nc ne0 np) (start0 + count_of (row_of x.kind) x) j ≡ true)
      (ap (λ (y : ℕ). more_of (row_of y) x) e ∙ qm) a)

  item-column : (k j : ℕ) → (row_of k).a ≡ 2 → item_ok t0.a t0.b k nc ne0 np j ≡ true → get_or t0.a j 0 < nc
  unfolding item_ok
  item-column k j q h = as_column (row_of k).a (get_or t0.a j 0) q (and_left _ _ (and_left _ _ (and_left _ _ h)))

  -- ---- the new operator
  pub record Fine (d : OperatorData) : Type 0 where
    pub right : RightOperator (with_list t (item_count (held_of d)) (item_first t0 (held_of d) at) (item_second (held_of d) at)) nc ne n t.count
        (record_of_operator (rebuilt_of d t.count at))
    pub other : (record_of_operator (rebuilt_of d t.count at)).kind ≡ 0x30 → ⊥
    pub none : (record_of_operator (rebuilt_of d t.count at)).bits ≡ 0

  abbrev pub FineIf : OperatorData → Type 0
  FineIf d = 1 ≤ held_count (held_of d) → ((k : ℕ) → k < held_count (held_of d) → at k < ne) → t.count + item_count (held_of d) ≤ 2048 → Fine d

  nothing : (d : OperatorData) → held_count (held_of d) ≡ 0 → FineIf d
  nothing d e one ats room = absurd (omega (arith, e, one))

  join-other : (j : JoinType) (e : ℕ) (l i : Operator) → (record_of_operator (Join j (handle e) l i)).kind ≡ 0x30 → ⊥
  join-other Inner e l i q = omega (arith, q)
  join-other LeftSemi e l i q = omega (arith, q)
  join-other LeftAnti e l i q = omega (arith, q)
  join-other LeftOuter e l i q = omega (arith, q)
  join-other Single e l i q = omega (arith, q)
  join-other RightOuter e l i q = omega (arith, q)
  join-other FullOuter e l i q = omega (arith, q)
  join-other (LeftMark c) e l i q = omega (arith, q)

  -- a code is of no LeftMark join
  code_marked : (m : Items) (u c : ℕ) (le : u ≤ m.count) → Marked m nc ne n u le (join_type_of c)
  code_marked m u c le =
      let P : JoinType → Type 0 = λ j. Marked m nc ne n u le j in
      cond_elim P (eqb c 0) _ _ (λ e. tt)
      (λ e. cond_elim P (eqb c 1) _ _ (λ e. tt)
      (λ e. cond_elim P (eqb c 2) _ _ (λ e. tt)
      (λ e. cond_elim P (eqb c 3) _ _ (λ e. tt)
      (λ e. cond_elim P (eqb c 4) _ _ (λ e. tt)
      (λ e. cond_elim P (eqb c 5) _ _ (λ e. tt) (λ e. tt))))))

  -- the entries of the new lists
  module _ (f h : ℕ → ℕ) (m : ℕ) (room : t.count + m ≤ 2048) where
    new-first : (j : ℕ) → t.count ≤ j → j < t.count + m → get_or (with_list t m f h).a j 0 ≡ f (j - t.count)
    new-first j lo hi = write_at t.a t.count f m j (omega (arith, sa)) lo hi

    new-second : (j : ℕ) → t.count ≤ j → j < t.count + m → get_or (with_list t m f h).b j 0 ≡ h (j - t.count)
    new-second j lo hi = write_at t.b t.count h m j (omega (arith, sb)) lo hi

  selection_fine : x.kind ≡ 0x33 → FineIf (Selection (record { 0 = x.a }) (record { 0 = x.b }))
  unfolding row_of line_of
  selection_fine e one ats room =
      record {
        right =
            selection_right (with_list t 0 (λ (k : ℕ). 0) (λ (k : ℕ). 0)) nc ne n t.count (omega arith) (at 0) x.b (ats 0 (omega arith))
            (as_operator (row_of x.kind).b x.b (row_b 0x33 4 refl e) h_b);
        other = λ q. omega (arith, q);
        none = refl;
      }

  join_fine : x.kind ≡ 0x3C → FineIf (Join (join_type_of x.code) (record { 0 = x.a }) (record { 0 = x.b }) (record { 0 = x.c }))
  unfolding row_of line_of
  join_fine e one ats room =
      record {
        right =
            join-operator-right (with_list t 0 (λ (k : ℕ). 0) (λ (k : ℕ). 0)) nc ne n t.count (omega arith) (join_type_of x.code) (handle (at 0))
            (record { 0 = x.b }) (record { 0 = x.c }) (ats 0 (omega arith))
            (as_operator (row_of x.kind).b x.b (row_b 0x3C 4 refl e) h_b) (as_operator (row_of x.kind).c x.c (row_c 0x3C 4 refl e) h_c)
            (code_marked (with_list t 0 (λ (k : ℕ). 0) (λ (k : ℕ). 0)) t.count x.code (omega arith));
        other = join-other (join_type_of x.code) (at 0) (record { 0 = x.b }) (record { 0 = x.c });
        none = refl;
      }

  mark_fine : x.kind ≡ 0x3D → FineIf (Join (LeftMark (record { 0 = x.d })) (record { 0 = x.a }) (record { 0 = x.b }) (record { 0 = x.c }))
  unfolding row_of line_of
  mark_fine e one ats room =
      record {
        right =
            join-operator-right (with_list t 0 (λ (k : ℕ). 0) (λ (k : ℕ). 0)) nc ne n t.count (omega arith) (LeftMark (record { 0 = x.d })) (handle
            (at 0))
            (record { 0 = x.b }) (record { 0 = x.c }) (ats 0 (omega arith))
            (as_operator (row_of x.kind).b x.b (row_b 0x3D 4 refl e) h_b) (as_operator (row_of x.kind).c x.c (row_c 0x3D 4 refl e) h_c)
            (as_column (row_of x.kind).d x.d (row_d 0x3D 2 refl e) h_d);
        other = join-other (LeftMark (record { 0 = x.d })) (at 0) (record { 0 = x.b }) (record { 0 = x.c });
        none = refl;
      }

  map_fine : x.kind ≡ 0x36 → FineIf (Map (record { 0 = x.a }) (record { start = start0; count = x.b }))
  unfolding row_of line_of count_of more_of
  map_fine e one ats room =
      let f : ℕ → ℕ = λ k. get_or t0.a (start0 + k) 0 in
      let w : start0 + (x.b + 0) ≤ used = within 0x36 x.b 0 refl refl e in
      record {
        right =
            map-right (with_list t x.b (λ (k : ℕ). get_or t0.a (start0 + k) 0) at) nc ne n t.count x.a x.b
            (as_operator (row_of x.kind).a x.a (row_a 0x36 4 refl e) h_a) (omega arith) (le_refl _)
            (λ j lo hi.
            rw (new-first (λ (k : ℕ). get_or t0.a (start0 + k) 0) at x.b room j lo hi)
            (item-column 0x42 (start0 + (j - t.count)) refl
            (all-at (item_ok t0.a t0.b 0x42 nc ne0 np) x.b start0 (firsts-old 0x36 0x42 x.b refl refl e) (start0 + (j - t.count))
            (omega arith) (omega arith))))
            (λ j lo hi. rw (new-second (λ (k : ℕ). get_or t0.a (start0 + k) 0) at x.b room j lo hi) (ats (j - t.count) (omega arith)));
        other = λ q. omega (arith, q);
        none = refl;
      }

  -- the first number of a key or of a column after the keys
  abbrev keyed : ℕ → ℕ → ℕ
  keyed c k = cond (ltb k c) (at k) (get_or t0.a (start0 + k) 0)

  keyed_in : (c k : ℕ) → k < c → cond (ltb k c) (at k) (get_or t0.a (start0 + k) 0) ≡ at k
  keyed_in c k lt = rw (lt-ltb k c lt)

  keyed-past : (c k : ℕ) → c ≤ k → cond (ltb k c) (at k) (get_or t0.a (start0 + k) 0) ≡ get_or t0.a (start0 + k) 0
  keyed-past c k le = rw (le-ltb k c le)

  aggregation_fine : x.kind ≡ 0x37 → FineIf (Aggregation (record { 0 = x.a }) (record { start = start0; count = x.b })
      (record { start = start0 + x.b; count = x.c }))
  unfolding row_of line_of count_of more_of
  aggregation_fine e one ats room =
      let w : start0 + (x.b + x.c) ≤ used = within 0x37 x.b x.c refl refl e in
      record {
        right =
            aggregation_right (with_list t (x.b + x.c) (keyed x.b) (λ (k : ℕ). 0)) nc ne n t.count x.a x.b x.c
            (as_operator (row_of x.kind).a x.a (row_a 0x37 4 refl e) h_a) (omega arith) (omega arith) (le_refl _)
            (λ j lo hi.
            let v : get_or (with_list t (x.b + x.c) (keyed x.b) (λ (k : ℕ). 0)).a j 0 ≡ at (j - t.count) =
            new-first (keyed x.b) (λ (k : ℕ). 0) (x.b + x.c) room j lo (omega arith) ∙ keyed_in x.b (j - t.count) (omega arith) in
            rw v (ats (j - t.count) (omega arith)))
            (λ j lo hi.
            let v : get_or (with_list t (x.b + x.c) (keyed x.b) (λ (k : ℕ). 0)).a j 0 ≡ get_or t0.a (start0 + (j - t.count)) 0 =
            new-first (keyed x.b) (λ (k : ℕ). 0) (x.b + x.c) room j (omega arith) (omega arith) ∙ keyed-past x.b (j - t.count) (omega arith) in
            rw v
            (item-column 0x40 (start0 + (j - t.count)) refl
            (all-at (item_ok t0.a t0.b 0x40 nc ne0 np) x.c (start0 + x.b) (others-old 0x37 x.b x.c refl refl e) (start0 + (j - t.count))
            (omega arith) (omega arith))))
            (λ j lo hi. new-second (keyed x.b) (λ (k : ℕ). 0) (x.b + x.c) room j lo hi);
        other = λ q. omega (arith, q);
        none = refl;
      }

  sort_fine : x.kind ≡ 0x38 → FineIf (Sort (record { 0 = x.a }) (record { start = start0; count = x.b }))
  unfolding row_of line_of count_of more_of
  sort_fine e one ats room =
      let w : start0 + (x.b + 0) ≤ used = within 0x38 x.b 0 refl refl e in
      record {
        right =
            sort-right (with_list t (x.b + 0) (keyed x.b) (λ (k : ℕ). 0)) nc ne n t.count x.a x.b
            (as_operator (row_of x.kind).a x.a (row_a 0x38 4 refl e) h_a) (omega arith) (omega arith)
            (λ j lo hi.
            let v : get_or (with_list t (x.b + 0) (keyed x.b) (λ (k : ℕ). 0)).a j 0 ≡ at (j - t.count) =
            new-first (keyed x.b) (λ (k : ℕ). 0) (x.b + 0) room j lo (omega arith) ∙ keyed_in x.b (j - t.count) (omega arith) in
            rw v (ats (j - t.count) (omega arith)))
            (λ j lo hi. new-second (keyed x.b) (λ (k : ℕ). 0) (x.b + 0) room j lo (omega arith));
        other = λ q. omega (arith, q);
        none = refl;
      }

  pub all_fine : FineIf (operator_data x start0)
  unfolding operator_data
  all_fine =
      let k = x.kind in
      let P : OperatorData → Type 0 = λ d. FineIf d in
      cond_elim P (eqb k 0x30) _ _ (λ e. nothing _ refl)
      (λ e. cond_elim P (eqb k 0x31) _ _ (λ e. nothing _ refl)
      (λ e. cond_elim P (eqb k 0x32) _ _ (λ e. nothing _ refl)
      (λ e. cond_elim P (eqb k 0x33) _ _ (λ e. selection_fine (eqb-true k 0x33 e))
      (λ e. cond_elim P (eqb k 0x34) _ _ (λ e. nothing _ refl)
      (λ e. cond_elim P (eqb k 0x35) _ _ (λ e. nothing _ refl)
      (λ e. cond_elim P (eqb k 0x36) _ _ (λ e. map_fine (eqb-true k 0x36 e))
      (λ e. cond_elim P (eqb k 0x37) _ _ (λ e. aggregation_fine (eqb-true k 0x37 e))
      (λ e. cond_elim P (eqb k 0x38) _ _ (λ e. sort_fine (eqb-true k 0x38 e))
      (λ e. cond_elim P (eqb k 0x39) _ _ (λ e. nothing _ refl)
      (λ e. cond_elim P (eqb k 0x3A) _ _ (λ e. nothing _ refl)
      (λ e. cond_elim P (eqb k 0x3B) _ _ (λ e. nothing _ refl)
      (λ e. cond_elim P (eqb k 0x3C) _ _ (λ e. join_fine (eqb-true k 0x3C e))
      (λ e. cond_elim P (eqb k 0x3D) _ _ (λ e. mark_fine (eqb-true k 0x3D e)) (λ e. nothing _ refl))))))))))))))

-- ---- the plan handed back
-- the items of the new operator
module _ (p : Plan) (st : Tables) (g : Good p st) (m : ℕ) (f h : ℕ → ℕ) (room : st.items.count + m ≤ 2048) where
  abbrev pub listed_with : Tables
  listed_with = with_items st (with_list st.items m f h)

  pub listed-rules : Rules (plan_with p listed_with)
  listed-rules =
      let w = counts-within (plan_with p st) g.rules in
      let e = list-extends p st m f h in
      grown (plan_with p st) (plan_with p listed_with) e g.rules (counts-fit _ _ _ _ w.columns w.exprs w.operators room)
      (λ i a b. absurd (omega arith))
      (λ i a b. absurd (omega arith))
      (λ i a b. absurd (omega arith))
      (λ c l. once-kept (plan_with p st) (plan_with p listed_with) e g.rules refl c)

  pub listed-sized : Sized (plan_with p listed_with)
  listed-sized = items-sized (plan_with p st) listed_with.items g.sized (write_length st.items.a st.items.count f m)
      (write_length st.items.b st.items.count h m)

module _ (p : Plan) (s : Sized p) (ok : plan_ok p ≡ true) (o : Operator) (lt : o.0 < p.operators.count) where
  abbrev d : OperatorData
  d = operator_at p o.0

  abbrev each : Each
  each = each_of p (operator_at p o.0)

  abbrev st : Tables
  st = (each_of p (operator_at p o.0)).st

  abbrev at : ℕ → ℕ
  at k = get_or (each_of p (operator_at p o.0)).ats k 0

  -- where something changed there was something to simplify
  some : (each_of p (operator_at p o.0)).st.changed ≡ true → 1 ≤ held_count (held_of (operator_at p o.0))
  unfolding each_to
  some c = go (held_count (held_of (operator_at p o.0))) refl
    where
      go : (n : ℕ) → held_count (held_of (operator_at p o.0)) ≡ n → 1 ≤ n
      go zero e =
          absurd (true≢false
          (sym (ap (λ (k : ℕ). (each_to p.expressions.count (held_at p.items (held_of (operator_at p o.0))) (start_of p) k).st.changed) (sym e) ∙ c)))
      go (suc n) e = omega arith

  module _ (q : (each_of p (operator_at p o.0)).ok ≡ true) (c : (each_of p (operator_at p o.0)).st.changed ≡ true) where
    good : Good p (each_of p (operator_at p o.0)).st
    good = (all-kept p s ok o lt q).grows.good

    r : Rules p
    r = rules p ok

    record_right : record_ok 3 (operator_record p o.0) p.columns.count p.expressions.count o.0 ≡ true
    unfolding operator_ok_of
    record_right = and_left _ _ ((rules p ok).operator o.0 lt)

    lists-right : lists_ok p.items.a p.items.b p.items.count (operator_record p o.0) (operator_start p o.0) p.columns.count
        p.expressions.count o.0 ≡ true
    unfolding operator_ok_of
    lists-right = and_right (record_ok 3 (operator_record p o.0) p.columns.count p.expressions.count o.0) _ ((rules p ok).operator o.0 lt)

    added-right : p.operators.count < 128 → (each_of p (operator_at p o.0)).st.items.count + item_count (held_of (operator_at p o.0)) ≤ 2048
        → plan_ok (plan_added p (each_of p (operator_at p o.0)).st (operator_at p o.0) (held_of (operator_at p o.0))
        (λ (k : ℕ). get_or (each_of p (operator_at p o.0)).ats k 0)) ≡ true
    added-right free room =
        let w = counts-within p (rules p ok) in
        let fine =
        all_fine (operator_record p o.0) (operator_start p o.0) p.columns.count p.expressions.count o.0 p.items.count p.items
        record_right lists-right w.items
        (each_of p (operator_at p o.0)).st.items good.sized.item_a good.sized.item_b (each_of p (operator_at p o.0)).st.exprs.count
        p.operators.count (omega arith)
        (λ (k : ℕ). get_or (each_of p (operator_at p o.0)).ats k 0) (some c) (all-kept p s ok o lt q).within room in
        let f = item_first p.items (held_of (operator_at p o.0)) (λ (k : ℕ). get_or (each_of p (operator_at p o.0)).ats k 0) in
        let h = item_second (held_of (operator_at p o.0)) (λ (k : ℕ). get_or (each_of p (operator_at p o.0)).ats k 0) in
        let m = item_count (held_of (operator_at p o.0)) in
        rules-of (plan_added p (each_of p (operator_at p o.0)).st (operator_at p o.0) (held_of (operator_at p o.0))
        (λ (k : ℕ). get_or (each_of p (operator_at p o.0)).ats k 0))
        (new-rules (plan_with p (listed_with p (each_of p (operator_at p o.0)).st good m f h room))
        (record_of_operator (rebuilt_of (operator_at p o.0) (each_of p (operator_at p o.0)).st.items.count
        (λ (k : ℕ). get_or (each_of p (operator_at p o.0)).ats k 0)))
        (each_of p (operator_at p o.0)).st.items.count
        (listed-rules p (each_of p (operator_at p o.0)).st good m f h room) (listed-sized p (each_of p (operator_at p o.0)).st good m f h room) free
        fine.other fine.none fine.right)

    abbrev P : Rewritten → Type 0
    P w = plan_ok w.plan ≡ true

    add_right : plan_ok (add_operator p (each_of p (operator_at p o.0)).st (operator_at p o.0) (held_of (operator_at p o.0))
        (λ (k : ℕ). get_or (each_of p (operator_at p o.0)).ats k 0)).plan ≡ true
    add_right =
        let test = leb ((each_of p (operator_at p o.0)).st.items.count + item_count (held_of (operator_at p o.0))) 2048 in
        cond_elim (λ (w : Rewritten). plan_ok w.plan ≡ true)
        (ltb p.operators.count 128 && leb ((each_of p (operator_at p o.0)).st.items.count + item_count (held_of (operator_at p o.0))) 2048) _ _
        (λ t.
        added-right (ltb-true p.operators.count 128 (and_left (ltb p.operators.count 128) _ t))
        (leb-true ((each_of p (operator_at p o.0)).st.items.count + item_count (held_of (operator_at p o.0))) 2048
        (and_right (ltb p.operators.count 128) _ t)))
        (λ t. ok)

    input-right : (y : OperatorData)
        → plan_ok (input_or p (each_of p (operator_at p o.0)).st (operator_at p o.0) (held_of (operator_at p o.0))
        (λ (k : ℕ). get_or (each_of p (operator_at p o.0)).ats k 0) y).plan ≡ true
    input-right (Scan a b) = add_right
    input-right (ConstScan a) = add_right
    input-right (TableFunction a) = add_right
    input-right (Selection a b) =
        cond_elim (λ (w : Rewritten). plan_ok w.plan ≡ true)
        (is_literal true (shape_in (each_of p (operator_at p o.0)).st (get_or (each_of p (operator_at p o.0)).ats 0 0))) _ _
        (λ t. rules-of (plan_with p (each_of p (operator_at p o.0)).st) good.rules) (λ t. add_right)
    input-right (Projection a b) = add_right
    input-right (Rename a b) = add_right
    input-right (Map a b) = add_right
    input-right (Aggregation a b e) = add_right
    input-right (Sort a b) = add_right
    input-right (Limit a) = add_right
    input-right (Output a) = add_right
    input-right (CrossProduct a b) = add_right
    input-right (Join a b e f) = add_right

  -- whatever is answered, the plan handed back keeps the rules
  pub answer-right : plan_ok (simplify_of p o).plan ≡ true
  unfolding rewrite_of
  answer-right =
      subst (λ (w : Rewritten). plan_ok w.plan ≡ true) (sym (is_rewrite p s ok o lt))
      (cond_elim (λ (w : Rewritten). plan_ok w.plan ≡ true) (each_of p (operator_at p o.0)).ok _ _
      (λ q. cond_elim (λ (w : Rewritten). plan_ok w.plan ≡ true) (each_of p (operator_at p o.0)).st.changed _ _
      (λ c. input-right q c (operator_at p o.0)) (λ c. ok))
      (λ q. ok))
