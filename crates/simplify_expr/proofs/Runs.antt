-- The ways of `simplify_expr`, `simplify_nary` and `simplify_operands`, over their definitions: the code's passage through the operands leaves what the
-- definition says. Assumes nothing.
use Rattle.std.specs.Result.{IsErr}
use Rattle.std.proofs.Common.{Ok, Err, Result}
use mathlib.Core.Path.{◌≡◌, refl, sym, ap, ◌∙◌}
use mathlib.Core.Bool.{Bool, true, false, not, cond, or_assoc, or-false}
use mathlib.Core.Logic.{◌⊎◌, inl, inr}
use mathlib.Core.List.{List, [], ◌∷◌}
use Prim.Native.Nat.{ℕ, zero, suc, ◌+◌, ◌-◌, ◌<◌}
use native.Mathlib.Omega.{arith}
use lib.Dec.{eqb}
use lib.ListN.{length, get_or}
use borrow.Author.Tests.{eq-eqb, ne_eqb, lt-ltb}
use Rattle.comparison.specs.declared.BinaryOp.{BinaryOp}
use Rattle.plan.specs.declared.AppendError.{AppendError}
use Rattle.plan.specs.declared.Items.{Items}
use Rattle.plan.specs.declared.Expr.{Expr}
use Rattle.plan_kinds.specs.declared.Record.{Record}
use Rattle.plan_data.specs.Nodes.{run_of, record_of_expr}
use Rattle.plan_data.specs.declared.ExprData.TheVariants.{Binary, Nary}
use Rattle.simplify_spec.specs.Shapes.{is_literal, nary_op_for}
use Rattle.simplify_spec.specs.OneExpression.{handle, shape_in, kept, failed, add_record, add_node, add_nary, not_of, compare_of, enter_of}
use Rattle.simplify_spec.specs.OneExpression.{Operands, no_operands, joined_by}
use Rattle.simplify_spec.specs.OneExpression.{joined, operands_from, item_set, items_put, counted, with_items, room_for, rebuilt, nary_of}
use Rattle.simplify_spec.specs.OneExpression.{simplify_at}
use Rattle.simplify_spec.specs.declared.Tables.{Tables}
use Rattle.simplify_spec.specs.Answers.{Simplified, simplified}
use Rattle.simplify_spec.specs.declared.Shape.{Shape}
use Rattle.simplify_spec.specs.declared.Shape.TheVariants.{Not, Compare}
use Rattle.simplify_spec.proofs.StepLaws.{simplify_at_lem}
use Rattle.simplify_expr.specs.declared.Became.{Became}
use Rattle.simplify_expr.specs.declared.Became.TheVariants.{Same, Literal, One, Listed}
use Rattle.simplify_expr.specs.declared.Tally.{Tally}
use Rattle.simplify_expr.specs.Passage.{Passed, passed, refused, no_tally, next_tally, last_of, tallied, reserved, settled, with_operand}
use Rattle.simplify_expr.specs.Passage.{with_list, written, placed, closed}

-- ---- one expression e, before h
module _ (h e : ℕ) (st : Tables) (lt : e < h) where
  pub not_refused : (a : Expr) → Not a ≡ shape_in st e → (u : Tables) → failed u ≡ enter_of simplify_at e true st a.0
      → failed u ≡ enter_of simplify_at h true st e
  unfolding not_of
  not_refused a ev u eu = ap (not_of e a.0) eu ∙ sym (simplify_at_lem e st (Not a) (sym ev)) ∙ sym (rw (lt-ltb e h lt))

  pub compare_way : (op : BinaryOp) (l r : Expr) → Compare op l r ≡ shape_in st e
      → (x y : Simplified) → x ≡ enter_of simplify_at e true st l.0 → y ≡ enter_of simplify_at e x.ok x.st r.0
      → compare_of e op l.0 r.0 x.at y ≡ enter_of simplify_at h true st e
  compare_way op l r ev x y ex ey =
      ap (compare_of e op l.0 r.0 x.at) ey
      ∙ ap (λ (z : Simplified). compare_of e op l.0 r.0 z.at (enter_of simplify_at e z.ok z.st r.0)) ex
      ∙ sym (simplify_at_lem e st (Compare op l r) (sym ev))
      ∙ sym (rw (lt-ltb e h lt))

-- a comparison of i and j, where it was one of l and r
module _ (h : ℕ) (op : BinaryOp) (l r : ℕ) (st : Tables) (i j : ℕ) where
  pub compare-stays : i ≡ l → j ≡ r → kept st h ≡ compare_of h op l r i (kept st j)
  unfolding compare_of
  compare-stays p q = rw (eq-eqb i l p, eq-eqb j r q)

  pub compare-new : (i ≡ l) × (j ≡ r → ⊥) ⊎ (i ≡ l → ⊥) → add_node st (Binary op (handle i) (handle j)) ≡ compare_of h op l r i (kept st j)
  unfolding compare_of
  compare-new (inl (p, q)) = rw (eq-eqb i l p, ne_eqb j r q)
  compare-new (inr p) = rw (ne_eqb i l p)

pub simplified_err : (u : Tables) (r : Result ℕ AppendError) → IsErr r → simplified u r ≡ failed u
simplified_err u (Err e) p = refl
simplified_err u (Ok x) p = cc

pub passed_err : (u : Tables) (r : Result Became AppendError) → IsErr r → passed u r ≡ refused u
passed_err u (Err e) p = refl
passed_err u (Ok x) p = cc

-- ---- the operands of an And or Or
tally_one : (t : Tally) (e v : ℕ) (neutral deciding : Bool) (q : Operands)
    → tallied (next_tally t e v neutral deciding) q ≡ tallied t (joined_by neutral deciding e v q)
unfolding last_of
tally_one t e v true deciding q =
    λ i. record {
      kept = t.kept + length q.kept;
      last = last_of t.last q.kept;
      dirty = or_assoc t.dirty true q.dirty i;
      absorbed = or_assoc t.absorbed deciding q.absorbed i;
    }
tally_one t e v false deciding q =
    let n : (t.kept + 1) + length q.kept ≡ t.kept + length (v ∷ q.kept) = omega arith in
    λ i. record {
      kept = n i;
      last = last_of v q.kept;
      dirty = or_assoc t.dirty (not (eqb v e)) q.dirty i;
      absorbed = or_assoc t.absorbed deciding q.absorbed i;
    }

written_none : (o : Passed) (k : ℕ) → written o k [] ≡ o
unfolding items_put
written_none o k = go o.became
  where
    go : (b : Became) → ◌≡◌ {A = Passed} (record { st = with_list b o.st k []; became = b; ok = o.ok }) (record { st = o.st; became = b; ok = o.ok })
    go Same = refl
    go (Literal v) = refl
    go (One e) = refl
    go (Listed start count) = refl

-- one operand on the way back, which is the k-th if it is kept
abbrev pub with_back : Bool → ℕ → ℕ → Passed → Passed
with_back neutral k v o = record { st = cond neutral o.st (with_operand o.became o.st k v); became = o.became; ok = o.ok }

pub back-refused : (neutral : Bool) (k v : ℕ) (u : Tables) → with_back neutral k v (refused u) ≡ refused u
back-refused true k v u = refl
back-refused false k v u = refl

back_keep : (o : Passed) (k v : ℕ) (l : List ℕ) → with_back false k v (written o (k + 1) l) ≡ written o k (v ∷ l)
unfolding items_put
back_keep o k v l = go o.became
  where
    go : (b : Became) → ◌≡◌ {A = Passed} (record { st = with_operand b (with_list b o.st (k + 1) l) k v; became = b; ok = o.ok })
        (record { st = with_list b o.st k (v ∷ l); became = b; ok = o.ok })
    go Same = refl
    go (Literal b) = refl
    go (One e) = refl
    go (Listed start count) =
        let e : start + (k + 1) ≡ start + k + 1 = omega arith in
        ap (λ (j : ℕ). record {
          st = with_items o.st (item_set (items_put o.st.items j l) (start + k) v);
          became = Listed start count;
          ok = o.ok;
        }) e

place-one : (all : Bool) (t : Tally) (e v : ℕ) (neutral deciding : Bool) (q : Operands)
    → with_back neutral t.kept v (placed all (next_tally t e v neutral deciding) q) ≡ placed all t (joined_by neutral deciding e v q)
unfolding placed
place-one all t e v neutral deciding q = go neutral q.ok
  where
    end : Tally → Passed
    end x = settled all q.st x

    go : (n ok : Bool)
        → with_back n t.kept v (cond ok (written (end (tallied (next_tally t e v n deciding) q)) (cond n t.kept (t.kept + 1)) q.kept) (refused q.st))
        ≡ cond ok (written (end (tallied t (joined_by n deciding e v q))) t.kept (cond n q.kept (v ∷ q.kept))) (refused q.st)
    go true true = ap (λ (x : Tally). written (end x) t.kept q.kept) (tally_one t e v true deciding q)
    go false true =
        back_keep (end (tallied (next_tally t e v false deciding) q)) t.kept v q.kept
        ∙ ap (λ (x : Tally). written (end x) t.kept (v ∷ q.kept)) (tally_one t e v false deciding q)
    go true false = refl
    go false false = refl

-- where there is no room, there is none after the other operands
off-ok : (all : Bool) (h m : ℕ) (st : Tables) (p : ℕ) → (operands_from simplify_at all h false st p m).ok ≡ false
unfolding operands_from
off-ok all h zero st p = refl
off-ok all h (suc m) st p = off-ok all h m st (p + 1)

off-st : (all : Bool) (h m : ℕ) (st : Tables) (p : ℕ) → (operands_from simplify_at all h false st p m).st ≡ st
unfolding operands_from
off-st all h zero st p = refl
off-st all h (suc m) st p = off-st all h m st (p + 1)

placed-off : (all : Bool) (t : Tally) (q : Operands) → q.ok ≡ false → (u : Tables) → q.st ≡ u → placed all t q ≡ refused u
unfolding placed
placed-off all t q e u eu = rw e (ap refused eu)

-- the ways of `simplify_operands`
module _ (all : Bool) (h : ℕ) (st : Tables) (p m : ℕ) (t : Tally) where
  pub run_none : m ≡ 0 → settled all st t ≡ placed all t (operands_from simplify_at all h true st p m)
  unfolding operands_from last_of placed
  run_none e =
      let n : t.kept + 0 ≡ t.kept = omega arith in
      let same : tallied t (no_operands true st) ≡ t =
      (λ i. record { kept = n i; last = t.last; dirty = or-false t.dirty i; absorbed = or-false t.absorbed i }) in
      sym (ap (λ (x : Tally). settled all st x) same)
      ∙ sym (written_none (settled all st (tallied t (no_operands true st))) t.kept)
      ∙ ap (λ (j : ℕ). placed all t (operands_from simplify_at all h true st p j)) (sym e)

  run-suc : (m ≡ 0 → ⊥) → (e : ℕ) → e ≡ get_or st.items.a p 0 → (x : Simplified) → x ≡ enter_of simplify_at h true st e
      → operands_from simplify_at all h true st p m ≡ joined all e x (operands_from simplify_at all h x.ok x.st (p + 1) (m - 1))
  unfolding operands_from
  run-suc ne e ee x ex =
      let n : m ≡ suc (m - 1) = omega arith in
      let rest : Simplified → Operands = λ z. operands_from simplify_at all h z.ok z.st (p + 1) (m - 1) in
      ap (λ (j : ℕ). operands_from simplify_at all h true st p j) n
      ∙ ap (λ (j : ℕ). joined all j (enter_of simplify_at h true st j) (rest (enter_of simplify_at h true st j))) (sym ee)
      ∙ ap (λ (z : Simplified). joined all e z (rest z)) (sym ex)

  pub run_refused : (m ≡ 0 → ⊥) → (e : ℕ) → e ≡ get_or st.items.a p 0 → (u : Tables) → failed u ≡ enter_of simplify_at h true st e
      → refused u ≡ placed all t (operands_from simplify_at all h true st p m)
  run_refused ne e ee u eu =
      sym (ap (placed all t) (run-suc ne e ee (failed u) eu)
      ∙ placed-off all t (joined all e (failed u) (operands_from simplify_at all h false u (p + 1) (m - 1))) (off-ok all h (m - 1) u (p + 1)) u
      (off-st all h (m - 1) u (p + 1)))

  pub run_some : (m ≡ 0 → ⊥) → (e : ℕ) → e ≡ get_or st.items.a p 0 → (u : Tables) (v : ℕ) → kept u v ≡ enter_of simplify_at h true st e
      → (w : Shape) → w ≡ shape_in u v → (neutral deciding : Bool) → neutral ≡ is_literal all w → deciding ≡ is_literal (not all) w
      → (t2 : Tally) → t2 ≡ next_tally t e v neutral deciding
      → (y : Passed) → y ≡ placed all t2 (operands_from simplify_at all h true u (p + 1) (m - 1))
      → with_back neutral t.kept v y ≡ placed all t (operands_from simplify_at all h true st p m)
  run_some ne e ee u v eu w ew neutral deciding en ed t2 et y ey =
      let q : Operands = operands_from simplify_at all h true u (p + 1) (m - 1) in
      ap (with_back neutral t.kept v) (ey ∙ ap (λ (x : Tally). placed all x q) et)
      ∙ place-one all t e v neutral deciding q
      ∙ (λ i. placed all t (joined_by ((en ∙ ap (is_literal all) ew) i) ((ed ∙ ap (is_literal (not all)) ew) i) e v q))
      ∙ ap (placed all t) (sym (run-suc ne e ee (kept u v) eu))

-- the whole run
put-counted : (j n : ℕ) (t : Items) (v : List ℕ) → items_put (counted t n) j v ≡ counted (items_put t j v) n
unfolding items_put
put-counted j n t [] = refl
put-counted j n t (a ∷ v) = ap (λ (u : Items). item_set u j a) (put-counted (j + 1) n t v)

module _ (all : Bool) (h : ℕ) (st : Tables) where
  abbrev T : Bool → Bool → List ℕ → Tally
  T absorbed dirty l = record { kept = 0 + length l; last = last_of 0 l; dirty = dirty; absorbed = absorbed }

  nary_more : (x y : ℕ) (l : List ℕ) → closed all h (written (reserved st (length (x ∷ y ∷ l))) 0 (x ∷ y ∷ l)) ≡ add_nary all st (x ∷ y ∷ l)
  nary_more x y l = go (room_for st k)
    where
      k : ℕ
      k = length (x ∷ y ∷ l)

      own : Record
      own = record_of_expr (Nary (nary_op_for all) (run_of st.items.count k))

      items : items_put (counted st.items (st.items.count + k)) (st.items.count + 0) (x ∷ y ∷ l)
          ≡ counted (items_put st.items st.items.count (x ∷ y ∷ l)) (st.items.count + k)
      items =
          let z : st.items.count + 0 ≡ st.items.count = omega arith in
          ap (λ (j : ℕ). items_put (counted st.items (st.items.count + k)) j (x ∷ y ∷ l)) z
          ∙ put-counted st.items.count (st.items.count + k) st.items (x ∷ y ∷ l)

      go : (t : Bool)
          → closed all h (written (cond t (passed (with_items st (counted st.items (st.items.count + k))) (Ok (Listed st.items.count k))) (refused st)) 0
          (x ∷ y ∷ l))
          ≡ cond t (add_record (with_items st (counted (items_put st.items st.items.count (x ∷ y ∷ l)) (st.items.count + k))) own st.items.count)
          (failed st)
      go true = ap (λ (u : Items). add_record (with_items st u) own st.items.count) items
      go false = refl

  nary_ways : (ok absorbed dirty : Bool) (l : List ℕ)
      → closed all h (cond ok (written (settled all st (T absorbed dirty l)) 0 l) (refused st))
      ≡ nary_of all h (record { st = st; ok = ok; kept = l; dirty = dirty; absorbed = absorbed })
  unfolding last_of rebuilt settled nary_of
  nary_ways false absorbed dirty l = refl
  nary_ways true true dirty l = refl
  nary_ways true false false l = refl
  nary_ways true false true [] = refl
  nary_ways true false true (x ∷ []) = refl
  nary_ways true false true (x ∷ y ∷ l) =
      let z : 0 + length (x ∷ y ∷ l) ≡ length (x ∷ y ∷ l) = omega arith in
      rw (z, ne_eqb (length (x ∷ y ∷ l)) 0 (omega arith), ne_eqb (length (x ∷ y ∷ l)) 1 (omega arith)) (nary_more x y l)

pub nary_way : (all : Bool) (h : ℕ) (st : Tables) (p start m : ℕ) → p ≡ start
    → (t : Tally) → (t.kept ≡ 0) × ((t.last ≡ 0) × ((t.dirty ≡ false) × (t.absorbed ≡ false)))
    → (o : Passed) → o ≡ placed all t (operands_from simplify_at all h true st p m)
    → closed all h o ≡ nary_of all h (operands_from simplify_at all h true st start m)
unfolding placed
nary_way all h st p start m ep t (ek, (el, (ed, ea))) o eo =
    let q : Operands = operands_from simplify_at all h true st start m in
    let none : t ≡ no_tally = λ i. record { kept = ek i; last = el i; dirty = ed i; absorbed = ea i } in
    ap (closed all h) (eo ∙ (λ i. placed all (none i) (operands_from simplify_at all h true st (ep i) m)))
    ∙ nary_ways all h q.st q.ok q.absorbed q.dirty q.kept
