-- What the tests of a record leave. Assumes nothing.
use Rattle.std.proofs.Common.{Ok, Err, Result, Option, List}
use Rattle.std.proofs.lemmas.List.{map-set}
use Prim.Native.Nat.{ℕ, ◌≤◌}
use mathlib.Core.Path.{◌≡◌, refl, sym, ap}
use mathlib.Core.Bool.{Bool, true, false, cond, ◌&&◌}
use lib.Dec.{ltb, leb}
use lib.ListN.{set}
use native.Mathlib.Omega.{arith}
use native.Mathlib.Decide.{dec_lt}
use borrow.Author.Tests.{eq-eqb, le-ltb, leb-true}
use Rattle.plan_kinds.specs.Rows.{Row}
use Rattle.plan_kinds.specs.declared.Record.{Record}
use Rattle.plan_kinds.specs.Records.{code_ok, handles_ok}
use Rattle.plan_file.specs.declared.Wanted.{Wanted}
use Rattle.plan_file.specs.State.{mark, marks, State}
use Rattle.plan_file.specs.declared.ReadError.{ReadError}
use Rattle.plan_file.specs.declared.ReadError.TheVariants.{Short, Unknown, Handle, ScannedTwice}
use Rattle.plan_file.specs.Answers.{is_whole}
use Rattle.plan_file.specs.Steps.{kind_wanted, kind_ok, scanned_twice, fault_of}

-- Where an item is wanted, and none of the first kind, one of the second is. Assumes nothing.
pub wanted_more : (w : Wanted) → w.left ≤ 0 → (kind_wanted w ≡ 0 → ⊥) → 1 ≤ w.more
unfolding kind_wanted
wanted_more w h n = elim (dec_lt 0 w.more) [ yes l ↦ l | no g ↦ absurd (n (rw (le-ltb _ _ h, le-ltb 0 w.more (omega arith)))) ]

-- An item is taken only where one is wanted. Assumes nothing.
pub wanted_item : (r : Row) (x : Record) (w : Wanted) → r.sort ≡ 4 → kind_ok r x w ≡ true → kind_wanted w ≡ 0 → ⊥
unfolding kind_ok
wanted_item r x w e k z =
    let h : (ltb 0 r.sort && ltb r.sort 4) ≡ true = rw (eq-eqb _ _ z) at k in
    let g : (ltb 0 4 && ltb 4 4) ≡ true = rw e at h in
    let b : ◌≡◌ {A = ℕ} 0 1 = ap (λ (t : Bool). cond t 0 1) (sym g) in
    omega arith

-- A column that is given to a Scan has that Scan's mark. Assumes nothing.
pub marks_set : (scans : List (Option ℕ)) (i : ℕ) (v : Option ℕ) → marks (set scans i v) ≡ set (marks scans) i (mark v)
marks_set scans i v = map-set mark scans i v

-- what taking a record needs
pub ruleset taking = (wanted_item, marks_set)

-- A record that passes the tests but the last. Assumes nothing.
pub record Passed (r : Row) (x : Record) (n : ℕ) (q : State) : Type 0 where
  pub kind : kind_ok r x q.wanted ≡ true
  pub whole : r.length ≤ n
  pub code : code_ok r x ≡ true
  pub handles : handles_ok r x q.plan.columns.count q.plan.expressions.count q.plan.operators.count ≡ true
  pub once : scanned_twice r x q.wanted q.scans q.plan.operators.count ≡ false

-- the fault by what each test said
abbrev pub fault_where : ℕ → Bool → Bool → Bool → Bool → Bool → Result (Unit {0}) ReadError
fault_where at k l c h t =
    cond k (cond l (cond c (cond h (cond t (Err (ScannedTwice at)) (Ok tt)) (Err (Handle at))) (Err (Unknown at))) (Err (Short at))) (Err (Unknown at))

passed :
    (at : ℕ) (k l c h t : Bool) →
    is_whole (fault_where at k l c h t) ≡ true →
    (k ≡ true) × (l ≡ true) × (c ≡ true) × (h ≡ true) × (t ≡ false)
passed at false l c h t e = absurd (let z : ◌≡◌ {A = ℕ} 0 1 = cc in omega arith)
passed at true false c h t e = absurd (let z : ◌≡◌ {A = ℕ} 0 1 = cc in omega arith)
passed at true true false h t e = absurd (let z : ◌≡◌ {A = ℕ} 0 1 = cc in omega arith)
passed at true true true false t e = absurd (let z : ◌≡◌ {A = ℕ} 0 1 = cc in omega arith)
passed at true true true true true e = absurd (let z : ◌≡◌ {A = ℕ} 0 1 = cc in omega arith)
passed at true true true true false e = (refl, refl, refl, refl, refl)

-- No fault is given exactly where all these tests pass: here, that they do. Assumes nothing.
pub no_fault : (r : Row) (x : Record) (n : ℕ) (q : State) → is_whole (fault_of r x n q) ≡ true → Passed r x n q
unfolding fault_of
no_fault r x n q e =
    let t = passed q.at (kind_ok r x q.wanted) (leb r.length n) (code_ok r x)
    (handles_ok r x q.plan.columns.count q.plan.expressions.count q.plan.operators.count)
    (scanned_twice r x q.wanted q.scans q.plan.operators.count) e in
    record { kind = t.0; whole = leb-true _ _ t.1; code = t.2; handles = t.3; once = t.4 }
