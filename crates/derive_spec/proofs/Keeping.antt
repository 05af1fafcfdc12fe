-- What the rules say of each kind of operator, for all facts. Assumes nothing.
use Rattle.std.proofs.Common.{Err}
use Prim.Native.Nat.{ℕ, zero, suc, ◌<◌}
use mathlib.Core.Path.{◌≡◌, refl, ◌∙◌}
use mathlib.Core.Bool.{Bool, true, false, cond}
use mathlib.Core.List.{List}
use native.Mathlib.Omega.{arith}
use lib.Dec.{eqb}
use lib.ListN.{get_or, set, replicate}
use lib.Seq.{get_or-set_other}
use Rattle.laws.proofs.Lists.{get_d_replicate-self}
use Rattle.constraint_spec.specs.Sets.{steps_to, empty_set}
use Rattle.plan.specs.declared.Plan.{Plan}
use Rattle.plan.specs.declared.Column.{Column}
use Rattle.plan.specs.declared.Expr.{Expr}
use Rattle.plan.specs.declared.Operator.{Operator}
use Rattle.plan_data.specs.Nodes.{node_at}
use Rattle.plan_data.specs.declared.Run.{Run}
use Rattle.plan_data.specs.declared.ExprData.{ExprData}
use Rattle.plan_data.specs.declared.ExprData.TheVariants.{Literal, ColumnRef, Unary, Binary, Nary}
use Rattle.plan_data.specs.declared.JoinType.TheVariants.{LeftSemi, LeftAnti, LeftOuter, Single, RightOuter, FullOuter, LeftMark}
use Rattle.plan_identities.specs.declared.Identities.{Identities}
use Rattle.plan_identities.specs.declared.ValueId.TheVariants.{Derived}
use Rattle.apply_spec.specs.Facts.{empty_facts}
use Rattle.apply_spec.specs.Entries.{overlaid, inputs_merged}
use Rattle.apply_spec.specs.declared.LogicalFacts.{LogicalFacts}
use Rattle.derive_spec.specs.Columns.{item_at, lineage_entry, no_columns, columns_in, facts_with, inserted, assigned, carried, computed, key_column}
use Rattle.derive_spec.specs.Columns.{keyed, keys_ok, derived_columns, key_step, keys_of, derived_step, projected, renamed, rename_step}
use Rattle.derive_spec.specs.Columns.{aggregated}
use Rattle.derive_spec.specs.Operators.{accepted, refused, joined, grouped}
use Rattle.derive_spec.specs.declared.ColumnFacts.{ColumnFacts}
use Rattle.derive_spec.specs.declared.DeriveError.TheVariants.{UnsupportedKey}

-- ---- joins: whose constraints stay
module _ (p : Plan) (ids : Identities) (h : Operator) (on : Expr) (f g : LogicalFacts) where
  -- the left's rows, each as it was
  left_semi : joined p ids h on f g LeftSemi ≡ accepted f
  left_semi = refl

  left_anti : joined p ids h on f g LeftAnti ≡ accepted f
  left_anti = refl

  -- both lineages and definitions, right over left
  left_outer : joined p ids h on f g LeftOuter ≡ accepted (overlaid f g f.constraints)
  unfolding inputs_merged
  left_outer = refl

  single : joined p ids h on f g Single ≡ joined p ids h on f g LeftOuter
  single = refl

  right_outer : joined p ids h on f g RightOuter ≡ accepted (overlaid f g g.constraints)
  unfolding inputs_merged
  right_outer = refl

  full_outer : joined p ids h on f g FullOuter ≡ accepted (overlaid f g empty_set)
  unfolding inputs_merged
  full_outer = refl

  -- the marker is Derived, and all else is the left's
  left-mark : (c : Column) → joined p ids h on f g (LeftMark c) ≡ accepted
      (record { lineage = set f.lineage c.0 (lineage_entry ids (Derived c)); definitions = f.definitions; constraints = f.constraints })
  unfolding assigned
  left-mark c = refl

-- ---- Aggregation: no constraints, no definitions
module _ (p : Plan) (ids : Identities) (h : Operator) (keys aggregates : Run) (f : LogicalFacts) where
  grouped-free : (grouped p ids h keys aggregates f).facts.constraints ≡ empty_set
  unfolding grouped empty_facts
  grouped-free = go (keys_ok (node_at p) p.items.a keys)
    where
      go : (b : Bool) → (cond b (accepted (facts_with (aggregated ids (node_at p) p.items.a keys aggregates (columns_in f)) empty_set))
          (refused (Err (UnsupportedKey h)))).facts.constraints ≡ empty_set
      go true = refl
      go false = refl

  keyed-same : (g t : ColumnFacts) (x : ExprData) → (keyed g t x).definitions ≡ t.definitions
  unfolding key_column
  keyed-same g t (Literal v) = refl
  keyed-same g t (ColumnRef c) = refl
  keyed-same g t (Unary op e) = refl
  keyed-same g t (Binary op l r) = refl
  keyed-same g t (Nary op r) = refl

  grouped_undefined : (aggregated ids (node_at p) p.items.a keys aggregates (columns_in f)).definitions ≡ replicate 64 0
  unfolding derived_columns keys_of steps_to assigned
  grouped_undefined = later aggregates.count _ ∙ first keys.count
    where
      first : (n : ℕ) → (steps_to (key_step (node_at p) (columns_in f) p.items.a keys) n no_columns).definitions ≡ replicate 64 0
      first zero = refl
      first (suc n) = keyed-same (columns_in f) _ (node_at p (item_at p.items.a keys n)) ∙ first n

      later : (n : ℕ) (t : ColumnFacts) → (steps_to (derived_step ids p.items.a aggregates) n t).definitions ≡ t.definitions
      later zero t = refl
      later (suc n) t = later n t

-- ---- Map: a column reference with lineage shares its identity, and an older definition stays
shared : (ids : Identities) (t : ColumnFacts) (c e : ℕ) (x : Column) → (eqb (get_or t.lineage x.0 0) 0 ≡ false)
    → computed ids t c e (ColumnRef x) ≡ record { lineage = set t.lineage c (get_or t.lineage x.0 0); definitions = t.definitions }
unfolding computed assigned
shared ids t c e x h = rw h

-- ---- Projection and Rename: a column that is not listed is forgotten
-- an insert elsewhere
elsewhere : (l : List ℕ) (to c v : ℕ) → (c ≡ to → ⊥) → get_or (inserted l to v) c 0 ≡ get_or l c 0
elsewhere l to c v n = go (eqb v 0)
  where
    go : (b : Bool) → get_or (cond b l (set l to v)) c 0 ≡ get_or l c 0
    go true = refl
    go false = get_or-set_other l to c v 0 n

module _ (g : ColumnFacts) (items originals : List ℕ) (r : Run) (c : ℕ) where
  -- no column of the list is c
  abbrev Unlisted : ℕ → Type 0
  Unlisted n = (k : ℕ) → k < n → c ≡ item_at items r k → ⊥

  rename_lineage : (n : ℕ) → Unlisted n → get_or (steps_to (rename_step g items originals r) n no_columns).lineage c 0 ≡ 0
  unfolding steps_to carried
  rename_lineage zero u = get_d_replicate-self 64 c 0
  rename_lineage (suc n) u =
      elsewhere (steps_to (rename_step g items originals r) n no_columns).lineage (item_at items r n) c (get_or g.lineage (item_at originals r n) 0)
      (u n (omega arith)) ∙ rename_lineage n (λ k l. u k (omega arith))

  rename_definitions : (n : ℕ) → Unlisted n → get_or (steps_to (rename_step g items originals r) n no_columns).definitions c 0 ≡ 0
  unfolding steps_to carried
  rename_definitions zero u = get_d_replicate-self 64 c 0
  rename_definitions (suc n) u =
      elsewhere (steps_to (rename_step g items originals r) n no_columns).definitions (item_at items r n) c (get_or g.definitions (item_at originals r n) 0)
      (u n (omega arith)) ∙ rename_definitions n (λ k l. u k (omega arith))

  -- Rename forgets every other column
  pub rename_forgets : Unlisted r.count → (get_or (renamed g items originals r).lineage c 0 ≡ 0) × (get_or (renamed g items originals r).definitions c 0 ≡ 0)
  unfolding renamed
  rename_forgets u = (rename_lineage r.count u, rename_definitions r.count u)

-- a Projection is a Rename of each column to itself
pub project_renames : (g : ColumnFacts) (items : List ℕ) (r : Run) → projected g items r ≡ renamed g items items r
unfolding projected renamed
project_renames g items r = refl
