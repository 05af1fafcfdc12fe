-- What stands by column after each kind of operator keeps the rules of facts, where it did before and the operator's lists are of the plan.
-- Assumes nothing.
use mathlib.Core.Path.{◌≡◌, refl, sym, subst, ◌∙◌}
use mathlib.Core.Bool.{cond}
use mathlib.Core.List.{List}
use mathlib.Core.Logic.{◌⊎◌, inl, inr}
use Prim.Native.Nat.{ℕ, zero, suc, ◌+◌, ◌-◌, ◌<◌, ◌≤◌}
use native.Mathlib.Decide.{ℕ_discrete}
use native.Mathlib.Omega.{arith}
use lib.Dec.{ltb, eqb}
use lib.ListN.{get_or, set, replicate}
use lib.Seq.{get_or-set_other}
use Rattle.laws.proofs.Bools.{cond_T_elim}
use Rattle.constraint_spec.proofs.Steps.{steps-good}
use Rattle.plan.specs.declared.Plan.{Plan}
use Rattle.plan.specs.declared.Column.{Column}
use Rattle.plan_data.specs.declared.Run.{Run}
use Rattle.plan_data.specs.declared.ExprData.{ExprData}
use Rattle.plan_data.specs.declared.ExprData.TheVariants.{Literal, ColumnRef, Unary, Binary, Nary}
use Rattle.plan_identities.specs.Identities.{columns_of, base_of, identities_of}
use Rattle.plan_identities.specs.declared.Identities.{Identities}
use Rattle.plan_identities.specs.declared.ValueId.TheVariants.{Base, Derived}
use Rattle.plan_identities.proofs.NumberLaws.{base-small, number-base, number_derived, number-held}
use Rattle.apply_spec.specs.Entries.{override, overridden}
use Rattle.derive_spec.specs.Columns.{item_at, no_columns, lineage_entry, definition_entry, assigned, defined, inserted, derived_column, carried}
use Rattle.derive_spec.specs.Columns.{value_for_expr, computed, key_column, keyed, scan_step, scanned, derived_step, derived_columns, project_step}
use Rattle.derive_spec.specs.Columns.{projected, rename_step, renamed, map_step, mapped, key_step, keys_of, aggregated}
use Rattle.derive_spec.specs.declared.ColumnFacts.{ColumnFacts}
use Rattle.derive_spec.proofs.SetRules.{stored}

-- the items of a list are below n
abbrev pub ItemsBelow : ℕ → List ℕ → Run → Type 0
ItemsBelow n items r = (k : ℕ) → k < r.count → item_at items r k < n

-- ---- entries: of the column c there is none, or a right one and c is of the plan
abbrev pub RightEntry : (ℕ → Type 0) → ℕ → ℕ → ℕ → Type 0
RightEntry right nc c v = (v ≡ 0) ⊎ ((c < nc) × right v)

abbrev pub RightEntries : (ℕ → Type 0) → ℕ → List ℕ → Type 0
RightEntries right nc l = (c : ℕ) → RightEntry right nc c (get_or l c 0)

module _ (right : ℕ → Type 0) (nc : ℕ) where
  none_right : (n : ℕ) → RightEntries right nc (replicate n 0)
  none_right n c = inl (nowhere n c)
    where
      nowhere : (n c : ℕ) → ◌≡◌ {A = ℕ} (get_or (replicate n 0) c 0) 0
      nowhere zero c = refl
      nowhere (suc n) zero = refl
      nowhere (suc n) (suc c) = nowhere n c

  set-right : (l : List ℕ) (i v : ℕ) → RightEntries right nc l → RightEntry right nc i v → RightEntries right nc (set l i v)
  set-right l i v r q c = elim (ℕ_discrete c i) [
    | yes e ↦ subst (λ (k : ℕ). RightEntry right nc k (get_or (set l i v) k 0)) (sym e) (stored (RightEntry right nc i) l i v (inl refl) q)
    | no d ↦ subst (RightEntry right nc c) (sym (get_or-set_other l i c v 0 d)) (r c)
  ]

  inserted-right : (l : List ℕ) (i v : ℕ) → RightEntries right nc l → RightEntry right nc i v → RightEntries right nc (inserted l i v)
  inserted-right l i v r q = cond_T_elim (RightEntries right nc) (eqb v 0) l (set l i v) (λ t. r) (set-right l i v r q)

  -- the entry of one column is right for another of the plan
  moved : (c d v : ℕ) → d < nc → RightEntry right nc c v → RightEntry right nc d v
  moved c d v l (inl z) = inl z
  moved c d v l (inr q) = inr (l, q.1)

  -- one list over the other
  pub overridden-right : (l g : List ℕ) → RightEntries right nc l → RightEntries right nc g → RightEntries right nc (overridden l g)
  unfolding overridden
  overridden-right l g rl rg =
      steps-good (RightEntries right nc) (override g) 64 (λ c h t r. inserted-right t c (get_or g c 0) r (rg c)) 64 (omega arith) l rl

-- an identity of a plan with nc columns, and one more
abbrev pub RightIdentity : ℕ → ℕ → Type 0
RightIdentity nc v = (v - 1 < nc) ⊎ ((64 ≤ v - 1) × (v - 1 < 64 + nc))

abbrev pub RightDefinition : ℕ → ℕ → Type 0
RightDefinition ne v = v ≤ ne

pub record RightColumns (nc ne : ℕ) (t : ColumnFacts) : Type 0 where
  pub lineage : RightEntries (RightIdentity nc) nc t.lineage
  pub definitions : RightEntries (RightDefinition ne) nc t.definitions

pub nothing_right : (nc ne : ℕ) → RightColumns nc ne no_columns
nothing_right nc ne = record { lineage = none_right (RightIdentity nc) nc 64; definitions = none_right (RightDefinition ne) nc 64 }

-- ---- the entries of the plan's identities and expressions
numbered-right : (nc c n : ℕ) → c < nc → (n < nc) ⊎ ((64 ≤ n) × (n < 64 + nc)) → RightEntry (RightIdentity nc) nc c (cond (ltb n 128) (n + 1) 0)
numbered-right nc c n l q = cond_T_elim (RightEntry (RightIdentity nc) nc c) (ltb n 128) (n + 1) 0 (λ t. inr (l, go q)) (inl refl)
  where
    go : (n < nc) ⊎ ((64 ≤ n) × (n < 64 + nc)) → RightIdentity nc (n + 1)
    go (inl a) = inl (omega arith)
    go (inr a) = inr (omega (arith, a.0), omega (arith, a.1))

definition_right : (nc ne c e : ℕ) → c < nc → e < ne → RightEntry (RightDefinition ne) nc c (definition_entry e)
unfolding definition_entry
definition_right nc ne c e l m = cond_T_elim (RightEntry (RightDefinition ne) nc c) (ltb e 1024) (e + 1) 0 (λ t. inr (l, omega arith)) (inl refl)

module _ (p : Plan) (few : p.columns.count ≤ 64) where
  abbrev nc : ℕ
  nc = p.columns.count

  abbrev ne : ℕ
  ne = p.expressions.count

  abbrev ids : Identities
  ids = identities_of p

  abbrev Right : ColumnFacts → Type 0
  Right t = RightColumns p.columns.count p.expressions.count t

  base-right : (c : Column) → c.0 < nc → RightEntry (RightIdentity nc) nc c.0 (lineage_entry ids (Base c))
  unfolding lineage_entry
  base-right c l =
      let m : c.0 < columns_of p = omega arith in
      let b : base_of p c.0 < columns_of p = base-small p c.0 m in
      subst (λ (n : ℕ). RightEntry (RightIdentity nc) nc c.0 (cond (ltb n 128) (n + 1) 0)) (sym (number-base p c m) ∙ sym (number-held p (Base c)))
      (numbered-right nc c.0 (base_of p c.0) l (inl (omega arith)))

  derived_right : (c : Column) → c.0 < nc → RightEntry (RightIdentity nc) nc c.0 (lineage_entry ids (Derived c))
  unfolding lineage_entry
  derived_right c l =
      subst (λ (n : ℕ). RightEntry (RightIdentity nc) nc c.0 (cond (ltb n 128) (n + 1) 0))
      (sym (number_derived p c (omega arith)) ∙ sym (number-held p (Derived c)))
      (numbered-right nc c.0 (64 + c.0) l (inr (omega arith, omega arith)))

  -- ---- one column
  assigned-right : (t : ColumnFacts) (c v : ℕ) → Right t → RightEntry (RightIdentity nc) nc c v → Right (assigned t c v)
  unfolding assigned
  assigned-right t c v r q = record { lineage = set-right (RightIdentity nc) nc t.lineage c v r.lineage q; definitions = r.definitions }

  defined-right : (t : ColumnFacts) (c v : ℕ) → Right t → RightEntry (RightDefinition ne) nc c v → Right (defined t c v)
  unfolding defined
  defined-right t c v r q = record { lineage = r.lineage; definitions = set-right (RightDefinition ne) nc t.definitions c v r.definitions q }

  pub made_derived : (t : ColumnFacts) (c : ℕ) → c < nc → Right t → Right (derived_column ids t c)
  made_derived t c l r = assigned-right t c _ r (derived_right (record { 0 = c }) l)

  carried-right : (g t : ColumnFacts) (to from : ℕ) → Right t
      → RightEntry (RightIdentity nc) nc to (get_or g.lineage from 0) → RightEntry (RightDefinition ne) nc to (get_or g.definitions from 0) → Right
      (carried g t to from)
  unfolding carried
  carried-right g t to from r q d = record {
    lineage = inserted-right (RightIdentity nc) nc t.lineage to (get_or g.lineage from 0) r.lineage q;
    definitions = inserted-right (RightDefinition ne) nc t.definitions to (get_or g.definitions from 0) r.definitions d;
  }

  -- the identity of a column reference, for a column of the plan
  value-right : (l : List ℕ) → RightEntries (RightIdentity nc) nc l → (c : ℕ) → c < nc → (x : ExprData) → RightEntry (RightIdentity nc) nc c
      (value_for_expr l x)
  value-right l r c m (Literal v) = inl refl
  value-right l r c m (ColumnRef k) = moved (RightIdentity nc) nc k.0 c (get_or l k.0 0) m (r k.0)
  value-right l r c m (Unary op e) = inl refl
  value-right l r c m (Binary op a b) = inl refl
  value-right l r c m (Nary op a) = inl refl

  computed-right : (t : ColumnFacts) (c e : ℕ) (x : ExprData) → c < nc → e < ne → Right t → Right (computed ids t c e x)
  unfolding computed
  computed-right t c e x l m r =
      let v = value_for_expr t.lineage x in
      cond_T_elim Right (eqb v 0) (defined (derived_column ids t c) c (definition_entry e)) (assigned t c v)
      (λ z. defined-right (derived_column ids t c) c (definition_entry e) (made_derived t c l r) (definition_right nc ne c e l m))
      (assigned-right t c v r (value-right t.lineage r.lineage c l x))

  keyed-right : (g t : ColumnFacts) → Right g → Right t → (x : ExprData) → Right (keyed g t x)
  unfolding key_column
  keyed-right g t rg r (Literal v) = r
  keyed-right g t rg r (ColumnRef c) = record {
    lineage = inserted-right (RightIdentity nc) nc t.lineage c.0 (get_or g.lineage c.0 0) r.lineage (rg.lineage c.0);
    definitions = r.definitions;
  }
  keyed-right g t rg r (Unary op e) = r
  keyed-right g t rg r (Binary op a b) = r
  keyed-right g t rg r (Nary op a) = r

  -- ---- lists
  pub scanned-right : (items : List ℕ) (r : Run) → ItemsBelow nc items r → Right (scanned ids items r)
  unfolding scanned
  scanned-right items r b =
      steps-good Right (scan_step ids items r) r.count
      (λ k l t q. assigned-right t (item_at items r k) _ q (base-right (record { 0 = item_at items r k }) (b k l)))
      r.count (omega arith) no_columns (nothing_right nc ne)

  pub derived_columns-right : (items : List ℕ) (r : Run) (t : ColumnFacts) → ItemsBelow nc items r → Right t → Right (derived_columns ids items r t)
  unfolding derived_columns
  derived_columns-right items r t b q =
      steps-good Right (derived_step ids items r) r.count (λ k l u w. made_derived u (item_at items r k) (b k l) w) r.count (omega arith) t q

  pub projected-right : (g : ColumnFacts) (items : List ℕ) (r : Run) → Right g → Right (projected g items r)
  unfolding projected
  projected-right g items r q =
      steps-good Right (project_step g items r) r.count
      (λ k l t w. carried-right g t (item_at items r k) (item_at items r k) w (q.lineage (item_at items r k)) (q.definitions (item_at items r k)))
      r.count
      (omega arith) no_columns (nothing_right nc ne)

  pub renamed-right : (g : ColumnFacts) (items originals : List ℕ) (r : Run) → ItemsBelow nc items r → Right g → Right (renamed g items originals r)
  unfolding renamed
  renamed-right g items originals r b q =
      steps-good Right (rename_step g items originals r) r.count
      (λ k l t w.
      carried-right g t (item_at items r k) (item_at originals r k) w
      (moved (RightIdentity nc) nc (item_at originals r k) (item_at items r k) (get_or g.lineage (item_at originals r k) 0) (b k l)
      (q.lineage (item_at originals r k)))
      (moved (RightDefinition ne) nc (item_at originals r k) (item_at items r k) (get_or g.definitions (item_at originals r k) 0) (b k l)
      (q.definitions (item_at originals r k))))
      r.count (omega arith) no_columns (nothing_right nc ne)

  pub mapped-right : (node : ℕ → ExprData) (items exprs : List ℕ) (r : Run) (g : ColumnFacts) → ItemsBelow nc items r → ItemsBelow ne exprs r → Right
      g
      → Right (mapped ids node items exprs r g)
  unfolding mapped
  mapped-right node items exprs r g b m q =
      steps-good Right (map_step ids node items exprs r) r.count
      (λ k l t w. computed-right t (item_at items r k) (item_at exprs r k) (node (item_at exprs r k)) (b k l) (m k l) w) r.count (omega arith) g q

  pub aggregated-right : (node : ℕ → ExprData) (items : List ℕ) (keys aggregates : Run) (g : ColumnFacts) → ItemsBelow nc items aggregates → Right g
      → Right (aggregated ids node items keys aggregates g)
  unfolding keys_of
  aggregated-right node items keys aggregates g b q =
      derived_columns-right items aggregates (keys_of node g items keys) b
      (steps-good Right (key_step node g items keys) keys.count (λ k l t w. keyed-right g t q w (node (item_at items keys k))) keys.count (omega
      arith)
      no_columns (nothing_right nc ne))
