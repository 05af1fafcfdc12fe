-- Where every identity has a kind, its values are NULL or of it and no NaN, and every comparison has one kind on both sides, the facts of accepted
-- predicates say exactly that they are all TRUE. Assumes nothing.
use Rattle.std.proofs.Common.{Ok}
use mathlib.Core.Path.{◌≡◌, refl, sym, ◌∙◌}
use mathlib.Core.Bool.{Bool, true, false, cond, not}
use mathlib.Core.List.{List, [], ◌∷◌}
use mathlib.Core.Logic.{◌↔◌}
use Prim.Native.Nat.{ℕ, ◌<◌, ◌≤◌}
use native.Mathlib.Omega.{arith}
use lib.Dec.{T, T_not, eqb→eq}
use lib.ListN.{get_or, length}
use lib.Ieee.{nan, inf, fin}
use lib.Ieee.Fits.{eq→eqb}
use Rattle.laws.proofs.Bools.{T_or_elim, T_or_inl, T_or_inr}
use Rattle.scalar.specs.Kinds.{kind_code, kind_of, is_null, same_kind, kind_of_code}
use Rattle.scalar.specs.declared.Kind.{Kind}
use Rattle.scalar.specs.declared.Kind.TheVariants as K
use Rattle.scalar.specs.declared.ScalarValue.{ScalarValue}
use Rattle.scalar.specs.declared.ScalarValue.TheVariants as S
use Rattle.comparison.specs.declared.BinaryOp.{BinaryOp}
use Rattle.constraint_spec.specs.Values.{is_na_n}
use Rattle.plan.specs.declared.Plan.{Plan}
use Rattle.plan.specs.declared.Expr.{Expr}
use Rattle.plan_data.specs.Nodes.{node_at}
use Rattle.plan_data.specs.declared.ExprData.{ExprData}
use Rattle.plan_data.specs.declared.ExprData.TheVariants.{Literal, ColumnRef, Unary, Binary, Nary}
use Rattle.apply_spec.specs.Facts.{has_lineage, identity_of}
use Rattle.apply_spec.specs.Conjuncts.{conjuncts_of}
use Rattle.apply_spec.specs.Apply.{seen_of}
use Rattle.apply_spec.specs.Entries.{apply_predicate}
use Rattle.apply_spec.specs.declared.LogicalFacts.{LogicalFacts}
use Rattle.apply_spec.specs.declared.Seen.{Seen}
use Rattle.apply_spec.specs.declared.Seen.TheVariants.{Identity, Constant, Unseen}
use Rattle.rows_spec.specs.Typing.{kind_of_node, kind_at}
use Rattle.apply_spec.specs.Meaning.{WholeRow, Consistent, On, MeetsFacts, AllOf, Wide, GoodFacts, fresh_facts, AcceptedAll, AllOn}
use Rattle.apply_spec.specs.Conditions.{OneKind, ExactSeen, ExactNode, ExactPredicate, of_kind, Kinded, OneKinded, OneKindPlan, int_or_boolean}
use Rattle.apply_spec.proofs.Members.{all_map}
use Rattle.apply_spec.proofs.Conjunctions.{conjuncts_within}
use Rattle.apply_spec.proofs.Answers.{apply-parts, apply-exact, sequence_exact}

-- ---- kinds
same-through : (k l m : Kind) → T (same_kind k l) → T (same_kind l m) → T (same_kind k m)
same-through k l m a b = eq→eqb (eqb→eq (kind_code k) (kind_code l) a ∙ eqb→eq (kind_code l) (kind_code m) b)

same-turned : (k l : Kind) → T (same_kind k l) → T (same_kind l k)
same-turned k l a = eq→eqb (sym (eqb→eq (kind_code k) (kind_code l) a))

self-kind : (k : Kind) → T (same_kind k k)
self-kind k = eq→eqb {a = kind_code k} {b = kind_code k} refl

-- a value of a kind other than Float64 is no NaN. Assumes nothing
pub no_nan : (k : Kind) (v : ScalarValue) → T (not (same_kind k K.Float64)) → T (of_kind k v) → T (not (is_na_n v))
no_nan k (S.Null x) n t = tt
no_nan k (S.Boolean x) n t = tt
no_nan k (S.Int32 x) n t = tt
no_nan k (S.Int64 x) n t = tt
no_nan k (S.Float64 nan) n t = absurd (T_not (same_kind k K.Float64) n (same-turned K.Float64 k t))
no_nan k (S.Float64 (inf s)) n t = tt
no_nan k (S.Float64 (fin s m e)) n t = tt
no_nan k (S.Date32 x) n t = tt

-- so of Int32 and Boolean identities nothing is asked but that values are of their kinds. Assumes nothing
pub whole_kinded : (kinds : ℕ → Kind) (v : ℕ → ScalarValue) → ((i : ℕ) → T (int_or_boolean (kinds i))) → ((i : ℕ) → T (of_kind (kinds i) (v i))) →
    Kinded kinds v
whole_kinded kinds v w o = record { of = o; number = λ i. no_nan (kinds i) (v i) (other (kinds i) (w i)) (o i) }
  where
    other : (k : Kind) → T (int_or_boolean k) → T (not (same_kind k K.Float64))
    other K.Boolean t = tt
    other K.Int32 t = tt
    other K.Int64 t = absurd t
    other K.Float64 t = absurd t
    other K.Date32 t = absurd t

module _ (kinds : ℕ → Kind) (v : ℕ → ScalarValue) (k : Kinded kinds v) where
  of_one : (op : BinaryOp) (i : ℕ) (l : ScalarValue) → T (same_kind (kinds i) (kind_of l)) → OneKind (v i) op l
  of_one op i l t o n =
      T_or_elim (is_null (v i)) (same_kind (kind_of (v i)) (kinds i)) (k.of i) (T_or_inl (is_null (v i)) (same_kind (kind_of (v i)) (kind_of l)))
      (λ s. T_or_inr (is_null (v i)) (same_kind (kind_of (v i)) (kind_of l)) (same-through (kind_of (v i)) (kinds i) (kind_of l) s t))

  -- the kind of what is seen
  abbrev SeenKind : Seen → Kind → Type 0
  SeenKind (Identity i) x = T (same_kind x (kinds i))
  SeenKind (Constant l) x = T (same_kind x (kind_of l))
  SeenKind Unseen x = Unit {0}

  exact_seen : (op : BinaryOp) (A B : Seen) (x y : Kind) → SeenKind A x → SeenKind B y → T (same_kind x y) → ExactSeen v op A B
  exact_seen op (Identity i) (Identity j) x y a b t = λ e. k.number i
  exact_seen op (Identity i) (Constant l) x y a b t = of_one op i l
      (same-through (kinds i) x (kind_of l) (same-turned x (kinds i) a) (same-through x y (kind_of l) t b))
  exact_seen op (Identity i) Unseen x y a b t = tt
  exact_seen op (Constant l) (Identity j) x y a b t = of_one op j l
      (same-through (kinds j) y (kind_of l) (same-turned y (kinds j) b) (same-through y x (kind_of l) (same-turned x y t) a))
  exact_seen op (Constant l) (Constant m) x y a b t = tt
  exact_seen op (Constant l) Unseen x y a b t = tt
  exact_seen op Unseen (Identity j) x y a b t = tt
  exact_seen op Unseen (Constant m) x y a b t = tt
  exact_seen op Unseen Unseen x y a b t = tt

  module _ (p : Plan) (lineage : List ℕ) (plain : OneKindPlan p lineage kinds) where
    seen_kind : (x : ExprData) → SeenKind (seen_of lineage x) (kind_of_node p.columns.kind x)
    seen_kind (Literal l) = self-kind (kind_of l)
    seen_kind (ColumnRef c) = go (has_lineage lineage c.0) (plain.columns c.0)
      where
        go : (b : Bool) → (T b → T (same_kind (kind_of_code (get_or p.columns.kind c.0 0)) (kinds (identity_of lineage c.0))))
            → SeenKind (cond b (Identity (identity_of lineage c.0)) Unseen) (kind_of_code (get_or p.columns.kind c.0 0))
        go true f = f tt
        go false f = tt
    seen_kind (Unary op e) = tt
    seen_kind (Binary op l r) = tt
    seen_kind (Nary op es) = tt

    exact-node : (x : ExprData) → OneKinded p.columns.kind (node_at p) x → ExactNode v lineage (node_at p) x
    exact-node (Literal l) t = tt
    exact-node (ColumnRef c) t = tt
    exact-node (Unary op e) t = tt
    exact-node (Binary op l r) t =
        exact_seen op (seen_of lineage (node_at p l.0)) (seen_of lineage (node_at p r.0)) (kind_at p.columns.kind (node_at p) l.0)
        (kind_at p.columns.kind (node_at p) r.0)
        (seen_kind (node_at p l.0)) (seen_kind (node_at p r.0)) t
    exact-node (Nary op es) t = tt

    -- the conditions on plan and row are those of exactness. Assumes nothing
    pub plain-predicate : (e : ℕ) → e < p.expressions.count → ExactPredicate p lineage v e
    plain-predicate e l =
        all_map (λ (h : ℕ). h ≤ e) (λ (h : ℕ). ExactNode v lineage (node_at p) (node_at p h))
        (λ h q. exact-node (node_at p h) (plain.comparisons h (omega arith)))
        (conjuncts_of (node_at p) p.items.a e) (conjuncts_within (node_at p) p.items.a e)

    -- the same of every accepted predicate of a run
    pub plain-all : (es : List Expr) (f g : LogicalFacts) → AcceptedAll p f es g → AllOf (λ (e : Expr). ExactPredicate p lineage v e.0) es
    plain-all [] f g q = tt
    plain-all (e ∷ es) f g q = (plain-predicate e.0 (apply-parts p f e q.0).handle, plain-all es (apply_predicate p f e).facts g q.1)

module _ (p : Plan) (wide : Wide p) (kinds : ℕ → Kind) (row : WholeRow) (k : Kinded kinds row.ids) where
  -- one accepted predicate: exactly the rows that met the facts and of which it is TRUE meet the new ones. Assumes good facts
  pub plain-exact : (f : LogicalFacts) → GoodFacts f → OneKindPlan p f.lineage kinds → Consistent f.lineage row → (e : Expr) → (apply_predicate p f
      e).outcome ≡ Ok tt
      → MeetsFacts p row (apply_predicate p f e).facts ↔ (MeetsFacts p row f × On p row e.0)
  plain-exact f good plain c e q =
      apply-exact p wide f good e q row c (plain-predicate kinds row.ids k p f.lineage plain e.0 (apply-parts p f e q).handle)

  -- any number of them from fresh facts: a row meets the facts exactly where all are TRUE of it. Assumes nothing else
  pub sequence_plain : (lineage definitions : List ℕ) → length lineage ≡ 64 → OneKindPlan p lineage kinds → Consistent lineage row → (es : List Expr)
      (g : LogicalFacts)
      → AcceptedAll p (fresh_facts lineage definitions) es g → MeetsFacts p row g ↔ AllOn p row es
  sequence_plain lineage definitions long plain c es g q =
      sequence_exact p wide lineage definitions long es g q row c (plain-all kinds row.ids k p lineage plain es (fresh_facts lineage definitions) g q)

-- the same in the words of the demand: every identity is Int32 or Boolean, a row's values are NULL or of their identities' kinds, and comparisons have one
-- kind on both sides. Assumes nothing else
pub sequence_whole : (p : Plan) → Wide p → (kinds : ℕ → Kind) → ((i : ℕ) → T (int_or_boolean (kinds i))) → (row : WholeRow)
    → ((i : ℕ) → T (of_kind (kinds i) (row.ids i)))
    → (lineage definitions : List ℕ) → length lineage ≡ 64 → OneKindPlan p lineage kinds → Consistent lineage row → (es : List Expr) (g :
    LogicalFacts)
    → AcceptedAll p (fresh_facts lineage definitions) es g → MeetsFacts p row g ↔ AllOn p row es
sequence_whole p wide kinds w row o = sequence_plain p wide kinds row (whole_kinded kinds row.ids w o)
