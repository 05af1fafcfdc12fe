-- A row, when a predicate is TRUE of it, and when it meets facts. Assumes nothing.
use Rattle.std.specs.Prelude.{◌≡◌, List, [], ◌∷◌, ℕ, ◌<◌, ◌^◌, T, get_or, length, Ok}
use Rattle.scalar.specs.Scalars.{Typed}
use Rattle.scalar.specs.declared.ScalarValue.{ScalarValue}
use Rattle.constraint_spec.specs.Sets.{empty_set}
use Rattle.constraint_spec.specs.Meets.{Meets, Good}
use Rattle.plan.specs.declared.Plan.{Plan}
use Rattle.plan.specs.declared.Expr.{Expr}
use Rattle.plan_data.specs.Nodes.{node_at}
use Rattle.plan_data.specs.declared.ExprData.{ExprData}
use Rattle.apply_spec.specs.Facts.{has_lineage, identity_of}
use Rattle.apply_spec.specs.Entries.{apply_predicate}
use Rattle.apply_spec.specs.declared.LogicalFacts.{LogicalFacts}
use Rattle.rows_spec.specs.Compare.{truth_of}
use Rattle.rows_spec.specs.Values.{value_at}

-- a row gives a value to every column and every identity
pub record WholeRow : Type 0 where
  pub cols : ℕ → ScalarValue
  pub ids : ℕ → ScalarValue

-- it is consistent with a lineage where each column there has its identity's value; an Int32 holds 32 bits, and so on
pub record Consistent (lineage : List ℕ) (row : WholeRow) : Type 0 where
  pub typed : (i : ℕ) → Typed (row.ids i)
  pub same : (c : ℕ) → T (has_lineage lineage c) → row.cols c ≡ row.ids (identity_of lineage c)

-- the expression h is TRUE of a row (2 is the code of TRUE)
abbrev pub OnNodes : (ℕ → ExprData) → List ℕ → WholeRow → ℕ → Type 0
OnNodes node items row h = truth_of (value_at row.cols node items h) ≡ 2

abbrev pub On : Plan → WholeRow → ℕ → Type 0
On p row h = OnNodes (node_at p) p.items.a row h

-- a row meets facts
abbrev pub MeetsFacts : Plan → WholeRow → LogicalFacts → Type 0
MeetsFacts p row f = Meets (On p row) row.ids f.constraints

-- each member of a list has a property
abbrev pub AllOf : {A : Type 0} → (A → Type 0) → List A → Type 0
AllOf P [] = Unit {0}
AllOf P (x ∷ l) = P x × AllOf P l

-- payloads are numbers of 64 bits, as the type of a plan's table says
abbrev pub Wide : Plan → Type 0
Wide p = (h : ℕ) → get_or p.expressions.bits h 0 < 2 ^ 64

-- facts as the operations make them: a lineage with an entry for each of the 64 columns, and a set that the operations made
pub record GoodFacts (f : LogicalFacts) : Type 0 where
  pub long : length f.lineage ≡ 64
  pub set : Good f.constraints

-- facts with nothing recorded
abbrev pub fresh_facts : List ℕ → List ℕ → LogicalFacts
fresh_facts lineage definitions = record { lineage = lineage; definitions = definitions; constraints = empty_set }

-- predicates applied to f one after the other, each of them accepted, give g
abbrev pub AcceptedAll : Plan → LogicalFacts → List Expr → LogicalFacts → Type 0
AcceptedAll p f [] g = f ≡ g
AcceptedAll p f (e ∷ es) g = ((apply_predicate p f e).outcome ≡ Ok tt) × AcceptedAll p (apply_predicate p f e).facts es g

-- each of them is TRUE of a row
abbrev pub AllOn : Plan → WholeRow → List Expr → Type 0
AllOn p row es = AllOf (λ (e : Expr). On p row e.0) es
