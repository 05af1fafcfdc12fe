-- `value_for_column` and `canonical_value_for_column`: the identity of a column, and its representative. Assumes nothing.
use Rattle.std.specs.Prelude.{ℕ, cond, Some, None, Option}
use Rattle.constraint_spec.specs.Sets.{canonical_at}
use Rattle.plan.specs.declared.Column.{Column}
use Rattle.apply_spec.specs.Facts.{has_lineage, identity_of}
use Rattle.apply_spec.specs.declared.LogicalFacts.{LogicalFacts}

unfoldable pub value_for_column : LogicalFacts → Column → Option ℕ
value_for_column f c = cond (has_lineage f.lineage c.0) (Some (identity_of f.lineage c.0)) None

unfoldable pub canonical_value_for_column : LogicalFacts → Column → Option ℕ
canonical_value_for_column f c =
    cond (has_lineage f.lineage c.0) (Some (canonical_at f.constraints (identity_of f.lineage c.0))) None
