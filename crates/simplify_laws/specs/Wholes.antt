-- A record that is right as the operator n. Assumes nothing.
use Rattle.std.specs.Prelude.{◌≡◌, true, ◌&&◌, ℕ}
use Rattle.plan_kinds.specs.declared.Record.{Record}
use Rattle.plan.specs.declared.Items.{Items}
use Rattle.plan_rules.specs.Rules.{record_ok, lists_ok}

-- with nc columns and ne expressions, and its lists from `start` on
abbrev pub RightOperator : Items → ℕ → ℕ → ℕ → ℕ → Record → Type 0
RightOperator t nc ne n start x = (record_ok 3 x nc ne n && lists_ok t.a t.b t.count x start nc ne n) ≡ true
