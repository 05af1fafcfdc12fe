use Rattle.simplify_expr.proofs.Runs.{simplified_err, passed_err, not_refused, compare_way, compare-stays, compare-new}
use Rattle.simplify_expr.proofs.Runs.{back-refused, run_none, run_refused, run_some, nary_way}
use Rattle.simplify_spec.specs.OneExpression.{kept, failed, compare_of}
use Rattle.std.proofs.Common.{Ok}
use Rattle.simplify_expr.specs.Passage.{passed, refused, with_operand}
use mathlib.Core.Path.{◌∙◌, sym, refl}
use mathlib.Core.Bool.{true, cond}
use Rattle.simplify_expr.proofs.+simplify_expr.Goals as goal

pub simplify_in-returns-in_err-i-in-Not : goal.simplify_in-returns-in_err-i-in-Not
simplify_in-returns-in_err-i-in-Not t c =
    let a = c.args in
    simplified_err _ _ c.from_residual.ensures.0
    ∙ not_refused a.h a.e a.t.now c.if-h-e.false c.in-Not.x c.in-Not.ensures c.simplify_in.new.t c.in_err-i-in-Not.ensures

pub simplify_in-returns-in_err-l-in-Compare : goal.simplify_in-returns-in_err-l-in-Compare
unfolding compare_of
simplify_in-returns-in_err-l-in-Compare t c =
    let a = c.args in
    let u = c.simplify_in-in-Compare.new.t in
    simplified_err _ _ c.from_residual-in_err-l-in-Compare.ensures.0
    ∙ compare_way a.h a.e a.t.now c.if-h-e.false c.in-Compare.op c.in-Compare.left c.in-Compare.right c.in-Compare.ensures (failed u) (failed u)
    c.in_err-l-in-Compare.ensures refl

pub simplify_in-returns-in_err-r-in-Compare : goal.simplify_in-returns-in_err-r-in-Compare
unfolding compare_of
simplify_in-returns-in_err-r-in-Compare t c =
    let a = c.args in
    simplified_err _ _ c.from_residual-in_err-r-in-Compare.ensures.0
    ∙ compare_way a.h a.e a.t.now c.if-h-e.false c.in-Compare.op c.in-Compare.left c.in-Compare.right c.in-Compare.ensures
    (kept c.simplify_in-in-Compare.new.t c.in_ok-l-in-Compare.l) (failed c.simplify_in-in-Compare-2.new.t)
    c.in_ok-l-in-Compare.ensures c.in_err-r-in-Compare.ensures

pub simplify_in-returns-then-r-right : goal.simplify_in-returns-then-r-right
simplify_in-returns-then-r-right t c =
    let a = c.args in
    let v = c.simplify_in-in-Compare-2.new.t in
    compare-stays a.e c.in-Compare.op c.in-Compare.left.0 c.in-Compare.right.0 v c.in_ok-l-in-Compare.l c.in_ok-r-in-Compare.r c.if-l-left.true
    c.if-r-right.true
    ∙ compare_way a.h a.e a.t.now c.if-h-e.false c.in-Compare.op c.in-Compare.left c.in-Compare.right c.in-Compare.ensures
    (kept c.simplify_in-in-Compare.new.t c.in_ok-l-in-Compare.l) (kept v c.in_ok-r-in-Compare.r)
    c.in_ok-l-in-Compare.ensures c.in_ok-r-in-Compare.ensures

pub simplify_in-returns-else-l-left : goal.simplify_in-returns-else-l-left
simplify_in-returns-else-l-left t c =
    let a = c.args in
    let v = c.simplify_in-in-Compare-2.new.t in
    c.add_node.ensures
    ∙ compare-new a.e c.in-Compare.op c.in-Compare.left.0 c.in-Compare.right.0 v c.in_ok-l-in-Compare.l c.in_ok-r-in-Compare.r c.else-l-left.either
    ∙ compare_way a.h a.e a.t.now c.if-h-e.false c.in-Compare.op c.in-Compare.left c.in-Compare.right c.in-Compare.ensures
    (kept c.simplify_in-in-Compare.new.t c.in_ok-l-in-Compare.l) (kept v c.in_ok-r-in-Compare.r)
    c.in_ok-l-in-Compare.ensures c.in_ok-r-in-Compare.ensures

pub simplify_nary-returns-in_err-became : goal.simplify_nary-returns-in_err-became
simplify_nary-returns-in_err-became t c =
    let a = c.args in
    simplified_err _ _ c.from_residual.ensures.0
    ∙ nary_way a.all a.h a.t.now c.from.result a.start a.count c.from.ensures c.default.result c.default.ensures
    (refused c.simplify_operands.new.t) c.in_err-became.ensures

pub simplify_nary-returns : goal.simplify_nary-returns
simplify_nary-returns t c =
    let a = c.args in
    c.node_of.ensures
    ∙ nary_way a.all a.h a.t.now c.from.result a.start a.count c.from.ensures c.default.result c.default.ensures
    (record { st = c.simplify_operands.new.t; became = c.in_ok-became.became; ok = true }) c.in_ok-became.ensures

pub simplify_operands-returns-then-left-eq0 : goal.simplify_operands-returns-then-left-eq0
simplify_operands-returns-then-left-eq0 t c =
    let a = c.args in c.settle.ensures ∙ run_none a.all a.h a.t.now a.at a.left a.tally c.if-left-eq0.true

pub simplify_operands-returns-in_err-v : goal.simplify_operands-returns-in_err-v
simplify_operands-returns-in_err-v t c =
    let a = c.args in
    passed_err _ _ c.from_residual.ensures.0
    ∙ run_refused a.all a.h a.t.now a.at a.left a.tally c.if-left-eq0.false c.at-e.result c.at-e.ensures c.simplify_in.new.t c.in_err-v.ensures

pub simplify_operands-returns-in_err-became : goal.simplify_operands-returns-in_err-became
simplify_operands-returns-in_err-became t c =
    let a = c.args in
    passed_err _ _ c.from_residual-in_err-became.ensures.0
    ∙ sym (back-refused c.is_literal-neutral.result a.tally.kept c.in_ok-v.v c.simplify_operands.new.t)
    ∙ run_some a.all a.h a.t.now a.at a.left a.tally c.if-left-eq0.false c.at-e.result c.at-e.ensures c.simplify_in.new.t c.in_ok-v.v c.in_ok-v.ensures
    c.shape_in-shape.result c.shape_in-shape.ensures c.is_literal-neutral.result c.is_literal-deciding.result c.is_literal-neutral.ensures
    c.is_literal-deciding.ensures c.with-more.result c.with-more.ensures (refused c.simplify_operands.new.t) c.in_err-became.ensures

pub simplify_operands-returns-then-not-neutral : goal.simplify_operands-returns-then-not-neutral
simplify_operands-returns-then-not-neutral t c =
    let a = c.args in
    let u = c.simplify_operands.new.t in
    let b = c.in_ok-became.became in
    (λ i. record {
      st = (c.put_operand.ensures ∙ sym (λ j. cond (c.if-not-neutral.true j) u (with_operand b u a.tally.kept c.in_ok-v.v))) i;
      became = b;
      ok = true;
    })
    ∙ run_some a.all a.h a.t.now a.at a.left a.tally c.if-left-eq0.false c.at-e.result c.at-e.ensures c.simplify_in.new.t c.in_ok-v.v c.in_ok-v.ensures
    c.shape_in-shape.result c.shape_in-shape.ensures c.is_literal-neutral.result c.is_literal-deciding.result c.is_literal-neutral.ensures
    c.is_literal-deciding.ensures c.with-more.result c.with-more.ensures (passed u (Ok b)) c.in_ok-became.ensures

pub simplify_operands-returns-else-not-neutral : goal.simplify_operands-returns-else-not-neutral
simplify_operands-returns-else-not-neutral t c =
    let a = c.args in
    let u = c.simplify_operands.new.t in
    let b = c.in_ok-became.became in
    (λ i. record { st = sym (λ j. cond (c.if-not-neutral.false j) u (with_operand b u a.tally.kept c.in_ok-v.v)) i; became = b; ok = true })
    ∙ run_some a.all a.h a.t.now a.at a.left a.tally c.if-left-eq0.false c.at-e.result c.at-e.ensures c.simplify_in.new.t c.in_ok-v.v c.in_ok-v.ensures
    c.shape_in-shape.result c.shape_in-shape.ensures c.is_literal-neutral.result c.is_literal-deciding.result c.is_literal-neutral.ensures
    c.is_literal-deciding.ensures c.with-more.result c.with-more.ensures (passed u (Ok b)) c.in_ok-became.ensures
