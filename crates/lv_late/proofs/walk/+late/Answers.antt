use Rattle.std.proofs.Common.{sym}
use Rattle.lv_resolve.specs.Late.{paths_in, paths_within}
use Rattle.lv_late.specs.Lates.{told_of_name}
use Rattle.lv_late.specs.Outers.{said_by}
use Rattle.lv_resolve.proofs.LateNames.{late-found, late-next}
use Rattle.lv_late.proofs.walk.+late.Goals as goal

pub late_exprs-returns-in-Some : goal.late_exprs-returns-in-Some
late_exprs-returns-in-Some g t c = late-found (told_of_name (said_by g.B.Bindings.numbers c.args.names.now) c.args.names.now.before)
    paths_in c.args.exprs.now c.loop-expr.expr-index c.expr-item.result c.loop-expr-test.true (sym c.expr-item.is) c.loop-expr.invariant c.in-Some.error c.in-Some.ensures

pub late_exprs-loop-expr-preserved : goal.late_exprs-loop-expr-preserved
late_exprs-loop-expr-preserved g t c = late-next (told_of_name (said_by g.B.Bindings.numbers c.args.names.now) c.args.names.now.before)
    paths_in c.args.exprs.now c.loop-expr.expr-index c.expr-item.result c.loop-expr-test.true (sym c.expr-item.is) c.loop-expr.invariant c.in_default.ensures

pub late_selects-returns-in-Some : goal.late_selects-returns-in-Some
late_selects-returns-in-Some g t c = late-found (told_of_name (said_by g.B.Bindings.numbers c.args.names.now) c.args.names.now.before)
    paths_within c.args.selects.now c.loop-select.select-index c.select-item.result c.loop-select-test.true (sym c.select-item.is) c.loop-select.invariant c.in-Some.error
    c.in-Some.ensures

pub late_selects-loop-select-preserved : goal.late_selects-loop-select-preserved
late_selects-loop-select-preserved g t c = late-next (told_of_name (said_by g.B.Bindings.numbers c.args.names.now) c.args.names.now.before)
    paths_within c.args.selects.now c.loop-select.select-index c.select-item.result c.loop-select-test.true (sym c.select-item.is) c.loop-select.invariant c.in_default.ensures
