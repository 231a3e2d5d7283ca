use Rattle.std.proofs.Common.{◌≡◌, ◌+◌, ◌*◌, drop, max}
use Rattle.lv_source.specs.Limits.{expr_nodes}
use Rattle.lv_sizes.specs.Counts.{added, step_nodes}
use Rattle.lv_sizes.proofs.exprs.+exprs.Given as goal

abbrev pub invariant-spend_exprs-loop-expr : goal.invariant-spend_exprs-loop-expr
invariant-spend_exprs-loop-expr l = l.left + added expr_nodes l.exprs ≡ l.fn.left + added expr_nodes (drop l.expr-index l.exprs)

abbrev pub invariant-spend_selects-loop-select : goal.invariant-spend_selects-loop-select
invariant-spend_selects-loop-select l = l.left + added step_nodes l.selects ≡ l.fn.left + added step_nodes (drop l.select-index l.selects)

abbrev pub decreases-spend_expr : goal.decreases-spend_expr
decreases-spend_expr l = 8 * goal.size-spend_expr l

abbrev pub decreases-spend_both : goal.decreases-spend_both
decreases-spend_both l = 8 * max (goal.size-spend_both l) (goal.size-spend_both (record l { a = l.b })) + 1

abbrev pub decreases-spend_exprs : goal.decreases-spend_exprs
decreases-spend_exprs l = 8 * goal.size-spend_exprs l + 1

abbrev pub decreases-spend_selects : goal.decreases-spend_selects
decreases-spend_selects l = 8 * goal.size-spend_selects l + 3

abbrev pub decreases-spend_select : goal.decreases-spend_select
decreases-spend_select l = 8 * goal.size-spend_select l + 2
