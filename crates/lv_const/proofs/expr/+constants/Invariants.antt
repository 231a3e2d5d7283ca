use Rattle.std.proofs.Common.{◌+◌, ◌*◌, max, take, map}
use Rattle.lv_source.specs.Sites.{walk}
use Rattle.lv_const.specs.Answers.{HaveWidths}
use Rattle.lv_const.specs.Wherever.{Wherever}
use Rattle.lv_const.specs.Constants.{names_of}
use Rattle.lv_const.proofs.Lists.{IsSoFar}
use Rattle.lv_const.proofs.expr.+constants.Given as goal

abbrev pub invariant-values-loop-expr : goal.invariant-values-loop-expr
invariant-values-loop-expr l = Wherever (names_of l.consts) (λ here. IsSoFar here.early (map (walk here.names) (take l.expr-index l.exprs)) l.joint)

abbrev pub invariant-widths-loop-expr : goal.invariant-widths-loop-expr
invariant-widths-loop-expr l = Wherever (names_of l.consts) (λ here. HaveWidths here.early (map (walk here.names) (take l.expr-index l.exprs)) l.total)

abbrev pub decreases-own : goal.decreases-own
decreases-own l = 3 * goal.size-own l

abbrev pub decreases-value : goal.decreases-value
decreases-value l = 3 * goal.size-value l

abbrev pub decreases-full : goal.decreases-full
decreases-full l = 3 * goal.size-full l + 1

abbrev pub decreases-widths : goal.decreases-widths
decreases-widths l = 3 * goal.size-widths l + 1

abbrev pub decreases-values : goal.decreases-values
decreases-values l = 3 * goal.size-values l + 1

abbrev pub decreases-own_pick : goal.decreases-own_pick
decreases-own_pick l = 3 * goal.size-own_pick l + 1

abbrev pub decreases-value_pick : goal.decreases-value_pick
decreases-value_pick l = 3 * goal.size-value_pick l + 1

abbrev pub decreases-pair : goal.decreases-pair
decreases-pair l = 3 * max (goal.size-pair l) (goal.size-pair (record l { a = l.b })) + 1

abbrev pub decreases-binary : goal.decreases-binary
decreases-binary l = 3 * max (goal.size-binary l) (goal.size-binary (record l { a = l.b })) + 2
