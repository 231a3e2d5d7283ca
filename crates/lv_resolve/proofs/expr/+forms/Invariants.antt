use Rattle.std.proofs.Common.{◌*◌, ◌+◌, ◌≤◌, map, take, max}
use Rattle.std.specs.List.{list_all}
use Rattle.lv_source.specs.Sites.{walk}
use Rattle.lv_flat.specs.Signals.{declared_all}
use Rattle.lv_resolve.specs.Forms.{Anywhere, HasParts, has_operands}
use Rattle.lv_resolve.proofs.expr.+forms.Given as goal

abbrev pub invariant-members-loop-expr : goal.invariant-members-loop-expr
invariant-members-loop-expr g l = (l.parts.total ≤ 128 * l.expr-index) × Anywhere (declared_all l.place.signals.now) (g.B.Bindings.numbers l.place.bindings.now) l.place.all.now l.place.early.now
    (λ here. HasParts (declared_all l.place.signals.now) here (map (walk here.names) (take l.expr-index l.exprs)) (list_all has_operands (take l.expr-index l.exprs)) l.parts)

abbrev pub decreases-form : goal.decreases-form
decreases-form g l = 8 * goal.size-form g l

abbrev pub decreases-operand : goal.decreases-operand
decreases-operand g l = 8 * goal.size-operand g l + 1

abbrev pub decreases-member : goal.decreases-member
decreases-member g l = 8 * goal.size-member g l + 1

abbrev pub decreases-members : goal.decreases-members
decreases-members g l = 8 * goal.size-members g l + 2

abbrev pub decreases-both : goal.decreases-both
decreases-both g l = 8 * max (goal.size-both g l) (goal.size-both g (record l { a = l.b })) + 2

abbrev pub decreases-operands : goal.decreases-operands
decreases-operands g l = 8 * max (goal.size-operands g l) (goal.size-operands g (record l { a = l.b })) + 2

abbrev pub decreases-pick : goal.decreases-pick
decreases-pick g l = 8 * goal.size-pick g l + 1

abbrev pub decreases-array_picks : goal.decreases-array_picks
decreases-array_picks g l = 8 * goal.size-array_picks g l + 3

abbrev pub decreases-picks : goal.decreases-picks
decreases-picks g l = 8 * goal.size-picks g l + 4

abbrev pub decreases-name : goal.decreases-name
decreases-name g l = 8 * goal.size-name g l + 5
