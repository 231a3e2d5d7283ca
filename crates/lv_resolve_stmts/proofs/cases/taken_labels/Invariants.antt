use Rattle.std.proofs.Common.{take}
use Rattle.lv_flat.specs.Signals.{declared_all}
use Rattle.lv_resolve.specs.Forms.{Anywhere}
use Rattle.lv_resolve_stmts.specs.Cases.{HasLabels}
use Rattle.lv_resolve_stmts.proofs.cases.taken_labels.Given as goal

abbrev pub invariant-loop-label : goal.invariant-loop-label
invariant-loop-label g l = Anywhere (declared_all l.place.signals.now) (g.B.Bindings.numbers l.place.bindings.now) l.place.all.now l.place.early.now (λ here.
    HasLabels (declared_all l.place.signals.now) here l.kind.width l.kind.signed (take l.label-index l.list) l.found)
