use Rattle.std.proofs.Common.{◌≡◌, take}
use Rattle.lv_flat.specs.Signals.{declared_all}
use Rattle.lv_resolve.specs.Forms.{Anywhere}
use Rattle.lv_resolve_stmts.specs.Cases.{labels_in, width_of, widths}
use Rattle.lv_resolve_stmts.proofs.cases.common_arms.Given as goal

abbrev pub invariant-loop-arm : goal.invariant-loop-arm
invariant-loop-arm g l = Anywhere (declared_all l.place.signals.now) (g.B.Bindings.numbers l.place.bindings.now) l.place.all.now l.place.early.now (λ here.
    width_of l.c ≡ widths here.names (width_of l.fn.rest) (labels_in (take l.arm-index l.arms)))
