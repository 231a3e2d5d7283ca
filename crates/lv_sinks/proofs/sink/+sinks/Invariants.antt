use Rattle.std.proofs.Common.{List, take}
use Rattle.lv_source.specs.Effect.{Piece}
use Rattle.lv_flat.specs.Signals.{declared_all}
use Rattle.lv_resolve.specs.Forms.{Anywhere}
use Rattle.lv_sinks.specs.Sinks.{HasSinks}
use Rattle.lv_sinks.proofs.sink.+sinks.Given as goal

abbrev pub invariant-sink_forms-loop-expr : goal.invariant-sink_forms-loop-expr
invariant-sink_forms-loop-expr g l = Anywhere (declared_all l.place.signals.now) (g.B.Bindings.numbers l.place.bindings.now) l.place.all.now l.place.early.now (λ here.
    (ps : List Piece) × HasSinks (declared_all l.place.signals.now) here (take l.expr-index l.exprs) ps l.found)
