use Rattle.std.proofs.Common.{take}
use Rattle.lv_flat.specs.Signals.{declared_all}
use Rattle.lv_resolve.specs.Forms.{Anywhere}
use Rattle.lv_parts.specs.Assigns.{assign_parts, IsWellAssign, IsCleanAssign, IsToldAssign}
use Rattle.lv_parts.proofs.AddLaws.{Added}
use Rattle.lv_parts.proofs.assign.assigns.Given as goal

abbrev pub invariant-loop-one : goal.invariant-loop-one
invariant-loop-one g l = Anywhere (declared_all l.place.signals.now) (g.B.Bindings.numbers l.place.bindings.now) l.place.all.now l.place.early.now (λ here.
    Added (declared_all l.place.signals.now) (assign_parts here.names l.path) IsWellAssign (IsCleanAssign here) (λ z. IsToldAssign here z)
    (take l.one-index l.list) l.initial.into.items l.into.items)
