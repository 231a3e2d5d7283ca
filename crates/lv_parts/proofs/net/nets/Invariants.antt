use Rattle.std.proofs.Common.{take}
use Rattle.lv_flat.specs.Signals.{declared_all}
use Rattle.lv_resolve.specs.Forms.{Anywhere}
use Rattle.lv_parts.specs.Made.{AreAll}
use Rattle.lv_parts.specs.Nets.{IsNet, net_parts, IsWellNet, IsCleanNet, IsToldNet}
use Rattle.lv_parts.proofs.AddLaws.{Added}
use Rattle.lv_parts.proofs.net.nets.Given as goal

abbrev pub invariant-loop-one : goal.invariant-loop-one
invariant-loop-one g l = Anywhere (declared_all l.place.signals.now) (g.B.Bindings.numbers l.place.bindings.now) l.place.all.now l.place.early.now (λ here.
    AreAll (IsNet here.names) l.list → Added (declared_all l.place.signals.now) (net_parts here.names l.path) (IsWellNet here.names) (IsCleanNet here) (λ z. IsToldNet here z)
    (take l.one-index l.list) l.initial.into.items l.into.items)
