use Rattle.std.proofs.Common.{take}
use Rattle.lv_flat.specs.Signals.{declared_all}
use Rattle.lv_resolve.specs.Forms.{Anywhere}
use Rattle.lv_links.specs.Linking.{all_links}
use Rattle.lv_sinks.specs.Clocks.{AreClockPorts}
use Rattle.lv_sinks.proofs.clock.clock_ports.Given as goal

abbrev pub invariant-loop-link : goal.invariant-loop-link
invariant-loop-link g l = Anywhere (declared_all l.place.signals.now) (g.B.Bindings.numbers l.place.bindings.now) l.place.all.now l.place.early.now (λ here.
    AreClockPorts here.names (all_links (take l.link-index l.links)) l.ports.items)
