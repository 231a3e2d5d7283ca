use Rattle.std.proofs.Common.{take}
use Rattle.lv_flat.specs.Signals.{declared_all}
use Rattle.lv_resolve.specs.Forms.{Anywhere}
use Rattle.lv_links.specs.Linking.{all_links}
use Rattle.lv_connections.specs.Joined.{JoinsAll}
use Rattle.lv_connections.proofs.connect.add_links.Given as goal

abbrev pub invariant-loop-link : goal.invariant-loop-link
invariant-loop-link g l = Anywhere (declared_all l.place.signals.now) (g.B.Bindings.numbers l.place.bindings.now) l.place.all.now l.place.early.now (λ here.
    JoinsAll (declared_all l.place.signals.now) here l.path l.table l.outputs (all_links (take l.link-index l.links)) l.initial.into.items l.into.items)
