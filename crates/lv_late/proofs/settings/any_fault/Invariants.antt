use Rattle.std.proofs.Common.{take}
use Rattle.lv_flat.specs.Signals.{declared_all}
use Rattle.lv_links.specs.Linking.{all_links}
use Rattle.lv_resolve.specs.Forms.{Anywhere}
use Rattle.lv_late.specs.Settings.{AreFormed}
use Rattle.lv_late.proofs.settings.any_fault.Given as goal

abbrev pub invariant-loop-link : goal.invariant-loop-link
invariant-loop-link g l =
    Anywhere (declared_all l.place.signals.now) (g.B.Bindings.numbers l.place.bindings.now) l.place.all.now l.place.early.now (λ here.
    AreFormed here (all_links (take l.link-index l.links)))
