use Rattle.std.proofs.Common.{◌<◌, Bool, List, subst}
use Rattle.std.proofs.lemmas.List.{length-map}
use Rattle.lv_flat.specs.Signals.{declared, declared_all}
use Rattle.lv_rules.specs.Drives.{AreUnmarked}
use Rattle.lv_rules.proofs.Unmarked.{registers-are}
use Rattle.lv_rules.proofs.register.registers.Goals as goal

pub returns : goal.returns
returns c = λ vs h.
    registers-are (declared_all c.args.signals.now) vs c.args.extents.now c.in_ok-driven.driven.items c.in_ok-flags.flags.items c.requires h
    (record { marked = λ s l. c.in_ok-driven.ensures s (subst (λ n. s < n) (length-map c.args.signals.now declared) l) })
    (subst (λ (ms : List Bool). AreUnmarked (declared_all c.args.signals.now) ms c.in_ok-flags.flags.items) c.as_slice.ensures.value c.in_ok-flags.ensures)
