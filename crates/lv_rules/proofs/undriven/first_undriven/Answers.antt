use Rattle.std.proofs.Common.{◌<◌, subst}
use Rattle.std.proofs.lemmas.List.{length-map}
use Rattle.lv_flat.specs.Signals.{declared, declared_all}
use Rattle.lv_rules.specs.Wires.{IsUndriven}
use Rattle.lv_rules.proofs.Gaps.{undriven_answer}
use Rattle.lv_rules.proofs.undriven.first_undriven.Goals as goal

pub returns : goal.returns
returns c = λ vs h.
    undriven_answer (declared_all c.args.signals.now) vs c.args.extents.now c.in_ok-comb.comb.items c.in_ok-driven.driven c.first_lacking-r.result c.requires h
    (record { marked = λ s l. c.in_ok-comb.ensures s (subst (λ n. s < n) (length-map c.args.signals.now declared) l) })
    (record { driven = c.in_ok-driven.ensures })
    (subst (λ u. IsUndriven (declared_all c.args.signals.now) u c.in_ok-driven.driven c.args.extents.now c.first_lacking-r.result) c.as_slice-2.ensures.value c.first_lacking-r.ensures)
