use Rattle.std.proofs.Common.{◌<◌, subst}
use Rattle.std.proofs.lemmas.List.{length-map}
use Rattle.lv_flat.specs.Signals.{declared, declared_all}
use Rattle.lv_rules.specs.Drives.{IsShared}
use Rattle.lv_rules.proofs.Twice.{two_answer}
use Rattle.lv_rules.proofs.drivers.first_two_drivers.Goals as goal

pub returns : goal.returns
returns c = λ vs h.
    two_answer (declared_all c.args.signals.now) vs c.args.extents.now c.in_ok-clocked.clocked.items c.in_ok-unclocked.unclocked.items c.in_ok-r.r c.requires h
    (record { marked = λ s l. c.in_ok-clocked.ensures s (subst (λ n. s < n) (length-map c.args.signals.now declared) l) })
    (record { marked = λ s l. c.in_ok-unclocked.ensures s (subst (λ n. s < n) (length-map c.args.signals.now declared) l) })
    (subst (λ u. IsShared (declared_all c.args.signals.now) c.in_ok-clocked.clocked.items u c.args.extents.now c.in_ok-r.r) c.as_slice-2.ensures.value
    (subst (λ k. IsShared (declared_all c.args.signals.now) k c.as_slice-2.result.now c.args.extents.now c.in_ok-r.r) c.as_slice.ensures.value c.in_ok-r.ensures))
