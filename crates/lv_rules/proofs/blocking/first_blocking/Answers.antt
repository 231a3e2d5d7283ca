use Rattle.std.proofs.Common.{◌<◌, subst}
use Rattle.std.proofs.lemmas.List.{length-map}
use Rattle.lv_flat.specs.Signals.{declared, declared_all}
use Rattle.lv_rules.specs.Reads.{IsBlocked}
use Rattle.lv_rules.proofs.Sharers.{blocking_answer}
use Rattle.lv_rules.proofs.blocking.first_blocking.Goals as goal

pub returns : goal.returns
returns c = λ vs h.
    blocking_answer (declared_all c.args.signals.now) vs c.args.extents.now c.in_ok-late.late.items c.in_ok-readers.readers.items c.first_of.result c.requires h
    (record {
      late_is = λ s l. c.in_ok-late.ensures s (subst (λ n. s < n) (length-map c.args.signals.now declared) l);
      read = λ s k l. c.in_ok-readers.ensures s k (subst (λ n. s < n) (length-map c.args.signals.now declared) l);
    })
    (subst (λ u. IsBlocked (declared_all c.args.signals.now) c.in_ok-late.late.items u c.args.extents.now c.first_of.result) c.as_slice-2.ensures.value
    (subst (λ k. IsBlocked (declared_all c.args.signals.now) k c.as_slice-2.result.now c.args.extents.now c.first_of.result) c.as_slice.ensures.value c.first_of.ensures))
