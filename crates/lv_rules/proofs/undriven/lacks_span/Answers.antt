use Rattle.std.proofs.Common.{sym, subst, ◌∙◌}
use Rattle.lv_flat.specs.Signals.{declared_all}
use Rattle.lv_rules.specs.Wires.{IsLacking}
use Rattle.lv_rules.proofs.Gaps.{lacks-element, lacks-common}
use Rattle.lv_rules.proofs.undriven.lacks_span.Goals as goal

pub returns-in-Some : goal.returns-in-Some
returns-in-Some c =
    lacks-element (declared_all c.args.signals.now) c.args.comb.now c.args.driven.now c.args.s c.in-Some.e c.lacks.result c.in-Some.is (sym c.is_wired.ensures ∙ c.if-not-is_wired.false)
    (subst (λ m. IsLacking c.args.s.mask m c.lacks.result) c.mask.ensures c.lacks.ensures)

pub returns-in-None : goal.returns-in-None
returns-in-None c =
    lacks-common (declared_all c.args.signals.now) c.args.comb.now c.args.driven.now c.args.masks.now c.args.s c.lacks-in-None.result c.in-None.is (sym c.is_wired.ensures ∙
    c.if-not-is_wired.false) c.requires
    (subst (λ m. IsLacking c.args.s.mask m c.lacks-in-None.result) c.mask_at.ensures c.lacks-in-None.ensures)
