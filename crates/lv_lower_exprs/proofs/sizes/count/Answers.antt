use Rattle.std.proofs.Common.{sym, arith, ◌∙◌}
use Rattle.lv_flat.specs.Signals.{declared_all}
use Rattle.lv_lower_exprs.proofs.Naming.{count-Bit, count-Part, count-Up, count-Down}
use Rattle.lv_lower_exprs.proofs.sizes.count.Goals as goal

pub span-requires : goal.span-requires
span-requires c = omega (arith, count-Part (declared_all c.args.signals.now) c.args.s.now c.in-Part.left c.in-Part.right c.in-Part.is, c.requires)

pub returns-in-Bit : goal.returns-in-Bit
returns-in-Bit c = sym (count-Bit (declared_all c.args.signals.now) c.args.s.now c.in-Bit.field-0 c.in-Bit.is)

pub returns-in-Part : goal.returns-in-Part
returns-in-Part c = c.span.ensures ∙ sym (count-Part (declared_all c.args.signals.now) c.args.s.now c.in-Part.left c.in-Part.right c.in-Part.is)

pub returns-in-Up : goal.returns-in-Up
returns-in-Up c = sym (count-Up (declared_all c.args.signals.now) c.args.s.now c.in-Up.field-0 c.in-Up.width c.in-Up.is)

pub returns-in-Down : goal.returns-in-Down
returns-in-Down c = sym (count-Down (declared_all c.args.signals.now) c.args.s.now c.in-Down.field-0 c.in-Down.width c.in-Down.is)
