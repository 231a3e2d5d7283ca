use Rattle.std.proofs.Common.{subst}
use Rattle.lv_flat.specs.Signals.{declared_all}
use Rattle.lv_schedule.specs.Plans.{IsPlan}
use Rattle.lv_legal.specs.Legal.{AreBroken}
use Rattle.lv_legal.proofs.Kept.{legal}
use Rattle.lv_legal.proofs.judging.check_rules.Goals as goal

pub returns-in-Order : goal.returns-in-Order
returns-in-Order c = λ vs a.
    legal c.args.clock.now (declared_all c.args.signals.now) vs c.in-Order.order.items
    (subst (AreBroken c.args.clock.now (declared_all c.args.signals.now) vs) c.in-None.is (c.in_ok-refused.ensures vs a))
    (subst (IsPlan vs) c.in-Order.is (c.in_ok-order.ensures vs a))
