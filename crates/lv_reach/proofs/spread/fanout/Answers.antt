use Rattle.lv_flat.specs.Signals.{declared_all}
use Rattle.lv_reach.specs.Spreading.{IsOrdered}
use Rattle.lv_reach.proofs.Spreading.{fans}
use Rattle.lv_reach.proofs.spread.fanout.Goals as goal

pub returns : goal.returns
returns c = λ vs is extents right order same.
    let S = declared_all c.args.signals.now in
    let o : IsOrdered S vs c.args.extents.now c.args.order.now = record { extents = extents; right = right; order_is = order } in
    fans S vs c.args.extents.now c.args.order.now is c.requires o c.args.marks.now c.in_ok-first.first same c.in_ok-first.ensures c.in_ok-set.set
    (c.in_ok-set.ensures S vs is c.args.marks.now c.requires o c.in_ok-first.ensures same)
