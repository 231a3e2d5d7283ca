use Rattle.std.proofs.Common.{map, ap, ◌∙◌}
use Rattle.lv_bindings.specs.Order.{seen, in_order_seen}
use Rattle.lv_bindings.proofs.OrderLaws.{order_seen}
use Rattle.lv_bindings.proofs.order.order.Goals as goal

pub returns : goal.returns
returns c = ap (map seen) c.in_ok-sort.ensures ∙ order_seen c.in_ok-list.list.items ∙ ap in_order_seen c.in_ok-list.ensures
