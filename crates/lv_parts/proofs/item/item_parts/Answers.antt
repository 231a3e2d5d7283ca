use Rattle.lv_flat.specs.Signals.{declared_all}
use Rattle.lv_parts.proofs.ItemLaws.{item-Wire, item-Assign, item-Always}
use Rattle.lv_parts.proofs.item.item_parts.Goals as goal

pub returns-in-Wire-clause-right : goal.returns-in-Wire-clause-right
returns-in-Wire-clause-right g c = record {
  at = λ here ok. item-Wire (declared_all c.args.signals.now) here c.args.path.now c.args.item.now c.args.into.now.items c.nets_at.new.into.items c.nets_at.result
      c.in-Wire.field-0 c.in-Wire.field-1 c.in-Wire.names c.as_slice.result.now c.in-Wire.is c.as_slice.ensures (c.nets_at.ensures.at here ok.names);
}

pub returns-in-Assign-clause-right : goal.returns-in-Assign-clause-right
returns-in-Assign-clause-right g c = record {
  at = λ here ok. item-Assign (declared_all c.args.signals.now) here c.args.path.now c.args.item.now c.args.into.now.items c.assigns_at.new.into.items c.assigns_at.result
      c.in-Assign.list c.as_slice-in-Assign.result.now c.in-Assign.is c.as_slice-in-Assign.ensures (c.assigns_at.ensures.at here ok.names);
}

pub returns-in-Always-clause-right : goal.returns-in-Always-clause-right
returns-in-Always-clause-right g c = record {
  at = λ here ok. item-Always (declared_all c.args.signals.now) here c.args.path.now c.args.item.now c.args.into.now.items c.always.new.into.items c.always.result
      c.in-Always.watch c.in-Always.stmt c.in-Always.at c.in-Always.is (c.always.ensures.right.at here ok);
}
