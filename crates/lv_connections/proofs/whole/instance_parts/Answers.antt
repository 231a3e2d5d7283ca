use Rattle.std.proofs.Common.{List, subst}
use Rattle.lv_flat.specs.Signals.{declared_all}
use Rattle.lv_links.specs.declared.linked.Linked.{Linked}
use Rattle.lv_links.specs.Linking.{all_links}
use Rattle.lv_connections.specs.Joined.{JoinsAll, JoinsNone}
use Rattle.lv_connections.proofs.LoopLaws.{on-ok, if-err}
use Rattle.lv_connections.proofs.WholeLaws.{joins, joins-none, unlinked-none}
use Rattle.lv_connections.proofs.whole.instance_parts.Goals as goal

pub returns-in-Err-clause-wrong : goal.returns-in-Err-clause-wrong
returns-in-Err-clause-wrong g c = record {
  at = λ here ok. unlinked-none (declared_all c.args.place.now.signals.now) here c.args.path.now c.args.of.now c.args.inst.now c.args.table.now c.args.outputs.now c.in-Err.error
      c.in-Err.ensures.wrong;
}

pub returns-in-Ok-clause-right : goal.returns-in-Ok-clause-right
returns-in-Ok-clause-right g c = on-ok _ _ (λ h. record {
  at = λ here ok.
      joins (declared_all c.args.place.now.signals.now) here c.args.path.now c.args.of.now c.args.inst.now c.args.table.now c.args.outputs.now
      c.in-Ok.links.items c.in-Ok.ensures.right c.args.into.now.items c.add_links.new.into.items
      (subst (λ (ls : List Linked). JoinsAll (declared_all c.args.place.now.signals.now) here c.args.path.now c.args.table.now c.args.outputs.now (all_links ls)
      c.args.into.now.items c.add_links.new.into.items) c.deref.ensures.value (h.at here ok));
}) c.add_links.result c.add_links.ensures.right

pub returns-in-Ok-clause-wrong : goal.returns-in-Ok-clause-wrong
returns-in-Ok-clause-wrong g c = if-err _ _ (λ z h. record {
  at = λ here ok.
      joins-none (declared_all c.args.place.now.signals.now) here c.args.path.now c.args.of.now c.args.inst.now c.args.table.now c.args.outputs.now
      c.in-Ok.links.items c.in-Ok.ensures.right z
      (subst (λ (ls : List Linked). JoinsNone (declared_all c.args.place.now.signals.now) here c.args.path.now c.args.table.now c.args.outputs.now (all_links ls) z)
      c.deref.ensures.value (h.at here ok));
}) c.add_links.result c.add_links.ensures.wrong
