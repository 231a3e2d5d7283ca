use Rattle.std.proofs.Common.{sym, subst, take, ◌∙◌}
use Rattle.lv_netlist.specs.Net.{Net, IsNew, no_nodes}
use Rattle.lv_lower.specs.declared.slot.Slot.{Slot}
use Rattle.lv_lower.specs.Started.{net_from}
use Rattle.lv_lower.proofs.Starting.{new-name, start-more, slot-item}
use Rattle.lv_lower.proofs.begin.start.Goals as goal

pub add-requires-clause-new : goal.add-requires-clause-new
add-requires-clause-new c =
    subst (λ (net : Net). IsNew net c.slot-item.result.name) (sym c.loop-slot.invariant.is)
    (subst (λ (s : Slot). IsNew (net_from no_nodes (take c.loop-slot.slot-index c.args.slots.now)) s.name)
    (slot-item c.args.slots.now c.loop-slot.slot-index c.slot-item.result c.loop-slot-test.true c.slot-item.is)
    (new-name c.args.slots.now c.requires.slots c.loop-slot.slot-index c.loop-slot-test.true))

pub loop-slot-preserved : goal.loop-slot-preserved
loop-slot-preserved c =
    let r : _ = start-more c.args.slots.now c.loop-slot.slot-index c.loop-slot.b c.add.new.b c.loop-slot.table.items c.slot-item.result c.in_ok-k.k c.loop-slot-test.true
    (slot-item c.args.slots.now c.loop-slot.slot-index c.slot-item.result c.loop-slot-test.true c.slot-item.is) c.loop-slot.invariant.is c.in_ok-k.ensures.is c.in_ok-k.ensures.number c.loop-slot.invariant.table in
    record { is = r.0; table = c.in_ok-push.ensures.items ∙ r.1 }
