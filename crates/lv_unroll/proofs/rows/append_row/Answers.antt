use Rattle.std.proofs.Common.{arith}
use Rattle.lv_unroll.specs.Entries.{entry_length}
use Rattle.lv_unroll.proofs.Rowing.{rowing_step, port_at}
use Rattle.lv_unroll.proofs.rows.append_row.Goals as goal

pub loop-port-preserved : goal.loop-port-preserved
loop-port-preserved c =
    rowing_step c.args.b.now c.loop-port.b c.wide_values.new.b c.append.new.b (entry_length c.args.ports.now) c.loop-port.port-index c.at-on.result
    c.args.table.now c.in_ok-values.values.items c.as_slice-in-loop-port-2.result.now c.as_slice.result.now c.args.ports.now c.args.slots.items
    c.loop-port.all.items c.as_slice-in-loop-port.result.now c.in_ok-all.all.items c.port-item.result
    c.port-item.is (omega arith) (port_at _ (entry_length c.args.ports.now) c.args.ports.now c.loop-port.port-index c.port-item.result c.requires.ports
    (omega arith) c.port-item.is) c.requires.table c.at-on.ensures c.as_slice.ensures.value c.as_slice-in-loop-port.ensures.value
    c.as_slice-in-loop-port-2.ensures.value c.loop-port.invariant c.in_ok-values.ensures c.in_ok-all.ensures
