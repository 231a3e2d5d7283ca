use Rattle.std.proofs.Common.{◌≡◌, take}
use Rattle.std.specs.List.{range_with_len}
use Rattle.lv_netlist.specs.Net.{no_nodes}
use Rattle.lv_lower.specs.Started.{net_from}
use Rattle.lv_lower.proofs.begin.start.Given as goal

abbrev pub invariant-loop-slot : goal.invariant-loop-slot
invariant-loop-slot l = record {
  is : l.b ≡ net_from no_nodes (take l.slot-index l.slots);
  table : l.table.items ≡ range_with_len 0 l.slot-index;
}
