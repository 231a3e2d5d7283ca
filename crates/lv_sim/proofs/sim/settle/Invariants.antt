use Rattle.std.proofs.Common.{◌≡◌, [], length, take}
use Rattle.lv_netlist.specs.Run.{values_from}
use Rattle.lv_netlist.specs.Fits.{FitsNodes}
use Rattle.lv_sim.proofs.sim.settle.Given as goal

abbrev pub invariant-loop-k : goal.invariant-loop-k
invariant-loop-k l = record {
  done : take l.k l.values ≡ values_from l.state l.inputs [] (take l.k l.graph.nodes);
  room : length l.values ≡ length l.graph.nodes;
  fits : FitsNodes l.graph l.k (take l.k l.values);
}
