use Rattle.std.proofs.Common.{◌≡◌, map, take}
use Rattle.lv_netlist.specs.Run.{next_bits}
use Rattle.lv_netlist.specs.Fits.{FitsState}
use Rattle.lv_sim.proofs.sim.step.Given as goal

abbrev pub invariant-loop-k : goal.invariant-loop-k
invariant-loop-k l = record {
  done : take l.k l.state ≡ map (next_bits l.values) (take l.k l.graph.registers);
  fits : FitsState l.graph l.state;
}
