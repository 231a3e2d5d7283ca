use Rattle.std.proofs.Common.{◌≡◌, take}
use Rattle.lv_learner.specs.Dropping.{retired}
use Rattle.lv_learner.proofs.dropping.count.Given as goal

abbrev pub invariant-loop-port : goal.invariant-loop-port
invariant-loop-port l = l.n ≡ retired (take l.port-index l.ports) l.sim.values
