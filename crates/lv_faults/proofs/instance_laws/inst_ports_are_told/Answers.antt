use Rattle.lv_faults.proofs.InstanceFaults.{port_told}
use Rattle.lv_faults.proofs.instance_laws.inst_ports_are_told.Goals as goal

pub returns : goal.returns
returns c = port_told
