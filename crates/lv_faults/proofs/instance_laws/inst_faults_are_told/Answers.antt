use Rattle.lv_faults.proofs.InstanceFaults.{inst_told}
use Rattle.lv_faults.proofs.instance_laws.inst_faults_are_told.Goals as goal

pub returns : goal.returns
returns c = inst_told
