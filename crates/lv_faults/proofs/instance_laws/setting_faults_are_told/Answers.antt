use Rattle.lv_faults.proofs.InstanceFaults.{setting_told}
use Rattle.lv_faults.proofs.instance_laws.setting_faults_are_told.Goals as goal

pub returns : goal.returns
returns c = setting_told
