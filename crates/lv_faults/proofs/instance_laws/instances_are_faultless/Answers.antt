use Rattle.lv_faults.proofs.InstanceFaults.{faultless_item}
use Rattle.lv_faults.proofs.instance_laws.instances_are_faultless.Goals as goal

pub returns : goal.returns
returns c = faultless_item
