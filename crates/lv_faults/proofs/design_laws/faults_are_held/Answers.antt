use Rattle.lv_faults.proofs.DesignFaults.{held}
use Rattle.lv_faults.proofs.design_laws.faults_are_held.Goals as goal

pub returns : goal.returns
returns c = held
