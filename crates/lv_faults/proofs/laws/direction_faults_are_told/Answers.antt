use Rattle.lv_faults.proofs.ScopeFaults.{direction_told}
use Rattle.lv_faults.proofs.laws.direction_faults_are_told.Goals as goal

pub returns : goal.returns
returns c = direction_told
