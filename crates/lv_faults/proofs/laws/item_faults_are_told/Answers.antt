use Rattle.lv_faults.proofs.ScopeFaults.{item_told}
use Rattle.lv_faults.proofs.laws.item_faults_are_told.Goals as goal

pub returns : goal.returns
returns c = item_told
