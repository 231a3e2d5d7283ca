use Rattle.lv_faults.proofs.ScopeFaults.{declaration_told}
use Rattle.lv_faults.proofs.laws.declaration_faults_are_told.Goals as goal

pub returns : goal.returns
returns c = declaration_told
