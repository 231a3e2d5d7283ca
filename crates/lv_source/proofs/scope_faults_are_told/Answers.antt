use Rattle.lv_source.proofs.FaultLaws.{scope_told}
use Rattle.lv_source.proofs.scope_faults_are_told.Goals as goal

pub returns : goal.returns
returns c = scope_told
