use Rattle.lv_source.proofs.FaultLaws.{faults_are}
use Rattle.lv_source.proofs.faults_are_what_is_refused.Goals as goal

pub returns : goal.returns
returns c = faults_are
