use Rattle.lv_connections.proofs.WholeLaws.{told-of-item}
use Rattle.lv_connections.proofs.laws.instance_faults_are_told.Goals as goal

pub returns : goal.returns
returns c = told-of-item
