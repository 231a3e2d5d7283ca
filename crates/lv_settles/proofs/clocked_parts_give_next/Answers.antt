use Rattle.lv_settles.proofs.Nexts.{nexts}
use Rattle.lv_settles.proofs.clocked_parts_give_next.Goals as goal

pub returns : goal.returns
returns c = λ ds ps v right o b. nexts ds ps v right o b
