use Rattle.lv_lower.proofs.GraphMoves.{machines}
use Rattle.lv_lower.proofs.machines.machines_are_same.Goals as goal

pub returns : goal.returns
returns c = λ S vs net table first o lowered right nexts distinct. machines S vs net table first lowered right nexts distinct o
