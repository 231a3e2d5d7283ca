use Rattle.lv_preorder.proofs.Counting.{reached-there}
use Rattle.lv_preorder.proofs.reached_is_there.Goals as goal

pub returns : goal.returns
returns c = reached-there
