use Rattle.lv_preorder.proofs.Walking.{ends}
use Rattle.lv_preorder.proofs.walk_ends.Goals as goal

pub returns : goal.returns
returns c = ends
