use Rattle.lv_preorder.proofs.Walking.{begins}
use Rattle.lv_preorder.proofs.walk_begins.Goals as goal

pub returns : goal.returns
returns c = begins
