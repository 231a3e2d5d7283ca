use Rattle.lv_preorder.proofs.Counting.{top-reached}
use Rattle.lv_preorder.proofs.top_is_reached.Goals as goal

pub returns : goal.returns
returns c = top-reached
