use Rattle.lv_preorder.proofs.Counting.{next-reached}
use Rattle.lv_preorder.proofs.next_is_reached.Goals as goal

pub returns : goal.returns
returns c = next-reached
