use Rattle.lv_preorder.proofs.Counting.{items-counted}
use Rattle.lv_preorder.proofs.items_are_counted.Goals as goal

pub returns : goal.returns
returns c = items-counted
