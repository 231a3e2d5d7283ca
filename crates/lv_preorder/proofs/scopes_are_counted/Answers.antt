use Rattle.lv_preorder.proofs.Counting.{scopes-counted}
use Rattle.lv_preorder.proofs.scopes_are_counted.Goals as goal

pub returns : goal.returns
returns c = scopes-counted
