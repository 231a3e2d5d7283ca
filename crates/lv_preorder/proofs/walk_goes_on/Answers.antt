use Rattle.lv_preorder.proofs.Walking.{goes-on}
use Rattle.lv_preorder.proofs.walk_goes_on.Goals as goal

pub returns : goal.returns
returns c = λ d top bs cs ws b t a. goes-on d top bs ws b cs t a
