use Rattle.lv_overlays.proofs.Overlays.{writes_next}
use Rattle.lv_overlays.proofs.clocked_writes_give_next.Goals as goal

pub returns : goal.returns
returns c = λ S ps v distinct right x. writes_next S v ps distinct right x
