use Rattle.lv_overlays.proofs.Overlays.{overlays}
use Rattle.lv_overlays.proofs.clocked_parts_are_overlays.Goals as goal

pub returns : goal.returns
returns c = λ S ps v distinct right. overlays S v ps distinct right
