use Rattle.lv_settles.proofs.FlatParts.{lawful}
use Rattle.lv_settles.proofs.flat_parts_are_lawful.Goals as goal

pub returns : goal.returns
returns c = λ S ps distinct right. lawful S distinct ps right
