use Rattle.lv_const.proofs.Declared.{entries-declared}
use Rattle.lv_const.proofs.laws.entries_are_a_place.Goals as goal

pub returns : goal.returns
returns c = entries-declared
