use Rattle.lv_lookup.proofs.Kept.{kept}
use Rattle.lv_lookup.proofs.laws.levels_are_kept.Goals as goal

pub returns : goal.returns
returns c = λ S more levels others at s h. kept S more levels others at s h
