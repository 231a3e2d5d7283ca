use Rattle.lv_settles.proofs.Cells.{apart}
use Rattle.lv_settles.proofs.signals_are_apart.Goals as goal

pub returns : goal.returns
returns c = λ S h. apart S h
