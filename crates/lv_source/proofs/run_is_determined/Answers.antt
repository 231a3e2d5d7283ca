use Rattle.lv_source.proofs.Determined.{runs_same}
use Rattle.lv_source.proofs.run_is_determined.Goals as goal

pub returns : goal.returns
returns c = λ d vs ws legal h k f i. runs_same d legal vs ws h k f i
