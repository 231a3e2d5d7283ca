use Rattle.lv_source.proofs.Listed.{signals_listed}
use Rattle.lv_source.proofs.signals_are_declared.Goals as goal

pub returns : goal.returns
returns c = signals_listed
