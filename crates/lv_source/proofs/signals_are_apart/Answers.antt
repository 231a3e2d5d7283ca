use Rattle.lv_source.proofs.Drives.{has_apart}
use Rattle.lv_source.proofs.signals_are_apart.Goals as goal

pub returns : goal.returns
returns c = has_apart
