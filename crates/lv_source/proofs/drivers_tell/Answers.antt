use Rattle.lv_source.proofs.Tables.{driven}
use Rattle.lv_source.proofs.drivers_tell.Goals as goal

pub returns : goal.returns
returns c = driven
