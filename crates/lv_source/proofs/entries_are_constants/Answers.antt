use Rattle.lv_source.proofs.Early.{entries_say}
use Rattle.lv_source.proofs.entries_are_constants.Goals as goal

pub returns : goal.returns
returns c = entries_say
