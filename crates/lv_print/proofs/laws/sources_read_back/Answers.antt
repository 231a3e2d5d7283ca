use Rattle.lv_print.proofs.SourceLaw.{sources_read_back}
use Rattle.lv_print.proofs.laws.sources_read_back.Goals as goal

pub returns : goal.returns
returns c = sources_read_back
