use Rattle.lv_source.proofs.Summaries.{latch_is}
use Rattle.lv_source.proofs.summary_tells_latches.Goals as goal

pub returns : goal.returns
returns c = latch_is
