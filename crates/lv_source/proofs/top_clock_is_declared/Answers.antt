use Rattle.lv_source.proofs.TopClock.{top_declares}
use Rattle.lv_source.proofs.top_clock_is_declared.Goals as goal

pub returns : goal.returns
returns c = top_declares
