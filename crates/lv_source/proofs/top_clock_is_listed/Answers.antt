use Rattle.lv_source.proofs.ListedClock.{top_listed}
use Rattle.lv_source.proofs.top_clock_is_listed.Goals as goal

pub returns : goal.returns
returns c = top_listed
