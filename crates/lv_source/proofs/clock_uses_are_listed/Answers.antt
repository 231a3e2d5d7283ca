use Rattle.lv_source.proofs.ListedClock.{uses_listed}
use Rattle.lv_source.proofs.clock_uses_are_listed.Goals as goal

pub returns : goal.returns
returns c = uses_listed
