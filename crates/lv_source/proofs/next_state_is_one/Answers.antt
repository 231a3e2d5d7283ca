use Rattle.lv_source.proofs.Determined.{next_unique}
use Rattle.lv_source.proofs.next_state_is_one.Goals as goal

pub returns : goal.returns
returns c = next_unique
