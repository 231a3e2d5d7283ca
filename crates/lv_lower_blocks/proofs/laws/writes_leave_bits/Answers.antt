use Rattle.lv_lower_blocks.proofs.Late.{writes-leave}
use Rattle.lv_lower_blocks.proofs.laws.writes_leave_bits.Goals as goal

pub returns : goal.returns
returns c = writes-leave
