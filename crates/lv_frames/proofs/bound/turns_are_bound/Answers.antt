use Rattle.lv_frames.proofs.Clocks.{turn_bound}
use Rattle.lv_frames.proofs.bound.turns_are_bound.Goals as goal

pub returns : goal.returns
returns c = turn_bound
