use Rattle.lv_frames.proofs.Before.{turn_framed}
use Rattle.lv_frames.proofs.frames.turns_are_frames.Goals as goal

pub returns : goal.returns
returns c = turn_framed
