use Rattle.lv_frames.proofs.Before.{module_framed}
use Rattle.lv_frames.proofs.frames.modules_are_frames.Goals as goal

pub returns : goal.returns
returns c = module_framed
