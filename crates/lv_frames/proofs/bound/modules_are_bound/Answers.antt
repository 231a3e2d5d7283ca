use Rattle.lv_frames.proofs.Clocks.{module_bound}
use Rattle.lv_frames.proofs.bound.modules_are_bound.Goals as goal

pub returns : goal.returns
returns c = module_bound
