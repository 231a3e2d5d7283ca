use Rattle.lv_frames.proofs.AllOfModules.{module_all}
use Rattle.lv_frames.proofs.frames.all_of_a_module.Goals as goal

pub returns : goal.returns
returns c = module_all
