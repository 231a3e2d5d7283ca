use Rattle.lv_frames.proofs.Narrow.{all_narrow}
use Rattle.lv_frames.proofs.bound.symbols_are_narrow.Goals as goal

pub returns : goal.returns
returns c = all_narrow
