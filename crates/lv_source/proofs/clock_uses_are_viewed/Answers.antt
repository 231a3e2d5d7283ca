use Rattle.lv_source.proofs.PartClocks.{clock_rule}
use Rattle.lv_source.proofs.clock_uses_are_viewed.Goals as goal

pub returns : goal.returns
returns c = clock_rule
