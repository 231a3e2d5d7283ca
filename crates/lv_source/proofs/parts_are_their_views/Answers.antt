use Rattle.lv_source.proofs.Bridges.{viewed}
use Rattle.lv_source.proofs.parts_are_their_views.Goals as goal

pub returns : goal.returns
returns c = viewed
