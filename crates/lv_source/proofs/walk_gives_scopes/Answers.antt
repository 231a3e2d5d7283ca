use Rattle.lv_source.proofs.Walks.{walk_is}
use Rattle.lv_source.proofs.walk_gives_scopes.Goals as goal

pub returns : goal.returns
returns c = walk_is
