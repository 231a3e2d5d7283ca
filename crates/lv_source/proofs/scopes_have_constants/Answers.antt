use Rattle.lv_source.proofs.Surrounded.{scopes_surrounded}
use Rattle.lv_source.proofs.scopes_have_constants.Goals as goal

pub returns : goal.returns
returns c = scopes_surrounded
