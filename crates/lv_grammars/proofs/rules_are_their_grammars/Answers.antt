use Rattle.lv_grammars.proofs.Calls.{called_is, is_called}
use Rattle.lv_grammars.proofs.rules_are_their_grammars.Goals as goal

pub returns : goal.returns
returns g c r ts o x = (λ h. called_is g.X.Spelled.base g.X.Spelled.low r ts o x h, λ h. is_called g.X.Spelled.base g.X.Spelled.low r ts o x h.0 h.1)
