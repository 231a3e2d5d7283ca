use Rattle.lv_grammars.proofs.Calls.{is_within}
use Rattle.lv_grammars.proofs.limits_take_away.Goals as goal

pub returns : goal.returns
returns g c ts o x h = is_within g.X.Spelled.base g.X.Spelled.low g.X.Spelled.all g.X.Spelled.limited g.X.Spelled.grammar ts o x h
