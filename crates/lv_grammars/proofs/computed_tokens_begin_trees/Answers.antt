use Rattle.lv_grammars.proofs.Opening.{opens_with}
use Rattle.lv_grammars.proofs.computed_tokens_begin_trees.Goals as goal

pub returns : goal.returns
returns g c i a n p m e f = opens_with g.X.Spelled.base g.X.Spelled.table g.X.Spelled.all i a n p {g = g.X.Spelled.grammar} m e f
