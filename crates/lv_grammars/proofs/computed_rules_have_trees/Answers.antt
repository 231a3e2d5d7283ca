use Rattle.lv_grammars.proofs.Witness.{witness_of}
use Rattle.lv_grammars.proofs.computed_rules_have_trees.Goals as goal

pub returns : goal.returns
returns g c i a f n r e = witness_of g.X.Spelled.base g.X.Spelled.all i a f n r e
