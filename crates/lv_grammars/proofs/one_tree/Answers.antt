use Rattle.lv_grammars.proofs.FactsOf.{facts_of}
use Rattle.lv_grammars.proofs.one_tree.Goals as goal

pub returns : goal.returns
returns g c i a z ts o p x y h j = (facts_of g.X.Spelled.base g.X.Spelled.table g.X.Spelled.all i a g.X.Spelled.grammar z).one ts o p x y h j
