use Rattle.lv_grammars.proofs.FactsOf.{facts_of}
use Rattle.lv_grammars.proofs.good_grammars_have_facts.Goals as goal

pub returns : goal.returns
returns g c i a z = facts_of g.X.Spelled.base g.X.Spelled.table g.X.Spelled.all i a g.X.Spelled.grammar z
