use Rattle.lv_grammars.proofs.FactsOf.{facts_of}
use Rattle.lv_grammars.proofs.OneAnswer.{reads_one, reads_not_fails, reads_not_passes}
use Rattle.lv_grammars.proofs.one_answer.Goals as goal

pub returns-clause-same : goal.returns-clause-same
returns-clause-same g c i a z ts us vs x y p q =
    reads_one g.X.Spelled.base g.X.Spelled.all g.X.Spelled.low g.X.Spelled.limited g.X.Spelled.table g.X.Spelled.grammar
    (facts_of g.X.Spelled.base g.X.Spelled.table g.X.Spelled.all i a g.X.Spelled.grammar z) ts us vs x y p q

pub returns-clause-failure : goal.returns-clause-failure
returns-clause-failure g c ts us rest x p q = reads_not_fails g.X.Spelled.base g.X.Spelled.all g.X.Spelled.low g.X.Spelled.limited g.X.Spelled.grammar ts us rest x p q

pub returns-clause-passing : goal.returns-clause-passing
returns-clause-passing g c ts us rest x p q = reads_not_passes g.X.Spelled.base g.X.Spelled.all g.X.Spelled.low g.X.Spelled.limited g.X.Spelled.grammar ts us rest x p q.passes
