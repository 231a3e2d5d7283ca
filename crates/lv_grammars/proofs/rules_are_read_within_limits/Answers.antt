use Rattle.lv_grammars.proofs.Tails
use Rattle.lv_grammars.proofs.Rules.{call_at, call_high}
use Rattle.lv_grammars.proofs.Good.{tail_of}
use Rattle.lv_grammars.proofs.rules_are_read_within_limits.Goals as goal

pub returns-clause-allowed : goal.returns-clause-allowed
returns-clause-allowed g c r ts a = call_at g.X.Spelled.limited r ts a

pub returns-clause-barred : goal.returns-clause-barred
returns-clause-barred g c r ts a w = call_high g.X.Spelled.limited r ts a w

pub returns-clause-tailed : goal.returns-clause-tailed
returns-clause-tailed g c i a r p z ts us vs m x q f =
    Tails.behind_next g.X.Spelled.base g.X.Spelled.all g.X.Spelled.low r p g.X.Spelled.other (tail_of (record { base = i; language = a; within = g.X.Spelled.limited }) z) ts us vs m x q f

pub returns-clause-without : goal.returns-clause-without
returns-clause-without g c i a r p z ts us x q f =
    Tails.without g.X.Spelled.base g.X.Spelled.all g.X.Spelled.low r p g.X.Spelled.other (tail_of (record { base = i; language = a; within = g.X.Spelled.limited }) z) ts us x q f
