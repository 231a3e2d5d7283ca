use Rattle.lv_grammars.proofs.Rounds.{more, no_more, one_more, ending, none_within}
use Rattle.lv_grammars.proofs.repetitions_are_read_one_by_one.Goals as goal

pub returns-clause-further : goal.returns-clause-further
returns-clause-further g c i a z ts us vs xs x s w r = more (record { base = i; language = a; within = g.X.Spelled.limited }) z s w r

pub returns-clause-done : goal.returns-clause-done
returns-clause-done g c i a z ts us xs s f = no_more (record { base = i; language = a; within = g.X.Spelled.limited }) z s f

pub returns-clause-further_until : goal.returns-clause-further_until
returns-clause-further_until g c i a z ts us vs xs x s f r = one_more (record { base = i; language = a; within = g.X.Spelled.limited }) z s f r

pub returns-clause-ended : goal.returns-clause-ended
returns-clause-ended g c i a z ts us xs s f = (ending (record { base = i; language = a; within = g.X.Spelled.limited }) z s f).at

pub returns-clause-barred : goal.returns-clause-barred
returns-clause-barred g c i a z ts us o y f w n h =
    none_within (record { base = i; language = a; within = g.X.Spelled.limited }) z f w (λ vs x. n vs x.0 x.1 x.2) (us, (o, y, h))
