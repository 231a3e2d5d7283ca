use Rattle.lv_grammars.proofs.Pairs
use Rattle.lv_grammars.proofs.Straight.{start, is_high}
use Rattle.lv_grammars.specs.Grammar.{both}
use Rattle.lv_grammars.proofs.Good.{both_of}
use Rattle.lv_grammars.proofs.parts_are_read_in_turn.Goals as goal

pub returns-clause-behind : goal.returns-clause-behind
returns-clause-behind g c i a z ts us x p =
    Pairs.after g.X.Spelled.base g.X.Spelled.all g.X.Spelled.low g.X.Spelled.grammar g.X.Spelled.other (both_of (record { base = i; language = a; within = g.X.Spelled.limited }) z) ts us x p

pub returns-clause-fails : goal.returns-clause-fails
returns-clause-fails g c i a z ts rest p =
    Pairs.fails g.X.Spelled.base g.X.Spelled.all g.X.Spelled.low g.X.Spelled.grammar g.X.Spelled.other (both_of (record { base = i; language = a; within = g.X.Spelled.limited }) z) ts rest p

pub returns-clause-passes : goal.returns-clause-passes
returns-clause-passes g c i a z ts rest us o y h p =
    is_high (start {low = g.X.Spelled.low} (both g.X.Spelled.grammar g.X.Spelled.other) ts) (both_of (record { base = i; language = a; within = g.X.Spelled.limited }) z) (us, (o, y, h)) p
