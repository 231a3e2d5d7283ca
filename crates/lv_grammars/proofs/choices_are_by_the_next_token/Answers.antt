use Rattle.lv_grammars.specs.Grammar.{either, perhaps}
use Rattle.lv_grammars.proofs.Choices.{perhaps_at}
use Rattle.lv_grammars.proofs.Ways.{begin, to_left, to_right, to_none}
use Rattle.lv_grammars.proofs.choices_are_by_the_next_token.Goals as goal

pub returns-clause-left : goal.returns-clause-left
returns-clause-left g c i a z ts f =
    (to_left (record { base = i; language = a; within = g.X.Spelled.limited }) (begin g.X.Spelled.table g.X.Spelled.all g.X.Spelled.low (either g.X.Spelled.grammar g.X.Spelled.other) ts z) f).at

pub returns-clause-right : goal.returns-clause-right
returns-clause-right g c i a z ts f =
    (to_right (record { base = i; language = a; within = g.X.Spelled.limited }) (begin g.X.Spelled.table g.X.Spelled.all g.X.Spelled.low (either g.X.Spelled.grammar g.X.Spelled.other) ts z) f).at

pub returns-clause-given : goal.returns-clause-given
returns-clause-given g c ts w = perhaps_at g.X.Spelled.low w

pub returns-clause-left_out : goal.returns-clause-left_out
returns-clause-left_out g c i a z ts f =
    to_none (record { base = i; language = a; within = g.X.Spelled.limited }) (begin g.X.Spelled.table g.X.Spelled.all g.X.Spelled.low (perhaps g.X.Spelled.grammar) ts z) f
