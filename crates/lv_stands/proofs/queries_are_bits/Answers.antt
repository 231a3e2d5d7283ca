use Rattle.lv_stands.specs.Stands.{query_words}
use Rattle.lv_stands.proofs.Spreading.{met_by_bits, meeting_met}
use Rattle.lv_stands.proofs.queries_are_bits.Goals as goal

pub returns : goal.returns
returns c = record { values = met_by_bits; met = λ net o b s q v h. meeting_met net o b s q (query_words net b q v) h }
