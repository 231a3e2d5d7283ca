use Rattle.lv_clauses.specs.Values.{values_of}
use Rattle.lv_stands.proofs.Standing.{unmet}
use Rattle.lv_stands.proofs.sets_decide_queries.Goals as goal

pub returns : goal.returns
returns c = record { refuted = unmet; model = λ set net o b s q found stands is. stands.meets (values_of found) is.satisfies }
