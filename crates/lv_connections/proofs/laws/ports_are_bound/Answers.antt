use Rattle.lv_connections.proofs.BoundLaws.{port-bound}
use Rattle.lv_connections.proofs.laws.ports_are_bound.Goals as goal

pub returns : goal.returns
returns c = λ S t outputs s settings inst m name h q once. port-bound S t outputs s settings inst m name h q once
