use Rattle.std.proofs.Common.{length}
use Rattle.lv_io.proofs.Putting.{Put}
use Rattle.lv_io.proofs.sink.put_all.Given as goal

abbrev pub invariant-loop-rest : goal.invariant-loop-rest
invariant-loop-rest g l = Put (λ sink. (g.S.Sink.state sink).given) (λ sink. (g.S.Sink.state sink).faults) l.fn.sink l.sink l.piece l.rest

abbrev pub decreases-loop-rest : goal.decreases-loop-rest
decreases-loop-rest g l = length l.rest
