use Rattle.std.proofs.Common.{◌<◌, length, arith}
use Rattle.std.proofs.lemmas.Grind.{common_steps}
use Rattle.lv_io.proofs.Putting.{goes_on}
use Rattle.lv_io.proofs.sink.put_all.Goals as goal

pub loop-rest-preserved : goal.loop-rest-preserved
loop-rest-preserved g c =
    let some_left : 0 < length c.loop-rest.rest.now = grind (arith, common_steps) in
    goes_on _ _ _ _ _ _ c.loop-rest.rest.now c.in_ok-count.count c.loop-rest.invariant some_left
    c.in_ok-count.ensures.takes c.in_ok-count.ensures.faults_stay
