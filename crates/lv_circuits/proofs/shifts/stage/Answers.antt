use Rattle.lv_circuits.proofs.Moves.{gives_stage}
use Rattle.lv_circuits.proofs.shifts.stage.Goals as goal

pub returns-clause-bits : goal.returns-clause-bits
returns-clause-bits c =
    gives_stage c.args.and.now c.choose.new.and c.args.way c.args.fill c.args.c c.args.a.now c.in_ok-far.far c.as_slice.result.now c.in_ok-es.es c.args.far c.in_ok-far.ensures c.as_slice.ensures c.in_ok-es.ensures.bits
