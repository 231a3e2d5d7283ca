use Rattle.std.proofs.Common.{refl}
use Rattle.std.proofs.lemmas.List.{take_rest}
use Rattle.lv_circuits.proofs.Moves.{gives_shift}
use Rattle.lv_circuits.proofs.shifts.shift.Goals as goal

pub returns-clause-bits : goal.returns-clause-bits
returns-clause-bits c =
    gives_shift c.args.and.now c.shift_near.new.and c.fold.new.and c.choose.new.and c.args.way c.args.fill c.in_ok-any.any c.args.a.now c.args.b.now _ _ c.in_ok-near.near c.as_slice-2.result.now c.in_ok-gone.gone c.as_slice.result.now c.in_ok-es.es c.stages-count.result
    refl (take_rest c.args.b.now c.stages-count.result) c.stages-count.ensures.within c.in_ok-gone.ensures c.as_slice.ensures c.as_slice-2.ensures c.stages-count.ensures.far c.in_ok-near.ensures.bits c.in_ok-any.ensures c.in_ok-es.ensures.bits
