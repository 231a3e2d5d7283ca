use Rattle.std.proofs.Common.{◌<◌, length, Some, subst, arith}
use Rattle.lv_rules.specs.Rules.{IsFound, is_clock_aim, aim_place}
use Rattle.lv_rules.proofs.Found.{found_step, found_steps_none}
use Rattle.lv_rules.proofs.aims.clock_in.Goals as goal

pub returns-in-Some : goal.returns-in-Some
returns-in-Some c =
    let l : c.loop-s.s-index < length c.args.steps.now = omega arith in
    found_step is_clock_aim aim_place c.args.steps.now c.loop-s.s-index c.s-item.result c.in-Some.place l c.s-item.is
    (subst (λ as'. IsFound is_clock_aim aim_place as' (Some c.in-Some.place)) c.as_slice.ensures c.in-Some.ensures)

pub returns : goal.returns
returns c = found_steps_none is_clock_aim aim_place c.args.steps.now c.loop-s.s-index (omega arith) c.loop-s.invariant
