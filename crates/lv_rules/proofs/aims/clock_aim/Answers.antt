use Rattle.lv_rules.specs.Rules.{is_clock_aim, aim_place}
use Rattle.lv_rules.proofs.Found.{found_first, found_later}
use Rattle.lv_rules.proofs.aims.clock_aim.Goals as goal

pub returns-in-Some : goal.returns-in-Some
returns-in-Some c = found_first is_clock_aim aim_place c.args.x.now c.as_slice.result.now c.in-Some.place c.as_slice.ensures c.in-Some.ensures

pub returns-in-None : goal.returns-in-None
returns-in-None c = found_later is_clock_aim aim_place c.args.x.now c.as_slice.result.now c.as_slice-in-None.result.now c.clock_in.result
    c.as_slice.ensures c.as_slice-in-None.ensures c.in-None.ensures c.clock_in.ensures
