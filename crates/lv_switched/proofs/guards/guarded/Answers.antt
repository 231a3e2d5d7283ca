use Rattle.lv_switched.proofs.Guarding.{guarded_gives}
use Rattle.lv_switched.proofs.guards.guarded.Goals as goal

pub returns : goal.returns
returns c =
    guarded_gives c.args.b.now c.holds.new.b c.negated.new.b c.either.new.b c.in_ok-one.one c.in_ok-off.off c.in_ok-at.at c.args.switch _
    c.requires.switch c.in_ok-one.ensures c.in_ok-off.ensures c.in_ok-at.ensures
