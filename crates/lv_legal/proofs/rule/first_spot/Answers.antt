use Rattle.std.proofs.Common.{sym, ◌∙◌}
use Rattle.lv_flat.specs.Signals.{declared_all}
use Rattle.lv_legal.specs.Legal.{told_parts}
use Rattle.lv_legal.proofs.Kept.{spot_parts}
use Rattle.lv_legal.proofs.rule.first_spot.Goals as goal

pub returns : goal.returns
returns c =
    spot_parts (declared_all c.args.signals.now) c.args.extents.now c.args.rule c.args.clock.now c.in_ok-spot.spot (sym c.lacks_clock.ensures ∙ c.if-lacks_clock.false)
    (c.in_ok-spot.ensures (declared_all c.args.signals.now) (told_parts c.args.rule (declared_all c.args.signals.now)) c.in_ok-told.ensures)
