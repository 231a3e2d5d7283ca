use Rattle.lv_product.proofs.Telling.{unless_gives}
use Rattle.lv_product.proofs.goals.unless.Goals as goal

pub returns : goal.returns
returns c =
    unless_gives c.args.b.now c.negated.new.b c.both.new.b c.args.x c.args.y c.in_ok-off.off c.in_ok-at.at
    c.requires.left c.in_ok-off.ensures c.in_ok-at.ensures
