use Rattle.lv_bindings.specs.Order.{outside}
use Rattle.lv_declared.specs.Listing.{all_declared}
use Rattle.lv_opening.proofs.Openings.{read-wrong}
use Rattle.lv_opening.proofs.opening.read.Goals as goal

pub returns-in-Ok-Some : goal.returns-in-Ok-Some
returns-in-Ok-Some c = read-wrong (outside c.args.around.now) c.args.base.now c.args.consts.now (all_declared c.args.declarations.now) c.args.symbols.now
    c.args.ports.now c.args.first c.in-Ok-Some.field-0 c.in-Ok-Some.fault c.in-Ok-Some.field-0-is c.in-Ok-Some.ensures
