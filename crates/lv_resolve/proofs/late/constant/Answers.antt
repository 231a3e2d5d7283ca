use Rattle.lv_const.proofs.Declared.{said}
use Rattle.lv_resolve.proofs.late.constant.Goals as goal

pub returns-then-is_empty : goal.returns-then-is_empty
returns-then-is_empty c = said c.args.consts.now c.args.path.now c.get.result (c.is_empty.ensures.0 c.if-is_empty.true) c.get.ensures
