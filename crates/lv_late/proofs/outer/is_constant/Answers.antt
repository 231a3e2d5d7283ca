use Rattle.std.proofs.Common.{ap, Some, None}
use Rattle.lv_const.proofs.Declared.{said}
use Rattle.lv_late.specs.Lates.{is_some}
use Rattle.lv_late.proofs.outer.is_constant.Goals as goal

pub returns-in-None : goal.returns-in-None
returns-in-None c = ap is_some (said c.args.consts.now c.args.path.now None (c.is_empty.ensures.0 c.if-not-is_empty.false) c.in-None.ensures)

pub returns-in-Some : goal.returns-in-Some
returns-in-Some c = ap is_some (said c.args.consts.now c.args.path.now (Some c.in-Some.field-0) (c.is_empty.ensures.0 c.if-not-is_empty.false) c.in-Some.ensures)
