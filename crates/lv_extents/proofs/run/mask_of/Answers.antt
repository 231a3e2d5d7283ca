use Rattle.std.proofs.Common.{◌+◌, arith}
use Rattle.lv_extents.proofs.Spans.{pow-up}
use Rattle.lv_extents.proofs.run.mask_of.Goals as goal

pub overflow_sub-result : goal.overflow_sub-result
overflow_sub-result c = let p = pow-up c.args.low (c.args.low + c.args.count) (omega arith) in omega (arith, p, c.ones.ensures, c.ones-2.ensures)
