use Rattle.lv_flat.specs.Signals.{declared}
use Rattle.lv_lower_blocks.proofs.Putting.{rewritten-whole}
use Rattle.lv_lower_blocks.proofs.puts.rewritten.Goals as goal

pub returns-in-None : goal.returns-in-None
returns-in-None c = rewritten-whole c.args.b.now (declared c.args.signal.now) c.args.bits.now c.args.x c.args.old c.in-None.is c.requires.old_in c.requires.same c.requires.x_in c.requires.width
