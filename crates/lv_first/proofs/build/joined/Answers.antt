use Rattle.lv_first.proofs.Others.{not_bitwise}
use Rattle.lv_first.proofs.build.joined.Goals as goal

pub returns-in_default : goal.returns-in_default
returns-in_default c = not_bitwise c.args.op c.in_default.not-And c.in_default.not-Or c.in_default.not-Xor
